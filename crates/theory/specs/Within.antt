-- Carried only within a set: no path passes it by.
use Rattle.std.specs.Prelude.{◌↔◌, ◌⊎◌}
use Rattle.std.proofs.Common.{inl}
use Rattle.std.proofs.Math.Logic.{inr, ⊎_elim}
use Rattle.model.specs.Term.{Term, pair, enc}
use Rattle.model.specs.Carry.{Carries, Passes, OnlyWithin}

neither : {A B : Type 0} → ¬ A → ¬ B → ¬ (A ⊎ B)
neither n m (inl a) = n a
neither n m (inr b) = m b

along : {A B L M : Type 0} → Dec A → (¬ A → L → M) → B ⊎ L → (A ⊎ B) ⊎ M
along (yes a) f x = inl (inl a)
along (no n) f (inl b) = inl (inr b)
along (no n) f (inr l) = inr (f n l)

module _ (S : Term → Type 0) where
  -- a path that passes no member: the set does not protect
  pub data Loose (t : Term) : Term → Type 0 where
    here : Loose t t
    left : {u v : Term} → ¬ S (pair u v) → Loose t u → Loose t (pair u v)
    right : {u v : Term} → ¬ S (pair u v) → Loose t v → Loose t (pair u v)
    body : {u k : Term} → ¬ S (enc u k) → Loose t u → Loose t (enc u k)

  loose_path : {t u : Term} → Loose t u → (p : Carries t u) × ¬ Passes S p
  unfolding Passes
  loose_path Loose.here = (Carries.here, λ h. h)
  loose_path (Loose.left n l) = let (p, q) = loose_path l in (Carries.left p, neither n q)
  loose_path (Loose.right n l) = let (p, q) = loose_path l in (Carries.right p, neither n q)
  loose_path (Loose.body n l) = let (p, q) = loose_path l in (Carries.body p, neither n q)

  module _ (dec : (t : Term) → Dec (S t)) where
    loose_or_passes : {t u : Term} (p : Carries t u) → Passes S p ⊎ Loose t u
    unfolding Passes
    loose_or_passes Carries.here = inr Loose.here
    loose_or_passes (Carries.left p) = along (dec _) Loose.left (loose_or_passes p)
    loose_or_passes (Carries.right p) = along (dec _) Loose.right (loose_or_passes p)
    loose_or_passes (Carries.body p) = along (dec _) Loose.body (loose_or_passes p)

    pub within_iff_not_loose : (t u : Term) → OnlyWithin S t u ↔ (¬ Loose t u)
    unfolding OnlyWithin
    within_iff_not_loose t u =
        (λ h l. let (p, q) = loose_path l in q (h p), λ n p. ⊎_elim (λ h. h) (λ l. absurd (n l)) (loose_or_passes p))
