-- How steps add up: a step after a step is a step.
use mathlib.Core.Path.{◌≡◌, refl, sym, ◌∙◌}
use mathlib.Core.Bool.{Bool, true, false, ◌||◌, or-true}
use mathlib.Core.List.Memᴰ
use mathlib.Core.List.{List, [], ◌∷◌, ◌++◌, map, Memᴰ}
use mathlib.Core.Logic.{◌↔◌, ◌⊎◌, inl, inr, ⊎_elim, ⊎_map}
use Prim.Native.Nat.{ℕ, ◌+◌, ◌≤◌, ◌<◌}
use native.Mathlib.Omega.{arith}
use lib.Dec.{eqb}
use borrow.Author.Tests.{eq-eqb, eqb-true, eqb-false}
use Rattle.std.specs.List.{list_all}
use Rattle.terms.specs.declared.Term.{Term}
use Rattle.terms.specs.Set.{member, Added}
use Rattle.theory.specs.Each.{each_cons}
use Rattle.theory.specs.Rules.{Rule, Reached, by}
use Rattle.theory.specs.Tests.{both_true}
use Rattle.stranger.specs.Steps.{number, Has, Ready, Grown, Step, Listed, Between}

pub grown_none : (P : Rule → Type 0) (s : List ℕ) → Grown P s s
grown_none P s = record { grows = λ k h. h; only = λ all sub start. start }

module _ {P Q R : Rule → Type 0} {s r t : List ℕ} where
  pub grown_then : ((q : Rule) → P q → R q) → ((q : Rule) → Q q → R q) → Grown P s r → Grown Q r t → Grown R s t
  grown_then left right a b =
      record {
        grows = λ k h. b.grows k (a.grows k h);
        only = λ all sub start. b.only all (λ q h. sub q (right q h)) (a.only all (λ q h. sub q (left q h)) start);
      }

  pub step_then : ((q : Rule) → P q → R q) → ((q : Rule) → Q q → R q) → ((q : Rule) → R q → P q ⊎ Q q) → Step P s r → Step Q r t
      → Step R s t
  step_then left right cases a b =
      record {
        grown = grown_then left right a.grown b.grown;
        closes = λ q h ready.
            ⊎_elim (λ p. b.grown.grows q.gives (a.closes q p ready))
            (λ p. b.closes q p (λ i m. a.grown.grows i (ready i m))) (cases q h);
      }

pub step_none : {P : Rule → Type 0} (s : List ℕ) → ((q : Rule) → ¬ P q) → Step P s s
step_none {P} s none = record { grown = grown_none P s; closes = λ q h. absurd (none q h) }

-- The rules of a list

pub no_rule : (q : Rule) → ¬ Listed [] q
no_rule q h = Memᴰ.not-nil h.in_list

pub step_append : {l m : List Rule} {s r t : List ℕ} → Step (Listed l) s r → Step (Listed m) r t → Step (Listed (l ++ m)) s t
step_append {l} {m} =
    step_then
    (λ q h. record { in_list = Memᴰ.append_left m h.in_list })
    (λ q h. record { in_list = Memᴰ.append_right l h.in_list })
    (λ q h. ⊎_map (λ a. record { in_list = a }) (λ a. record { in_list = a }) (Memᴰ.append_cases l h.in_list))

pub or_cases : (a b : Bool) → (a || b) ≡ true → (a ≡ true) ⊎ (b ≡ true)
or_cases true b e = inl refl
or_cases false b e = inr e

-- a rule is followed, if it applies
module _ (q : Rule) {s r : List ℕ} {so : Bool} (added : Added q.gives so s r) where
  pub put : (so ≡ true → Ready s q) → (Ready s q → so ≡ true) → Step (Listed (q ∷ [])) s r
  put applies is_so =
      record {
        grown = record {
          grows = λ k h. rw (added.at k, h);
          only = λ all sub start k h.
              ⊎_elim (start k) (λ e. made all sub start k (both_true _ _ e)) (or_cases _ _ (sym (added.at k) ∙ h));
        };
        closes = λ p h ready.
            let z : p ≡ q = Memᴰ.eq_of_singleton h.in_list in
            rw (z, added.at q.gives, is_so (rw z at ready), eq-eqb q.gives q.gives refl)
            (or-true (member s q.gives));
      }
    where
      made : (all : List Rule) → ((p : Rule) → Listed (q ∷ []) p → Memᴰ p all) → ((k : ℕ) → Has s k → Reached all k)
          → (k : ℕ) → (so ≡ true) × (eqb k q.gives ≡ true) → Reached all k
      made all sub start k e =
          rw (eqb-true k q.gives e.1)
          (by (sub q (record { in_list = Memᴰ.head refl })) (λ i m. start i (applies e.0 i m)))

-- what a rule needs, as terms: they are all there, or not
pub all_ready : (s : List ℕ) (needs : List Term)
    → (list_all (λ x. member s (number x)) needs ≡ true) ↔ ((i : ℕ) → Memᴰ i (map number needs) → Has s i)
all_ready s [] = (λ e i m. absurd (Memᴰ.not-nil m), λ f. refl)
all_ready s (x ∷ xs) = (
  λ e. let (here, rest) = both_true (member s (number x)) _ e in each_cons (Has s) here ((all_ready s xs).0 rest),
  λ f. rw (f (number x) (Memᴰ.head refl), (all_ready s xs).1 (λ i m. f i (Memᴰ.tail m))),
)

-- The rules of one number more, above or below

module _ {f : ℕ → List Rule} where
  wider : {a b c d : ℕ} → c ≤ a → b ≤ d → (q : Rule) → Between f a b q → Between f c d q
  wider h k q x = record { of = x.of; from = omega arith; to = omega arith; in_list = x.in_list }

  one : {i a b : ℕ} → a ≤ i → i < b → (q : Rule) → Listed (f i) q → Between f a b q
  one {i} h k q x = record { of = i; from = h; to = k; in_list = x.in_list }

  pub none_between : {n : ℕ} (q : Rule) → ¬ Between f n n q
  none_between q x = omega (arith, x.from, x.to)

  pub step_up : {i n : ℕ} {s r t : List ℕ} → n ≤ i → Step (Between f n i) s r → Step (Listed (f i)) r t
      → Step (Between f n (i + 1)) s t
  step_up {i} {n} h = step_then (wider (omega arith) (omega arith)) (one h (omega arith)) (λ q x. go q x (eqb x.of i) refl)
    where
      go : (q : Rule) (x : Between f n (i + 1) q) (b : Bool) → eqb x.of i ≡ b → Between f n i q ⊎ Listed (f i) q
      go q x true e = inr (record { in_list = rw (eqb-true x.of i e) at x.in_list })
      go q x false e =
          inl (record { of = x.of; from = x.from; to = omega (arith, x.to, eqb-false x.of i e); in_list = x.in_list })

  pub step_down : {i j n : ℕ} {s r t : List ℕ} → i ≡ j + 1 → j < n → Step (Between f i n) s r → Step (Listed (f j)) r t
      → Step (Between f j n) s t
  step_down {i} {j} {n} z h =
      step_then (wider (omega arith) (omega arith)) (one (omega arith) h) (λ q x. go q x (eqb x.of j) refl)
    where
      go : (q : Rule) (x : Between f j n q) (b : Bool) → eqb x.of j ≡ b → Between f i n q ⊎ Listed (f j) q
      go q x true e = inr (record { in_list = rw (eqb-true x.of j e) at x.in_list })
      go q x false e =
          inl (record { of = x.of; from = omega (arith, x.from, eqb-false x.of j e); to = x.to; in_list = x.in_list })
