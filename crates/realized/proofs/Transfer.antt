-- The terms reached from the set of sent terms and the set of withheld atoms are the derivable ones. Assumes nothing.
use mathlib.Core.Path.{◌≡◌}
use mathlib.Core.Bool.{true}
use mathlib.Core.Logic.{inl, inr, ⊎_elim}
use mathlib.Core.List.{List, map, Memᴰ}
use Prim.Native.Nat.{ℕ, ◌<◌}
use lib.ListN.{length}
use Rattle.terms.specs.declared.TermSet.{TermSet}
use Rattle.terms.specs.Set.{mem}
use Rattle.model.specs.Term.{Atom, Term, atom}
use Rattle.model.specs.Table.{Row, term}
use Rattle.model.specs.Skeleton.{send, message, on_message, Node, Skeleton, At, means}
use Rattle.model.specs.Events.{Origin}
use Rattle.model.specs.Derive.{SentBefore, Originating, Withheld, DerivableBefore}
use Rattle.model.specs.Sheet.{meant}
use Rattle.model.proofs.SkeletonLaws.{derivable_mono}
use Rattle.theory.specs.Happenings.{at_means, at_meant, before_means, before_meant}
use Rattle.theory.specs.OnTable.{OnTable}
use Rattle.theory.specs.Happenings.{send_means}
use Rattle.stranger.specs.Reaches.{Named, Reaches}
use Rattle.realized.specs.Before.{IsSent, IsWithheld, IsReached}

module _ (rows : List Row) (K : Skeleton ℕ) (ok : OnTable rows K) where
  abbrev L : Skeleton Term
  L = means (term rows) K

  module _ (n : Node) (s : TermSet) (is_sent : IsSent K n s) where
    sent_there : (t : Term) → Named rows s t → SentBefore L n t
    unfolding on_message
    sent_there t x =
        let (m, a, b) = (is_sent.at x.which).0 x.member in
        record { sender = m; at = rw (← x.means) (at_means (term rows) K a); before = before_means (term rows) K b }

    sent_back : (t : Term) → SentBefore L n t → Named rows s t
    unfolding message
    sent_back t x =
        let (e, a, q) = at_meant (term rows) K x.at in
        let (u, z, y) = send_means (term rows) e q in
        let b : At K x.sender (send u) = rw z at a in
        record {
          which = u;
          inside = ok.messages _ _ b;
          member = (is_sent.at u).1 (x.sender, b, before_meant (term rows) K x.before);
          means = y;
        }

  module _ (w : TermSet) (is_withheld : IsWithheld K w)
      (originates : (t : Term) → Memᴰ t L.uniq → (n : Node) × Origin L t n) where
    in_list : (l : List ℕ) (i : ℕ) {t : Term} → term rows i ≡ t → Memᴰ i l → Memᴰ t (map (term rows) l)
    in_list l i e m = rw (← e) (mathlib.Core.List.Memᴰ.map (term rows) m)

    held_there : (a : Atom) → Named rows w (atom a) → Withheld L a
    unfolding Withheld means
    held_there a x =
        ⊎_elim (λ m. inl (in_list K.non x.which x.means m)) (λ m. inr (go m)) ((is_withheld.at x.which).0 x.member)
      where
        go : Memᴰ x.which K.uniq → Originating L (atom a)
        go m =
            let l : Memᴰ (atom a) L.uniq = in_list K.uniq x.which x.means m in
            let (n, o) = originates (atom a) l in
            record { listed = l; node = n; origin = o }

    named : (l : List ℕ) (t : Term) → ((i : ℕ) → Memᴰ i l → i < length rows) → ((i : ℕ) → Memᴰ i l → mem w i ≡ true)
        → Memᴰ t (map (term rows) l)
        → Named rows w t
    named l t inside held m =
        let (i, d, e) = mathlib.Core.List.Memᴰ.of_map (term rows) l m in
        record { which = i; inside = inside i d; member = held i d; means = e }

    held_back : (a : Atom) → Withheld L a → Named rows w (atom a)
    unfolding Withheld means
    held_back a (inl m) = named K.non (atom a) ok.nons (λ i d. (is_withheld.at i).1 (inl d)) m
    held_back a (inr o) = named K.uniq (atom a) ok.uniqs (λ i d. (is_withheld.at i).1 (inr d)) o.listed

    module _ (n : Node) (s r : TermSet) (is_sent : IsSent K n s) (reaches : Reaches rows s w r) where
      pub reached_before : IsReached (record { rows = rows; skeleton = K }) n r
      unfolding DerivableBefore meant
      reached_before =
          record {
            at = λ i. (
              λ h. let (l, d) = (reaches.at i).0 h in (
                l,
                derivable_mono (Named rows s) (SentBefore L n) (λ a. Named rows w (atom a)) (Withheld L)
                    (sent_there n s is_sent) held_back d,
              ),
              λ (l, d). (reaches.at i).1 (
                l,
                derivable_mono (SentBefore L n) (Named rows s) (Withheld L) (λ a. Named rows w (atom a))
                    (sent_back n s is_sent) held_there d,
              ),
            );
          }
