-- Arguments of a row occur in its term, and what goes down to arguments goes down to all that occurs.
use mathlib.Core.Path.{◌≡◌, refl, ap}
use mathlib.Core.List.{List, [], ◌∷◌, map, Memᴰ}
use Prim.Native.Nat.{ℕ, ◌<◌}
use native.Mathlib.Omega.{arith}
use lib.ListN.{length}
use Rattle.model.specs.Carry.{Occurs}
use Rattle.model.specs.Table.{Row, Tag, Mesg, Text, Datum, Name, Skey, Akey, Pubk, Inv, Ltk, Pair, Enc, Hash, row, term}
use Rattle.theory.specs.Each.{Each, each_nil, each_cons}
use Rattle.theory.specs.GoodTable.{Good}
use Rattle.theory.specs.Rules.{Rule, ◌⊢◌, Reached, by, InRange}
use Rattle.theory.proofs.Rules.{reach_iff}
use Rattle.theory.specs.RowRules.{of_row, each_row}
use Rattle.theory.proofs.Occurring.{to_each, part_rules, occur_rules, occurs_iff}
use Rattle.theory.proofs.Occurring as occurring
use Rattle.theory.specs.Matching.{parts}

-- the terms that are wished for are the arguments
wished : (rows : List Row) (r : Row) (u : ℕ) → map (λ w. w.0) (parts rows r u) ≡ occurring.parts r
unfolding parts occurring.parts
wished rows (Tag n) u = refl
wished rows (Mesg n) u = refl
wished rows (Text n) u = refl
wished rows (Datum n) u = refl
wished rows (Name n) u = refl
wished rows (Skey n) u = refl
wished rows (Akey n) u = refl
wished rows (Pubk a) u = refl
wished rows (Inv a) u = refl
wished rows (Ltk a b) u = refl
wished rows (Pair a b) u = refl
wished rows (Enc a b) u = refl
wished rows (Hash a) u = refl

each_rule : (P : Rule → Type 0) (i : ℕ) (l : List ℕ) → Each (λ a. P (◌⊢◌ (a ∷ []) i)) l → Each P (to_each i l)
unfolding to_each
each_rule P i [] f = each_nil P
each_rule P i (a ∷ l) f = each_cons P (f a (mathlib.Core.List.Memᴰ.head refl)) (each_rule P i l (λ b m. f b (mathlib.Core.List.Memᴰ.tail m)))

in_rules : (i a : ℕ) (l : List ℕ) → Memᴰ a l → Memᴰ (◌⊢◌ (a ∷ []) i) (to_each i l)
unfolding to_each
in_rules i a (b ∷ l) (mathlib.Core.List.Memᴰ.head e) = mathlib.Core.List.Memᴰ.head (ap (λ c. ◌⊢◌ (c ∷ []) i) e)
in_rules i a (b ∷ l) (mathlib.Core.List.Memᴰ.tail m) = mathlib.Core.List.Memᴰ.tail (in_rules i a l m)
in_rules i a [] x' = elim x' [ ]

module _ (rows : List Row) (good : Good rows) where
  module _ (i : ℕ) (h : i < length rows) where
    range : InRange (length rows) (occur_rules rows i)
    unfolding InRange occur_rules part_rules
    range =
        each_cons _ h
        (each_row part_rules _ rows 0 λ j p e k.
        each_rule _ p (occurring.parts (row rows j)) λ a m. let l : p < length rows = omega arith in l)

    occurs_reached : (j : ℕ) → j < length rows → Occurs (term rows i) (term rows j) → Reached (occur_rules rows i) j
    occurs_reached j k o = (reach_iff (length rows) (occur_rules rows i) range j).0 ((occurs_iff rows good i h j k).1 o)

    reached_occurs : (j : ℕ) → j < length rows → Reached (occur_rules rows i) j → Occurs (term rows i) (term rows j)
    reached_occurs j k r = (occurs_iff rows good i h j k).0 ((reach_iff (length rows) (occur_rules rows i) range j).1 r)

  pub part_occurs : (p u : ℕ) → p < length rows
      → Each (λ w. w.0 < length rows → Occurs (term rows w.0) (term rows p)) (parts rows (row rows p) u)
  unfolding occur_rules part_rules
  part_occurs p u h w m k =
      let a = w.0 in
      let q : Memᴰ a (occurring.parts (row rows p)) = rw (wished rows (row rows p) u) at (mathlib.Core.List.Memᴰ.map (λ w. w.0) m) in
      let rule = of_row part_rules rows 0 p p (omega arith) h (in_rules p a (occurring.parts (row rows p)) q) in
      reached_occurs a k p h
      (by {r = ◌⊢◌ (a ∷ []) p} (mathlib.Core.List.Memᴰ.tail rule)
      (each_cons _ (by {r = ◌⊢◌ [] a} (mathlib.Core.List.Memᴰ.head refl) (each_nil _)) (each_nil _)))

  -- what holds of a term and goes down to arguments holds of what occurs in it
  module _ (Q : ℕ → Type 0) (to : ℕ → ℕ)
      (down : (p : ℕ) → p < length rows → Q p → Each (λ w. Q w.0) (parts rows (row rows p) (to p))) where
    args : (p : ℕ) → p < length rows → Q p → Each Q (occurring.parts (row rows p))
    args p h q a m =
        let (w, k, e) = mathlib.Core.List.Memᴰ.of_map (λ w. w.0) (parts rows (row rows p) (to p)) (rw (← wished rows (row rows p) (to p)) at m) in
        rw e at (down p h q w k)

    module _ (i : ℕ) (h : i < length rows) where
      Leads : Rule → Type 0
      Leads r = Each (λ j. Q j → Q i) r.needs → Q r.gives → Q i

      all_lead : Each Leads (occur_rules rows i)
      unfolding occur_rules part_rules Leads
      all_lead =
          each_cons Leads (λ f q. q)
          (each_row part_rules Leads rows 0 λ j p e k.
          each_rule Leads p (occurring.parts (row rows j)) λ a m f q.
          let z : j ≡ p = omega arith in
          f a (mathlib.Core.List.Memᴰ.head refl) (args p (omega arith) q a (rw z at m)))

      leads : {j : ℕ} → Reached (occur_rules rows i) j → Q j → Q i
      unfolding Leads
      leads (by {r = r} m f) = all_lead r m (λ j k. leads (f j k))

      pub goes_down : (j : ℕ) → j < length rows → Occurs (term rows i) (term rows j) → Q j → Q i
      goes_down j k o = leads (occurs_reached i h j k o)
