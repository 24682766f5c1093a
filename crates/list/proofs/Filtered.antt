-- The candidates that pass, from the numbers that pass. Assumes nothing.
use mathlib.Core.Path.{◌≡◌, refl, sym, ap, ap₂, ◌∙◌}
use mathlib.Core.Bool.{Bool, true, false, cond}
use mathlib.Core.List.{List, [], ◌∷◌, ◌++◌, map}
use Prim.Native.Nat.{ℕ, zero, suc, ◌+◌, ◌<◌}
use lib.ListN.{length, get_or, length-map}
use native.Mathlib.Nat.{add-zero, zero-add}
use native.Mathlib.Omega.{arith}
use Rattle.std.proofs.lemmas.List.{map-append}
use Rattle.std.proofs.lemmas.List.Elements.{filter-append, All-filter, All-get_or, All-from_get_or}
use Rattle.std.proofs.lemmas.List.FromFn.{length-enumerate_from, get_or-enumerate_from, length-range_with_len, get_or-range_with_len}
use Rattle.std.specs.List.{All, filter, range_with_len, enumerate_from}
use denote.Param.Members.{Mut}
use denote.Ref.{Bor}
use Rattle.std.proofs.iter.Yields.{nat_range_steps}
use Rattle.std.proofs.lemmas.Iterator.{YieldsList, YieldsList-from_range}
use Rattle.std.proofs.lemmas.Iterator.Consumers.{YieldsList-at, YieldsList-from_filter, YieldsList-from_enumerate}
use Rattle.std.specs.Fn.{CalledAt}
use Rattle.std.specs.Iterator.Adapters.{filter_source, filter_callee, filter_steps, enumerate_source, enumerate_count, enumerate_steps}
use Rattle.std.specs.declared.ops.Range.{Range}
use Rattle.std.specs.declared.iter.Filter.{Filter}
use Rattle.std.specs.declared.iter.Enumerate.{Enumerate}
use Rattle.list.specs.Candidates.{digits, passing}

range_last : (a c : ℕ) → range_with_len a (suc c) ≡ range_with_len a c ++ (a + c) ∷ []
range_last a zero = simp add-zero
range_last a (suc c) =
    let e : (a + 1) + c ≡ a + suc c = omega arith in
    ap (λ (l : List ℕ). a ∷ l) (range_last (a + 1) c ∙ rw e)

module _ (test : ℕ → Bool) where
  -- the numbers below c that pass
  abbrev pub numbers : ℕ → List ℕ
  numbers c = filter test (range_with_len 0 c)

  -- the loop over the numbers below `total` that a closure keeps, counted
  pub passers : {F : Type 0} (g : Mut F (Bor ℕ × Unit {0}) Bool) (total : ℕ) {kept : Filter (Range ℕ) F}
      {counted loop : Enumerate (Filter (Range ℕ) F)} {f : F}
      → filter_source kept ≡ record { start = 0; end = total }
      → filter_callee kept ≡ f
      → ((x : ℕ) (b : Bool) (q : F) → CalledAt g f x b q → (q ≡ f) × (b ≡ test x))
      → enumerate_source counted ≡ kept
      → enumerate_count counted ≡ 0
      → loop ≡ counted
      → YieldsList {B = ℕ × ℕ} (enumerate_steps (filter_steps nat_range_steps g)) (λ p. (p.0, p.1)) loop (enumerate_from 0 (numbers total))
  passers g total range callee calls source none same =
      YieldsList-at same
      (YieldsList-from_enumerate (YieldsList-at source
      (YieldsList-from_filter g test (YieldsList-from_range 0 total total range (omega arith)) callee calls)) none)

  -- the one at the place i of those below `total` that pass, and its place as it is counted
  pub record Turn (total i place c : ℕ) : Type 0 where
    pub inside : i < length (numbers total)
    pub counted : place ≡ i
    pub is : c ≡ get_or (numbers total) i c
    pub below : c < total

  pub turn : (total i place c : ℕ)
      → (i < length (enumerate_from 0 (numbers total))) × ((place, c) ≡ get_or (enumerate_from 0 (numbers total)) i (place, c))
      → Turn total i place c
  turn total i place c (l, e) =
      let h : i < length (numbers total) = omega (arith, length-enumerate_from 0 (numbers total), l) in
      let both = e ∙ get_or-enumerate_from 0 (numbers total) i (place, c) h in
      let is : c ≡ get_or (numbers total) i c = ap (λ (p : ℕ × ℕ). p.1) both in
      let range : All (λ x. x < total) (range_with_len 0 total) =
      All-from_get_or (λ x. x < total) (range_with_len 0 total) 0 (λ j k.
      omega (arith, get_or-range_with_len 0 total j 0, length-range_with_len 0 total, k)) in
      let low : get_or (numbers total) i c < total =
      All-get_or (λ x. x < total) (numbers total) i c h (All-filter test (λ x. x < total) (range_with_len 0 total) range) in
      record { inside = h; counted = ap (λ (p : ℕ × ℕ). p.0) both ∙ zero-add i; is = is; below = rw is low }

  last : (c : ℕ) → numbers (suc c) ≡ numbers c ++ cond (test c) (c ∷ []) []
  last c = ap (filter test) (range_last 0 c) ∙ filter-append test (range_with_len 0 c) ((0 + c) ∷ []) ∙ rw zero-add

  module _ (n base : ℕ) where
    one : (b : Bool) (c : ℕ) → cond b (digits n base c ∷ []) [] ≡ map (digits n base) (cond b (c ∷ []) [])
    one true c = refl
    one false c = refl

    pub passing_numbers : (c : ℕ) → passing n base test c ≡ map (digits n base) (numbers c)
    unfolding passing
    passing_numbers zero = refl
    passing_numbers (suc c) =
        ap₂ (λ (k l : List (List ℕ)). k ++ l) (passing_numbers c) (one (test c) c)
        ∙ sym (ap (map (digits n base)) (last c) ∙ map-append (digits n base) (numbers c) (cond (test c) (c ∷ []) []))

    pub passing_many : (c : ℕ) → length (passing n base test c) ≡ length (numbers c)
    passing_many c = ap length (passing_numbers c) ∙ length-map (numbers c) _
