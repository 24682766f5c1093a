-- The digits of a candidate, written one by one. Assumes nothing.
use mathlib.Core.Path.{◌≡◌, refl, sym, ap, ◌∙◌}
use mathlib.Core.List.{List, ◌++◌}
use Prim.Native.Nat.{ℕ, suc, ◌+◌, ◌*◌, ◌/◌, ◌%◌, ◌^◌, ◌-◌, ◌≤◌, ◌<◌}
use native.Mathlib.Nat.{pow-suc, one-le-pow, mul-div_cancel, div-lt_iff_lt-mul, mul_comm, mod-lt, zero-add}
use native.Mathlib.Omega.{arith}
use lib.ListN.{length, set, drop, length-set}
use lib.Seq.{sets, sets-eq}
use Rattle.list.specs.Candidates.{digits}
use Rattle.list.proofs.Numbered.{digits_length}

none_left : (l : List ℕ) (p base r k : ℕ) → k ≡ 0 → sets l p (digits k base r) ≡ l
unfolding digits
none_left l p base r k e = rw e

one_less : (l : List ℕ) (p base r k m : ℕ) → k ≡ suc m
    → sets l p (digits k base r) ≡ sets (set l p (r / base ^ m)) (suc p) (digits m base (r % base ^ m))
unfolding digits
one_less l p base r k m e = rw e

module _ (old : List ℕ) (n base c : ℕ) where
  -- i digits are written: those of what is left end as all do
  pub record Left (out : List ℕ) (weight rest i : ℕ) : Type 0 where
    pub most : i ≤ n
    pub weighs : weight ≡ base ^ (n - i)
    pub under : rest < base ^ (n - i)
    pub same : length out ≡ length old
    pub ends : sets out i (digits (n - i) base rest) ≡ sets old 0 (digits n base c)

  pub left_none : (weight : ℕ) → weight ≡ base ^ n → c < base ^ n → Left old weight c 0
  left_none weight is h =
      let z : n - 0 ≡ n = omega arith in
      record { most = omega arith; weighs = rw z is; under = rw z h; same = refl; ends = rw z }

  module _ {out : List ℕ} {weight rest i : ℕ} (L : Left out weight rest i) where
    pub left_all : i ≡ n → n ≤ length old → out ≡ digits n base c ++ drop n old
    left_all all room =
        let long : length (digits n base c) ≡ n = digits_length n base c in
        sym (none_left out i base rest (n - i) (omega arith)) ∙ L.ends
        ∙ sets-eq (digits n base c) old 0 (rw long (omega arith))
        ∙ rw (long, zero-add)

    module _ (some : 0 < base) (h : i < n) where
      left_by_one : n - i ≡ suc (n - (i + 1))
      left_by_one = omega arith

      -- the weight before, of the digit that is written now
      weighed : weight ≡ base ^ (n - (i + 1)) * base
      weighed = L.weighs ∙ rw left_by_one (pow-suc base (n - (i + 1)))

      next_weight : weight / base ≡ base ^ (n - (i + 1))
      next_weight = rw weighed (mul-div_cancel (base ^ (n - (i + 1))) some)

      pub weight_some : 0 < weight / base
      weight_some = rw next_weight (one-le-pow (n - (i + 1)) base some)

      pub digit_low : rest / (weight / base) < base
      digit_low =
          let u : rest < base ^ (n - (i + 1)) * base = rw (← weighed, L.weighs) L.under in
          rw next_weight ((div-lt_iff_lt-mul (rw next_weight at weight_some)).1 (rw (mul_comm base) u))

      pub left_more : Left (set out i (rest / (weight / base))) (weight / base) (rest % (weight / base)) (i + 1)
      left_more =
          record {
            most = omega arith;
            weighs = next_weight;
            under = rw next_weight (mod-lt rest (rw next_weight at weight_some));
            same = length-set out _ _ ∙ L.same;
            ends = let e : i + 1 ≡ suc i = omega arith in
                rw next_weight (ap (λ (j : ℕ). sets (set out i (rest / base ^ (n - (i + 1)))) j (digits (n - (i + 1)) base (rest % base ^ (n - (i + 1))))) e
                ∙ sym (one_less out i base rest (n - i) (n - (i + 1)) left_by_one) ∙ L.ends);
          }
