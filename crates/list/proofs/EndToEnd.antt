-- The candidates that pass, written end to end: how long they are, and one more of them. Assumes nothing.
use mathlib.Core.Path.{◌≡◌, refl, sym, ap, ap₂, ◌∙◌}
use mathlib.Core.Bool.{Bool}
use mathlib.Core.List.{List, [], ◌∷◌, ◌++◌, map, append_assoc, append-nil}
use Prim.Native.Nat.{ℕ, suc, ◌+◌, ◌-◌, ◌*◌, ◌≤◌, ◌<◌}
use native.Mathlib.Nat.{zero-mul, mul-le-mul_right, suc-mul, add_comm}
use native.Mathlib.Omega.{arith}
use lib.ListN.{length, get_or, take, drop, length-append, length-drop}
use lib.Seq.{take_at, drop_at, drop-drop, take-suc}
use Rattle.std.proofs.lemmas.List.{map-append, length-take-le, take_all, take_rest, drop_all}
use native.Mathlib.Numerals.{add-one}
use borrow.Rule.Slice.PartMut.{put_mid}
use Rattle.model.specs.Answers.{over, end_to_end}
use Rattle.list.specs.Candidates.{digits, passing}
use Rattle.list.proofs.Numbered.{digits_length}
use Rattle.list.proofs.Filtered.{numbers, passing_numbers, passing_many}

end_append : (ms ks : List (List ℕ)) → end_to_end (ms ++ ks) ≡ end_to_end ms ++ end_to_end ks
unfolding end_to_end
end_append [] ks = refl
end_append (m ∷ ms) ks =
    ap (λ (l : List ℕ). m ++ l) (end_append ms ks) ∙ sym (append_assoc m (end_to_end ms) (end_to_end ks))

end_one : (m : List ℕ) → end_to_end (m ∷ []) ≡ m
unfolding end_to_end
end_one m = append-nil m

over_long : (w lent : List ℕ) → length w ≤ length lent → length (over w lent) ≡ length lent
unfolding over
over_long w lent h = length-append w (drop (length w) lent) ∙ rw (length-drop (length w) lent) (omega arith)

module _ (n base : ℕ) where
  -- n bytes for each
  digits_long : (l : List ℕ) → length (end_to_end (map (digits n base) l)) ≡ length l * n
  unfolding end_to_end
  digits_long [] = sym (zero-mul n)
  digits_long (c ∷ l) =
      length-append (digits n base c) (end_to_end (map (digits n base) l))
      ∙ ap₂ (λ (x y : ℕ). x + y) (digits_length n base c) (digits_long l)
      ∙ sym (suc-mul (length l) n ∙ add_comm (length l * n) n)

  module _ (test : ℕ → Bool) (lent : List ℕ) (total : ℕ) where
    abbrev passed : List ℕ
    passed = numbers test total

    -- the first i that pass, end to end
    abbrev so_far : ℕ → List ℕ
    so_far i = end_to_end (map (digits n base) (take i passed))

    -- the first i that pass are written
    pub record Wrote (space : List ℕ) (i : ℕ) : Type 0 where
      pub fits : length passed * n ≤ length lent
      pub most : i ≤ length passed
      pub is : space ≡ over (so_far i) lent

    long : (i : ℕ) → i ≤ length passed → length (so_far i) ≡ i * n
    long i h = digits_long (take i passed) ∙ ap (λ (k : ℕ). k * n) (length-take-le i passed h)

    far_none : so_far 0 ≡ []
    unfolding end_to_end
    far_none = refl

    far_more : (i c : ℕ) → i < length passed → c ≡ get_or passed i c → so_far (i + 1) ≡ so_far i ++ digits n base c
    far_more i c h is =
        ap (λ (l : List ℕ). end_to_end (map (digits n base) l)) (rw add-one (take-suc passed i c h))
        ∙ ap end_to_end (map-append (digits n base) (take i passed) (get_or passed i c ∷ []))
        ∙ end_append (map (digits n base) (take i passed)) (digits n base (get_or passed i c) ∷ [])
        ∙ ap (λ (l : List ℕ). so_far i ++ l) (end_one (digits n base (get_or passed i c)) ∙ sym (ap (digits n base) is))

    pub wrote_none : length (passing n base test total) * n ≤ length lent → Wrote lent 0
    unfolding over
    wrote_none fits = record { fits = rw (passing_many test n base total) at fits; most = omega arith; is = rw far_none }

    module _ {space : List ℕ} {i : ℕ} (w : Wrote space i) where
      pub room : i < length passed → i * n + n ≤ length lent
      room h =
          let m : suc i * n ≤ length passed * n = mul-le-mul_right n h in
          omega (arith, suc-mul i n, w.fits)

      pub wrote_long : length space ≡ length lent
      wrote_long =
          let m : i * n ≤ length passed * n = mul-le-mul_right n w.most in
          ap length w.is ∙ over_long (so_far i) lent (omega (arith, long i w.most, w.fits))

      pub wrote_all : i ≡ length passed → space ≡ over (end_to_end (passing n base test total)) lent
      wrote_all e =
          let all : take i passed ≡ passed = take_all i passed (omega arith) in
          w.is ∙ ap (λ (l : List ℕ). over (end_to_end (map (digits n base) l)) lent) all
          ∙ ap (λ (l : List (List ℕ)). over (end_to_end l) lent) (sym (passing_numbers test n base total))

      module _ (h : i < length passed) where
        far_long : length (so_far i) ≡ i * n
        far_long = long i w.most

        split : space ≡ so_far i ++ drop (i * n) lent
        unfolding over
        split = rw far_long at w.is

        kept_first : take (i * n) space ≡ so_far i
        kept_first = rw split (take_at (so_far i) (drop (i * n) lent) (i * n) far_long)

        kept_last : drop n (drop (i * n) space) ≡ drop (i * n + n) lent
        kept_last =
            ap (drop n) (rw split (drop_at (so_far i) (drop (i * n) lent) (i * n) far_long)) ∙ drop-drop n (i * n) lent

        -- the bytes from the place on are given to be written
        put_rest : (c : ℕ) {out : List ℕ}
            → out ≡ digits n base c ++ drop n (take (length space - i * n) (drop (i * n) space))
            → put_mid (i * n) (length space - i * n) space out
            ≡ take (i * n) space ++ (digits n base c ++ drop n (drop (i * n) space))
        put_rest c {out} e =
            let after : drop (length space - i * n) (drop (i * n) space) ≡ [] =
            drop_all (length space - i * n) (drop (i * n) space) (omega (arith, length-drop (i * n) space)) in
            ap (λ (l : List ℕ). take (i * n) space ++ (out ++ l)) after
            ∙ ap (λ (l : List ℕ). take (i * n) space ++ l)
            (append-nil out ∙ e ∙ ap (λ (l : List ℕ). digits n base c ++ drop n l) (take_rest space (i * n)))

        pub wrote_more : {c : ℕ} {out : List ℕ} → c ≡ get_or passed i c
            → out ≡ digits n base c ++ drop n (take (length space - i * n) (drop (i * n) space))
            → Wrote (put_mid (i * n) (length space - i * n) space out) (i + 1)
        unfolding over
        wrote_more {c} is put =
            let e : length (so_far (i + 1)) ≡ i * n + n = long (i + 1) (omega arith) ∙ rw add-one (suc-mul i n) in
            record {
              fits = w.fits;
              most = omega arith;
              is = put_rest c put ∙ rw (e, far_more i c h is, kept_first, kept_last)
                  (sym (append_assoc (so_far i) (digits n base c) (drop (i * n + n) lent)));
            }
