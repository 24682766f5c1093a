-- A map's line, number by number: what is left to write after some of its numbers.
use mathlib.Core.Path.{◌≡◌, refl}
use mathlib.Core.List.{List, [], ◌∷◌, ◌++◌, append_assoc}
use Prim.Native.Nat.{ℕ, ◌+◌, ◌≤◌, ◌<◌}
use native.Mathlib.Numerals.{add-one}
use native.Mathlib.Omega.{arith}
use lib.ListN.{length, drop, get_or, drop_of_length-le}
use lib.Seq.{drop-cons}
use Rattle.model.specs.Lines.{ascii, decimal, map_line}
use Rattle.lines.specs.Written.{Put, Counted}
use Rattle.lines.proofs.Puts.{put_length, put_after, then_number}

-- what comes after a number of the line
unfoldable later : List ℕ → List ℕ
later [] = 10 ∷ []
later (x ∷ l) = (32 ∷ []) ++ decimal x ++ later l

first_of : (x : ℕ) (l : List ℕ) → map_line (x ∷ l) ≡ decimal x ++ later l
unfolding ascii map_line later
first_of x [] = refl
first_of x (y ∷ l) = rw (first_of y l) (simp append_assoc)

pub no_numbers : (map : List ℕ) → length map ≡ 0 → map_line map ≡ 10 ∷ []
unfolding ascii map_line
no_numbers [] h = refl
no_numbers (x ∷ l) h = absurd (omega arith)

-- the first number of a map and i of the others are written, from a place on
pub record Begun (map rest : List ℕ) (i : ℕ) (l : List ℕ) (at : ℕ) (l₁ : List ℕ) (next : ℕ) : Type 0 where
  text : List ℕ
  put : Put l at text l₁ next
  left : text ++ later (drop i rest) ≡ map_line map

module _ {map rest l : List ℕ} {at : ℕ} {l₁ : List ℕ} {next : ℕ} where
  pub begun_first : {x most : ℕ} → map ≡ x ∷ rest → Counted most l at [] x l₁ next → Begun map rest 0 l at l₁ next
  begun_first {x} e p = record { text = decimal x; put = p.put; left = rw (e, first_of x rest) refl }

  pub begun_length : {i : ℕ} → Begun map rest i l at l₁ next → length l₁ ≡ length l
  begun_length b = put_length b.put

  module _ {i : ℕ} {l₂ : List ℕ} {r : ℕ} where
    pub begun_more : {most : ℕ} → Begun map rest i l at l₁ next → i < length rest
        → Counted most l₁ next (32 ∷ []) (get_or rest i 0) l₂ r
        → Begun map rest (i + 1) l at l₂ r
    unfolding later
    begun_more b h p = record {
      text = b.text ++ (32 ∷ []) ++ decimal (get_or rest i 0);
      put = then_number b.put p;
      left = rw (add-one i) (simp append_assoc (simp append_assoc at (rw (drop-cons rest i 0 h) at b.left)));
    }

    pub begun_all : Begun map rest i l at l₁ next → length rest ≤ i → Put l₁ next (10 ∷ []) l₂ r → Put l at (map_line map) l₂ r
    unfolding later
    begun_all b h p =
        let line : b.text ++ (10 ∷ []) ≡ map_line map = rw (drop_of_length-le rest h) at b.left in
        rw line at (put_after b.put p)
