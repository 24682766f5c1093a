-- The lines of maps that lie end to end, one after the other. Assumes nothing.
use mathlib.Core.Path.{◌≡◌, refl, ◌∙◌}
use mathlib.Core.List.{List, [], ◌∷◌, ◌++◌, append_assoc, append-nil, Memᴰ}
use Prim.Native.Nat.{ℕ, zero, suc, ◌+◌, ◌-◌, ◌*◌, ◌≤◌, ◌<◌}
use native.Mathlib.Nat.{add_comm, zero-mul, suc-mul, mul-add, mul_assoc, mul_comm, mul-le-mul_right}
use native.Mathlib.Numerals.{add-one}
use native.Mathlib.Omega.{arith}
use lib.ListN.{length, take, drop, length-take, length-drop}
use lib.Seq.{take_at, drop_at, drop-drop}
use Rattle.model.specs.Answers.{end_to_end}
use Rattle.model.specs.Lines.{map_line}
use Rattle.lines.specs.Written.{Put, Line}
use Rattle.lines.proofs.Puts.{put_none, put_after}
use Rattle.model.specs.Report.{map_lines}
use Rattle.bench.specs.Steps.{lines_upto}

-- the next of so many pieces, m bytes each
pub piece : (k count m : ℕ) → k < count → k * m + m ≤ count * m
piece k count m h = rw suc-mul at (mul-le-mul_right m h)

-- what so many maps take at most, as text: four bytes for a number, and the end of a line
pub maps_room : (count n : ℕ) → count ≤ 46656 → count * n ≤ 49152 → count * (4 * n + 1) ≤ 243264
maps_room count n h l =
    let e : count * (4 * n) ≡ 4 * (count * n) = rw (mul_comm 4 n, mul_comm 4 (count * n)) (go count n) in
    rw (mul-add count (4 * n) 1, e) (omega arith)
  where
    go : (a b : ℕ) → a * (b * 4) ≡ a * b * 4
    go a b = rw mul_assoc

-- the line of a part of the space
pub part_line : (space : List ℕ) (from n : ℕ) → from + n ≤ length space → {l : List ℕ} {at : ℕ} {l₁ : List ℕ} {r : ℕ}
    → Line (4 * length (take (from + n - from) (drop from space)) + 1) l at
    (map_line (take (from + n - from) (drop from space))) l₁ r
    → Line (4 * n + 1) l at (map_line (take n (drop from space))) l₁ r
part_line space from n h p =
    let e : from + n - from ≡ n = omega arith in
    let f : length (take n (drop from space)) ≡ n = simp (length-take, length-drop) (omega arith) in
    rw f at (rw e at p)

-- the lines of the first k maps are written, from a place on
pub record MapsPut (space : List ℕ) (n k : ℕ) (before : List ℕ) (at : ℕ) (after : List ℕ) (next : ℕ) : Type 0 where
  pub put : Put before at (lines_upto k n space) after next
  pub short : next ≤ at + k * (4 * n + 1)

pub maps_none : {space : List ℕ} {n : ℕ} {l : List ℕ} {at : ℕ} → at ≤ length l → MapsPut space n 0 l at l at
unfolding lines_upto
maps_none h = record { put = put_none h; short = omega arith }

pub maps_more : {space : List ℕ} {n k : ℕ} {l : List ℕ} {at : ℕ} {l₁ : List ℕ} {next : ℕ} {l₂ : List ℕ} {r : ℕ}
    → MapsPut space n k l at l₁ next
    → Line (4 * n + 1) l₁ next (map_line (take n (drop (k * n) space))) l₂ r
    → MapsPut space n (k + 1) l at l₂ r
unfolding lines_upto
maps_more {n} {k} p q =
    rw (add-one k) (record { put = put_after p.put q.put; short = omega (arith, suc-mul k (4 * n + 1)) })

-- From the space to the maps

lines_first : (k n : ℕ) (l : List ℕ) → lines_upto (suc k) n l ≡ map_line (take n l) ++ lines_upto k n (drop n l)
unfolding lines_upto
lines_first zero n l = rw (zero-mul n, append-nil)
lines_first (suc k) n l =
    rw (lines_first k n l, suc-mul k n, add_comm (k * n) n, ← drop-drop (k * n) n l)
    (append_assoc (map_line (take n l)) (lines_upto k n (drop n l)) (map_line (take n (drop (k * n) (drop n l)))))

pub lines_all : (n : ℕ) (maps : List (List ℕ)) (rest : List ℕ) → ((m : List ℕ) → Memᴰ m maps → length m ≡ n)
    → lines_upto (length maps) n (end_to_end maps ++ rest) ≡ map_lines maps
unfolding lines_upto map_lines end_to_end
lines_all n [] rest h = refl
lines_all n (m ∷ maps) rest h =
    let e : length m ≡ n = h m (Memᴰ.head refl) in
    let l = end_to_end maps ++ rest in
    rw (append_assoc m (end_to_end maps) rest) (lines_first (length maps) n (m ++ l)
    ∙ rw (take_at m l n e, drop_at m l n e, lines_all n maps rest (λ k i. h k (Memᴰ.tail i))))
