-- Text after text in a buffer is the joined text; a store is a text of one byte.
use mathlib.Core.Path.{◌≡◌, refl, sym}
use mathlib.Core.List.{List, [], ◌∷◌, ◌++◌, append_assoc}
use Prim.Native.Nat.{ℕ, suc, ◌+◌, ◌≤◌, ◌<◌}
use native.Mathlib.Nat.{le_refl, add_assoc}
use native.Mathlib.Numerals.{add-one}
use native.Mathlib.Omega.{arith}
use lib.ListN.{length, take, drop, get_or, set, length-append}
use lib.Seq.{set_split, take-suc, drop-drop, append_snoc, take-length, paste, take-paste, drop-paste, length-paste, paste-zero}
use Rattle.model.specs.Lines.{decimal}
use Rattle.lines.specs.Written.{Put, Counted, Line}

pub put_none : {l : List ℕ} {at : ℕ} → at ≤ length l → Put l at [] l at
put_none {l} {at} h = record { bytes = paste-zero l at []; next = omega arith; room = h }

pub put_byte : (l : List ℕ) (at b : ℕ) → at < length l → Put l at (b ∷ []) (set l at b) (at + 1)
put_byte l at b h = record {
  bytes = rw (set_split l at b h, add-one at) (sym (append_snoc (take at l) b (drop (suc at) l)));
  next = refl;
  room = omega arith;
}

module _ {l : List ℕ} {at : ℕ} {text l₁ : List ℕ} {r : ℕ} where
  pasted : Put l at text l₁ r → l₁ ≡ paste l at text (length text)
  pasted p = rw (take-length text) p.bytes

  pub put_length : Put l at text l₁ r → length l₁ ≡ length l
  put_length p = rw (pasted p) (length-paste l at text (length text) (omega arith) (le_refl (length text)))

  -- what stands below the next place, and what stands beyond it
  below : Put l at text l₁ r → take r l₁ ≡ take at l ++ text
  below p = rw (pasted p, p.next, take-paste l at text (length text) (omega arith) (le_refl (length text)), take-length text)

  beyond : Put l at text l₁ r → drop r l₁ ≡ drop r l
  beyond p = rw (pasted p, p.next) (drop-paste l at text (length text) (omega arith) (le_refl (length text)))

  pub put_after : {more l₂ : List ℕ} {r₂ : ℕ} → Put l at text l₁ r → Put l₁ r more l₂ r₂ → Put l at (text ++ more) l₂ r₂
  put_after {more} {l₂} {r₂} p q = record {
    bytes = rw (q.bytes, below p, ← drop-drop (length more) r l₁, beyond p, drop-drop, p.next)
        (simp (append_assoc, length-append, add_assoc));
    next = rw length-append (omega arith);
    room = omega (arith, put_length p);
  }

  -- the same, where what comes after is a text and a number
  pub then_number : {most : ℕ} {t : List ℕ} {n : ℕ} {l₂ : List ℕ} {r₂ : ℕ}
      → Put l at text l₁ r → Counted most l₁ r t n l₂ r₂ → Put l at (text ++ t ++ decimal n) l₂ r₂
  then_number {t} {n} p q = rw (append_assoc text t (decimal n)) (put_after p q.put)

pub put_more : (s : List ℕ) (i : ℕ) {l : List ℕ} {at : ℕ} {l₁ : List ℕ} {r : ℕ}
    → Put l at (take i s) l₁ r → i < length s → r < length l → Put l at (take (i + 1) s) (set l₁ r (get_or s i 0)) (r + 1)
put_more s i {l} {at} {l₁} {r} p h k =
    rw (add-one i, take-suc s i 0 h) (put_after p (put_byte l₁ r (get_or s i 0) (omega (arith, put_length p))))

-- a text and a number, of which the number has few digits
pub counted : {most : ℕ} {l : List ℕ} {at : ℕ} {text : List ℕ} {n : ℕ} {l₁ : List ℕ} {r : ℕ}
    → length (decimal n) ≤ most → Put l at (text ++ decimal n) l₁ r → Counted most l at text n l₁ r
counted {text} {n} h p = record { put = p; short = omega (arith, length-append text (decimal n)) }

-- a line of two texts with their numbers, and its end; and one of three
pub line_of_two :
    {most a b : ℕ} {l : List ℕ} {at : ℕ} {t : List ℕ} {n : ℕ} {l₁ : List ℕ} {r₁ : ℕ} {u : List ℕ} {m : ℕ} {l₂ : List ℕ} {r₂ : ℕ}
    {end l₃ : List ℕ} {r₃ : ℕ}
    → Counted a l at t n l₁ r₁ → Counted b l₁ r₁ u m l₂ r₂ → Put l₂ r₂ end l₃ r₃ → length t + a + length u + b + length end ≤ most
    → Line most l at (t ++ decimal n ++ u ++ decimal m ++ end) l₃ r₃
line_of_two p q e h = record { put = put_after (then_number p.put q) e; short = omega (arith, e.next) }

pub line_of_three :
    {most a b c : ℕ} {l : List ℕ} {at : ℕ} {t : List ℕ} {n : ℕ} {l₁ : List ℕ} {r₁ : ℕ} {u : List ℕ} {m : ℕ} {l₂ : List ℕ} {r₂ : ℕ}
    {v : List ℕ} {k : ℕ} {l₃ : List ℕ} {r₃ : ℕ} {end l₄ : List ℕ} {r₄ : ℕ}
    → Counted a l at t n l₁ r₁ → Counted b l₁ r₁ u m l₂ r₂ → Counted c l₂ r₂ v k l₃ r₃ → Put l₃ r₃ end l₄ r₄
    → length t + a + length u + b + length v + c + length end ≤ most
    → Line most l at (t ++ decimal n ++ u ++ decimal m ++ v ++ decimal k ++ end) l₄ r₄
line_of_three p q s e h = record { put = put_after (then_number (then_number p.put q) s) e; short = omega (arith, e.next) }
