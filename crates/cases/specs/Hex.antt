-- Bytes from hexadecimal text as the paper writes it: two digits a byte, spaces and bars between records.
use Rattle.std.specs.Prelude.{cond, ◌&&◌, List, [], ◌∷◌, ℕ, ◌+◌, ◌*◌, ◌-◌, leb}
use Rattle.std.proofs.Math.Option.{Option, none, some}
use Prim.Native.Char.{code}
use Prim.Native.String.{String}

-- '0' to '9' and 'a' to 'f'
unfoldable pub digit : ℕ → Option ℕ
digit c = cond (leb 48 c && leb c 57) (some (c - 48)) (cond (leb 97 c && leb c 102) (some (c - 87)) none)

-- with the digit that waits for its second
unfoldable pub bytes_from : Option ℕ → List (Option ℕ) → List ℕ
bytes_from h [] = []
bytes_from h (none ∷ l) = bytes_from h l
bytes_from none (some d ∷ l) = bytes_from (some d) l
bytes_from (some e) (some d ∷ l) = (16 * e + d) ∷ bytes_from none l

unfoldable pub digits : String → List (Option ℕ)
unfolding digit
digits String.[] = []
digits (String.◌∷◌ c s) = digit (code c) ∷ digits s

unfoldable pub hex : String → List ℕ
unfolding digits bytes_from
hex s = bytes_from none (digits s)
