-- "Kinds 2 to 9 are atoms."
use Rattle.std.specs.Prelude.{◌≡◌, refl, true, false, ℕ}
use Rattle.model.specs.Table.{Mesg, Text, Ltk, Pair, is_atom}

-- both ends, and what lies just outside
pub variable_is_no_atom : (a : ℕ) → is_atom (Mesg a) ≡ false
unfolding is_atom
variable_is_no_atom a = refl

pub text_is_an_atom : (a : ℕ) → is_atom (Text a) ≡ true
unfolding is_atom
text_is_an_atom a = refl

pub long_term_key_is_an_atom : (a b : ℕ) → is_atom (Ltk a b) ≡ true
unfolding is_atom
long_term_key_is_an_atom a b = refl

pub pair_is_no_atom : (a b : ℕ) → is_atom (Pair a b) ≡ false
unfolding is_atom
pair_is_no_atom a b = refl
