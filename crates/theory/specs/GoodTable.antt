-- A good table, and that the tests of a row say what they should.
use Rattle.std.specs.Prelude.{◌≡◌, refl, true, not, ◌↔◌, ◌≢◌, ℕ, ◌<◌, T, ltb, eqb, length}
use Rattle.std.proofs.Common.{◌∙◌, sym as back, ltb→lt, lt→ltb, eqb→eq}
use mathlib.Core.List.Memᴰ
use mathlib.Core.List.{List, Memᴰ}
use Rattle.std.proofs.Math.Option.{some}
use Rattle.std.proofs.Math.Decide.{ℕ_discrete}
use Rattle.std.proofs.Math.Dec.{eqb_refl}
use Rattle.model.specs.Table.{Row, Tag, Mesg, Text, Datum, Name, Skey, Akey, Pubk, Inv, Ltk, Pair, Enc, Hash, Row-discrete, row, kind, first, second, row_of_kind, alike, is_name, is_key, is_mesg, earlier, sorted}
use Rattle.model.specs.Reading.{on_sheet}
use Rattle.theory.specs.Tests.{both, pair_up}
use Rattle.theory.specs.ListTests.{some_found, finds_some}

unfoldable pub row_same : Discrete Row
unfolding ℕ_discrete
row_same = Row-discrete ℕ_discrete

-- The rules of a table

unfoldable pub Earlier : ℕ → Row → Type 0
Earlier i (Tag n) = Unit {0}
Earlier i (Mesg n) = Unit {0}
Earlier i (Text n) = Unit {0}
Earlier i (Datum n) = Unit {0}
Earlier i (Name n) = Unit {0}
Earlier i (Skey n) = Unit {0}
Earlier i (Akey n) = Unit {0}
Earlier i (Pubk a) = a < i
Earlier i (Inv a) = a < i
Earlier i (Ltk a b) = (a < i) × (b < i)
Earlier i (Pair a b) = (a < i) × (b < i)
Earlier i (Enc a b) = (a < i) × (b < i)
Earlier i (Hash a) = a < i

pub data IsName : Row → Type 0 where
  a_name : {n : ℕ} → IsName (Name n)

-- an asymmetric key that is no inverse
pub data IsKey : Row → Type 0 where
  an_akey : {n : ℕ} → IsKey (Akey n)
  a_pubk : {a : ℕ} → IsKey (Pubk a)

unfoldable pub Sorted : (ℕ → Row) → Row → Type 0
Sorted rows (Tag n) = Unit {0}
Sorted rows (Mesg n) = Unit {0}
Sorted rows (Text n) = Unit {0}
Sorted rows (Datum n) = Unit {0}
Sorted rows (Name n) = Unit {0}
Sorted rows (Skey n) = Unit {0}
Sorted rows (Akey n) = Unit {0}
Sorted rows (Pubk a) = IsName (rows a)
Sorted rows (Inv a) = IsKey (rows a)
Sorted rows (Ltk a b) = IsName (rows a) × IsName (rows b)
Sorted rows (Pair a b) = Unit {0}
Sorted rows (Enc a b) = (n : ℕ) → rows b ≢ Mesg n
Sorted rows (Hash a) = Unit {0}

pub record Good (rows : List Row) : Type 0 where
  pub earlier : (i : ℕ) → i < length rows → Earlier i (row rows i)
  pub sorted : (i : ℕ) → i < length rows → Sorted (row rows) (row rows i)
  pub distinct : (i j : ℕ) → i < length rows → j < length rows → row rows i ≡ row rows j → i ≡ j
  pub inverses : (i : ℕ) → i < length rows → IsKey (row rows i) → (j : ℕ) × (j < length rows) × (row rows j ≡ Inv i)

-- The tests say what they should

name_true : (r : Row) → T (is_name r) → IsName r
unfolding is_name kind
name_true (Name a) h = a_name
name_true _ h = elim h [ ]

key_true : (r : Row) → T (is_key r) → IsKey r
unfolding is_key kind
key_true (Akey a) h = an_akey
key_true (Pubk a) h = a_pubk
key_true _ h = elim h [ ]

pub key_is : {r : Row} → IsKey r → is_key r ≡ true
unfolding is_key kind
key_is an_akey = refl
key_is a_pubk = refl

is_mesg_false : (r : Row) → T (not (is_mesg r)) → (n : ℕ) → r ≢ Mesg n
unfolding is_mesg kind
is_mesg_false r h n e = rw e at h

pub earlier_true : (i : ℕ) (r : Row) → T (earlier i r) → Earlier i r
unfolding earlier Earlier
earlier_true i (Tag a) h = tt
earlier_true i (Mesg a) h = tt
earlier_true i (Text a) h = tt
earlier_true i (Datum a) h = tt
earlier_true i (Name a) h = tt
earlier_true i (Skey a) h = tt
earlier_true i (Akey a) h = tt
earlier_true i (Pubk a) h = ltb→lt a i h
earlier_true i (Inv a) h = ltb→lt a i h
earlier_true i (Ltk a b) h = let k = both (ltb a i) (ltb b i) h in (ltb→lt a i k.0, ltb→lt b i k.1)
earlier_true i (Pair a b) h = let k = both (ltb a i) (ltb b i) h in (ltb→lt a i k.0, ltb→lt b i k.1)
earlier_true i (Enc a b) h = let k = both (ltb a i) (ltb b i) h in (ltb→lt a i k.0, ltb→lt b i k.1)
earlier_true i (Hash a) h = ltb→lt a i h

pub sorted_true : (rows : ℕ → Row) (r : Row) → T (sorted rows r) → Sorted rows r
unfolding sorted Sorted
sorted_true rows (Tag a) h = tt
sorted_true rows (Mesg a) h = tt
sorted_true rows (Text a) h = tt
sorted_true rows (Datum a) h = tt
sorted_true rows (Name a) h = tt
sorted_true rows (Skey a) h = tt
sorted_true rows (Akey a) h = tt
sorted_true rows (Pubk a) h = name_true (rows a) h
sorted_true rows (Inv a) h = key_true (rows a) h
sorted_true rows (Ltk a b) h =
    let k = both (is_name (rows a)) (is_name (rows b)) h in (name_true (rows a) k.0, name_true (rows b) k.1)
sorted_true rows (Pair a b) h = tt
sorted_true rows (Enc a b) h = is_mesg_false (rows b) h
sorted_true rows (Hash a) h = tt

pub true_earlier : (i : ℕ) (r : Row) → Earlier i r → T (earlier i r)
unfolding earlier Earlier
true_earlier i (Tag a) h = tt
true_earlier i (Mesg a) h = tt
true_earlier i (Text a) h = tt
true_earlier i (Datum a) h = tt
true_earlier i (Name a) h = tt
true_earlier i (Skey a) h = tt
true_earlier i (Akey a) h = tt
true_earlier i (Pubk a) h = lt→ltb a i h
true_earlier i (Inv a) h = lt→ltb a i h
true_earlier i (Ltk a b) h = pair_up (ltb a i) (ltb b i) (lt→ltb a i h.0) (lt→ltb b i h.1)
true_earlier i (Pair a b) h = pair_up (ltb a i) (ltb b i) (lt→ltb a i h.0) (lt→ltb b i h.1)
true_earlier i (Enc a b) h = pair_up (ltb a i) (ltb b i) (lt→ltb a i h.0) (lt→ltb b i h.1)
true_earlier i (Hash a) h = lt→ltb a i h

true_name : {r : Row} → IsName r → T (is_name r)
unfolding is_name kind
true_name a_name = tt

no_mesg : (r : Row) → ((n : ℕ) → r ≢ Mesg n) → T (not (is_mesg r))
unfolding is_mesg kind
no_mesg (Tag a) h = tt
no_mesg (Mesg a) h = absurd (h a refl)
no_mesg (Text a) h = tt
no_mesg (Datum a) h = tt
no_mesg (Name a) h = tt
no_mesg (Skey a) h = tt
no_mesg (Akey a) h = tt
no_mesg (Pubk a) h = tt
no_mesg (Inv a) h = tt
no_mesg (Ltk a b) h = tt
no_mesg (Pair a b) h = tt
no_mesg (Enc a b) h = tt
no_mesg (Hash a) h = tt

pub true_sorted : (rows : ℕ → Row) (r : Row) → Sorted rows r → T (sorted rows r)
unfolding sorted Sorted
true_sorted rows (Tag a) h = tt
true_sorted rows (Mesg a) h = tt
true_sorted rows (Text a) h = tt
true_sorted rows (Datum a) h = tt
true_sorted rows (Name a) h = tt
true_sorted rows (Skey a) h = tt
true_sorted rows (Akey a) h = tt
true_sorted rows (Pubk a) h = true_name h
true_sorted rows (Inv a) h = rw (key_is h) tt
true_sorted rows (Ltk a b) h = pair_up (is_name (rows a)) (is_name (rows b)) (true_name h.0) (true_name h.1)
true_sorted rows (Pair a b) h = tt
true_sorted rows (Enc a b) h = no_mesg (rows b) h
true_sorted rows (Hash a) h = tt

-- Rows that are alike are equal

pub alike_self : (r : Row) → T (alike r r)
unfolding alike
alike_self r =
    pair_up (eqb (kind r) (kind r)) _ (eqb_refl (kind r)) (pair_up (eqb (first r) (first r)) _ (eqb_refl (first r))
    (eqb_refl (second r)))

-- a row is the row of its three bytes
pub row_of_bytes : (r : Row) → row_of_kind (kind r) (first r) (second r) ≡ some r
unfolding row_of_kind kind first second
row_of_bytes (Tag a) = refl
row_of_bytes (Mesg a) = refl
row_of_bytes (Text a) = refl
row_of_bytes (Datum a) = refl
row_of_bytes (Name a) = refl
row_of_bytes (Skey a) = refl
row_of_bytes (Akey a) = refl
row_of_bytes (Pubk a) = refl
row_of_bytes (Inv a) = refl
row_of_bytes (Ltk a b) = refl
row_of_bytes (Pair a b) = refl
row_of_bytes (Enc a b) = refl
row_of_bytes (Hash a) = refl

pub alike_same : (q r : Row) → T (alike q r) → q ≡ r
unfolding alike
alike_same q r h =
    let (a, g) = both (eqb (kind q) (kind r)) _ h in
    let (b, c) = both (eqb (first q) (first r)) _ g in
    let x : kind q ≡ kind r = eqb→eq _ _ a in
    let y : first q ≡ first r = eqb→eq _ _ b in
    let z : second q ≡ second r = eqb→eq _ _ c in
    let w : some q ≡ some r = back (row_of_bytes q) ∙ (rw (x, y, z) (row_of_bytes r)) in
    cc

pub on_sheet_iff : (rows : List Row) (r : Row) → T (on_sheet rows r) ↔ Memᴰ r rows
unfolding on_sheet
on_sheet_iff rows r = (
  λ h. let (q, m, a) = some_found (λ q. alike q r) rows h in Memᴰ.cast (back (alike_same q r a)) m,
  λ m. finds_some (λ q. alike q r) rows m (alike_self r),
)
