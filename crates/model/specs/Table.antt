-- "Kinds: 0 tag, 1 message variable, 2 text, 3 data, 4 name, 5 symmetric key, 6 asymmetric key (1 to 6 are variables;
-- for 0 to 6, a is just a number); 7 public key of name a; 8 inverse of a (kind 6 or 7); 9 long-term key of names a, b
-- (symmetric); 10 pair; 11 body a under key b; 12 hash of a. Unused b is 0. Arguments are earlier terms. A key isn't a
-- message variable. Kinds 2 to 9 are atoms. No two TM records are alike, so equal terms have equal numbers."
use Rattle.std.specs.Prelude.{Bool, true, false, not, ◌&&◌, ◌||◌, List, [], ◌∷◌, ◌++◌, ℕ, ltb, leb, eqb, get_or}
use Rattle.std.proofs.Math.Option.{Option}
use Rattle.std.proofs.Math.ListN.{get_elem?}
use Rattle.model.specs.Term.{skey, ltk, akey, pubk, text, datum, name, symmetric, asymmetric, Term, tag, mesg, atom, pair, enc, hash, inv}

-- A TM record
pub data Row : Type 0 where
  Tag Mesg Text Datum Name Skey Akey : ℕ → Row
  Pubk Inv : ℕ → Row
  Ltk Pair Enc : ℕ → ℕ → Row
  Hash : ℕ → Row
  deriving Discrete as Row-discrete

-- its three bytes
unfoldable pub kind : Row → ℕ
kind (Tag a) = 0
kind (Mesg a) = 1
kind (Text a) = 2
kind (Datum a) = 3
kind (Name a) = 4
kind (Skey a) = 5
kind (Akey a) = 6
kind (Pubk a) = 7
kind (Inv a) = 8
kind (Ltk a b) = 9
kind (Pair a b) = 10
kind (Enc a b) = 11
kind (Hash a) = 12

unfoldable pub first : Row → ℕ
first (Tag a) = a
first (Mesg a) = a
first (Text a) = a
first (Datum a) = a
first (Name a) = a
first (Skey a) = a
first (Akey a) = a
first (Pubk a) = a
first (Inv a) = a
first (Ltk a b) = a
first (Pair a b) = a
first (Enc a b) = a
first (Hash a) = a

-- "Unused b is 0."
unfoldable pub second : Row → ℕ
second (Tag a) = 0
second (Mesg a) = 0
second (Text a) = 0
second (Datum a) = 0
second (Name a) = 0
second (Skey a) = 0
second (Akey a) = 0
second (Pubk a) = 0
second (Inv a) = 0
second (Ltk a b) = b
second (Pair a b) = b
second (Enc a b) = b
second (Hash a) = 0

-- the row of a kind, where there is such a kind
unfoldable pub row_of_kind : ℕ → ℕ → ℕ → Option Row
row_of_kind k a b =
    get_elem?
    (Tag a ∷ Mesg a ∷ Text a ∷ Datum a ∷ Name a ∷ Skey a ∷ Akey a ∷ Pubk a ∷ Inv a ∷ Ltk a b ∷ Pair a b ∷ Enc a b ∷ Hash a ∷ []) k

-- "No two TM records are alike"
unfoldable pub alike : Row → Row → Bool
unfolding kind first second
alike q r = eqb (kind q) (kind r) && (eqb (first q) (first r) && eqb (second q) (second r))

abbrev pub row : List Row → ℕ → Row
row rows i = get_or rows i (Tag 0)

unfoldable pub is_mesg : Row → Bool
unfolding kind
is_mesg r = eqb (kind r) 1

unfoldable pub is_name : Row → Bool
unfolding kind
is_name r = eqb (kind r) 4

-- an asymmetric key that is no inverse: "kind 6 or 7"
unfoldable pub is_key : Row → Bool
unfolding kind
is_key r = eqb (kind r) 6 || eqb (kind r) 7

-- "Kinds 2 to 9 are atoms."
unfoldable pub is_atom : Row → Bool
unfolding kind
is_atom r = leb 2 (kind r) && leb (kind r) 9

-- "Arguments are earlier terms": than the term number n
unfoldable pub earlier : ℕ → Row → Bool
earlier n (Tag a) = true
earlier n (Mesg a) = true
earlier n (Text a) = true
earlier n (Datum a) = true
earlier n (Name a) = true
earlier n (Skey a) = true
earlier n (Akey a) = true
earlier n (Pubk a) = ltb a n
earlier n (Inv a) = ltb a n
earlier n (Ltk a b) = ltb a n && ltb b n
earlier n (Pair a b) = ltb a n && ltb b n
earlier n (Enc a b) = ltb a n && ltb b n
earlier n (Hash a) = ltb a n

-- "public key of name a; inverse of a (kind 6 or 7); long-term key of names a, b"; "A key isn't a message variable."
unfoldable pub sorted : (ℕ → Row) → Row → Bool
unfolding is_mesg is_name is_key
sorted rows (Tag a) = true
sorted rows (Mesg a) = true
sorted rows (Text a) = true
sorted rows (Datum a) = true
sorted rows (Name a) = true
sorted rows (Skey a) = true
sorted rows (Akey a) = true
sorted rows (Pubk a) = is_name (rows a)
sorted rows (Inv a) = is_key (rows a)
sorted rows (Ltk a b) = is_name (rows a) && is_name (rows b)
sorted rows (Pair a b) = true
sorted rows (Enc a b) = not (is_mesg (rows b))
sorted rows (Hash a) = true

-- The terms that a table's rows mean

unfoldable pub name_of : Term → ℕ
name_of (tag n) = 0
name_of (mesg n) = 0
name_of (atom (text n)) = 0
name_of (atom (datum n)) = 0
name_of (atom (name n)) = n
name_of (atom (symmetric k)) = 0
name_of (atom (asymmetric i k)) = 0
name_of (pair t u) = 0
name_of (enc t k) = 0
name_of (hash t) = 0

-- of a row, where `at` says the terms of the earlier rows
unfoldable pub meaning : (ℕ → Term) → Row → Term
meaning at (Tag a) = tag a
meaning at (Mesg a) = mesg a
meaning at (Text a) = atom (text a)
meaning at (Datum a) = atom (datum a)
meaning at (Name a) = atom (name a)
meaning at (Skey a) = atom (symmetric (skey a))
meaning at (Akey a) = atom (asymmetric false (akey a))
meaning at (Pubk a) = atom (asymmetric false (pubk (name_of (at a))))
meaning at (Inv a) = inv (at a)
meaning at (Ltk a b) = atom (symmetric (ltk (name_of (at a)) (name_of (at b))))
meaning at (Pair a b) = pair (at a) (at b)
meaning at (Enc a b) = enc (at a) (at b)
meaning at (Hash a) = hash (at a)

abbrev pub nth : List Term → ℕ → Term
nth ts i = get_or ts i (tag 0)

-- the terms of the rows, after those of the earlier rows
unfoldable pub terms_after : List Term → List Row → List Term
terms_after ts [] = ts
terms_after ts (r ∷ rs) = terms_after (ts ++ (meaning (nth ts) r ∷ [])) rs

-- the term of a number
unfoldable pub term : List Row → ℕ → Term
term rows i = nth (terms_after [] rows) i
