-- The bytes of the table that a row of it stands for, and the arguments that a row has.
use mathlib.Core.Path.{◌≡◌, refl}
use mathlib.Core.Bool.{true, false, true≢false, cond, ◌&&◌}
use mathlib.Core.List.{List, [], ◌∷◌}
use Prim.Native.Nat.{ℕ, ◌+◌, ◌<◌}
use native.Mathlib.Omega.{arith}
use Rattle.std.proofs.lemmas.Bool.Decides.{nat_tests}
use lib.Dec.{T, eqb, leb, le→leb}
use Rattle.model.specs.Table.{Row, Tag, Mesg, Text, Datum, Name, Skey, Akey, Pubk, Inv, Ltk, Pair, Enc, Hash}
use Rattle.model.specs.Table.{row, kind, first, second}
use Rattle.tables.proofs.Look.{count_is}
use Rattle.theory.specs.GoodTable.{Good}
use Rattle.keys.proofs.Rows.{EarlierBytes, earlier_bytes}
use Rattle.theory.specs.Reach.{inverse_at}
use Rattle.theory.specs.Matching.{Wish, parts}
use Rattle.tables.specs.Layout.{firsts, seconds, term_count}
use Rattle.tables.specs.Tables.{byte, rows_in, Filled}
use Rattle.matching.specs.Pass.{first_to, second_wishes}

-- Arguments are earlier terms

module _ {t : List ℕ} (filled : Filled t) (good : Good (rows_in t)) (i : ℕ) (h : i < byte t term_count) where
  args_low : T (leb 7 (byte t i)) → EarlierBytes t i
  args_low = earlier_bytes t i filled h (good.earlier i (rw (count_is t) h))

  pub first_low : leb 7 (byte t i) ≡ true → byte t (firsts + i) < i
  first_low e = (args_low (rw e tt)).first

  pub second_low : (leb 9 (byte t i) && leb (byte t i) 11) ≡ true → byte t (seconds + i) < i
  second_low e = (args_low (le→leb 7 (byte t i) (grind (arith, nat_tests)))).second

module _ (rows : List Row) (t : ℕ) where
  -- what the first argument of a row goes to, and the wish for its second one
  abbrev first_goes : Row → ℕ
  first_goes r = cond (eqb (kind r) 8) (inverse_at rows t) (first (row rows t))

  abbrev second_goes : Row → List Wish
  second_goes r = cond (leb 9 (kind r) && leb (kind r) 11) ((second r, second (row rows t)) ∷ []) []

  leaf_parts : (r : Row) → leb 7 (kind r) ≡ false → parts rows r t ≡ []
  unfolding kind parts
  leaf_parts (Tag a) h = refl
  leaf_parts (Mesg a) h = refl
  leaf_parts (Text a) h = refl
  leaf_parts (Datum a) h = refl
  leaf_parts (Name a) h = refl
  leaf_parts (Skey a) h = refl
  leaf_parts (Akey a) h = refl
  leaf_parts _ h = absurd (true≢false h)

  more_parts : (r : Row) → T (leb 7 (kind r)) → parts rows r t ≡ (first r, first_goes r) ∷ second_goes r
  unfolding kind parts first second
  more_parts (Pubk a) h = refl
  more_parts (Inv a) h = refl
  more_parts (Ltk a b) h = refl
  more_parts (Pair a b) h = refl
  more_parts (Enc a b) h = refl
  more_parts (Hash a) h = refl
  more_parts _ h = elim h [ ]

  pub parts_none : (p : ℕ) → leb 7 (kind (row rows p)) ≡ false → parts rows (row rows p) t ≡ []
  parts_none p e = leaf_parts (row rows p) e

  pub parts_some : (p : ℕ) → leb 7 (kind (row rows p)) ≡ true
      → parts rows (row rows p) t ≡ (first (row rows p), first_to rows p t) ∷ second_wishes rows p t
  unfolding first_to second_wishes
  parts_some p e = more_parts (row rows p) (rw e tt)
