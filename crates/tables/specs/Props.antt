-- That a skeleton was read is a fact: it has one proof at most.
use Rattle.std.specs.Prelude.{◌≡◌, refl, List, ℕ, ◌+◌, ◌≤◌, ◌<◌, length}
use Rattle.std.proofs.Common.{◌∙◌, sym}
use Rattle.std.proofs.Math.Path.{Path}
use Rattle.std.proofs.Props.{props}
use mathlib.Core.HLevel.{Σ_prop_path, hedberg}
use Rattle.model.specs.Table.{Row, Tag, Mesg, Text, Datum, Name, Skey, Akey, Pubk, Inv, Ltk, Pair, Enc, Hash, row}
use Rattle.model.specs.Skeleton.{Skeleton}
use Rattle.theory.specs.GoodTable.{row_same, Earlier, IsName, a_name, IsKey, an_akey, a_pubk, Sorted, Good}
use Rattle.theory.specs.Precedence.{Low}
use Rattle.theory.specs.OnTable.{OnTable}
use Rattle.tables.specs.Layout.{block_size, table_size}
use Rattle.tables.specs.Tables.{rows_in, skeleton_at, Block, Filled}
use Rattle.tables.specs.Drawn.{Drawn}

Row-set : IsSet Row
Row-set = hedberg row_same

Earlier-prop : (i : ℕ) (r : Row) → IsProp (Earlier i r)
unfolding Earlier
Earlier-prop i (Tag a) = hlevel props
Earlier-prop i (Mesg a) = hlevel props
Earlier-prop i (Text a) = hlevel props
Earlier-prop i (Datum a) = hlevel props
Earlier-prop i (Name a) = hlevel props
Earlier-prop i (Skey a) = hlevel props
Earlier-prop i (Akey a) = hlevel props
Earlier-prop i (Pubk a) = hlevel props
Earlier-prop i (Inv a) = hlevel props
Earlier-prop i (Ltk a b) = hlevel props
Earlier-prop i (Pair a b) = hlevel props
Earlier-prop i (Enc a b) = hlevel props
Earlier-prop i (Hash a) = hlevel props

IsName-prop : (r : Row) → IsProp (IsName r)
IsName-prop r a_name a_name = refl

IsKey-prop : (r : Row) → IsProp (IsKey r)
IsKey-prop r an_akey an_akey = refl
IsKey-prop r a_pubk a_pubk = refl

Sorted-prop : (rows : ℕ → Row) (r : Row) → IsProp (Sorted rows r)
unfolding Sorted
Sorted-prop rows (Tag a) = hlevel props
Sorted-prop rows (Mesg a) = hlevel props
Sorted-prop rows (Text a) = hlevel props
Sorted-prop rows (Datum a) = hlevel props
Sorted-prop rows (Name a) = hlevel props
Sorted-prop rows (Skey a) = hlevel props
Sorted-prop rows (Akey a) = hlevel props
Sorted-prop rows (Pubk a) = IsName-prop (rows a)
Sorted-prop rows (Inv a) = IsKey-prop (rows a)
Sorted-prop rows (Ltk a b) = hlevel (props, IsName-prop)
Sorted-prop rows (Pair a b) = hlevel props
Sorted-prop rows (Enc a b) = hlevel props
Sorted-prop rows (Hash a) = hlevel props

module _ (rows : List Row) where
  abbrev Distinct : Type 0
  Distinct = (i j : ℕ) → i < length rows → j < length rows → row rows i ≡ row rows j → i ≡ j

  -- the row of an inverse is one only
  Inverted-prop : Distinct → (i : ℕ) → IsProp ((j : ℕ) × (j < length rows) × (row rows j ≡ Inv i))
  Inverted-prop distinct i x y =
      let inside : (j : ℕ) → IsProp ((j < length rows) × (row rows j ≡ Inv i)) = λ j. hlevel (props, Row-set) in
      let same : Path ((j : ℕ) × ((j < length rows) × (row rows j ≡ Inv i))) (x.0, (x.1, x.2)) (y.0, (y.1, y.2)) =
      Σ_prop_path inside (distinct x.0 y.0 x.1 y.1 (x.2 ∙ sym y.2)) in
      λ k. let z = same k in (z.0, z.1.0, z.1.1)

  pub Good-prop : IsProp (Good rows)
  Good-prop x y =
      let earlier : IsProp ((i : ℕ) → i < length rows → Earlier i (row rows i)) = hlevel (props, Earlier-prop) in
      let sorted : IsProp ((i : ℕ) → i < length rows → Sorted (row rows) (row rows i)) = hlevel (props, Sorted-prop) in
      let distinct : IsProp Distinct = hlevel props in
      let each = Inverted-prop x.distinct in
      let inverses : IsProp ((i : ℕ) → i < length rows → IsKey (row rows i)
      → (j : ℕ) × (j < length rows) × (row rows j ≡ Inv i)) = hlevel (props, each) in
      λ k. record {
        earlier = earlier x.earlier y.earlier k;
        sorted = sorted x.sorted y.sorted k;
        distinct = distinct x.distinct y.distinct k;
        inverses = inverses x.inverses y.inverses k;
      }

Low-prop : (n : _) → IsProp (Low n)
unfolding Low
Low-prop n = hlevel props

OnTable-prop : (rows : List Row) (K : Skeleton ℕ) → IsProp (OnTable rows K)
OnTable-prop rows K = hlevel (props, Low-prop)

pub Drawn-prop : (t : List ℕ) (b : ℕ) → IsProp (Drawn t b)
Drawn-prop t b x y =
    let filled : IsProp (Filled t) = hlevel props in
    let good : IsProp (Good (rows_in t)) = Good-prop (rows_in t) in
    let inside : IsProp (b + block_size ≤ table_size) = hlevel props in
    let block : IsProp (Block t b) = hlevel props in
    let on_table : IsProp (OnTable (rows_in t) (skeleton_at t b)) = OnTable-prop (rows_in t) (skeleton_at t b) in
    λ k. record {
      filled = filled x.filled y.filled k;
      good = good x.good y.good k;
      inside = inside x.inside y.inside k;
      block = block x.block y.block k;
      on_table = on_table x.on_table y.on_table k;
    }
