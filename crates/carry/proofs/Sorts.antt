-- A variable by its row. Assumes nothing.
use mathlib.Core.Path.{◌≡◌, refl}
use mathlib.Core.Bool.{Bool, true}
use mathlib.Core.List.{List}
use mathlib.Core.Logic.{◌↔◌}
use Prim.Native.Nat.{ℕ, ◌<◌}
use lib.Dec.{T}
use lib.ListN.{length}
use Rattle.model.specs.Term.{Term}
use Rattle.model.specs.Subst.{Variable, a_mesg, a_text, a_datum, a_name, an_skey, an_akey}
use Rattle.model.specs.Table.{Row, Mesg, Text, Datum, Name, Skey, Akey, row, kind, meaning, term}
use Rattle.tables.proofs.Look.{row_in}
use Rattle.theory.specs.GoodTable.{Good}
use Rattle.theory.specs.Numbers.{row_of, law, number, row_is}
use Rattle.tables.specs.Tables.{byte, row_at, rows_in, Filled}
use Rattle.carry.specs.Next.{is_variable}
use Rattle.carry.proofs.Shown.{is_T}
use Rattle.carry.proofs.Rows.{inside_in}

module _ (rows : List Row) (good : Good rows) (i : ℕ) (inside : i < length rows) where
  row_variable : (r : Row) → row rows i ≡ r → T (is_variable r) → Variable (term rows i)
  unfolding is_variable kind meaning
  row_variable (Mesg n) e h = rw (law rows good i inside e) a_mesg
  row_variable (Text n) e h = rw (law rows good i inside e) a_text
  row_variable (Datum n) e h = rw (law rows good i inside e) a_datum
  row_variable (Name n) e h = rw (law rows good i inside e) a_name
  row_variable (Skey n) e h = rw (law rows good i inside e) an_skey
  row_variable (Akey n) e h = rw (law rows good i inside e) an_akey
  row_variable _ e h = elim h [ ]

  variable_row : {u : Term} → Variable u → T (is_variable (row_of (number rows) u))
  unfolding is_variable kind row_of
  variable_row a_mesg = tt
  variable_row a_text = tt
  variable_row a_datum = tt
  variable_row a_name = tt
  variable_row an_skey = tt
  variable_row an_akey = tt

  variable_law : (is_variable (row rows i) ≡ true) ↔ Variable (term rows i)
  variable_law = (
    λ e. row_variable (row rows i) refl ((is_T (is_variable (row rows i))).0 e),
    λ v. (is_T (is_variable (row rows i))).1 (rw (row_is rows good i inside) (variable_row v)),
  )

pub variable_in : {table : List ℕ} {i : ℕ} {b : Bool} → Filled table → Good (rows_in table) → i < byte table 600
    → b ≡ is_variable (row_at table i) → (b ≡ true) ↔ Variable (term (rows_in table) i)
variable_in {table} {i} filled good h e =
    rw (e, ← row_in table i h) (variable_law (rows_in table) good i (inside_in table h))
