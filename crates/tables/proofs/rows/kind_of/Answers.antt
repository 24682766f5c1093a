-- `tables::rows::kind_of` meets its contract. Assumes nothing.
use native.Mathlib.Omega.{arith}
use mathlib.Core.Path.{◌∙◌}
use Rattle.tables.proofs.Look.{kind_in, kind_out}
use Rattle.tables.proofs.rows.kind_of.Goals as goal

pub returns-then-t-terms_in : goal.returns-then-t-terms_in
returns-then-t-terms_in c =
    c.kind_at.ensures ∙ kind_in c.args.table.now c.args.t.0 c.requires (omega arith)

pub returns : goal.returns
returns c =
    kind_out c.args.table.now c.args.t.0 (omega arith)
