-- `tables::rows::is_atom` meets its contract. Assumes nothing.
use mathlib.Core.Path.{◌≡◌, ◌∙◌}
use mathlib.Core.Bool.{◌&&◌}
use lib.Dec.{leb}
use borrow.Author.Rules.{rules}
use Rattle.tables.specs.Kinds.{kind_said}
use Rattle.tables.proofs.Right.{atom_test}
use Rattle.tables.proofs.rows.is_atom.Goals as goal

pub returns : goal.returns
returns c =
    let k = kind_said c.kind_of.result in
    let by_kind : c.is_some_and.result ≡ (leb 2 k && leb k 9) = search rules in
    by_kind ∙ rw c.kind_of.ensures (atom_test _ _)
