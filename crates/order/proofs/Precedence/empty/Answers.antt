-- `order::Precedence::empty` meets its contract. Assumes nothing.
use mathlib.Core.Bool.{and-eq-true_iff}
use borrow.Author.Tests.{eqb-true}
use Rattle.order.proofs.Rows.{row_none}
use Rattle.order.proofs.Precedence.empty.Goals as goal

pub returns : goal.returns
returns c e =
    let both = (and-eq-true_iff _ _).0 e in row_none _ _ (eqb-true _ _ both.0) (eqb-true _ _ both.1)
