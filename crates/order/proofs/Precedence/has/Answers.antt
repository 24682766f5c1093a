-- `order::Precedence::has` meets its contract. Assumes nothing.
use mathlib.Core.Path.{◌∙◌}
use Prim.Native.Nat.{◌-◌, ◌*◌}
use native.Mathlib.Omega.{arith}
use Rattle.order.proofs.Rows.{on_part}
use Rattle.order.proofs.Precedence.has.Goals as goal

pub returns : goal.returns
returns c =
    let a = c.args in
    c.has_bit.ensures ∙ on_part a.self.now.words a.a a.b (192 - 2 * a.a) (omega (arith, c.requires.0, c.requires.1))
