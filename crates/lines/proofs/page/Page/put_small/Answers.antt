-- `lines::Page::put_small` meets its contract. Assumes nothing.
use native.Mathlib.Omega.{arith}
use Rattle.lines.proofs.Puts.{counted}
use Rattle.lines.proofs.Digits.{byte_digits}
use Rattle.lines.proofs.page.Page.put_small.Goals as goal

pub put_counted-requires : goal.put_counted-requires
put_counted-requires c = rw c.from.ensures (omega (arith, byte_digits c.args.n (omega arith)))

pub returns-clause-text : goal.returns-clause-text
returns-clause-text c = counted (byte_digits c.args.n (omega arith)) (rw c.from.ensures at c.put_counted.ensures.text.put)
