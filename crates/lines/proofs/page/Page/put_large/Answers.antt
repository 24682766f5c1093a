-- `lines::Page::put_large` meets its contract. Assumes nothing.
use native.Mathlib.Omega.{arith}
use Rattle.lines.proofs.Puts.{counted}
use Rattle.lines.proofs.Digits.{word_digits}
use Rattle.lines.proofs.page.Page.put_large.Goals as goal

pub put_counted-requires : goal.put_counted-requires
put_counted-requires c = omega (arith, word_digits c.args.n (omega arith))

pub returns-clause-text : goal.returns-clause-text
returns-clause-text c = counted (word_digits c.args.n (omega arith)) c.put_counted.ensures.text.put
