-- `lines::Page::put_counted` meets its contract: the number comes after the text. Assumes nothing.
use native.Mathlib.Omega.{arith}
use Rattle.lines.proofs.Puts.{put_after, counted}
use Rattle.lines.proofs.page.Page.put_counted.Goals as goal

pub returns-clause-text : goal.returns-clause-text
returns-clause-text c = counted (omega arith) (put_after c.put.ensures.text c.put_number.ensures.text)
