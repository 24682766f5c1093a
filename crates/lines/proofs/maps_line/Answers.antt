-- `lines::maps_line` meets its contract: what it puts on the page, one after the other, is the line. Assumes nothing.
use native.Mathlib.Omega.{arith}
use Rattle.model.specs.Lines.{ascii, maps_line}
use Rattle.model.specs.Says.{list_says, refusal_of}
use Rattle.lines.proofs.Puts.{line_of_three}
use Rattle.lines.proofs.maps_line.Goals as goal

pub returns-in-Ok-clause-text : goal.returns-in-Ok-clause-text
unfolding ascii maps_line list_says
returns-in-Ok-clause-text c =
    rw c.in-Ok.is
    (line_of_three c.put_small.ensures.text c.put_small-2.ensures.text c.put_large.ensures.text
    c.put.ensures.text (omega arith))

pub returns-in-Err-clause-text : goal.returns-in-Err-clause-text
unfolding ascii maps_line list_says refusal_of
returns-in-Err-clause-text c =
    rw (c.in-Err.is, ← c.from.ensures)
    (line_of_three c.put_small.ensures.text c.put_small-2.ensures.text c.put_small-in-Err.ensures.text
    c.put-in-Err.ensures.text (omega arith))
