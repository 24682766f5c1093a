-- `lines::skeleton_line` meets its contract: what it puts on the page, one after the other, is the line. Assumes nothing.
use Rattle.std.proofs.Common.{◌≡◌, None, Some}
use borrow.Author.Rules.{rules}
use native.Mathlib.Omega.{arith}
use Rattle.model.specs.Lines.{ascii, skeleton_line}
use Rattle.model.specs.Says.{realized_says, openness_of, node_of}
use Rattle.lines.specs.Written.{told_line}
use Rattle.lines.proofs.Puts.{put_none, put_after, line_of_three}
use Rattle.lines.proofs.skeleton_line.Goals as goal

pub returns-in-Ok-None-clause-text : goal.returns-in-Ok-None-clause-text
unfolding ascii skeleton_line told_line realized_says openness_of
returns-in-Ok-None-clause-text c =
    let e : c.in-Ok-None.field-0 ≡ None = rw c.in-Ok-None.is at c.in-Ok-None.field-0-is in
    rw (c.in-Ok-None.is, e)
    (record { put = put_after c.put_small.ensures.text.put c.put.ensures.text; short = omega arith })

pub returns-in-Ok-Some-clause-text : goal.returns-in-Ok-Some-clause-text
unfolding ascii skeleton_line told_line realized_says openness_of node_of
returns-in-Ok-Some-clause-text c =
    let e : c.in-Ok-Some.field-0 ≡ Some c.in-Ok-Some.node = rw c.in-Ok-Some.is at c.in-Ok-Some.field-0-is in
    rw (c.in-Ok-Some.is, e)
    (line_of_three c.put_small-in-Ok-Some.ensures.text c.put_small-in-Ok-Some-2.ensures.text c.put_small-in-Ok-Some-3.ensures.text
    c.put-in-Ok-Some.ensures.text (omega arith))

pub returns-in-Err-clause-text : goal.returns-in-Err-clause-text
unfolding told_line realized_says
returns-in-Err-clause-text c = rw c.in-Err.is (record { put = put_none (search rules); short = omega arith })
