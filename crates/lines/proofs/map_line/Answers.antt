-- `lines::map_line` meets its contract: the numbers before the loop's index are written. Assumes nothing.
use native.Mathlib.Omega.{arith}
use borrow.Author.Rules.{rules}
use Rattle.lines.proofs.Parting.{no_numbers, begun_first, begun_more, begun_all, begun_length}
use Rattle.lines.proofs.map_line.Goals as goal

pub returns-in_default-clause-text : goal.returns-in_default-clause-text
returns-in_default-clause-text c =
    let p = c.put.ensures.text in
    rw (no_numbers _ c.in_default.ensures.cases) (record { put = p; short = omega (arith, p.next) })

pub loop-strand-init : goal.loop-strand-init
loop-strand-init c = (omega arith, begun_first c.in-Some.ensures.cases.0 c.put_small.ensures.text, search rules)

pub put_small-requires-in-loop-strand : goal.put_small-requires-in-loop-strand
put_small-requires-in-loop-strand c = omega (arith, c.in-Some.ensures.cases.1, begun_length c.loop-strand.invariant.1)

pub loop-strand-preserved : goal.loop-strand-preserved
loop-strand-preserved c =
    (omega arith, begun_more c.loop-strand.invariant.1 (omega arith) c.put_small-in-loop-strand.ensures.text, search rules)

pub put-requires-2 : goal.put-requires-2
put-requires-2 c = omega (arith, c.in-Some.ensures.cases.1, begun_length c.loop-strand.invariant.1)

pub returns-clause-text : goal.returns-clause-text
returns-clause-text c =
    let p = c.put-2.ensures.text in
    record {
      put = begun_all c.loop-strand.invariant.1 (omega arith) p;
      short = omega (arith, c.in-Some.ensures.cases.1, p.next);
    }
