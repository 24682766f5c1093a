-- `rules::judge_uniqs` meets its contract: each UO atom is judged by its origin. Assumes nothing.
use borrow.Author.Rules.{rules}
use Rattle.tables.proofs.Look.{count_is}
use Rattle.rules.proofs.Faults.{uniqs_none, uniqs_judged, first_as}
use Rattle.rules.proofs.judge_uniqs.Goals as goal

pub returns-then-atom_count-eq0 : goal.returns-then-atom_count-eq0
returns-then-atom_count-eq0 c = uniqs_none _ _ (rw (← c.atom_count.ensures) c.if-atom_count-eq0.true)

pub returns : goal.returns
returns c =
    let drawn = c.args.skeleton.drawn in
    uniqs_judged c.atoms-uniqs.ensures
    (λ a m. rw c.terms_in.ensures (rw (count_is c.args.skeleton.table.now) at (drawn.on_table.uniqs a m)))
    c.requires.turn
    (first_as _ _ _ _ (λ t r l p. search rules) c.judge_all.ensures)
