-- `rules::judge_nons` meets its contract: each NO atom is judged by what the messages say. Assumes nothing.
use borrow.Author.Rules.{rules}
use Rattle.tables.proofs.Look.{count_is}
use Rattle.rules.proofs.Faults.{nons_none, nons_judged, first_as}
use Rattle.rules.proofs.judge_nons.Goals as goal

pub returns-then-atom_count-eq0 : goal.returns-then-atom_count-eq0
returns-then-atom_count-eq0 c = nons_none _ _ (rw (← c.atom_count.ensures) c.if-atom_count-eq0.true)

pub returns : goal.returns
returns c =
    let drawn = c.args.skeleton.drawn in
    nons_judged c.atoms-nons.ensures
    (λ a m. rw c.terms_in.ensures (rw (count_is c.args.skeleton.table.now) at (drawn.on_table.nons a m)))
    c.requires
    (first_as _ _ _ _ (λ t r l p. search rules) c.judge_all.ensures)
