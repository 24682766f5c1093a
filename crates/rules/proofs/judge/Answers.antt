-- `rules::judge` meets its contract: a cycle first, then the NO atoms, then the UO atoms. Assumes nothing.
use borrow.Author.Rules.{rules}
use Rattle.rules.proofs.Faults.{a_cycle, no_cycle, nons_right, nons_fault, all_judged}
use Rattle.rules.proofs.judge.Goals as goal

pub returns-then-cyclic : goal.returns-then-cyclic
returns-then-cyclic c =
    a_cycle c.args.skeleton.drawn c.requires.0 c.requires.1 c.cyclic.ensures c.if-cyclic.true

pub judge_nons-requires : goal.judge_nons-requires
judge_nons-requires c =
    no_cycle c.args.skeleton.drawn c.requires.0 c.requires.1 c.cyclic.ensures c.if-cyclic.false

pub returns-in_err-judge_nons : goal.returns-in_err-judge_nons
returns-in_err-judge_nons c = search (rules, nons_fault)

pub judge_uniqs-requires-clause-turn : goal.judge_uniqs-requires-clause-turn
judge_uniqs-requires-clause-turn c =
    nons_right c.in_ok-judge_nons.ensures
    (no_cycle c.args.skeleton.drawn c.requires.0 c.requires.1 c.cyclic.ensures c.if-cyclic.false)

pub returns : goal.returns
returns c =
    let turn = nons_right c.in_ok-judge_nons.ensures
    (no_cycle c.args.skeleton.drawn c.requires.0 c.requires.1 c.cyclic.ensures c.if-cyclic.false) in
    all_judged turn c.judge_uniqs.ensures
