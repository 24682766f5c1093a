-- `accept::accept_terms` meets its contract. Assumes nothing.
use Rattle.accept.proofs.InTurn.{fair_rows, all_drawn, keys_paired, keys_lack, sheet_judged}
use Rattle.accept.proofs.accept_terms.Goals as goal

pub find_inverses-requires : goal.find_inverses-requires
find_inverses-requires c = (c.requires.0, fair_rows _ c.requires.0 c.requires.1)

pub returns-in-Err : goal.returns-in-Err
returns-in-Err c = keys_lack _ c.in-Err.ensures.0 c.from.ensures

pub judge_skeletons-requires : goal.judge_skeletons-requires
judge_skeletons-requires c =
    let (n, i) = keys_paired c.in_default.ensures.0 in
    (all_drawn _ c.requires.0 c.requires.1 n, n)

pub returns : goal.returns
returns c = sheet_judged _ _ c.judge_skeletons.ensures (keys_paired c.in_default.ensures.0).1 c.find_inverses.ensures.1
