-- `carry::loose` meets its contract: the loop's set shows the terms that were visited. Assumes nothing.
use borrow.Author.Rules.{rules}
use Rattle.carry.proofs.Shown.{shows_none, shows_more}
use Rattle.carry.proofs.Rows.{shows_all}
use Rattle.carry.proofs.Paths.{loose_in}
use Rattle.carry.proofs.loose.Goals as goal

pub loop-i-init : goal.loop-i-init
loop-i-init c = (search rules, shows_none _)

pub loop-i-preserved : goal.loop-i-preserved
loop-i-preserved c =
    let p = c.requires in
    let shows = c.loop-i.invariant.1 in
    let so = loose_in _ p.0 p.1 p.2 (search rules) shows c.loose_at-so.ensures in
    (search rules, shows_more shows _ so c.insert_if.ensures.at)

pub returns : goal.returns
returns c = record { shows = shows_all c.requires.0 (search rules) c.loop-i.invariant.1 }
