-- `tables::blocks::atoms_from` meets its contract: the loop's set has the atoms that were passed. Assumes nothing.
use Rattle.std.proofs.Common.{◌≡◌, ◌+◌, ◌-◌, ◌<◌, rules}
use Rattle.std.proofs.lemmas.List.{get_or-take, get_or-drop}
use Rattle.tables.proofs.Listed.{atoms_none, atoms_more}
use Rattle.tables.proofs.blocks.atoms_from.Goals as goal

pub loop-atom-init : goal.loop-atom-init
loop-atom-init c = atoms_none _ _

pub loop-atom-preserved : goal.loop-atom-preserved
loop-atom-preserved c =
    let at = c.args.at in
    let inside : c.loop-atom.atom-index < at + c.from.result - at = search rules in
    let made = rw (get_or-take _ _ _ _ inside, get_or-drop) at c.insert.ensures.at in
    atoms_more c.args.table.now at c.loop-atom.atom-index c.loop-atom.invariant made

pub returns : goal.returns
returns c =
    let end : c.loop-atom.atom-index ≡ c.args.count = search rules in
    rw end at c.loop-atom.invariant
