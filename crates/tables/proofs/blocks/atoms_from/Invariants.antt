use Rattle.terms.specs.Set.{IsSetOf}
use Rattle.tables.specs.Tables.{atoms_at}
use Rattle.tables.proofs.blocks.atoms_from.Given as goal

abbrev pub invariant-loop-atom : goal.invariant-loop-atom
invariant-loop-atom l = IsSetOf (atoms_at l.atom-index l.table l.at) l.set
