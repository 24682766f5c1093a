-- `tables::rows::kind_at` meets its contract. Assumes nothing.
use Rattle.tables.proofs.Look.{kind_low}
use Rattle.tables.proofs.rows.kind_at.Goals as goal

pub numbered-requires : goal.numbered-requires
numbered-requires c = rw c.from.ensures (kind_low _ _ c.requires.0 c.requires.1)
