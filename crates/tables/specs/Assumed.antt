-- The two lists of atoms of a skeleton: those that never originate, and those that do so once.
use Rattle.std.specs.Prelude.{List, ℕ}
use Rattle.model.specs.Skeleton.{Skeleton}
use Rattle.model.specs.Reading.{with_non, with_uniq}
use Rattle.tables.specs.Layout.{non_count, uniq_count, nons, uniqs}
use Rattle.tables.specs.declared.blocks.Assumed.{Assumed}

abbrev pub assumed : Assumed → Skeleton ℕ → List ℕ
assumed Assumed.Non K = K.non
assumed Assumed.Uniq K = K.uniq

-- one atom more
abbrev pub with_atom : Assumed → Skeleton ℕ → ℕ → Skeleton ℕ
with_atom Assumed.Non K t = with_non K t
with_atom Assumed.Uniq K t = with_uniq K t

-- where in a block their count stands, and where they begin
abbrev pub count_place : Assumed → ℕ
count_place Assumed.Non = non_count
count_place Assumed.Uniq = uniq_count

abbrev pub atoms_place : Assumed → ℕ
atoms_place Assumed.Non = nons
atoms_place Assumed.Uniq = uniqs
