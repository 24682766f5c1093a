-- The marks of the code are those of the definition.
use Rattle.std.specs.Prelude as Std
use Rattle.std.proofs.Math.Option.{Option, none, some}
use Rattle.model.specs.Reading as Reading
use Rattle.records.specs.declared.marks.Mark.{Mark}

abbrev pub mark : Mark → Reading.Mark
mark Mark.BS = Reading.BS
mark Mark.TM = Reading.TM
mark Mark.SK = Reading.SK
mark Mark.ST = Reading.ST
mark Mark.OR = Reading.OR
mark Mark.NO = Reading.NO
mark Mark.UO = Reading.UO
mark Mark.EN = Reading.EN

-- the mark that is read, if there is one
abbrev pub last_of : Std.Option Mark → Option Reading.Mark
last_of Std.None = none
last_of (Std.Some m) = some (mark m)
