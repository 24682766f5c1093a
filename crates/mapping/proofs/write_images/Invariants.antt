use mathlib.Core.Path.{◌≡◌}
use Rattle.model.specs.Lists.{upto}
use Rattle.model.specs.Answers.{over}
use Rattle.mapping.specs.Written.{shown}
use Rattle.mapping.proofs.write_images.Given as goal

abbrev pub invariant-loop-i : goal.invariant-loop-i
invariant-loop-i l = l.lent ≡ over (upto l.i (shown l.variables l.images)) l.initial.lent
