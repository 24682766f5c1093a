-- The two ways from a term down to its arguments: to all that occur in it, and to those that it carries.
use Rattle.std.specs.Prelude.{Bool, ◌&&◌, ◌||◌, List, ℕ, eqb, leb}
use Rattle.terms.specs.declared.TermSet.{TermSet}
use Rattle.model.specs.Table.{Row}
use Rattle.carry.specs.declared.Way.{Way}
use Rattle.carry.specs.Next.{is_part, is_carried}
use Rattle.carry.specs.Sets.{IsParts, IsCarried}

-- whether the way goes from a term of the kind k to its first, or second, argument
abbrev pub to_first : Way → ℕ → Bool
to_first Way.Parts k = leb 7 k
to_first Way.Carried k = eqb k 10 || eqb k 11

abbrev pub to_second : Way → ℕ → Bool
to_second Way.Parts k = leb 9 k && leb k 11
to_second Way.Carried k = eqb k 10

-- the arguments on the way
abbrev pub argument : Way → Row → ℕ → Bool
argument Way.Parts = is_part
argument Way.Carried = is_carried

-- the set has the terms that the way reaches from members of `start`
abbrev pub Below : Way → List Row → TermSet → TermSet → Type 0
Below Way.Parts = IsParts
Below Way.Carried = IsCarried
