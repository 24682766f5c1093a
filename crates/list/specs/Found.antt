-- The candidates that are marked.
use Rattle.std.specs.Prelude.{Bool, ℕ}
use Rattle.terms.specs.Set.{member}
use Rattle.list.specs.declared.Found.{Found}

-- candidate c is marked where bit c % 64 of word c / 64 is set
abbrev pub marked : Found → ℕ → Bool
marked found c = member found.words c
