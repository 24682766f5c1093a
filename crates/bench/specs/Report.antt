-- What the buffer of the bench program holds when the report is made.
use Rattle.std.specs.Prelude.{◌≡◌, List, ℕ, length}
use Rattle.model.specs.Report.{Reports}
use Rattle.lines.specs.Written.{Put}

-- the report on these bytes stands at the start of the buffer, and r is how many bytes it has; the program "lends the list 49,152
-- bytes"
pub record Reported (bytes lent before after : List ℕ) (r : ℕ) : Type 0 where
  pub lends : length lent ≡ 49152
  pub text : List ℕ
  pub reports : Reports bytes lent text
  pub put : Put before 0 text after r
