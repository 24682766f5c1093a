-- What is known of two skeletons and of an accepted table are facts: each has one proof at most.
use Rattle.std.specs.Prelude.{List, ℕ}
use Rattle.std.proofs.Props.{props}
use Rattle.tables.specs.Tables.{rows_in, Filled}
use Rattle.tables.specs.Drawn.{Drawn}
use Rattle.tables.specs.Props.{Drawn-prop, Good-prop}
use Rattle.theory.specs.GoodTable.{Good}
use Rattle.keys.specs.Inverted.{Inverted}
use Rattle.matching.specs.Ready.{Ready}

pub Both-prop : (t : List ℕ) (a b : ℕ) → IsProp (Drawn t a × Drawn t b)
Both-prop t a b = hlevel (props, Drawn-prop)

pub Ready-prop : (t inverses : List ℕ) → IsProp (Ready t inverses)
Ready-prop t inverses x y =
    let filled : IsProp (Filled t) = hlevel props in
    let good : IsProp (Good (rows_in t)) = Good-prop (rows_in t) in
    let inverted : IsProp (Inverted (rows_in t) inverses) = hlevel props in
    λ k. record {
      filled = filled x.filled y.filled k;
      good = good x.good y.good k;
      inverted = inverted x.inverted y.inverted k;
    }
