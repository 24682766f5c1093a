-- `stranger::Means::move_all` meets its contract. Assumes nothing.
use mathlib.Core.Path.{◌≡◌}
use native.Mathlib.Omega.{arith}
use Prim.Native.Nat.{zero-le}
use Rattle.tables.specs.Layout.{term_count}
use Rattle.tables.specs.Tables.{byte}
use Rattle.stranger.specs.Moves.{moves_at}
use Rattle.stranger.proofs.Steps.{step_none, none_between, step_append, step_up}
use Rattle.stranger.proofs.Means.move_all.Goals as goal

pub loop-i-init : goal.loop-i-init
loop-i-init c = step_none _ none_between

pub loop-i-preserved : goal.loop-i-preserved
unfolding moves_at
loop-i-preserved c = step_up zero-le c.loop-i.invariant (step_append c.build.ensures c.open.ensures)

pub returns : goal.returns
returns c =
    let all : c.loop-i.i ≡ byte c.args.self.table.now term_count = omega (arith, c.terms_in-i-end.ensures) in
    rw all at c.loop-i.invariant
