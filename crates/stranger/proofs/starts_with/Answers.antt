-- `stranger::starts_with` meets its contract. Assumes nothing.
use mathlib.Core.Path.{◌∙◌, ap}
use mathlib.Core.Bool.{◌||◌}
use Rattle.terms.specs.Set.{mem}
use Rattle.stranger.specs.Moves.{free}
use Rattle.stranger.proofs.Starting.{free_by}
use Rattle.stranger.proofs.starts_with.Goals as goal

pub returns : goal.returns
returns c =
    let w = mem c.args.withheld.now c.args.t.0 in
    let is_free = free_by c.kind_at-kind.result w ∙ ap (λ k. free k w) c.kind_at-kind.ensures in
    rw (c.has.ensures, c.has-2.ensures, c.is.ensures, c.is-2.ensures, c.is_atom.ensures)
    (ap (λ b. mem c.args.sent.now c.args.t.0 || b) is_free)
