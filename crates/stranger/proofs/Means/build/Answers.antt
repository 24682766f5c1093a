-- `stranger::Means::build` meets its contract: each kind's rule is followed. Assumes nothing.
use mathlib.Core.Logic.{⊎_elim}
use Rattle.stranger.specs.Moves.{builds}
use Rattle.stranger.proofs.Steps.{step_none, no_rule}
use Rattle.stranger.proofs.Tables.{builds_read, builds_none}
use Rattle.stranger.proofs.Means.build.Goals as goal

pub returns-in-Pair : goal.returns-in-Pair
unfolding builds
returns-in-Pair c =
    rw (builds_read _ _ _ c.kind_at.ensures c.first_at.ensures c.second_at.ensures)
    (⊎_elim (λ e. rw e c.follow.ensures) (λ e. rw e c.follow.ensures) c.in-Pair.is)

pub returns-in-Hash : goal.returns-in-Hash
unfolding builds
returns-in-Hash c =
    rw (builds_read _ _ _ c.kind_at.ensures c.first_at.ensures c.second_at.ensures, c.in-Hash.is) c.follow-in-Hash.ensures

pub returns-in_default : goal.returns-in_default
returns-in_default c =
    let d = c.in_default in
    rw (builds_read _ _ _ c.kind_at.ensures c.first_at.ensures c.second_at.ensures, builds_none _ d.not-Pair d.not-Encryption d.not-Hash)
    (step_none _ no_rule)
