-- `stranger::Means::open` meets its contract: each kind's rules are followed. The key of an encryption is an earlier term.
-- Assumes nothing.
use mathlib.Core.Path.{sym}
use native.Mathlib.Omega.{arith}
use Rattle.stranger.specs.Moves.{opens}
use Rattle.stranger.proofs.Steps.{step_none, step_append, no_rule}
use Rattle.stranger.proofs.Tables.{opens_read, opens_none, key_earlier}
use Rattle.stranger.proofs.Means.open.Goals as goal

pub inverse-opener-requires : goal.inverse-opener-requires
inverse-opener-requires c =
    let s = c.args.self in
    let earlier = key_earlier s.filled s.good c.requires (sym (rw c.in-Encryption.is at c.kind_at.ensures)) in
    omega (arith, c.second_at.ensures, s.filled.terms, earlier.second)

pub returns-in-Pair : goal.returns-in-Pair
unfolding opens
returns-in-Pair c =
    rw (opens_read _ _ _ c.kind_at.ensures c.first_at.ensures c.second_at.ensures c.args.self.inverses.now.of, c.in-Pair.is)
    (step_append c.follow.ensures c.follow-in-Pair.ensures)

pub returns-in-Encryption : goal.returns-in-Encryption
unfolding opens
returns-in-Encryption c =
    rw (
      opens_read _ _ _ c.kind_at.ensures c.first_at.ensures c.second_at.ensures c.args.self.inverses.now.of,
      c.in-Encryption.is,
      ← c.inverse-opener.ensures,
    ) c.follow-in-Encryption.ensures

pub returns-in_default : goal.returns-in_default
returns-in_default c =
    let d = c.in_default in
    rw (
      opens_read _ _ _ c.kind_at.ensures c.first_at.ensures c.second_at.ensures c.args.self.inverses.now.of,
      opens_none _ d.not-Pair d.not-Encryption,
    ) (step_none _ no_rule)
