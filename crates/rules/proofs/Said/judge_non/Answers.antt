-- `rules::Said::judge_non` meets its contract: 14 where it is missing, 11 where it is carried. Assumes nothing.
use mathlib.Core.Path.{sym, ◌∙◌}
use Rattle.rules.specs.Judged.{NonAs}
use Rattle.rules.proofs.NonRules.{non_carried, non_fine}
use Rattle.rules.proofs.Said.judge_non.Goals as goal

pub returns-then-is_missing : goal.returns-then-is_missing
returns-then-is_missing c = NonAs.missing (c.is_missing.ensures.0 c.if-is_missing.true)

pub returns-then-has : goal.returns-then-has
returns-then-has c =
    non_carried c.args.self.now.skeleton.drawn c.requires.heard _ c.requires.term_bound (sym c.has.ensures ∙ c.if-has.true)

pub returns : goal.returns
returns c =
    non_fine c.args.self.now.skeleton.drawn c.requires.heard _ c.requires.term_bound c.is_missing.ensures c.if-is_missing.false
    (sym c.has.ensures ∙ c.if-has.false)
