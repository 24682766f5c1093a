-- `rules::Said::is_missing` meets its contract: some part of it is a variable, and unheard. Assumes nothing.
use Rattle.rules.proofs.NonRules.{missing_iff}
use Rattle.rules.proofs.Said.is_missing.Goals as goal

pub returns : goal.returns
returns c =
    missing_iff c.args.self.now.skeleton.drawn c.requires.heard _ c.requires.term_bound _ _ _ _ _ c.one.ensures
    c.parts_below-parts.ensures
    c.common.ensures c.minus.ensures c.is_empty.ensures
