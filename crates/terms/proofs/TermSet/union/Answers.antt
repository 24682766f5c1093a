-- `terms::TermSet::union` meets its contract.
use borrow.Author.Rules.{rules}
use Rattle.terms.proofs.Words.{members_union}
use Rattle.terms.proofs.TermSet.union.Goals as goal

pub returns : goal.returns
returns c = members_union (search rules) (search rules) (search rules) (record { made = λ i l. search rules })
