-- `terms::TermSet::common` meets its contract.
use borrow.Author.Rules.{rules}
use Rattle.terms.proofs.Words.{members_common}
use Rattle.terms.proofs.TermSet.common.Goals as goal

pub returns : goal.returns
returns c = members_common (search rules) (search rules) (search rules) (record { made = λ i l. search rules })
