-- `terms::TermSet::minus` meets its contract.
use borrow.Author.Rules.{rules}
use Rattle.terms.proofs.Words.{members_minus}
use Rattle.terms.proofs.TermSet.minus.Goals as goal

pub returns : goal.returns
returns c = members_minus (search rules) (search rules) (search rules) (record { made = λ i l. search rules }) (λ i. search rules)
