-- `terms::put_bit` meets its contract: the word of k gets k's bit.
use borrow.Author.Rules.{rules}
use Rattle.terms.proofs.Words.{member-with}
use Rattle.terms.proofs.put_bit.Goals as goal

pub returns : goal.returns
returns c = record { at = λ k. member-with _ _ k (search rules) }
