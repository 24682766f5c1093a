-- What rests on a computation: the decision procedures, the verdict and the answers. What contracts cite stands in specs/.
-- The least set that rules close, decided; and what is decided by it.
pub mod Rules
pub mod Reach
pub mod Carrying
pub mod Occurring
pub mod Precedence
-- Skeletons: precedence, origins and first appearances, what is derivable before a reception, refusals 10 to 14.
pub mod OnTable
pub mod Origins
pub mod Appearing
pub mod Realizing
pub mod Printed
pub mod Faults
-- Strand maps: the rules decided, the list.
pub mod MapTests
-- From bytes to a verdict: there is one and no second, and what an accepted sheet is.
pub mod Judgement
pub mod Verdicts
pub mod FirstBytes
-- The questions: exactly one answer to each, the agreement, and how large the numbers of an answer are.
pub mod Answering
pub mod Listing
pub mod MapAnswers
pub mod TheSubstitution
pub mod Asking
pub mod Agreement
pub mod Pinned
pub mod Alone
pub mod Sizes
