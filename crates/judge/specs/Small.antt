-- How large an answer's numbers are, by the paper's limits.
use Rattle.std.specs.Prelude.{Bool, ℕ, ◌≤◌, Option, MatchOption, Result, MatchResult}
use Rattle.terms.specs.declared.Node.{Node}
use Rattle.model.specs.declared.Refusal.{Refusal}
use Rattle.model.specs.declared.Counts.{Counts}
use Rattle.model.specs.declared.Rule.{Rule}
use Rattle.model.specs.Says.{number_of, rule_number}

-- one of the sixteen refusals; its place lies in the longest sheet, or at its end; one of at most two skeletons
abbrev pub SmallRefusal : Refusal → Type 0
SmallRefusal r = (number_of r.reason ≤ 16) × (r.place ≤ 2581) × (r.skeleton ≤ 1)

-- a small value, or such a refusal
abbrev pub Small : {A : Type 0} → (A → Type 0) → Result A Refusal → Type 0
Small SmallValue a = MatchResult a SmallValue SmallRefusal

-- "At most 200 terms", "one or two skeletons"
abbrev pub SmallSheet : Result Counts Refusal → Type 0
SmallSheet = Small (λ c. (c.terms ≤ 200) × (c.skeletons ≤ 2))

abbrev pub SmallYesNo : Result Bool Refusal → Type 0
SmallYesNo = Small (λ so. Unit {0})

-- no more than the sheet has terms
abbrev pub SmallReach : Result ℕ Refusal → Type 0
SmallReach = Small (λ count. count ≤ 200)

-- "6 strands, height 1 to 16", counted from 0
abbrev pub SmallRealized : Result (Option Node) Refusal → Type 0
SmallRealized = Small (λ first. MatchOption first (Unit {0}) (λ n. (n.strand.0 ≤ 5) × (n.position ≤ 15)))

-- one of the six rules
abbrev pub SmallMap : Result (Option Rule) Refusal → Type 0
SmallMap = Small (λ broken. MatchOption broken (Unit {0}) (λ rule. (1 ≤ rule_number rule) × (rule_number rule ≤ 6)))

-- six to the sixth: each of at most 6 strands goes to one of at most 6
abbrev pub SmallList : Result ℕ Refusal → Type 0
SmallList = Small (λ count. count ≤ 46656)
