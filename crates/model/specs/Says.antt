-- What each answer of the code says, in the paper's numbers and values. The promises of the public functions use these
-- definitions.
use Rattle.std.specs.Prelude.{Bool, ℕ, Option, None, Some, Result, Ok, Err}
use Rattle.terms.specs.declared.Node.{Node}
use Rattle.model.specs.declared.Reason.{Reason}
use Rattle.model.specs.declared.Refusal.{Refusal}
use Rattle.model.specs.declared.Counts.{Counts as CodeCounts}
use Rattle.model.specs.declared.Rule.{Rule}
use Rattle.model.specs.Skeleton as Skeleton
use Rattle.model.specs.Sheet as Sheet
use Rattle.model.specs.Answers.{Answer, refused, answered, Counts, Openness, realized, open_at, Mapping, is_map, breaks}

unfoldable pub node_of : Node → Skeleton.Node
node_of n = record { strand = n.strand.0; position = n.position }

-- "1 to 16"
abbrev pub number_of : Reason → ℕ
number_of Reason.CutShort = 1
number_of Reason.UnknownMark = 2
number_of Reason.UnknownEdition = 3
number_of Reason.OutOfBounds = 4
number_of Reason.WrongTerm = 5
number_of Reason.TermTwice = 6
number_of Reason.WrongReference = 7
number_of Reason.BytesAfterEnd = 8
number_of Reason.KeyWithoutInverse = 9
number_of Reason.Cycle = 10
number_of Reason.NonCarried = 11
number_of Reason.NoSingleOrigin = 12
number_of Reason.HeardBeforeOrigin = 13
number_of Reason.VariableMissing = 14
number_of Reason.NoSuch = 15
number_of Reason.NoRoom = 16

unfoldable pub refusal_of : Refusal → Sheet.Refusal
refusal_of r = record { number = number_of r.reason; place = r.place; skeleton = r.skeleton }

-- the rules "in order: (1) .. (6)"
abbrev pub rule_number : Rule → ℕ
rule_number Rule.Strands = 1
rule_number Rule.Events = 2
rule_number Rule.Messages = 3
rule_number Rule.Order = 4
rule_number Rule.Nons = 5
rule_number Rule.Uniqs = 6

-- an answer of the code says a value or a refusal
abbrev pub says : {A B : Type 0} → (A → B) → Result A Refusal → Answer B
says value (Ok a) = answered (value a)
says value (Err r) = refused (refusal_of r)

unfoldable pub counts_of : CodeCounts → Counts
counts_of c = record { terms = c.terms; skeletons = c.skeletons }

unfoldable pub sheet_says : Result CodeCounts Refusal → Answer Counts
unfolding refusal_of counts_of
sheet_says = says counts_of

unfoldable pub yes_no_says : Result Bool Refusal → Answer Bool
unfolding refusal_of
yes_no_says = says (λ b. b)

unfoldable pub reach_says : Result ℕ Refusal → Answer ℕ
unfolding refusal_of
reach_says = says (λ count. count)

-- no open reception, or the first
unfoldable pub openness_of : Option Node → Openness
unfolding node_of
openness_of None = realized
openness_of (Some n) = open_at (node_of n)

unfoldable pub realized_says : Result (Option Node) Refusal → Answer Openness
unfolding refusal_of openness_of
realized_says = says openness_of

-- no broken rule, or the first
unfoldable pub mapping_of : Option Rule → Mapping
mapping_of None = is_map
mapping_of (Some rule) = breaks (rule_number rule)

unfoldable pub map_says : Result (Option Rule) Refusal → Answer Mapping
unfolding refusal_of mapping_of
map_says = says mapping_of

unfoldable pub list_says : Result ℕ Refusal → Answer ℕ
unfolding refusal_of
list_says = says (λ count. count)
