-- What each answer of the code says, and that no two say the same.
use Rattle.std.specs.Prelude.{◌≡◌, refl, Bool, true, false, ℕ, ◌-◌, List, [], ◌∷◌, get_or, map, Option, None, Some, Result, Ok, Err}
use Rattle.std.proofs.Common.{ap, sym as back, ◌∙◌, arith}
use Rattle.terms.specs.declared.Node.{Node}
use Rattle.model.specs.declared.Reason.{Reason}
use Rattle.model.specs.declared.Refusal.{Refusal}
use Rattle.model.specs.declared.Counts.{Counts as CodeCounts}
use Rattle.model.specs.declared.Rule.{Rule}
use Rattle.model.specs.Sheet as Sheet
use Rattle.model.specs.Answers.{Answer, answered, refused, realized, open_at, is_map, breaks}
use Rattle.model.specs.Says.{node_of, number_of, refusal_of, rule_number, says, counts_of, openness_of, mapping_of, sheet_says, yes_no_says, reach_says, realized_says, map_says, list_says}

-- the paper's numbers and values, each in its place
pub sheet_values : (t k : ℕ) (r : Refusal)
    → (sheet_says (Ok (record { terms = t; skeletons = k })) ≡ answered (record { terms = t; skeletons = k }))
    × (sheet_says (Err r) ≡ refused (record { number = number_of r.reason; place = r.place; skeleton = r.skeleton }))
unfolding sheet_says
sheet_values t k r = (refl, refl)

pub yes_no_values : (r : Refusal) → (yes_no_says (Ok true) ≡ answered true) × (yes_no_says (Ok false) ≡ answered false)
    × (yes_no_says (Err r) ≡ refused (record { number = number_of r.reason; place = r.place; skeleton = r.skeleton }))
unfolding yes_no_says
yes_no_values r = (refl, refl, refl)

pub reach_values : (n : ℕ) (r : Refusal) → (reach_says (Ok n) ≡ answered n)
    × (reach_says (Err r) ≡ refused (record { number = number_of r.reason; place = r.place; skeleton = r.skeleton }))
unfolding reach_says
reach_values n r = (refl, refl)

pub realized_values : (n : Node) (r : Refusal) → (realized_says (Ok None) ≡ answered realized)
    × (realized_says (Ok (Some n)) ≡ answered (open_at (record { strand = n.strand.0; position = n.position })))
    × (realized_says (Err r) ≡ refused (record { number = number_of r.reason; place = r.place; skeleton = r.skeleton }))
unfolding realized_says
realized_values n r = (refl, refl, refl)

pub map_values : (k : Rule) (r : Refusal) → (map_says (Ok None) ≡ answered is_map)
    × (map_says (Ok (Some k)) ≡ answered (breaks (rule_number k)))
    × (map_says (Err r) ≡ refused (record { number = number_of r.reason; place = r.place; skeleton = r.skeleton }))
unfolding map_says
map_values k r = (refl, refl, refl)

pub list_values : (n : ℕ) (r : Refusal) → (list_says (Ok n) ≡ answered n)
    × (list_says (Err r) ≡ refused (record { number = number_of r.reason; place = r.place; skeleton = r.skeleton }))
unfolding list_says
list_values n r = (refl, refl)

-- the sixteen refusals, in order from 1
abbrev pub reasons : List Reason
reasons =
    Reason.CutShort ∷ Reason.UnknownMark ∷ Reason.UnknownEdition ∷ Reason.OutOfBounds ∷ Reason.WrongTerm ∷ Reason.TermTwice
    ∷ Reason.WrongReference ∷ Reason.BytesAfterEnd ∷ Reason.KeyWithoutInverse ∷ Reason.Cycle ∷ Reason.NonCarried
    ∷ Reason.NoSingleOrigin ∷ Reason.HeardBeforeOrigin ∷ Reason.VariableMissing ∷ Reason.NoSuch ∷ Reason.NoRoom ∷ []

pub number_values : map number_of reasons ≡ 1 ∷ 2 ∷ 3 ∷ 4 ∷ 5 ∷ 6 ∷ 7 ∷ 8 ∷ 9 ∷ 10 ∷ 11 ∷ 12 ∷ 13 ∷ 14 ∷ 15 ∷ 16 ∷ []
number_values = refl

reason_at : (r : Reason) → get_or reasons (number_of r - 1) Reason.NoRoom ≡ r
reason_at Reason.CutShort = refl
reason_at Reason.UnknownMark = refl
reason_at Reason.UnknownEdition = refl
reason_at Reason.OutOfBounds = refl
reason_at Reason.WrongTerm = refl
reason_at Reason.TermTwice = refl
reason_at Reason.WrongReference = refl
reason_at Reason.BytesAfterEnd = refl
reason_at Reason.KeyWithoutInverse = refl
reason_at Reason.Cycle = refl
reason_at Reason.NonCarried = refl
reason_at Reason.NoSingleOrigin = refl
reason_at Reason.HeardBeforeOrigin = refl
reason_at Reason.VariableMissing = refl
reason_at Reason.NoSuch = refl
reason_at Reason.NoRoom = refl

-- the six rules, in order from 1
abbrev pub rules : List Rule
rules = Rule.Strands ∷ Rule.Events ∷ Rule.Messages ∷ Rule.Order ∷ Rule.Nons ∷ Rule.Uniqs ∷ []

pub rule_values : map rule_number rules ≡ 1 ∷ 2 ∷ 3 ∷ 4 ∷ 5 ∷ 6 ∷ []
rule_values = refl

rule_at : (k : Rule) → get_or rules (rule_number k - 1) Rule.Uniqs ≡ k
rule_at Rule.Strands = refl
rule_at Rule.Events = refl
rule_at Rule.Messages = refl
rule_at Rule.Order = refl
rule_at Rule.Nons = refl
rule_at Rule.Uniqs = refl

-- a number says one reason, and one rule
reason_one : (r q : Reason) → number_of r ≡ number_of q → r ≡ q
reason_one r q e = back (reason_at r) ∙ ap (λ n. get_or reasons (n - 1) Reason.NoRoom) e ∙ reason_at q

rule_one : (j k : Rule) → rule_number j ≡ rule_number k → j ≡ k
rule_one j k e = back (rule_at j) ∙ ap (λ n. get_or rules (n - 1) Rule.Uniqs) e ∙ rule_at k

refusal_one : (r q : Refusal) → refusal_of r ≡ refusal_of q → r ≡ q
unfolding refusal_of
refusal_one r q e =
    let n : r.reason ≡ q.reason = reason_one r.reason q.reason (ap (λ x. x.number) e) in
    let p : r.place ≡ q.place = ap (λ x. x.place) e in
    let k : r.skeleton ≡ q.skeleton = ap (λ x. x.skeleton) e in
    λ i. record { reason = n i; place = p i; skeleton = k i }

-- an answer is no refusal
apart : {A C : Type 0} {x : A} {r : Sheet.Refusal} → ◌≡◌ {A = Answer A} (answered x) (refused r) → C
apart e = let z : ◌≡◌ {A = ℕ} 0 1 = cc in absurd (omega arith)

-- where no two values say the same, no two answers do
says_one : {A B : Type 0} (value : A → B) → ((x y : A) → value x ≡ value y → x ≡ y) → (a b : Result A Refusal)
    → says value a ≡ says value b
    → a ≡ b
says_one value one (Ok x) (Ok y) e = let z : value x ≡ value y = cc in ap Ok (one x y z)
says_one value one (Ok x) (Err q) e = apart e
says_one value one (Err r) (Ok y) e = apart (back e)
says_one value one (Err r) (Err q) e = let z : refusal_of r ≡ refusal_of q = cc in ap Err (refusal_one r q z)

counts_one : (c d : CodeCounts) → counts_of c ≡ counts_of d → c ≡ d
unfolding counts_of
counts_one c d e =
    let t : c.terms ≡ d.terms = ap (λ x. x.terms) e in
    let k : c.skeletons ≡ d.skeletons = ap (λ x. x.skeletons) e in
    λ i. record { terms = t i; skeletons = k i }

pub sheet_says_one : (a b : Result CodeCounts Refusal) → sheet_says a ≡ sheet_says b → a ≡ b
unfolding sheet_says
sheet_says_one = says_one counts_of counts_one

pub yes_no_says_one : (a b : Result Bool Refusal) → yes_no_says a ≡ yes_no_says b → a ≡ b
unfolding yes_no_says
yes_no_says_one = says_one (λ b. b) (λ b c e. e)

pub reach_says_one : (a b : Result ℕ Refusal) → reach_says a ≡ reach_says b → a ≡ b
unfolding reach_says
reach_says_one = says_one (λ n. n) (λ m n e. e)

node_one : (m n : Node) → node_of m ≡ node_of n → m ≡ n
unfolding node_of
node_one m n e =
    let s : m.strand.0 ≡ n.strand.0 = ap (λ x. x.strand) e in
    let p : m.position ≡ n.position = ap (λ x. x.position) e in
    λ i. record { strand = record { 0 = s i }; position = p i }

openness_one : (m n : Option Node) → openness_of m ≡ openness_of n → m ≡ n
unfolding openness_of
openness_one None None e = refl
openness_one None (Some n) e = let z : ◌≡◌ {A = ℕ} 0 1 = cc in absurd (omega arith)
openness_one (Some m) None e = let z : ◌≡◌ {A = ℕ} 0 1 = cc in absurd (omega arith)
openness_one (Some m) (Some n) e = let z : node_of m ≡ node_of n = cc in ap Some (node_one m n z)

pub realized_says_one : (a b : Result (Option Node) Refusal) → realized_says a ≡ realized_says b → a ≡ b
unfolding realized_says
realized_says_one = says_one openness_of openness_one

mapping_one : (j k : Option Rule) → mapping_of j ≡ mapping_of k → j ≡ k
unfolding mapping_of
mapping_one None None e = refl
mapping_one None (Some k) e = let z : ◌≡◌ {A = ℕ} 0 1 = cc in absurd (omega arith)
mapping_one (Some j) None e = let z : ◌≡◌ {A = ℕ} 0 1 = cc in absurd (omega arith)
mapping_one (Some j) (Some k) e = let z : rule_number j ≡ rule_number k = cc in ap Some (rule_one j k z)

pub map_says_one : (a b : Result (Option Rule) Refusal) → map_says a ≡ map_says b → a ≡ b
unfolding map_says
map_says_one = says_one mapping_of mapping_one

pub list_says_one : (a b : Result ℕ Refusal) → list_says a ≡ list_says b → a ≡ b
unfolding list_says
list_says_one = says_one (λ n. n) (λ m n e. e)
