-- A refused sheet gives its refusal to every question; an accepted one gives what the question says. Assumes nothing.
use mathlib.Core.Path.{◌≡◌, refl, ◌∙◌, sym as back}
use mathlib.Core.List.{List, []}
use Prim.Native.Nat.{ℕ, ◌≤◌}
use Rattle.std.specs.Prelude.{Option, None, Some, Result, Ok, Err, IsErrAnd, MatchOption}
use Rattle.terms.specs.declared.Node.{Node as CodeNode}
use Rattle.model.specs.declared.Refusal.{Refusal}
use Rattle.model.specs.declared.Counts.{Counts as CodeCounts}
use Rattle.model.specs.declared.Rule.{Rule}
use Rattle.model.specs.Sheet.{Sheet, Verdict}
use Rattle.model.specs.Judging.{HasVerdict}
use Rattle.model.specs.Answers.{Answer, answered, Asked, bad_sheet, said, Gives, AskSheet}
use Rattle.model.specs.Says.{node_of, refusal_of, rule_number, says, counts_of, openness_of, mapping_of}
use Rattle.theory.specs.Upto.{length-upto}
use Rattle.theory.proofs.Sizes.{LowRefusal, verdict_low, LowAnswer, low_refusal, low_answer, LowCounts, LowOpenness, low_open, LowMapping, low_rule}
use Rattle.tables.specs.Tables.{byte, row_at, rows_of, skeleton_in, sheet_in}
use Rattle.accept.specs.Held.{Held}
use Rattle.judge.specs.Small.{SmallRefusal, Small}

low_refused : (r : Refusal) → LowRefusal (refusal_of r) → SmallRefusal r
unfolding refusal_of
low_refused r l = (l.number, l.place, l.skeleton)

-- the sheet's refusal, whatever is asked
pub refuses : {A V X : Type 0} {Subject : Sheet → X → Type 0} {Room : X → Type 0} {Says : X → V → List ℕ → Type 0}
    {lent bytes : List ℕ} (value : A → V) (SmallValue : A → Type 0) (e : Refusal)
    → HasVerdict bytes (Verdict.refused (refusal_of e))
    → (a : Result A Refusal)
    → IsErrAnd a (λ r. r ≡ e)
    → Gives bytes (Asked Subject Room Says lent) (says value a) lent × Small SmallValue a
refuses value SmallValue e h (Ok x) i = absurd i
refuses {bytes = bytes} value SmallValue e h (Err r) i =
    let v : HasVerdict bytes (Verdict.refused (refusal_of r)) = rw i h in
    (record { verdict = _; judged = v; is = bad_sheet }, low_refused r (verdict_low v))

-- an answer about the accepted sheet; how large its numbers are follows from what it says
pub answers : {A V : Type 0} {Question : Verdict → Answer V → List ℕ → Type 0} {Low : V → Type 0}
    {bytes t inverses after : List ℕ} (value : A → V) (SmallValue : A → Type 0)
    → ((a : Answer V) (l : List ℕ) → Gives bytes Question a l → LowAnswer Low a)
    → ((x : A) → Low (value x) → SmallValue x)
    → Held bytes t inverses
    → (a : Result A Refusal)
    → Question (Verdict.accepted (sheet_in t)) (says value a) after
    → Gives bytes Question (says value a) after × Small SmallValue a
answers {A} {V} {Question} {Low} {bytes} {t = t} {after = after} value SmallValue low small h a q =
    let g : Gives bytes Question (says value a) after =
    record { verdict = Verdict.accepted (sheet_in t); judged = h.verdict; is = q } in
    (g, go a (low _ _ g))
  where
    go : (a : Result A Refusal) → LowAnswer Low (says value a) → Small SmallValue a
    go (Ok x) (low_answer l) = small x l
    go (Err r) (low_refusal l) = low_refused r l

pub sheet_counts : (t : List ℕ) (m n : ℕ) → m ≡ byte t 600 → n ≡ byte t 601
    → AskSheet (Verdict.accepted (sheet_in t)) (answered (record { terms = m; skeletons = n })) []
unfolding AskSheet sheet_in rows_of
sheet_counts t m n p q =
    said (record { same = refl }) tt (record {
      terms = p ∙ back (length-upto (byte t 600) (row_at t));
      skeletons = q ∙ back (length-upto (byte t 601) (skeleton_in t));
      kept = refl;
    })

-- How large a value is

pub counts_small : (c : CodeCounts) → LowCounts (counts_of c) → (c.terms ≤ 200) × (c.skeletons ≤ 2)
unfolding counts_of
counts_small c l = (l.terms, l.skeletons)

pub openness_small : (o : Option CodeNode) → LowOpenness (openness_of o)
    → MatchOption o (Unit {0}) (λ n. (n.strand.0 ≤ 5) × (n.position ≤ 15))
unfolding openness_of node_of
openness_small None l = tt
openness_small (Some n) (low_open l) = (l.strand, l.position)

pub mapping_small : (o : Option Rule) → LowMapping (mapping_of o)
    → MatchOption o (Unit {0}) (λ rule. (1 ≤ rule_number rule) × (rule_number rule ≤ 6))
unfolding mapping_of
mapping_small None l = tt
mapping_small (Some rule) (low_rule h l) = (h, l)
