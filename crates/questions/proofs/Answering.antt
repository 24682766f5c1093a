-- From what the code finds to what is asked, at the verdict on an accepted sheet. Assumes nothing.
use mathlib.Core.Path.{◌≡◌, refl, sym}
use mathlib.Core.Bool.{Bool, true, false, true≢false}
use mathlib.Core.List.{List, []}
use mathlib.Core.Logic.{◌↔◌}
use Prim.Native.Nat.{ℕ}
use Rattle.std.specs.Prelude.{Option, Ok}
use Rattle.model.specs.declared.Refusal.{Refusal}
use Rattle.terms.specs.declared.Node as Code
use Rattle.terms.specs.declared.TermSet.{TermSet}
use Rattle.terms.specs.Set.{mem}
use Rattle.model.specs.Skeleton.{Node}
use Rattle.model.specs.Table.{Row}
use Rattle.model.specs.Sheet.{Sheet, Verdict, Drawing, meant, HasSkeleton}
use Rattle.model.specs.Answers.{refused, refusal, Asked, no_such, said, HasTerms, AskWithin}
use Rattle.model.specs.Answers.{yes_realized, first_open, AskRealized}
use Rattle.model.specs.Answers.{HasReception, HasReceptionAndTerm, AskDerivable, ReachIs, AskReach}
use Rattle.model.specs.Says.{refusal_of, openness_of, yes_no_says, realized_says, reach_says}
use Rattle.carry.specs.Sets.{WithinLent}
use Rattle.realized.specs.Before.{IsReached}
use Rattle.realized.specs.Opening.{FirstOpenIs}
use Rattle.questions.specs.Subject.{Has, there, none}

-- Whether the sheet has it

pub is_there : {X : Type 0} {Subject : X → Type 0} {x : X} {b : Bool} → Has Subject x b → b ≡ true → Subject x
is_there (there h) e = h
is_there (none f) e = absurd (true≢false (sym e))

pub not_there : {X : Type 0} {Subject : X → Type 0} {x : X} {b : Bool} → Has Subject x b → b ≡ false → (y : X) → ¬ Subject y
not_there (there h) e = absurd (true≢false e)
not_there (none f) e = f

-- "15: no such skeleton, term, or reception asked for"
module _ {X A : Type 0} {Subject : Sheet → X → Type 0} {Room : X → Type 0} {Says : X → A → List ℕ → Type 0} {lent : List ℕ} where
  pub none_such : {s : Sheet} (r : Refusal) → ((x : X) → ¬ Subject s x) → refusal_of r ≡ refusal 15
      → Asked Subject Room Says lent (Verdict.accepted s) (refused (refusal_of r)) lent
  none_such r f is = rw is (no_such f)

-- Carried only within
pub within_said : {u v : ℕ} {S : List ℕ} {s : Sheet} {rows : List Row} {so : Bool} → HasTerms u v S s rows
    → (so ≡ true) ↔ WithinLent rows u v S
    → AskWithin u v S (Verdict.accepted s) (yes_no_says (Ok so)) S
unfolding AskWithin yes_no_says
within_said has tells = said has tt (record { tells = tells; kept = refl })

-- Realized
pub realized_said : {k : ℕ} {s : Sheet} {D : Drawing} {o : Option Code.Node} → HasSkeleton k s D → FirstOpenIs (meant D) o
    → AskRealized k (Verdict.accepted s) (realized_says (Ok o)) []
unfolding AskRealized realized_says openness_of
realized_said has (FirstOpenIs.none r) = said has tt (yes_realized r)
realized_said has (FirstOpenIs.first f) = said has tt (first_open f)

-- Derivable before
pub derivable_said : {k u : ℕ} {n : Node} {s : Sheet} {D : Drawing} {set : TermSet} → HasReceptionAndTerm k n u s D
    → IsReached D n set
    → AskDerivable k n u (Verdict.accepted s) (yes_no_says (Ok (mem set u))) []
unfolding AskDerivable yes_no_says
derivable_said {u} has reached =
    said has tt (record {
      tells = (λ m. ((reached.at u).0 m).1, λ d. (reached.at u).1 (has.a_term, d));
      kept = refl;
    })

-- Reach
pub reach_said : {k count : ℕ} {n : Node} {s : Sheet} {D : Drawing} → HasReception k n s D → ReachIs k n D count
    → AskReach k n (Verdict.accepted s) (reach_says (Ok count)) []
unfolding AskReach reach_says
reach_said has reach = said has tt (record { reach = reach; kept = refl })
