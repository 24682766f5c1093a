-- Two accepted sheets with the same terms and the same skeleton 0 answer alike about skeleton 0.
use Rattle.std.specs.Prelude.{List, [], ℕ}
use Rattle.std.proofs.Common.{◌∙◌, sym as back}
use Rattle.model.specs.Table.{Row}
use Rattle.model.specs.Skeleton.{Node}
use Rattle.model.specs.Sheet.{Sheet, Verdict, Drawing, HasSkeleton}
use Rattle.model.specs.Answers.{Answer, Asked, no_such, too_short, said, Always, HasTerms, SaysWithin, AskWithin, HasReception, HasReceptionAndTerm, SaysDerivable, AskDerivable, SaysReach, AskReach, SaysRealized, AskRealized, HasSkeletons, ImageRoom, SaysMap, AskMap, ListRoom, SaysList, AskList}
use Rattle.theory.specs.Agreement.{Alike, about, Agree}

-- a question asks only about its subject
module _ {X A : Type 0} (Subject : Sheet → X → Type 0) (Room : X → Type 0) (Says : X → A → List ℕ → Type 0) (lent : List ℕ)
    (s s' : Sheet)
    (there : (x : X) → Subject s x → Subject s' x) (back_again : (x : X) → Subject s' x → Subject s x) where
  asked_alike : {a : Answer A} {l : List ℕ} → Asked Subject Room Says lent (Verdict.accepted s) a l
      → Asked Subject Room Says lent (Verdict.accepted s') a l
  asked_alike (no_such h) = no_such (λ x k. h x (back_again x k))
  asked_alike (too_short {x} h r) = too_short (there x h) r
  asked_alike (said {x} h r p) = said (there x h) r p

pub alike_back : {s s' : Sheet} → Alike s s' → Alike s' s
alike_back h = record { rows = back h.rows; skeleton = back h.skeleton }

skeleton_there : {s s' : Sheet} → Alike s s' → {D : Drawing} → HasSkeleton about s D → HasSkeleton about s' D
skeleton_there h k = record { rows = back h.rows ∙ k.rows; skeleton = back h.skeleton ∙ k.skeleton }

terms_there : (t t' : ℕ) (S : List ℕ) {s s' : Sheet} → Alike s s' → {rows : List Row} → HasTerms t t' S s rows
    → HasTerms t t' S s' rows
terms_there t t' S h k = record { rows_of = back h.rows ∙ k.rows_of; first = k.first; second = k.second; all = k.all }

reception_there : (n : Node) {s s' : Sheet} → Alike s s' → {D : Drawing} → HasReception about n s D → HasReception about n s' D
reception_there n h k = record { drawing = skeleton_there h k.drawing; message = k.message; at = k.at }

reception_and_term_there : (n : Node) (t : ℕ) {s s' : Sheet} → Alike s s' → {D : Drawing} → HasReceptionAndTerm about n t s D
    → HasReceptionAndTerm about n t s' D
reception_and_term_there n t h k = record { reception = reception_there n h k.reception; a_term = k.a_term }

skeletons_there : {s s' : Sheet} → Alike s s' → {x : Drawing × Drawing} → HasSkeletons about about s x
    → HasSkeletons about about s' x
skeletons_there h k = record { from = skeleton_there h k.from; to = skeleton_there h k.to }

pub alike_agree : (s s' : Sheet) → Alike s s' → Agree s s'
unfolding AskWithin AskDerivable AskReach AskRealized AskMap AskList
alike_agree s s' h =
    let g : Alike s' s = alike_back h in
    record {
      within = λ t t' S a l. asked_alike (HasTerms t t' S) Always (SaysWithin t t' S) S s s' (λ x. terms_there t t' S h)
          (λ x. terms_there t t' S g);
      derivable = λ n t a l. asked_alike (HasReceptionAndTerm about n t) Always (SaysDerivable about n t) [] s s'
          (λ x. reception_and_term_there n t h) (λ x. reception_and_term_there n t g);
      reach = λ n a l. asked_alike (HasReception about n) Always (SaysReach about n) [] s s' (λ x. reception_there n h)
          (λ x. reception_there n g);
      realized = λ a l. asked_alike (HasSkeleton about) Always SaysRealized [] s s' (λ x. skeleton_there h)
          (λ x. skeleton_there g);
      map = λ bytes lent a l.
          asked_alike (HasSkeletons about about) (ImageRoom about about bytes lent) (SaysMap about about bytes lent) lent s s'
          (λ x. skeletons_there h)
          (λ x. skeletons_there g);
      list = λ lent a l.
          asked_alike (HasSkeletons about about) (ListRoom about about lent) (SaysList about about lent) lent s s'
          (λ x. skeletons_there h)
          (λ x. skeletons_there g);
    }
