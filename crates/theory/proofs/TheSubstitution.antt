-- One substitution and no other on the source's variables. That no map rule hangs on which is taken rests on one thing alone:
-- each variable of an NO or UO atom occurs in an event.
use Rattle.std.specs.Prelude.{◌≡◌, List, ℕ, ◌≤◌}
use Rattle.std.proofs.Common.{arith}
use Rattle.std.proofs.Math.ListN.{get_or}
use Rattle.model.specs.Term.{Term}
use Rattle.model.specs.Subst.{Subst, apply}
use Rattle.model.specs.Table.{Row, term}
use Rattle.model.specs.Skeleton.{Skeleton, means}
use Rattle.model.specs.Maps.{to, Kept, Upto, Rule5, Rule6, SourceVariable}
use Rattle.theory.specs.GoodTable.{Good}
use Rattle.theory.specs.OnSheet.{OnSheet}
use Rattle.theory.specs.Matching.{found}
use Rattle.theory.specs.MapLaws.{AtomsOccur, images_agree, atoms_agree}
use Rattle.theory.proofs.MapTests.{asked}
use Rattle.theory.proofs.MapAnswers.{served, serving, image_on}
use Rattle.theory.specs.NoSecond.{kept_less}
use Rattle.theory.specs.OnTable.{OnTable}

module _ (A B : Skeleton Term) (bytes : List ℕ) (σ τ : Subst) (p : Kept A B bytes 3 σ) (q : Kept A B bytes 3 τ) where
  -- on the source's variables there is no other
  pub no_other : (x : Term) → SourceVariable A x → apply σ x ≡ apply τ x
  no_other x v =
      images_agree A B (to A B bytes) σ τ (p.directions (omega arith)) (p.messages (omega arith)) (q.messages (omega arith))
      v.occurs.node v.occurs.event v.occurs.at v.occurs.occurs

  -- what the rules say for one, they say for the other
  pub either_serves : AtomsOccur A → (k : ℕ) → Kept A B bytes k σ → Kept A B bytes k τ
  unfolding Rule5 Rule6
  either_serves occur k h =
      let agree = atoms_agree A B (to A B bytes) τ σ (p.directions (omega arith)) (q.messages (omega arith))
      (p.messages (omega arith)) in
      record {
        strands = h.strands;
        directions = h.directions;
        messages = λ l. q.messages (omega arith);
        order = h.order;
        non = λ l t m. rw (agree t (occur.non t m)) (h.non l t m);
        uniq = λ l t m. rw (agree t (occur.uniq t m)) (h.uniq l t m);
      }

-- on a table it is computed, and its images of source variables are terms of the sheet
module _ (rows : List Row) (good : Good rows) (A B : Skeleton ℕ) (okA : OnTable rows A) (okB : OnTable rows B)
    (bytes : List ℕ) where
  abbrev A' : Skeleton Term
  A' = means (term rows) A

  abbrev B' : Skeleton Term
  B' = means (term rows) B

  -- from the wishes that the source's messages make
  unfoldable pub the_substitution : Subst
  unfolding found asked
  the_substitution = found rows (asked rows A B (λ s. get_or bytes s 0))

  pub it_serves : Upto A' B' bytes 3 → Kept A' B' bytes 3 the_substitution
  unfolding the_substitution
  it_serves u =
      let k = u.kept in
      let r₂ = k.directions (omega arith) in
      record {
        strands = k.strands;
        directions = k.directions;
        messages = λ l. served rows good A B okA okB bytes r₂
            (serving rows good A B okA okB bytes r₂ (record { σ = u.σ; rule = k.messages (omega arith) }));
        order = λ l. absurd (omega arith);
        non = λ l. absurd (omega arith);
        uniq = λ l. absurd (omega arith);
      }

  pub it_serves_all : AtomsOccur A' → (k : ℕ) → 3 ≤ k → Upto A' B' bytes k → Kept A' B' bytes k the_substitution
  it_serves_all occur k l u =
      let three : Kept A' B' bytes 3 u.σ = kept_less A' B' bytes 3 k l u.kept in
      either_serves A' B' bytes u.σ the_substitution three (it_serves (record { σ = u.σ; kept = three })) occur k u.kept

  pub images_on_sheet : (σ : Subst) → Kept A' B' bytes 3 σ → (x : Term) → SourceVariable A' x → OnSheet rows (apply σ x)
  images_on_sheet σ k x v =
      image_on rows good A B okA okB bytes σ (k.directions (omega arith)) (k.messages (omega arith)) x v
