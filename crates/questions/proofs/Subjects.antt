-- The tests of the arguments say whether the sheet in the table has what is asked for. Assumes nothing.
use Rattle.std.proofs.Common.{MatchBool}
use Rattle.std.specs.List.{AllWithin, HoldsAt}
use mathlib.Core.Path.{◌≡◌, refl, sym, ap}
use mathlib.Core.Bool.{Bool, true, false, ◌&&◌, true≢false}
use mathlib.Core.List.{List}
use mathlib.Core.Logic.{◌↔◌}
use Prim.Native.Nat.{ℕ, ◌≤◌, ◌<◌}
use native.Mathlib.Omega.{arith}
use lib.Dec.{ltb}
use lib.ListN.{length, get_or}
use borrow.Author.Tests.{ltb-true, ltb-false}
use Rattle.model.specs.Table.{Row}
use Rattle.model.specs.Sheet.{Drawing, HasSkeleton}
use Rattle.model.specs.Skeleton.{recv, Node, At}
use Rattle.model.specs.Answers.{HasTerms, HasReception, HasReceptionAndTerm}
use Rattle.tables.specs.declared.drawing.Drawing as Code
use Rattle.tables.proofs.Look.{count_is}
use Rattle.theory.specs.Places.{listed_at, stands}
use Rattle.tables.specs.Layout.{block}
use Rattle.tables.specs.Tables.{byte, rows_in, skeleton_at, skeleton_in, sheet_in}
use Rattle.order.specs.Precedence.{Low, Shows}
use Rattle.tables.proofs.Nodes.{strand_low, position_low}
use Rattle.tables.specs.Drawn.{drawing}
use Rattle.realized.specs.Ready.{Ready}
use Rattle.accept.specs.Held.{Stored}
use Rattle.accept.proofs.Lies.{skeleton_lies, is_right}
use Rattle.theory.specs.GoodTable.{Good}
use Rattle.theory.specs.Judgement.{Sound}
use Rattle.carry.specs.Sets.{AreTerms}
use Rattle.questions.specs.Subject.{Has, there, none, AllBelow}

-- The lent numbers

pub all_below : (r : Bool) (l : List ℕ) (n : ℕ)
    → MatchBool r (AllWithin (λ x. x < n) l 0 (length l)) ((k : ℕ) × (k < length l) × HoldsAt (λ x. n ≤ x) l k)
    → (r ≡ true) ↔ AllBelow n l
all_below true l n h =
    (λ e. record { all = λ i m. let s = stands 0 m in rw s.is at (h s.place 0 (omega arith) s.inside) }, λ a. refl)
all_below false l n (k, i, h) =
    (λ e. absurd (true≢false (sym e)), λ a. absurd (omega (arith, h 0, a.all (get_or l k 0) (listed_at l k 0 i))))

-- Terms

terms_of : (t : List ℕ) {rows : List Row} → (sheet_in t).rows ≡ rows → length rows ≡ byte t 600
unfolding sheet_in
terms_of t e = rw (← e) (count_is t)

module _ (t : List ℕ) (u v : ℕ) (S : List ℕ) where
  abbrev n : ℕ
  n = byte t 600

  pub terms_had : (a : Bool) → (a ≡ true) ↔ AllBelow n S
      → Has (HasTerms u v S (sheet_in t)) (rows_in t) ((ltb u n && ltb v n) && a)
  unfolding sheet_in
  terms_had a f = go (ltb u n) refl (ltb v n) refl a f
    where
      go : (x : Bool) → ltb u n ≡ x → (y : Bool) → ltb v n ≡ y → (z : Bool) → (z ≡ true) ↔ AllBelow n S
          → Has (HasTerms u v S (sheet_in t)) (rows_in t) ((x && y) && z)
      go true d true e true g =
          there (record {
            rows_of = refl;
            first = rw (count_is t) (ltb-true u n d);
            second = rw (count_is t) (ltb-true v n e);
            all = λ i m. rw (count_is t) ((g.0 refl).all i m);
          })
      go true d true e false g =
          none (λ rows h. true≢false (sym (g.1 (record { all = λ i m. rw (terms_of t h.rows_of) at (h.all i m) }))))
      go true d false e z g = none (λ rows h. omega (arith, h.second, ltb-false v n e, terms_of t h.rows_of))
      go false d y e z g = none (λ rows h. omega (arith, h.first, ltb-false u n d, terms_of t h.rows_of))

  pub are_terms : HasTerms u v S (sheet_in t) (rows_in t) → AreTerms n u v S
  are_terms h =
      record {
        first = rw (count_is t) at h.first;
        second = rw (count_is t) at h.second;
        all = λ i m. rw (count_is t) at (h.all i m);
      }

pub good_rows : (t : List ℕ) → Sound (sheet_in t) → Good (rows_in t)
unfolding sheet_in
good_rows t s = s.good

-- Skeletons

module _ (t : List ℕ) (k : ℕ) (d : Code.Drawing) (same : d.table.now ≡ t) (at : d.block ≡ block k) where
  -- all that a question about it needs, with the matrix
  pub is_ready : {inverses before : List ℕ} → Stored t inverses → HasSkeleton k (sheet_in t) (drawing t (block k))
      → Shows (skeleton_at d.table.now d.block) before
      → Ready d.table.now d.block inverses before
  is_ready s h o =
      let inside = (skeleton_lies t k (drawing t (block k)) h).inside in
      record { rules = rw (same, at) (is_right t s.filled s.sound k inside); shows = o; inverted = rw same s.inverted }

  -- Receptions

  module _ (n : Node) where
    pub nothing_heard : ((m : ℕ) → ¬ At (skeleton_at d.table.now d.block) n (recv m)) → (D : Drawing)
        → ¬ HasReception k n (sheet_in t) D
    nothing_heard f D h =
        let e : skeleton_in t k ≡ D.skeleton = ap (λ (E : Drawing). E.skeleton) (skeleton_lies t k D h.drawing).is in
        f h.message (rw (same, at, e) h.at)

    pub heard_there : {m : ℕ} → HasSkeleton k (sheet_in t) (drawing t (block k))
        → At (skeleton_at d.table.now d.block) n (recv m)
        → HasReception k n (sheet_in t) (drawing t (block k))
    heard_there {m} h a = record { drawing = h; message = m; at = rw (same, at) at a }

    -- a matrix has a row for it
    pub reception_low : HasReception k n (sheet_in t) (drawing t (block k)) → Low n
    reception_low h =
        let a : At (skeleton_at d.table.now d.block) n (recv h.message) = rw (same, at) h.at in
        record { strand = strand_low d.drawn.block a; position = position_low d.drawn.block a }

-- a sheet without the term
pub term_missing : (t : List ℕ) {k u : ℕ} {n : Node} → byte t 600 ≤ u → (D : Drawing)
    → ¬ HasReceptionAndTerm k n u (sheet_in t) D
term_missing t l D g = omega (arith, g.a_term, terms_of t g.reception.drawing.rows)

pub with_term : (t : List ℕ) {k u : ℕ} {n : Node} → HasReception k n (sheet_in t) (drawing t (block k)) → u < byte t 600
    → HasReceptionAndTerm k n u (sheet_in t) (drawing t (block k))
with_term t h l = record { reception = h; a_term = rw (count_is t) l }
