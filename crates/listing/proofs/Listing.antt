-- From the marked candidates to the list that is asked for. Assumes nothing.
use mathlib.Core.Path.{◌≡◌, refl, ◌∙◌}
use mathlib.Core.List.{List}
use Prim.Native.Nat.{ℕ, ◌*◌, ◌^◌, ◌≤◌, ◌<◌}
use native.Mathlib.Omega.{arith}
use lib.ListN.{length}
use Rattle.model.specs.Term.{Term}
use Rattle.model.specs.Table.{term}
use Rattle.model.specs.Skeleton.{Skeleton, means}
use Rattle.model.specs.Sheet.{Verdict, Drawing, meant}
use Rattle.model.specs.Maps.{TheMaps}
use Rattle.model.specs.Answers.{Answer, refused, refusal, no_such, too_short, said, HasSkeletons, ListRoom, AskList}
use Rattle.theory.specs.NoSecond.{maps_one}
use Rattle.theory.specs.Places.{in_list}
use Rattle.theory.specs.Encoding.{WithinLimits}
use Rattle.tables.specs.Layout.{block, skeleton_count}
use Rattle.tables.specs.Tables.{byte, rows_in, skeleton_at, skeleton_in, sheet_in}
use Rattle.tables.specs.Drawn.{drawing}
use Rattle.tables.proofs.Look.{length_strands}
use Rattle.tables.proofs.Nodes.{strands_meant}
use Rattle.accept.proofs.Lies.{has_skeleton, skeleton_lies}
use Rattle.list.specs.Candidates.{passing}
use Rattle.list.specs.Found.{marked}
use Rattle.list.specs.declared.Found.{Found}
use Rattle.list.proofs.Numbered.{listed_maps}
use Rattle.mapping.specs.Judged.{PreparedFor}
use Rattle.listing.specs.Found.{strands, MarkedBelow, GivenAs}
use Rattle.listing.specs.Search.{Searches, MarkedAll}
use Rattle.listing.specs.declared.Search.{Search}

-- every skeleton of a sheet that was read has a strand
pub has_strand : (t : List ℕ) → WithinLimits (sheet_in t) → (k : ℕ) → k < byte t skeleton_count → 1 ≤ strands t (block k)
unfolding sheet_in
has_strand t w k h =
    let l = (w.strands _ (in_list _ k (has_skeleton t k h).skeleton)).one in
    rw (length_strands t (block k)) at l

module _ (t : List ℕ) (a b : ℕ) (some : 1 ≤ strands t b) (found : Found) where
  abbrev A : Skeleton Term
  A = means (term (rows_in t)) (skeleton_at t a)

  abbrev B : Skeleton Term
  B = means (term (rows_in t)) (skeleton_at t b)

  -- the marked candidates are the list
  pub marked_maps : MarkedBelow t a b (strands t b ^ strands t a) found
      → TheMaps A B (passing (strands t a) (strands t b) (marked found) (strands t b ^ strands t a))
  marked_maps m =
      let n = strands_meant t a (term (rows_in t)) in
      let all = listed_maps A B (strands t b) some (strands_meant t b (term (rows_in t))) (marked found)
      (λ c h. (λ e. rw n ((m.at c).0 e).1.is, λ i. (m.at c).1 (rw n at h, record { is = rw n at i }))) in
      rw n at all

module _ (t : List ℕ) (source target : ℕ) (lent : List ℕ) where
  abbrev Ask : Answer ℕ → List ℕ → Type 0
  Ask = AskList source target lent (Verdict.accepted (sheet_in t))

  abbrev pair : Drawing × Drawing
  pair = (drawing t (block source), drawing t (block target))

  pub lacks_one : ((x : Drawing × Drawing) → ¬ HasSkeletons source target (sheet_in t) x) → Ask (refused (refusal 15)) lent
  unfolding AskList
  lacks_one none = no_such none

  module _ (there : HasSkeletons source target (sheet_in t) pair) where
    pub target_strand : WithinLimits (sheet_in t) → 1 ≤ strands t (block target)
    target_strand w = has_strand t w target (skeleton_lies t target _ there.to).inside

    given_list : (maps : List (List ℕ)) → TheMaps (meant pair.0) (meant pair.1) maps → {says : Answer ℕ} {after : List ℕ}
        → GivenAs maps (strands t (block source)) lent says after
        → Ask says after
    unfolding AskList
    given_list maps all (GivenAs.all fits) =
        said there (record { maps = maps; all = all; fits = rw (length_strands t (block source)) fits })
        (record { maps = maps; all = all; counted = refl; written = refl })
    given_list maps all (GivenAs.short few) =
        too_short there (λ (r : ListRoom source target lent pair).
        let e : r.maps ≡ maps = maps_one r.all all in
        let f : length maps * length (skeleton_in t source).strands ≤ length lent = rw e at r.fits in
        omega (arith, rw (length_strands t (block source)) at f, few))

    pub list_told : {found : Found} {after : List ℕ} {says : Answer ℕ} → WithinLimits (sheet_in t)
        → MarkedBelow t (block source) (block target) (strands t (block target) ^ strands t (block source)) found
        → GivenAs (passing (strands t (block source)) (strands t (block target)) (marked found)
        (strands t (block target) ^ strands t (block source)))
        (strands t (block source)) lent says after
        → Ask says after
    unfolding meant
    list_told {found} w m g = given_list _ (marked_maps t (block source) (block target) (target_strand w) found m) g

-- what was found among the candidates is the list
module _ (t : List ℕ) (source target : ℕ) (lent : List ℕ) where
  pub search_told : (s : Search) {found : Found} {after : List ℕ} {says : Answer ℕ} → WithinLimits (sheet_in t)
      → Searches s
      → PreparedFor t source target s.prepared
      → MarkedAll s found
      → GivenAs (passing s.candidates.n s.candidates.base (marked found) (s.candidates.base ^ s.candidates.n)) s.candidates.n lent says after
      → AskList source target lent (Verdict.accepted (sheet_in t)) says after
  search_told s w is q m g =
      let n : s.candidates.n ≡ strands t (block source) = is.n ∙ rw (q.table, q.from) refl in
      let base : s.candidates.base ≡ strands t (block target) = is.base ∙ rw (q.table, q.to) refl in
      list_told t source target lent q.there w (rw (q.table, q.from, q.to, n, base) at m) (rw (n, base) at g)
