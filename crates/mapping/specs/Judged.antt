-- What the judgement of a strand map asks, and what it says.
use Rattle.std.specs.Prelude.{◌≡◌, true, List, ℕ, T, length, Option, Some, None, Result, Ok, Err}
use Rattle.terms.specs.Set.{IsSetOf}
use Rattle.model.specs.Table.{Row, term}
use Rattle.model.specs.Reading.{an_atom}
use Rattle.model.specs.Skeleton.{Skeleton, means}
use Rattle.model.specs.Sheet.{Drawing}
use Rattle.model.specs.Subst.{Subst}
use Rattle.model.specs.Maps.{Kept, FirstBroken}
use Rattle.model.specs.Answers.{HasSkeletons}
use Rattle.model.specs.Says.{rule_number}
use Rattle.model.specs.declared.Rule.{Rule}
use Rattle.theory.specs.Each.{Each}
use Rattle.theory.specs.Skeletons.{IsSkeleton}
use Rattle.tables.specs.Layout.{block}
use Rattle.tables.specs.Tables.{rows_in, skeleton_at, sheet_in}
use Rattle.tables.specs.Drawn.{drawing, Drawn}
use Rattle.keys.specs.Inverted.{Inverted}
use Rattle.order.specs.Precedence.{Shows, Ordered}
use Rattle.matching.specs.Matches.{Matches}
use Rattle.maps.specs.Rules.{IsOrigins}
use Rattle.matching.specs.declared.sides.Sides.{Sides}
use Rattle.mapping.specs.declared.prepared.Atoms.{Atoms}
use Rattle.mapping.specs.declared.prepared.Prepared.{Prepared}

-- the sets are those of the skeleton's NO and UO atoms, and the origins those of its UO atoms
pub record AtomsAre (rows : List Row) (K : Skeleton ℕ) (atoms : Atoms) : Type 0 where
  pub nons : IsSetOf K.non atoms.nons
  pub uniqs : IsSetOf K.uniq atoms.uniqs
  pub origins : IsOrigins rows K atoms.origins

-- the skeleton obeys the skeleton rules
abbrev pub IsRight : List Row → Skeleton ℕ → Type 0
IsRight rows K = IsSkeleton (means (term rows) K)

-- Of the blocks at a and b of the table t: what a question about maps relies on
pub record Asked (t inverses : List ℕ) (a b : ℕ) : Type 0 where
  pub source : Drawn t a
  pub target : Drawn t b
  pub source_right : IsRight (rows_in t) (skeleton_at t a)
  pub target_right : IsRight (rows_in t) (skeleton_at t b)
  pub ordered : Ordered t b
  pub inverted : Inverted (rows_in t) inverses
  pub inverses_long : length inverses ≡ 200
  pub nons : Each (λ x. T (an_atom (rows_in t) x)) (skeleton_at t a).non
  pub uniqs : Each (λ x. T (an_atom (rows_in t) x)) (skeleton_at t a).uniq

-- the target's precedence, the atoms of both, and where their UO atoms originate
pub record IsPrepared (p : Prepared) : Type 0 where
  pub asked : Asked p.sides.table.now p.inverses.now.of p.sides.source p.sides.target
  pub matrix : Shows (skeleton_at p.sides.table.now p.sides.target) p.before.now.words
  pub source_atoms : AtomsAre (rows_in p.sides.table.now) (skeleton_at p.sides.table.now p.sides.source) p.from.now
  pub target_atoms : AtomsAre (rows_in p.sides.table.now) (skeleton_at p.sides.table.now p.sides.target) p.to.now

-- they are the skeletons of these numbers of the sheet in the table t, which has both
pub record SidesOf (t : List ℕ) (source target : ℕ) (s : Sides) : Type 0 where
  pub table : s.table.now ≡ t
  pub from : s.source ≡ block source
  pub to : s.target ≡ block target
  pub there : HasSkeletons source target (sheet_in t) (drawing t (block source), drawing t (block target))

-- the same, or that the sheet has not both
abbrev pub SidesAs : List ℕ → ℕ → ℕ → Option Sides → Type 0
SidesAs t source target (Some s) = SidesOf t source target s
SidesAs t source target None = (x : Drawing × Drawing) → ¬ HasSkeletons source target (sheet_in t) x

-- the judgement of the maps between the skeletons of these numbers of the sheet in the table t is prepared
pub record PreparedFor (t : List ℕ) (source target : ℕ) (p : Prepared) : Type 0 where
  pub prepared : IsPrepared p
  pub table : p.sides.table.now ≡ t
  pub from : p.sides.source ≡ block source
  pub to : p.sides.target ≡ block target
  pub there : HasSkeletons source target (sheet_in t) (drawing t (block source), drawing t (block target))

-- the first broken rule, or the images
pub data JudgedAs (rows : List Row) (A B : Skeleton ℕ) (map images : List ℕ) : Result (Unit {0}) Rule → Type 0 where
  holds : {σ : Subst} → Kept (means (term rows) A) (means (term rows) B) map 6 σ → Matches rows A B map images true
      → JudgedAs rows A B map images (Ok tt)
  broken : {rule : Rule} → FirstBroken (means (term rows) A) (means (term rows) B) map (rule_number rule)
      → JudgedAs rows A B map images (Err rule)
