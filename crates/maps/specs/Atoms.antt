-- Rules 5 and 6, atom by atom.
use Rattle.std.specs.Prelude.{◌≡◌, Bool, true, false, List, ℕ, ◌<◌, Option, Some, None, T, length, get_or}
use Rattle.terms.specs.declared.Term as Number
use Rattle.terms.specs.declared.Node as Numbered
use Rattle.terms.specs.declared.TermSet.{TermSet}
use Rattle.terms.specs.Set.{mem, IsSetOf}
use Rattle.model.specs.Term.{Term}
use Rattle.model.specs.Subst.{Subst, apply}
use Rattle.model.specs.Table.{Row, term}
use Rattle.model.specs.Reading.{an_atom}
use Rattle.model.specs.Skeleton.{Skeleton, means}
use Rattle.model.specs.Says.{node_of}
use Rattle.model.specs.Maps.{move}
use Rattle.theory.specs.Each.{Each}
use Rattle.theory.specs.Skeletons.{IsSkeleton}
use Rattle.theory.specs.OnTable.{OnTable}
use Rattle.matching.specs.Matches.{Matches}
use Rattle.maps.specs.Rules.{Tells5, Tells6, IsOrigins}
use Rattle.maps.specs.Images.{Imaged}

-- the first node goes to the second
pub record Goes (map : List ℕ) (start end : Option Numbered.Node) : Type 0 where
  pub from : Numbered.Node
  pub to : Numbered.Node
  pub starts : start ≡ Some from
  pub ends : end ≡ Some to
  pub moves : move (λ s. get_or map s 0) (node_of from) ≡ node_of to

module _ (rows : List Row) where
  -- the term is a member of the set
  pub record In (set : TermSet) (t : Term) : Type 0 where
    pub which : ℕ
    pub inside : which < length rows
    pub member : mem set which ≡ true
    pub means : term rows which ≡ t

  -- the term is a member of the set, and the node goes to its origin
  pub record Moved (set : TermSet) (map : List ℕ) (origins : List (Option Numbered.Node)) (start : Option Numbered.Node) (t : Term) : Type 0 where
    pub which : ℕ
    pub inside : which < length rows
    pub member : mem set which ≡ true
    pub means : term rows which ≡ t
    pub origin : Goes map start (get_or origins which None)

  -- a member of the set below n that has no image on the sheet, or at whose image the test may answer no
  pub record Misses (images : List ℕ) (set : TermSet) (Answers : Number.Term → Number.Term → Bool → Type 0) (n : ℕ) : Type 0 where
    pub which : ℕ
    pub below : which < n
    pub member : mem set which ≡ true
    pub found : Option Number.Term
    pub imaged : Imaged rows images which found
    pub missed : (i : Number.Term) → found ≡ Some i → Answers (record { 0 = which }) i false

  -- the answer r says whether each member of the set below n has an image on the sheet, and the test holds of the two
  pub record Finds (images : List ℕ) (set : TermSet) (Answers : Number.Term → Number.Term → Bool → Type 0) (n : ℕ) (r : Bool)
      : Type 0 where
    pub all : r ≡ true → (a : ℕ) → a < n → mem set a ≡ true
        → (i : Number.Term) × Imaged rows images a (Some i) × Answers (record { 0 = a }) i true
    pub not_all : r ≡ false → Misses images set Answers n

  -- the property of rule 5, and that of rule 6
  abbrev pub GoesIn : TermSet → Subst → ℕ → Type 0
  GoesIn set σ a = In set (apply σ (term rows a))

  abbrev pub OriginGoes : TermSet → List ℕ → (from to : List (Option Numbered.Node)) → Subst → ℕ → Type 0
  OriginGoes set map from to σ a = Moved set map to (get_or from a None) (apply σ (term rows a))

  -- two skeletons of the sheet, a strand map that keeps rule 3, and the images
  pub record Matched (A B : Skeleton ℕ) (map images : List ℕ) : Type 0 where
    pub source_on : OnTable rows A
    pub target_on : OnTable rows B
    pub source : IsSkeleton (means (term rows) A)
    pub target : IsSkeleton (means (term rows) B)
    pub nons : Each (λ a. T (an_atom rows a)) A.non
    pub uniqs : Each (λ a. T (an_atom rows a)) A.uniq
    pub matches : Matches rows A B map images true

  -- what rule 5's test says, of all skeletons whose NO atoms are in the sets
  pub record Judges5 (images : List ℕ) (from to : TermSet) (r : Bool) : Type 0 where
    pub tells : (A B : Skeleton ℕ) (map : List ℕ) → Matched A B map images → IsSetOf A.non from → IsSetOf B.non to
        → Tells5 rows A B map r

  -- what rule 6's test says, of all skeletons whose UO atoms are in the sets
  pub record Judges6 (images map : List ℕ) (from to : TermSet) (origins targets : List (Option Numbered.Node)) (r : Bool) : Type 0 where
    pub tells : (A B : Skeleton ℕ) → Matched A B map images → IsSetOf A.uniq from → IsSetOf B.uniq to
        → IsOrigins rows A origins
        → IsOrigins rows B targets
        → Tells6 rows A B map r

-- the origin of each member of the set is on a strand of the map
pub record Starts (set : TermSet) (map : List ℕ) (origins : List (Option Numbered.Node)) : Type 0 where
  pub strand : (i : ℕ) → mem set i ≡ true → (n : Numbered.Node) → get_or origins i None ≡ Some n → n.strand.0 < length map
