-- The map rules for two skeletons of a table and the bytes of a strand map.
use Rattle.std.specs.Prelude.{◌≡◌, Bool, true, ◌↔◌, ℕ, Option, Some, None, get_or}
use mathlib.Core.List.{List, Memᴰ}
use Rattle.terms.specs.declared.Node as Numbered
use Rattle.model.specs.Term.{Term}
use Rattle.model.specs.Subst.{Subst}
use Rattle.model.specs.Table.{Row, term}
use Rattle.model.specs.Skeleton.{Skeleton, means}
use Rattle.model.specs.Events.{Origin}
use Rattle.model.specs.Says.{node_of}
use Rattle.model.specs.Maps.{OneByteEach, Rule2, Rule3, Rule4, Rule5, Rule6}

module _ (rows : List Row) (A B : Skeleton ℕ) (map : List ℕ) where
  -- the drawings that the numbers mean
  abbrev pub source : Skeleton Term
  source = means (term rows) A

  abbrev pub target : Skeleton Term
  target = means (term rows) B

  abbrev pub to : ℕ → ℕ
  to s = get_or map s 0

  -- a rule's test, yes or no
  abbrev pub Tells1 : Bool → Type 0
  Tells1 r = (r ≡ true) ↔ OneByteEach source target map

  abbrev pub Tells2 : Bool → Type 0
  Tells2 r = (r ≡ true) ↔ Rule2 source target to

  abbrev pub Tells4 : Bool → Type 0
  Tells4 r = (r ≡ true) ↔ Rule4 source target to

  -- rule 1 holds
  abbrev pub KeptTo1 : Type 0
  KeptTo1 = OneByteEach source target map

  -- rules 1 and 2 hold
  pub record KeptTo2 : Type 0 where
    pub strands : OneByteEach source target map
    pub directions : Rule2 source target to

  -- for each substitution that keeps rule 3
  abbrev pub Tells5 : Bool → Type 0
  Tells5 r = (σ : Subst) → Rule3 source target to σ → (r ≡ true) ↔ Rule5 source target to σ

  abbrev pub Tells6 : Bool → Type 0
  Tells6 r = (σ : Subst) → Rule3 source target to σ → (r ≡ true) ↔ Rule6 source target to σ

-- a node for each term, if it has one: the origin of a unique atom
pub record IsOrigins (rows : List Row) (K : Skeleton ℕ) (origins : List (Option Numbered.Node)) : Type 0 where
  pub at : (i : ℕ) → Memᴰ i K.uniq
      → (n : Numbered.Node) × (Origin (means (term rows) K) (term rows i) (node_of n)) × (get_or origins i None ≡ Some n)
