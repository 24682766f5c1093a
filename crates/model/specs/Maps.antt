-- "Rules in order: (1) one byte per source strand, each a target strand; (2) target height at least the source's, equal
-- directions at equal positions; (3) some sort-keeping substitution takes each source message to the message at the
-- mapped node; (4) precedence is kept; (5) images of NO atoms are NO atoms; (6) images of UO atoms are UO atoms, with
-- origin mapped to origin. Source and target may be the same skeleton; two strands may share an image."
use Rattle.std.specs.Prelude.{◌≡◌, ◌↔◌, ℕ, ◌≤◌, ◌<◌, length, get_or}
use mathlib.Core.List.{List, Memᴰ}
use Rattle.model.specs.Term.{Term}
use Rattle.model.specs.Subst.{Subst, apply, Variable}
use Rattle.model.specs.Table.{Row, term}
use Rattle.model.specs.Skeleton.{Event, send, recv, message, Node, Skeleton, At}
use Rattle.model.specs.Events.{Before, Origin, InSomeEvent}
use Rattle.model.specs.Rising.{Rising, InDictionary}

-- where a node goes
abbrev pub move : (ℕ → ℕ) → Node → Node
move f n = record { strand = f n.strand; position = n.position }

pub data SameDirection : Event Term → Event Term → Type 0 where
  both_send : {t u : Term} → SameDirection (send t) (send u)
  both_receive : {t u : Term} → SameDirection (recv t) (recv u)

-- Rules 2 to 6, for a function on strands and a substitution
module _ (A B : Skeleton Term) (f : ℕ → ℕ) where
  unfoldable pub Rule2 : Type 0
  Rule2 = (n : Node) (e : Event Term) → At A n e → (d : Event Term) × At B (move f n) d × SameDirection e d

  unfoldable pub Rule3 : Subst → Type 0
  Rule3 σ = (n : Node) (e d : Event Term) → At A n e → At B (move f n) d → apply σ (message e) ≡ message d

  unfoldable pub Rule4 : Type 0
  Rule4 = (m n : Node) → Before A m n → Before B (move f m) (move f n)

  unfoldable pub Rule5 : Subst → Type 0
  Rule5 σ = (t : Term) → Memᴰ t A.non → Memᴰ (apply σ t) B.non

  unfoldable pub Rule6 : Subst → Type 0
  Rule6 σ = (t : Term) → Memᴰ t A.uniq
      → Memᴰ (apply σ t) B.uniq × ((n : Node) → Origin A t n → Origin B (apply σ t) (move f n))

-- A strand map, as bytes
module _ (A B : Skeleton Term) (bytes : List ℕ) where
  -- where a source strand goes
  abbrev pub to : ℕ → ℕ
  to s = get_or bytes s 0

  -- rule 1
  pub record OneByteEach : Type 0 where
    pub full : length bytes ≡ length A.strands
    pub inside : (s : ℕ) → s < length bytes → to s < length B.strands

  -- the rules up to k hold, those about messages and atoms for the substitution
  pub record Kept (k : ℕ) (σ : Subst) : Type 0 where
    pub strands : 1 ≤ k → OneByteEach
    pub directions : 2 ≤ k → Rule2 A B to
    pub messages : 3 ≤ k → Rule3 A B to σ
    pub order : 4 ≤ k → Rule4 A B to
    pub non : 5 ≤ k → Rule5 A B to σ
    pub uniq : 6 ≤ k → Rule6 A B to σ

  -- for some substitution
  pub record Upto (k : ℕ) : Type 0 where
    pub σ : Subst
    pub kept : Kept k σ

  abbrev pub IsStrandMap : Type 0
  IsStrandMap = Upto 6

  -- "No gives the first broken rule": all before it hold, and with it they do not
  pub record FirstBroken (k : ℕ) : Type 0 where
    pub rule : k ≤ 6
    pub hold : (j : ℕ) → j < k → Upto j
    pub breaks : ¬ Upto k

-- "the image of a source variable (one that occurs in a source event), 255 elsewhere"
pub record SourceVariable (A : Skeleton Term) (t : Term) : Type 0 where
  pub variable : Variable t
  pub occurs : InSomeEvent A t

pub record Images (rows : List Row) (A : Skeleton Term) (σ : Subst) (images : List ℕ) : Type 0 where
  pub full : length images ≡ length rows
  pub inside : (i : ℕ) → i < length rows → SourceVariable A (term rows i) → get_or images i 255 < length rows
  pub image : (i : ℕ) → i < length rows → SourceVariable A (term rows i) → term rows (get_or images i 255) ≡ apply σ (term rows i)
  pub elsewhere : (i : ℕ) → i < length rows → ¬ SourceVariable A (term rows i) → get_or images i 255 ≡ 255

-- all maps, in dictionary order
pub record TheMaps (A B : Skeleton Term) (maps : List (List ℕ)) : Type 0 where
  pub rising : Rising InDictionary maps
  pub members : (bytes : List ℕ) → Memᴰ bytes maps ↔ IsStrandMap A B bytes
