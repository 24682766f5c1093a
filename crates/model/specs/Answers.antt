-- The seven questions: which answer, and which lent bytes afterwards, a verdict gives.
use Rattle.std.specs.Prelude.{◌≡◌, Bool, true, ◌↔◌, ℕ, ◌*◌, ◌≤◌, ◌<◌, length, drop}
use mathlib.Core.List.{List, [], ◌∷◌, ◌++◌, Memᴰ}
use Rattle.model.specs.Term.{Term}
use Rattle.model.specs.Carry.{OnlyWithin}
use Rattle.model.specs.Subst.{Subst}
use Rattle.model.specs.Table.{Row, term}
use Rattle.model.specs.Skeleton.{recv, Node, Skeleton, At}
use Rattle.model.specs.Derive.{DerivableBefore, Realized}
use Rattle.model.specs.Sheet.{Sheet, Refusal, Verdict, Drawing, meant, HasSkeleton}
use Rattle.model.specs.Judging.{HasVerdict}
use Rattle.model.specs.Rising.{Rising}
use Rattle.model.specs.Maps.{Kept, FirstBroken, Images, TheMaps}

pub data Answer (A : Type 0) : Type 0 where
  refused : Refusal → Answer A
  answered : A → Answer A

-- "15: no such skeleton, term, or reception asked for", "16: lent space too short", both with place 0 and skeleton 0
abbrev pub refusal : ℕ → Refusal
refusal number = record { number = number; place = 0; skeleton = 0 }

-- "A question gives the sheet's refusal first, then 15, then 16." A refusal "writes nothing".
--   Subject: what the question is about, if the sheet has it
--   Room: the lent space is long enough
--   Says: the answer, and the lent bytes afterwards
module _ {X A : Type 0} (Subject : Sheet → X → Type 0) (Room : X → Type 0) (Says : X → A → List ℕ → Type 0) (lent : List ℕ) where
  pub data Asked : Verdict → Answer A → List ℕ → Type 0 where
    bad_sheet : {r : Refusal} → Asked (Verdict.refused r) (refused r) lent
    no_such : {s : Sheet} → ((x : X) → ¬ Subject s x) → Asked (Verdict.accepted s) (refused (refusal 15)) lent
    too_short : {s : Sheet} {x : X} → Subject s x → ¬ Room x → Asked (Verdict.accepted s) (refused (refusal 16)) lent
    said : {s : Sheet} {x : X} {a : A} {after : List ℕ} → Subject s x → Room x → Says x a after
        → Asked (Verdict.accepted s) (answered a) after

-- a question that lends nothing to write in
abbrev pub Always : {X : Type 0} → X → Type 0
Always x = Unit {0}

-- yes or no
abbrev pub Tells : Bool → Type 0 → Type 0
Tells b P = (b ≡ true) ↔ P

-- what is written, and the bytes beyond it as they were
unfoldable pub over : List ℕ → List ℕ → List ℕ
over written lent = written ++ drop (length written) lent

-- for these bytes the question gives this answer and leaves the lent memory so: what a public contract says
pub record Gives (bytes : List ℕ) {A : Type 0} (Question : Verdict → Answer A → List ℕ → Type 0) (answer : Answer A)
    (after : List ℕ) : Type 0 where
  pub verdict : Verdict
  pub judged : HasVerdict bytes verdict
  pub is : Question verdict answer after

-- "Sheet: good, with the counts of terms and skeletons."
pub record Counts : Type 0 where
  pub terms : ℕ
  pub skeletons : ℕ

pub record TheSheet (s x : Sheet) : Type 0 where
  pub same : s ≡ x

pub record SaysCounts (x : Sheet) (counts : Counts) (after : List ℕ) : Type 0 where
  pub terms : counts.terms ≡ length x.rows
  pub skeletons : counts.skeletons ≡ length x.skeletons
  pub kept : after ≡ []

unfoldable pub AskSheet : Verdict → Answer Counts → List ℕ → Type 0
AskSheet = Asked TheSheet Always SaysCounts []

-- "Carried only within: t, t' and lent term numbers for S (repeats harmless; 15 if any of them all is no term); yes or no."
module _ (t t' : ℕ) (S : List ℕ) where
  pub record HasTerms (s : Sheet) (rows : List Row) : Type 0 where
    pub rows_of : s.rows ≡ rows
    pub first : t < length rows
    pub second : t' < length rows
    pub all : (i : ℕ) → Memᴰ i S → i < length rows

  -- the terms whose numbers are lent
  pub record Member (rows : List Row) (u : Term) : Type 0 where
    pub number : ℕ
    pub lent : Memᴰ number S
    pub means : term rows number ≡ u

  pub record SaysWithin (rows : List Row) (b : Bool) (after : List ℕ) : Type 0 where
    pub tells : Tells b (OnlyWithin (Member rows) (term rows t) (term rows t'))
    pub kept : after ≡ S

  unfoldable pub AskWithin : Verdict → Answer Bool → List ℕ → Type 0
  AskWithin = Asked HasTerms Always SaysWithin S

-- Questions about a reception
module _ (k : ℕ) (n : Node) where
  pub record HasReception (s : Sheet) (D : Drawing) : Type 0 where
    pub drawing : HasSkeleton k s D
    pub message : ℕ
    pub at : At D.skeleton n (recv message)

  -- "Derivable before: skeleton, reception node, term; yes or no."
  module _ (t : ℕ) where
    pub record HasReceptionAndTerm (s : Sheet) (D : Drawing) : Type 0 where
      pub reception : HasReception s D
      pub a_term : t < length D.rows

    pub record SaysDerivable (D : Drawing) (b : Bool) (after : List ℕ) : Type 0 where
      pub tells : Tells b (DerivableBefore (meant D) n (term D.rows t))
      pub kept : after ≡ []

    unfoldable pub AskDerivable : Verdict → Answer Bool → List ℕ → Type 0
    AskDerivable = Asked HasReceptionAndTerm Always SaysDerivable []

  -- "Reach: how many of the sheet's terms are derivable before a reception."
  pub record ReachIs (D : Drawing) (count : ℕ) : Type 0 where
    pub terms : List ℕ
    pub rising : Rising (λ i j. i < j) terms
    pub members : (i : ℕ) → Memᴰ i terms ↔ ((i < length D.rows) × DerivableBefore (meant D) n (term D.rows i))
    pub size : length terms ≡ count

  pub record SaysReach (D : Drawing) (count : ℕ) (after : List ℕ) : Type 0 where
    pub reach : ReachIs D count
    pub kept : after ≡ []

  unfoldable pub AskReach : Verdict → Answer ℕ → List ℕ → Type 0
  AskReach = Asked HasReception Always SaysReach []

-- "Realized: yes, or the first unrealized reception by strand, then position."
pub data Sooner (m n : Node) : Type 0 where
  strand : m.strand < n.strand → Sooner m n
  position : m.strand ≡ n.strand → m.position < n.position → Sooner m n

pub record FirstOpen (K : Skeleton Term) (n : Node) : Type 0 where
  pub message : Term
  pub at : At K n (recv message)
  pub unrealized : ¬ DerivableBefore K n message
  pub first : (m : Node) (t : Term) → Sooner m n → At K m (recv t) → DerivableBefore K m t

pub data Openness : Type 0 where
  realized : Openness
  open_at : Node → Openness

pub data SaysRealized (D : Drawing) : Openness → List ℕ → Type 0 where
  yes_realized : Realized (meant D) → SaysRealized D realized []
  first_open : {n : Node} → FirstOpen (meant D) n → SaysRealized D (open_at n) []

module _ (k : ℕ) where
  unfoldable pub AskRealized : Verdict → Answer Openness → List ℕ → Type 0
  AskRealized = Asked (HasSkeleton k) Always SaysRealized []

-- yes, or the first broken rule
pub data Mapping : Type 0 where
  is_map : Mapping
  breaks : ℕ → Mapping

unfoldable pub end_to_end : List (List ℕ) → List ℕ
end_to_end [] = []
end_to_end (m ∷ ms) = m ++ end_to_end ms

-- Questions about two skeletons
module _ (source target : ℕ) where
  pub record HasSkeletons (s : Sheet) (x : Drawing × Drawing) : Type 0 where
    pub from : HasSkeleton source s x.0
    pub to : HasSkeleton target s x.1

  -- "Map: source, target, strand map, lent image table. Too short for all terms: 16, before the map rules are judged."
  module _ (bytes lent : List ℕ) where
    unfoldable pub ImageRoom : Drawing × Drawing → Type 0
    ImageRoom x = length x.0.rows ≤ length lent

    -- "Yes writes one byte per term .. bytes beyond stay. No gives the first broken rule below and writes nothing."
    pub data SaysMap (x : Drawing × Drawing) : Mapping → List ℕ → Type 0 where
      yes_map : {σ : Subst} {images : List ℕ} → Kept (meant x.0) (meant x.1) bytes 6 σ
          → Images x.0.rows (meant x.0) σ images
          → SaysMap x is_map (over images lent)
      no_map : {rule : ℕ} → FirstBroken (meant x.0) (meant x.1) bytes rule → SaysMap x (breaks rule) lent

    unfoldable pub AskMap : Verdict → Answer Mapping → List ℕ → Type 0
    AskMap = Asked HasSkeletons ImageRoom SaysMap lent

  -- "List: source, target, lent space; the count, and the maps end to end, one byte per source strand. Bytes beyond stay."
  module _ (lent : List ℕ) where
    -- "It takes 16 exactly when count times strands exceeds the space."
    pub record ListRoom (x : Drawing × Drawing) : Type 0 where
      pub maps : List (List ℕ)
      pub all : TheMaps (meant x.0) (meant x.1) maps
      pub fits : length maps * length x.0.skeleton.strands ≤ length lent

    pub record SaysList (x : Drawing × Drawing) (count : ℕ) (after : List ℕ) : Type 0 where
      pub maps : List (List ℕ)
      pub all : TheMaps (meant x.0) (meant x.1) maps
      pub counted : length maps ≡ count
      pub written : over (end_to_end maps) lent ≡ after

    unfoldable pub AskList : Verdict → Answer ℕ → List ℕ → Type 0
    AskList = Asked HasSkeletons ListRoom SaysList lent
