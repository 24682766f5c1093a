-- Each answer as one word of 64 bits, tag + 256 x + 65536 y + 2^32 z: a refusal is 0, its number, the skeleton number and the
-- place.
use Rattle.std.specs.Prelude.{◌≡◌, refl, Bool, true, false, cond, ℕ, ◌+◌, ◌*◌, ◌<◌}
use Rattle.std.proofs.Common.{ap, sym as back, ◌∙◌, arith}
use Rattle.model.specs.Sheet.{Refusal}
use Rattle.model.specs.Answers.{Answer, refused, answered, Counts, Openness, realized, open_at, Mapping, is_map, breaks}

abbrev pub word : ℕ → ℕ → ℕ → ℕ → ℕ
word tag x y z = tag + 256 * x + 65536 * y + 4294967296 * z

abbrev pub refusal_word : Refusal → ℕ
refusal_word r = word 0 r.number r.skeleton r.place

-- the word of what an answer says, or of its refusal
abbrev pub answer_word : {A : Type 0} → (A → ℕ) → Answer A → ℕ
answer_word said (answered a) = said a
answer_word said (refused r) = refusal_word r

-- judge_sheet: 1, x skeletons, z terms
unfoldable pub sheet_word : Answer Counts → ℕ
sheet_word = answer_word (λ c. word 1 c.skeletons 0 c.terms)

-- judge_within, judge_derivable: 1 yes, 2 no
unfoldable pub yes_no_word : Answer Bool → ℕ
yes_no_word = answer_word (λ so. word (cond so 1 2) 0 0 0)

-- judge_reach, judge_list: 1, z the reach or the count
unfoldable pub count_word : Answer ℕ → ℕ
count_word = answer_word (λ count. word 1 0 0 count)

-- judge_realized: 1 yes; 2 open, x strand, y position
abbrev pub openness_word : Openness → ℕ
openness_word realized = word 1 0 0 0
openness_word (open_at n) = word 2 n.strand n.position 0

unfoldable pub realized_word : Answer Openness → ℕ
realized_word = answer_word openness_word

-- judge_map: 1 yes; 2 no, x the broken rule
abbrev pub mapping_word : Mapping → ℕ
mapping_word is_map = word 1 0 0 0
mapping_word (breaks rule) = word 2 rule 0 0

unfoldable pub map_word : Answer Mapping → ℕ
map_word = answer_word mapping_word

-- A word has one answer, where the parts fit their places

-- the four parts of a word
pub record Parts (tag x y z tag' x' y' z' : ℕ) : Type 0 where
  pub tags : tag ≡ tag'
  pub xs : x ≡ x'
  pub ys : y ≡ y'
  pub zs : z ≡ z'

pub word_parts : (tag x y z tag' x' y' z' : ℕ) → tag < 256 → x < 256 → y < 65536 → tag' < 256 → x' < 256 → y' < 65536
    → word tag x y z ≡ word tag' x' y' z' → Parts tag x y z tag' x' y' z'
word_parts tag x y z tag' x' y' z' a b c d e f h =
    record {
      tags = omega arith;
      xs = omega arith;
      ys = omega arith;
      zs = omega arith;
    }

-- what fits its places
unfoldable pub FitsRefusal : Refusal → Type 0
FitsRefusal r = (r.number < 256) × (r.skeleton < 65536)

abbrev pub Fits : {A : Type 0} → (A → Type 0) → Answer A → Type 0
Fits FitsValue (answered a) = FitsValue a
Fits FitsValue (refused r) = FitsRefusal r

unfoldable pub FitsSheet : Answer Counts → Type 0
unfolding FitsRefusal
FitsSheet = Fits (λ c. c.skeletons < 256)

unfoldable pub FitsYesNo : Answer Bool → Type 0
unfolding FitsRefusal
FitsYesNo = Fits (λ so. Unit {0})

unfoldable pub FitsCount : Answer ℕ → Type 0
unfolding FitsRefusal
FitsCount = Fits (λ n. Unit {0})

abbrev pub FitsOpenness : Openness → Type 0
FitsOpenness realized = Unit {0}
FitsOpenness (open_at n) = (n.strand < 256) × (n.position < 65536)

unfoldable pub FitsRealized : Answer Openness → Type 0
unfolding FitsRefusal
FitsRealized = Fits FitsOpenness

abbrev pub FitsMapping : Mapping → Type 0
FitsMapping is_map = Unit {0}
FitsMapping (breaks rule) = rule < 256

unfoldable pub FitsMap : Answer Mapping → Type 0
unfolding FitsRefusal
FitsMap = Fits FitsMapping

same_refusal : (r q : Refusal) → FitsRefusal r → FitsRefusal q → refusal_word r ≡ refusal_word q → r ≡ q
unfolding FitsRefusal
same_refusal r q f g e =
    let p = word_parts 0 r.number r.skeleton r.place 0 q.number q.skeleton q.place (omega arith) f.0 f.1
    (omega arith) g.0 g.1 e in
    λ i. record { number = p.xs i; place = p.zs i; skeleton = p.ys i }

-- the four parts of what is no refusal's word: its tag is not 0
record Told (w : ℕ) : Type 0 where
  tag : ℕ
  x : ℕ
  y : ℕ
  z : ℕ
  tagged : (0 < tag) × (tag < 256)
  fits : (x < 256) × (y < 65536)
  is : w ≡ word tag x y z

not_refusal : {w : ℕ} (r : Refusal) → Told w → FitsRefusal r → w ≡ refusal_word r → ⊥
unfolding FitsRefusal
not_refusal r t f e =
    let p = word_parts t.tag t.x t.y t.z 0 r.number r.skeleton r.place t.tagged.1 t.fits.0 t.fits.1 (omega arith) f.0 f.1
    (back t.is ∙ e) in
    omega (arith, p.tags, t.tagged.0)

-- where the word of what is said is one-to-one and no refusal's, the word of an answer is one-to-one
answer_word_one : {A : Type 0} (said : A → ℕ) (FitsValue : A → Type 0) → ((a : A) → FitsValue a → Told (said a))
    → ((a b : A) → FitsValue a → FitsValue b → said a ≡ said b → a ≡ b)
    → (a b : Answer A) → Fits FitsValue a → Fits FitsValue b → answer_word said a ≡ answer_word said b → a ≡ b
answer_word_one said FitsValue told one (answered a) (answered b) f g e = ap answered (one a b f g e)
answer_word_one said FitsValue told one (answered a) (refused r) f g e = absurd (not_refusal r (told a f) g e)
answer_word_one said FitsValue told one (refused r) (answered b) f g e = absurd (not_refusal r (told b g) f (back e))
answer_word_one said FitsValue told one (refused r) (refused q) f g e = ap refused (same_refusal r q f g e)

told_as : (tag x y z : ℕ) → 0 < tag → tag < 256 → x < 256 → y < 65536 → Told (word tag x y z)
told_as tag x y z h k l m = record { tag = tag; x = x; y = y; z = z; tagged = (h, k); fits = (l, m); is = refl }

counts_word_one : (c d : Counts) → c.skeletons < 256 → d.skeletons < 256
    → word 1 c.skeletons 0 c.terms ≡ word 1 d.skeletons 0 d.terms
    → c ≡ d
counts_word_one c d f g e =
    let p = word_parts 1 c.skeletons 0 c.terms 1 d.skeletons 0 d.terms (omega arith) f (omega arith) (omega arith) g
    (omega arith) e in
    λ i. record { terms = p.zs i; skeletons = p.xs i }

pub sheet_word_one : (a b : Answer Counts) → FitsSheet a → FitsSheet b → sheet_word a ≡ sheet_word b → a ≡ b
unfolding FitsSheet sheet_word
sheet_word_one =
    answer_word_one _ _ (λ c f. told_as 1 c.skeletons 0 c.terms (omega arith) (omega arith) f (omega arith)) counts_word_one

so_told : (so : Bool) → Told (word (cond so 1 2) 0 0 0)
so_told true = told_as 1 0 0 0 (omega arith) (omega arith) (omega arith) (omega arith)
so_told false = told_as 2 0 0 0 (omega arith) (omega arith) (omega arith) (omega arith)

so_word_one : (a b : Bool) → word (cond a 1 2) 0 0 0 ≡ word (cond b 1 2) 0 0 0 → a ≡ b
so_word_one true true e = refl
so_word_one true false e = absurd (omega arith)
so_word_one false true e = absurd (omega arith)
so_word_one false false e = refl

pub yes_no_word_one : (a b : Answer Bool) → FitsYesNo a → FitsYesNo b → yes_no_word a ≡ yes_no_word b → a ≡ b
unfolding FitsYesNo yes_no_word
yes_no_word_one = answer_word_one _ _ (λ so f. so_told so) (λ a b f g e. so_word_one a b e)

pub count_word_one : (a b : Answer ℕ) → FitsCount a → FitsCount b → count_word a ≡ count_word b → a ≡ b
unfolding FitsCount count_word
count_word_one =
    answer_word_one _ _ (λ n f. told_as 1 0 0 n (omega arith) (omega arith) (omega arith) (omega arith))
    (λ m n f g e. omega arith)

openness_told : (o : Openness) → FitsOpenness o → Told (openness_word o)
openness_told realized f = told_as 1 0 0 0 (omega arith) (omega arith) (omega arith) (omega arith)
openness_told (open_at n) f = told_as 2 n.strand n.position 0 (omega arith) (omega arith) f.0 f.1

openness_word_one : (o p : Openness) → FitsOpenness o → FitsOpenness p → openness_word o ≡ openness_word p → o ≡ p
openness_word_one realized realized f g e = refl
openness_word_one realized (open_at n) f g e = absurd (omega arith)
openness_word_one (open_at n) realized f g e = absurd (omega arith)
openness_word_one (open_at m) (open_at n) f g e =
    let p = word_parts 2 m.strand m.position 0 2 n.strand n.position 0 (omega arith) f.0 f.1 (omega arith)
    g.0 g.1 e in
    λ i. open_at (record { strand = p.xs i; position = p.ys i })

pub realized_word_one : (a b : Answer Openness) → FitsRealized a → FitsRealized b → realized_word a ≡ realized_word b → a ≡ b
unfolding FitsRealized realized_word
realized_word_one = answer_word_one openness_word FitsOpenness openness_told openness_word_one

mapping_told : (o : Mapping) → FitsMapping o → Told (mapping_word o)
mapping_told is_map f = told_as 1 0 0 0 (omega arith) (omega arith) (omega arith) (omega arith)
mapping_told (breaks k) f = told_as 2 k 0 0 (omega arith) (omega arith) f (omega arith)

mapping_word_one : (o p : Mapping) → FitsMapping o → FitsMapping p → mapping_word o ≡ mapping_word p → o ≡ p
mapping_word_one is_map is_map f g e = refl
mapping_word_one is_map (breaks k) f g e = absurd (omega arith)
mapping_word_one (breaks k) is_map f g e = absurd (omega arith)
mapping_word_one (breaks k) (breaks j) f g e = let z : k ≡ j = omega arith in ap breaks z

pub map_word_one : (a b : Answer Mapping) → FitsMap a → FitsMap b → map_word a ≡ map_word b → a ≡ b
unfolding FitsMap map_word
map_word_one = answer_word_one mapping_word FitsMapping mapping_told mapping_word_one
