-- Questions that the paper's cases leave out: carried only within and derivable, what is earlier, the first of two open
-- receptions, sorts and names in a map, room that is exactly enough, and refusals 15 and 16 of each.
use Rattle.std.specs.Prelude.{◌≡◌, refl, Bool, true, false, cond, ◌&&◌, List, [], ◌∷◌, ◌++◌, ℕ, T, eqb}
use Rattle.std.proofs.Common.{ap, ap₂, eqb→eq}
use Rattle.model.specs.Lists.{upto}
use Rattle.model.specs.Skeleton.{Node}
use Rattle.model.specs.Sheet.{Refusal, Verdict}
use Rattle.model.specs.Answers.{Gives, Answer, refused, answered, AskWithin, AskDerivable, AskReach, Openness, realized, open_at, AskRealized, Mapping, is_map, breaks, AskMap, AskList}
use Rattle.theory.specs.Tests.{both}
use Rattle.theory.specs.Each.{Each}
use Rattle.theory.specs.ListTests.{all_of, all_each}
use Rattle.theory.proofs.Asking.{Answered, ask_within, ask_derivable, ask_reach, ask_realized, ask_map, ask_list}
use Rattle.cases.specs.Hex.{hex}
use Rattle.cases.specs.Cases.{paper, two_texts}

-- The sheets

-- key 0, text 1, and 2 the text under the key, which is non-originating. In skeleton 0 one strand receives 2 and another sends
-- it, in no order; in skeleton 1 it is sent before
unfoldable unsent : List ℕ
unfolding hex
unsent =
    hex "4253 01 / 544d 050000 / 544d 020000 / 544d 0b0100 / 534b / 5354 01 0102 / 5354 01 0002 / 4e4f 00 /"
    ++ hex "534b / 5354 01 0102 / 5354 01 0002 / 4f52 01000000 / 4e4f 00 / 454e"

-- 2 is received twice on one strand
unfoldable heard : List ℕ
unfolding hex
heard = hex "4253 01 / 544d 050000 / 544d 020000 / 544d 0b0100 / 534b / 5354 02 0102 0102 / 4e4f 00 / 454e"

-- 2 is received at (0, 1) and at (1, 0)
unfoldable two_open : List ℕ
unfolding hex
two_open = hex "4253 01 / 544d 050000 / 544d 020000 / 544d 0b0100 / 534b / 5354 02 0001 0102 / 5354 01 0102 / 4e4f 00 / 454e"

-- texts 0 and 1, key 2, 3 text 0 under the key, the pair 4 of 3 and 1, the pair 5 of 3 and 0
unfoldable sealed : List ℕ
unfolding hex
sealed =
    hex "4253 01 / 544d 020000 / 544d 020100 / 544d 050000 / 544d 0b0002 / 544d 0a0301 / 544d 0a0300 / 534b / 5354 01 0000 / 454e"

-- a tag 0, a text 1 and the pair 2 of them; the pair is sent, then the text received, which is unique
unfoldable second_half : List ℕ
unfolding hex
second_half =
    hex "4253 01 / 544d 000000 / 544d 020000 / 544d 0a0001 / 534b / 5354 01 0002 / 5354 01 0101 / 4f52 00000100 / 554f 01 / 454e"

-- the pair of a message variable and the hash of a tag is received
unfoldable built : List ℕ
unfolding hex
built = hex "4253 01 / 544d 000000 / 544d 010000 / 544d 0c0000 / 544d 0a0102 / 534b / 5354 01 0103 / 454e"

-- names 0 to 3; long-term keys 4 of 0 and 1, 5 of 2 and 3; public keys 6 of 0, 7 of 2, and their inverses; 11 to 14 a tag under
-- 4 to 7. The source sends 11 and 13; of the target's strands one sends 12 and 14, one 12 and 13
unfoldable names : List ℕ
unfolding hex
names =
    hex "4253 01 / 544d 040000 / 544d 040100 / 544d 040200 / 544d 040300 / 544d 090001 / 544d 090203 / 544d 070000 /"
    ++ hex "544d 070200 / 544d 080600 / 544d 080700 / 544d 000000 / 544d 0b0a04 / 544d 0b0a05 / 544d 0b0a06 / 544d 0b0a07 /"
    ++ hex "534b / 5354 02 000b 000d / 534b / 5354 02 000c 000e / 5354 02 000c 000d / 454e"

-- the source sends the inverse 1 of an asymmetric key 0 and a symmetric key 5; of the target's strands one sends a public key 3
-- and a long-term key 6, one 6 twice, one 3 twice
unfoldable keys : List ℕ
unfolding hex
keys =
    hex "4253 01 / 544d 060000 / 544d 080000 / 544d 040000 / 544d 070200 / 544d 080300 / 544d 050000 / 544d 090202 /"
    ++ hex "534b / 5354 02 0001 0005 / 534b / 5354 02 0003 0006 / 5354 02 0006 0006 / 5354 02 0003 0003 / 454e"

-- What is asked of which bytes, and what the answer is

pub data Question : Type 0 where
  within : List ℕ → ℕ → ℕ → List ℕ → Answer Bool → Question
  derivable : List ℕ → ℕ → Node → ℕ → Answer Bool → Question
  reach : List ℕ → ℕ → Node → Answer ℕ → Question
  openness : List ℕ → ℕ → Answer Openness → Question
  -- source, target, strand map, lent bytes, and those afterwards
  judges : List ℕ → ℕ → ℕ → List ℕ → List ℕ → Answer Mapping → List ℕ → Question
  lists : List ℕ → ℕ → ℕ → List ℕ → Answer ℕ → List ℕ → Question

unfoldable pub Holds : Question → Type 0
Holds (within bytes t t' S a) = Gives bytes (AskWithin t t' S) a S
Holds (derivable bytes k n t a) = Gives bytes (AskDerivable k n t) a []
Holds (reach bytes k n a) = Gives bytes (AskReach k n) a []
Holds (openness bytes k a) = Gives bytes (AskRealized k) a []
Holds (judges bytes source target map lent a after) = Gives bytes (AskMap source target map lent) a after
Holds (lists bytes source target lent a after) = Gives bytes (AskList source target lent) a after

abbrev node : ℕ → ℕ → Node
node s p = record { strand = s; position = p }

-- "15 .. 16 ..": place 0 and skeleton 0
abbrev no : {A : Type 0} → ℕ → Answer A
no number = refused (record { number = number; place = 0; skeleton = 0 })

abbrev nines : ℕ → List ℕ
nines n = upto n (λ _. 9)

unfoldable pub questions : List Question
unfolding upto unsent heard two_open sealed second_half built names keys paper two_texts
questions =
    -- "Earlier messages: those of all sends that precede the reception": a send that does not come before, one that does, and a
    -- message that was only received
    openness unsent 0 (answered (open_at (node 0 0)))
    ∷ openness unsent 1 (answered realized)
    ∷ reach heard 0 (node 0 1) (answered 1)
    -- "the first unrealized reception by strand, then position"
    ∷ openness two_open 0 (answered (open_at (node 0 1)))
    -- splitting, and building from parts
    ∷ openness second_half 0 (answered realized)
    ∷ openness built 0 (answered realized)
    -- "Carried only within": text 0 within 3 in 4; not in 5, where it stands outside too; a pair protects; nothing does;
    -- membership of the term itself protects nothing; what is not carried; a key is not; repeats
    ∷ within sealed 0 4 (3 ∷ []) (answered true)
    ∷ within sealed 0 5 (3 ∷ []) (answered false)
    ∷ within sealed 0 4 (4 ∷ []) (answered true)
    ∷ within sealed 0 4 [] (answered false)
    ∷ within sealed 0 4 (0 ∷ []) (answered false)
    ∷ within sealed 4 0 [] (answered true)
    ∷ within sealed 2 3 [] (answered true)
    ∷ within sealed 0 4 (3 ∷ 3 ∷ []) (answered true)
    -- "15 if any of them all is no term"
    ∷ within sealed 6 0 [] (no 15)
    ∷ within sealed 0 6 [] (no 15)
    ∷ within sealed 0 4 (3 ∷ 6 ∷ []) (no 15)
    -- "Derivable before": data 1, and not key 0; no such term, a send, no such skeleton, no such node
    ∷ derivable paper 0 (node 0 1) 1 (answered true)
    ∷ derivable paper 0 (node 0 1) 0 (answered false)
    ∷ derivable paper 0 (node 0 1) 9 (no 15)
    ∷ derivable paper 0 (node 0 0) 1 (no 15)
    ∷ derivable paper 2 (node 0 1) 1 (no 15)
    ∷ derivable paper 0 (node 1 0) 1 (no 15)
    ∷ reach paper 0 (node 0 0) (no 15)
    ∷ openness paper 2 (no 15)
    -- an image table that fits exactly, one that is too short, and no such skeleton before that
    ∷ judges two_texts 0 1 (0 ∷ 1 ∷ []) (nines 4) (answered is_map) (2 ∷ 3 ∷ 255 ∷ 255 ∷ [])
    ∷ judges two_texts 0 1 (0 ∷ 1 ∷ []) (nines 3) (no 16) (nines 3)
    ∷ judges two_texts 0 2 (0 ∷ 1 ∷ []) (nines 1) (no 15) (nines 1)
    -- a key of names goes to the key of their images
    ∷ judges names 0 1 (0 ∷ []) (nines 15) (answered is_map)
    (2 ∷ 3 ∷ 255 ∷ 255 ∷ 255 ∷ 255 ∷ 255 ∷ 255 ∷ 255 ∷ 255 ∷ 255 ∷ 255 ∷ 255 ∷ 255 ∷ 255 ∷ [])
    ∷ judges names 0 1 (1 ∷ []) (nines 15) (answered (breaks 3)) (nines 15)
    -- an asymmetric key goes to an inverse, a symmetric key to a long-term key, and neither to the other's sort
    ∷ judges keys 0 1 (0 ∷ []) (nines 7) (answered is_map) (4 ∷ 255 ∷ 255 ∷ 255 ∷ 255 ∷ 6 ∷ 255 ∷ [])
    ∷ judges keys 0 1 (1 ∷ []) (nines 7) (answered (breaks 3)) (nines 7)
    ∷ judges keys 0 1 (2 ∷ []) (nines 7) (answered (breaks 3)) (nines 7)
    -- a list that fits exactly (one map of one source strand, into two), one that does not, and no such skeleton
    ∷ lists paper 0 1 (nines 1) (answered 1) (0 ∷ [])
    ∷ lists paper 0 1 [] (no 16) []
    ∷ lists paper 0 2 [] (no 15) []
    ∷ []

-- Each is given: one computation over the list

-- a test that shows that two are the same
record Tests {A : Type 0} (test : A → A → Bool) : Type 0 where
  same : (x y : A) → T (test x y) → x ≡ y

unfoldable pub same_bool : Bool → Bool → Bool
same_bool true b = b
same_bool false b = cond b false true

bools : Tests same_bool
unfolding same_bool
bools = record { same = go }
  where
    go : (x y : Bool) → T (same_bool x y) → x ≡ y
    go true true h = refl
    go false false h = refl
    go false true h = elim h [ ]
    go true false h = elim h [ ]

numbers : Tests eqb
numbers = record { same = eqb→eq }

unfoldable pub same_openness : Openness → Openness → Bool
same_openness realized realized = true
same_openness realized (open_at n) = false
same_openness (open_at m) realized = false
same_openness (open_at m) (open_at n) = eqb m.strand n.strand && eqb m.position n.position

opennesses : Tests same_openness
unfolding same_openness
opennesses = record { same = go }
  where
    go : (x y : Openness) → T (same_openness x y) → x ≡ y
    go realized realized h = refl
    go (open_at m) (open_at n) h =
        let (a, b) = both (eqb m.strand n.strand) _ h in
        let s : m.strand ≡ n.strand = eqb→eq _ _ a in
        let p : m.position ≡ n.position = eqb→eq _ _ b in
        λ i. open_at (record { strand = s i; position = p i })
    go realized (open_at n) h = elim h [ ]
    go (open_at m) realized h = elim h [ ]

unfoldable pub same_mapping : Mapping → Mapping → Bool
same_mapping is_map is_map = true
same_mapping is_map (breaks k) = false
same_mapping (breaks j) is_map = false
same_mapping (breaks j) (breaks k) = eqb j k

mappings : Tests same_mapping
unfolding same_mapping
mappings = record { same = go }
  where
    go : (x y : Mapping) → T (same_mapping x y) → x ≡ y
    go is_map is_map h = refl
    go (breaks j) (breaks k) h = ap breaks (eqb→eq j k h)
    go is_map (breaks k) h = elim h [ ]
    go (breaks j) is_map h = elim h [ ]

unfoldable pub same_bytes : List ℕ → List ℕ → Bool
same_bytes [] [] = true
same_bytes [] (y ∷ m) = false
same_bytes (x ∷ l) [] = false
same_bytes (x ∷ l) (y ∷ m) = eqb x y && same_bytes l m

bytes_same : (l m : List ℕ) → T (same_bytes l m) → l ≡ m
unfolding same_bytes
bytes_same [] [] h = refl
bytes_same (x ∷ l) (y ∷ m) h =
    let (a, b) = both (eqb x y) (same_bytes l m) h in
    ap₂ (λ z k. z ∷ k) (eqb→eq x y a) (bytes_same l m b)
bytes_same [] (y ∷ m) h = elim h [ ]
bytes_same (x ∷ l) [] h = elim h [ ]

unfoldable pub same_refusal : Refusal → Refusal → Bool
same_refusal q r = eqb q.number r.number && (eqb q.place r.place && eqb q.skeleton r.skeleton)

refusals_same : (q r : Refusal) → T (same_refusal q r) → q ≡ r
unfolding same_refusal
refusals_same q r h =
    let (a, g) = both (eqb q.number r.number) _ h in
    let (b, c) = both (eqb q.place r.place) _ g in
    let x : q.number ≡ r.number = eqb→eq _ _ a in
    let y : q.place ≡ r.place = eqb→eq _ _ b in
    let z : q.skeleton ≡ r.skeleton = eqb→eq _ _ c in
    λ i. record { number = x i; place = y i; skeleton = z i }

unfoldable pub same_answer : {A : Type 0} → (A → A → Bool) → Answer A → Answer A → Bool
unfolding same_refusal
same_answer test (refused q) (refused r) = same_refusal q r
same_answer test (refused q) (answered y) = false
same_answer test (answered x) (refused r) = false
same_answer test (answered x) (answered y) = test x y

answers_same : {A : Type 0} {test : A → A → Bool} → Tests test → (a b : Answer A) → T (same_answer test a b) → a ≡ b
unfolding same_answer
answers_same s (refused q) (refused r) h = ap refused (refusals_same q r h)
answers_same s (answered x) (answered y) h = ap answered (s.same x y h)
answers_same {A = A} {test = test} s (refused q) (answered y) h = elim h [ ]
answers_same {A = A} {test = test} s (answered x) (refused r) h = elim h [ ]

module _ {A : Type 0} (test : A → A → Bool) {bytes : List ℕ} {Q : Verdict → Answer A → List ℕ → Type 0} where
  unfoldable pub answer_is : Answered bytes Q → Answer A → List ℕ → Bool
  unfolding same_answer same_bytes
  answer_is g a after = same_answer test g.answer a && same_bytes g.after after

  is_answer : Tests test → (g : Answered bytes Q) (a : Answer A) (after : List ℕ) → T (answer_is g a after)
      → Gives bytes Q a after
  unfolding answer_is
  is_answer s g a after h =
      let (x, y) = both (same_answer test g.answer a) (same_bytes g.after after) h in
      rw (answers_same s g.answer a x, bytes_same g.after after y) at g.gives

unfoldable pub holds : Question → Bool
unfolding answer_is same_bool same_openness same_mapping ask_within ask_derivable ask_reach ask_realized ask_map ask_list
holds (within bytes t t' S a) = answer_is same_bool (ask_within t t' S bytes) a S
holds (derivable bytes k n t a) = answer_is same_bool (ask_derivable k n t bytes) a []
holds (reach bytes k n a) = answer_is eqb (ask_reach k n bytes) a []
holds (openness bytes k a) = answer_is same_openness (ask_realized k bytes) a []
holds (judges bytes source target map lent a after) = answer_is same_mapping (ask_map source target map lent bytes) a after
holds (lists bytes source target lent a after) = answer_is eqb (ask_list source target lent bytes) a after

holding : (q : Question) → T (holds q) → Holds q
unfolding Holds holds
holding (within bytes t t' S a) h = is_answer same_bool bools (ask_within t t' S bytes) a S h
holding (derivable bytes k n t a) h = is_answer same_bool bools (ask_derivable k n t bytes) a [] h
holding (reach bytes k n a) h = is_answer eqb numbers (ask_reach k n bytes) a [] h
holding (openness bytes k a) h = is_answer same_openness opennesses (ask_realized k bytes) a [] h
holding (judges bytes source target map lent a after) h =
    is_answer same_mapping mappings (ask_map source target map lent bytes) a after h
holding (lists bytes source target lent a after) h = is_answer eqb numbers (ask_list source target lent bytes) a after h

-- THE CLAIM
pub all_answered : Each Holds questions
unfolding all_of holds questions
all_answered q m = holding q (all_each holds questions tt q m)
