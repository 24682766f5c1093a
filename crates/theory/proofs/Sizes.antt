-- How large the numbers of an answer are, by the paper's limits.
use Rattle.std.specs.Prelude.{◌≡◌, refl, Bool, true, false, not, cond, ◌&&◌, ℕ, zero, suc, ◌+◌, ◌*◌, ◌^◌, ◌≤◌, ◌<◌, ltb, leb, eqb, length, get_or}
use Rattle.std.proofs.Common.{ap, arith, zero-mul, suc-mul, mul-le-mul, pow-suc, length-append}
use mathlib.Core.List.{List, [], ◌∷◌, map, Memᴰ}
use Rattle.std.proofs.Math.Option.{Option, none, some}
use Rattle.std.proofs.Math.Nat.{pow-zero, pow-le-pow_right}
use Rattle.std.proofs.lemmas.List.{length-map}
use Rattle.std.proofs.Math.ListN.{get_elem?}
use Rattle.model.specs.Subst.{Subst}
use Rattle.model.specs.Term.{Term, mesg, skey, akey}
use Rattle.model.specs.Limits.{most_terms, most_skeletons, most_strands, most_height, most_orders, most_nons, most_uniqs}
use Rattle.model.specs.Lists.{upto, every}
use Rattle.model.specs.Table.{Row, row, row_of_kind, second, earlier, sorted}
use Rattle.model.specs.Skeleton.{Event, Node, Skeleton, At}
use Rattle.model.specs.Sheet.{Sheet, Refusal, Verdict, refused, accepted, Drawing, meant, HasSkeleton}
use Rattle.model.specs.Reading.{Mark, BS, TM, SK, ST, OR, NO, UO, EN, may_follow, Record, edition, begin, term, strand, order, non, uniq, State, in_work, Said, refuse, says, check, need, read_BS, on_sheet, read_row, read_TM, read_SK, event_in, event_right, read_ST, event_at, sends, receives, read_OR, an_atom, read_atom, read_as, marked_as, read_record, Reading, faulty as faulty_reading, Read, at_end, beyond, at_fault, next}
use Rattle.model.specs.Accepting.{Fault, a_cycle, missing, carried, not_one, early, Accepting, lacks, faulty}
use Rattle.model.specs.Accepting as Acc
use Rattle.model.specs.Judging.{HasVerdict, unread, judged}
use Rattle.model.specs.Rising.{Rising, more}
use Rattle.model.specs.Maps.{Upto, FirstBroken}
use Rattle.model.specs.Answers.{Answer, refusal, Asked, bad_sheet, no_such, too_short, said, Gives, Counts, AskSheet, AskWithin, AskDerivable, AskReach, Openness, realized, open_at, SaysRealized, yes_realized, first_open, AskRealized, Mapping, is_map, breaks, SaysMap, yes_map, no_map, AskMap, AskList}
use Rattle.theory.specs.Places.{inside_list, in_list, listed_at}
use Rattle.theory.specs.ListTests.{keep}
use Rattle.theory.specs.Records.{RightTrace}
use Rattle.theory.specs.Happenings.{at_meant}
use Rattle.theory.proofs.MapTests.{each_first, candidates, map_test, maps}
use Rattle.theory.specs.Standing.{Drawn}
use Rattle.theory.specs.Encoding.{WithinLimits, read_encoded}
use Rattle.theory.specs.Lengths.{verdict_places}
use Rattle.theory.proofs.Verdicts.{accepting_same, verdict_sound}
use Rattle.theory.specs.NoSecond.{maps_one}
use Rattle.theory.proofs.Listing.{maps_of, maps_are}

-- A record is refused with 1 to 7

data Low : Said → Type 0 where
  low : {n : ℕ} → n ≤ 7 → Low (refuse n)
  told : {r : Record} → Low (says r)

check_low : (b : Bool) (n : ℕ) (x : Said) → n ≤ 7 → Low x → Low (check b n x)
unfolding check
check_low true n x h l = l
check_low false n x h l = low h

need_low : {A : Type 0} (o : Option A) (n : ℕ) (f : A → Said) → n ≤ 7 → ((a : A) → Low (f a)) → Low (need o n f)
unfolding need
need_low none n f h l = low h
need_low (some a) n f h l = l a

row_low : (rows : List Row) (k a b : ℕ) → Low (read_row rows k a b)
unfolding read_row
row_low rows k a b =
    need_low (row_of_kind k a b) 5 _ (omega arith)
    λ r. check_low (eqb (second r) b) 5 _ (omega arith)
    (check_low (earlier (length rows) r && sorted (row rows) r) 5 _ (omega arith)
    (check_low (not (on_sheet rows r)) 6 _ (omega arith) (told {r = term r})))

atom_low : (most : ℕ) (of : ℕ → Record) (rows : List Row) (there : ℕ) (rest : List ℕ) → Low (read_atom most of rows there rest)
unfolding read_atom
atom_low most of rows there rest =
    check_low (ltb there most) 4 _ (omega arith)
    (check_low (leb 3 (length rest)) 1 _ (omega arith)
    (check_low (an_atom rows (get_or rest 2 0)) 7 _ (omega arith) (told {r = of (get_or rest 2 0)})))

BS_low : (rest : List ℕ) → Low (read_BS rest)
unfolding read_BS
BS_low rest =
    check_low (leb 3 (length rest)) 1 _ (omega arith) (check_low (eqb (get_or rest 2 0) 1) 3 _ (omega arith) (told {r = edition}))

TM_low : (rows : List Row) (rest : List ℕ) → Low (read_TM rows rest)
unfolding read_TM
TM_low rows rest =
    check_low (ltb (length rows) most_terms) 4 _ (omega arith)
    (check_low (leb 5 (length rest)) 1 _ (omega arith) (row_low rows (get_or rest 2 0) (get_or rest 3 0) (get_or rest 4 0)))

SK_low : (skeletons : ℕ) → Low (read_SK skeletons)
unfolding read_SK
SK_low skeletons = check_low (ltb skeletons most_skeletons) 4 _ (omega arith) (told {r = begin})

ST_low : (terms strands : ℕ) (rest : List ℕ) → Low (read_ST terms strands rest)
unfolding read_ST
ST_low terms strands rest =
    let h : ℕ = get_or rest 2 0 in
    check_low (ltb strands most_strands) 4 _ (omega arith)
    (check_low (leb 3 (length rest)) 1 _ (omega arith)
    (check_low (leb 1 h && leb h most_height) 4 _ (omega arith)
    (check_low (leb (3 + 2 * h) (length rest)) 1 _ (omega arith)
    (check_low (every h (event_right terms rest)) 7 _ (omega arith) (told {r = strand (upto h (event_in rest))})))))

OR_low : (K : Skeleton ℕ) (rest : List ℕ) → Low (read_OR K rest)
unfolding read_OR
OR_low K rest =
    let m : Node = record { strand = get_or rest 2 0; position = get_or rest 3 0 } in
    let n : Node = record { strand = get_or rest 4 0; position = get_or rest 5 0 } in
    check_low (ltb (length K.order) most_orders) 4 _ (omega arith)
    (check_low (leb 6 (length rest)) 1 _ (omega arith)
    (check_low (sends (event_at K m) && receives (event_at K n)) 7 _ (omega arith) (told {r = order m n})))

as_low : (m : Mark) (s : State) (rest : List ℕ) → Low (read_as m s rest)
unfolding read_as
as_low BS s rest = BS_low rest
as_low TM s rest = TM_low s.rows rest
as_low SK s rest = SK_low (length s.drawn)
as_low ST s rest = ST_low (length s.rows) (length (in_work s).strands) rest
as_low OR s rest = OR_low (in_work s) rest
as_low NO s rest = atom_low most_nons non s.rows (length (in_work s).non) rest
as_low UO s rest = atom_low most_uniqs uniq s.rows (length (in_work s).uniq) rest
as_low EN s rest = told

record_low : (s : State) (rest : List ℕ) → Low (read_record s rest)
unfolding read_record
record_low s rest =
    check_low (leb 2 (length rest)) 1 _ (omega arith)
    (need_low (marked_as (get_or rest 0 0) (get_or rest 1 0) (may_follow s.last)) 2 _ (omega arith) (λ m. as_low m s rest))

number_low : {x : Said} {n : ℕ} → Low x → x ≡ refuse n → n ≤ 7
number_low {n} (low {n = m} h) e = let z : m ≡ n = cc in omega arith
number_low told e = let z : ◌≡◌ {A = ℕ} 0 1 = cc in absurd (omega arith)

-- A refusal

pub record LowRefusal (r : Refusal) : Type 0 where
  pub number : r.number ≤ 16
  pub place : r.place ≤ 2581
  pub skeleton : r.skeleton ≤ 1

-- its number and its skeleton
record Numbered (r : Refusal) : Type 0 where
  number : r.number ≤ 14
  skeleton : r.skeleton ≤ 1

reading_numbered : {s : State} {p : ℕ} {l : List ℕ} {out : Reading} → Read s p l out → (r : Refusal) → out ≡ faulty_reading r
    → Numbered r
reading_numbered (at_end g) r q = let z : ◌≡◌ {A = ℕ} 0 1 = cc in absurd (omega arith)
reading_numbered {p} (beyond g) r q =
    let z : ◌≡◌ {A = Refusal} (record { number = 8; place = p; skeleton = 0 }) r = cc in
    rw (← z) (record { number = omega arith; skeleton = omega arith })
reading_numbered {s} {p} (at_fault {n} {rest} g f) r q =
    let z : ◌≡◌ {A = Refusal} (record { number = n; place = p; skeleton = 0 }) r = cc in
    let k : n ≤ 7 = number_low (record_low s rest) f in
    rw (← z) (record { number = omega arith; skeleton = omega arith })
reading_numbered (next g f k) r q = reading_numbered k r q

fault_low : {D : Drawing} {n a : ℕ} → Fault D n a → n ≤ 14
fault_low (a_cycle c) = omega arith
fault_low (missing t u) = omega arith
fault_low (carried t u) = omega arith
fault_low (not_one t u) = omega arith
fault_low (early t o u) = omega arith

accepting_numbered : {s : Sheet} → WithinLimits s → {v : Verdict} → Accepting s v → (r : Refusal) → v ≡ refused r → Numbered r
accepting_numbered w (lacks {i} h f) r e =
    let z : ◌≡◌ {A = Refusal} (record { number = 9; place = i; skeleton = 0 }) r = cc in
    rw (← z) (record { number = omega arith; skeleton = omega arith })
accepting_numbered {s} w (faulty {k} {number} {place} {D} n h g x) r e =
    let z : ◌≡◌ {A = Refusal} (record { number = number; place = place; skeleton = k }) r = cc in
    rw (← z) (record {
      number = fault_low x;
      skeleton = omega (arith, inside_list s.skeletons k h.skeleton, w.few);
    })
accepting_numbered w (Acc.right n g) r e = let z : ◌≡◌ {A = ℕ} 0 1 = cc in absurd (omega arith)

verdict_numbered : {bytes : List ℕ} {v : Verdict} → HasVerdict bytes v → (r : Refusal) → v ≡ refused r → Numbered r
verdict_numbered (unread {r = q} h) r e = let z : q ≡ r = cc in rw (← z) (reading_numbered h q refl)
verdict_numbered (judged h a) r e = accepting_numbered (read_encoded h).within a r e

pub verdict_low : {bytes : List ℕ} {r : Refusal} → HasVerdict bytes (refused r) → LowRefusal r
verdict_low {r} h =
    let n = verdict_numbered h r refl in
    record { number = omega (arith, n.number); place = verdict_places h; skeleton = n.skeleton }

-- An answer, where `Small` says how large it is

pub data LowAnswer {A : Type 0} (Small : A → Type 0) : Answer A → Type 0 where
  low_refusal : {r : Refusal} → LowRefusal r → LowAnswer Small (Answer.refused r)
  low_answer : {a : A} → Small a → LowAnswer Small (Answer.answered a)

pub within_limits : {bytes : List ℕ} {s : Sheet} → HasVerdict bytes (accepted s) → WithinLimits s
within_limits {s} (judged {s = t} h a) = let e : t ≡ s = accepting_same a in rw e at (read_encoded h).within

-- 15 and 16 have place 0 and skeleton 0
asked_refusal : (n : ℕ) → n ≤ 16 → LowRefusal (refusal n)
asked_refusal n h = record { number = h; place = omega arith; skeleton = omega arith }

module _ {X A : Type 0} (Subject : Sheet → X → Type 0) (Room : X → Type 0) (Says : X → A → List ℕ → Type 0) (lent : List ℕ)
    (Small : A → Type 0) (bytes : List ℕ)
    (small : (s : Sheet) → HasVerdict bytes (accepted s) → (x : X) → Subject s x → (a : A) (l : List ℕ) → Says x a l
    → Small a) where
  asked_low : {v : Verdict} → HasVerdict bytes v → {a : Answer A} {l : List ℕ} → Asked Subject Room Says lent v a l
      → LowAnswer Small a
  asked_low h bad_sheet = low_refusal (verdict_low h)
  asked_low h (no_such n) = low_refusal (asked_refusal 15 (omega arith))
  asked_low h (too_short k n) = low_refusal (asked_refusal 16 (omega arith))
  asked_low h (said {s} {x} {a} {after = l} k r p) = low_answer (small s h x k a l p)

  gives_low : {a : Answer A} {l : List ℕ} → Gives bytes (Asked Subject Room Says lent) a l → LowAnswer Small a
  gives_low g = asked_low g.judged g.is

-- THE SEVEN QUESTIONS

pub record LowCounts (c : Counts) : Type 0 where
  pub terms : c.terms ≤ 200
  pub skeletons : c.skeletons ≤ 2

pub sheet_low : {bytes : List ℕ} {a : Answer Counts} {l : List ℕ} → Gives bytes AskSheet a l → LowAnswer LowCounts a
unfolding AskSheet
sheet_low {bytes} g =
    gives_low _ _ _ _ LowCounts bytes
    (λ s h x k c l p.
    let w : WithinLimits x = rw k.same at (within_limits h) in
    record { terms = omega (arith, p.terms, w.table.few); skeletons = omega (arith, p.skeletons, w.few) }) g

abbrev pub Any : Bool → Type 0
Any b = Unit {0}

pub within_low : (t t' : ℕ) (S : List ℕ) {bytes : List ℕ} {a : Answer Bool} {l : List ℕ} → Gives bytes (AskWithin t t' S) a l
    → LowAnswer Any a
unfolding AskWithin
within_low t t' S {bytes} g = gives_low _ _ _ _ Any bytes (λ s h x k b l p. tt) g

pub derivable_low : (k : ℕ) (n : Node) (t : ℕ) {bytes : List ℕ} {a : Answer Bool} {l : List ℕ}
    → Gives bytes (AskDerivable k n t) a l
    → LowAnswer Any a
unfolding AskDerivable
derivable_low k n t {bytes} g = gives_low _ _ _ _ Any bytes (λ s h x k b l p. tt) g

-- the reach: a rising list of numbers from m on and below n
rising_low : (l : List ℕ) (m n : ℕ) → Rising (λ i j. i < j) l → ((i : ℕ) → Memᴰ i l → m ≤ i)
    → ((i : ℕ) → Memᴰ i l → i < n) → m ≤ n → length l + m ≤ n
rising_low [] m n r f g h = omega arith
rising_low (x ∷ l) m n (more s r) f g h =
    let a : x < n = g x (Memᴰ.head refl) in
    let b : m ≤ x = f x (Memᴰ.head refl) in
    let c : length l + suc x ≤ n =
    rising_low l (suc x) n r (λ i k. omega (arith, s i k)) (λ i k. g i (Memᴰ.tail k)) (omega arith) in
    omega arith

pub reach_low : (k : ℕ) (n : Node) {bytes : List ℕ} {a : Answer ℕ} {l : List ℕ} → Gives bytes (AskReach k n) a l
    → LowAnswer (λ count. count ≤ 200) a
unfolding AskReach
reach_low k n {bytes} g =
    gives_low _ _ _ _ (λ count. count ≤ 200) bytes
    (λ s h D q count l p.
    let r = p.reach in
    let e : length s.rows ≡ length D.rows = ap length q.drawing.rows in
    let b : length r.terms + 0 ≤ length D.rows =
    rising_low r.terms 0 (length D.rows) r.rising (λ i m. omega arith) (λ i m. ((r.members i).0 m).0) (omega arith) in
    omega (arith, r.size, (within_limits h).table.few)) g

-- an event stands on one of at most 6 strands, at one of at most 16 positions
pub record LowNode (n : Node) : Type 0 where
  pub strand : n.strand ≤ 5
  pub position : n.position ≤ 15

pub data LowOpenness : Openness → Type 0 where
  low_realized : LowOpenness realized
  low_open : {n : Node} → LowNode n → LowOpenness (open_at n)

strand_inside : {M : Type 0} (K : Skeleton M) {n : Node} {e : Event M} → At K n e → n.strand < length K.strands
strand_inside {M} K {n} {e} a = go K.strands n.strand a.is
  where
    go : (l : List (List (Event M))) (s : ℕ) → get_elem? (get_or l s []) n.position ≡ some e → s < length l
    go [] s h = absurd (omega (arith, inside_list [] n.position h))
    go (t ∷ l) zero h = omega arith
    go (t ∷ l) (suc s) h = omega (arith, go l s h)

event_low : {s : Sheet} → WithinLimits s → {k : ℕ} {D : Drawing} → HasSkeleton k s D → {n : Node} {d : Event Term}
    → At (meant D) n d
    → LowNode n
unfolding meant
event_low {s} w {k} {D} h {n} a =
    let K : Skeleton ℕ = D.skeleton in
    let d : Drawn s.rows K = w.drawings K (in_list s.skeletons k h.skeleton) in
    let (e, b, _) = at_meant _ K a in
    let i : n.strand < length K.strands = strand_inside K b in
    let t : RightTrace (length s.rows) (get_or K.strands n.strand []) =
    d.traces _ (listed_at K.strands n.strand [] i) in
    record {
      strand = omega (arith, d.few_strands);
      position = omega (arith, t.low, inside_list (get_or K.strands n.strand []) n.position b.is);
    }

openness_low : {s : Sheet} {k : ℕ} {D : Drawing} {o : Openness} {l : List ℕ} → WithinLimits s → HasSkeleton k s D → SaysRealized D o l
    → LowOpenness o
openness_low w q (yes_realized r) = low_realized
openness_low w q (first_open f) = low_open (event_low w q f.at)

pub realized_low : (k : ℕ) {bytes : List ℕ} {a : Answer Openness} {l : List ℕ} → Gives bytes (AskRealized k) a l
    → LowAnswer LowOpenness a
unfolding AskRealized
realized_low k {bytes} g =
    gives_low _ _ _ _ LowOpenness bytes
    (λ s h D q o l x. openness_low (within_limits h) q x) g

-- the rules are numbered from 1 to 6
pub data LowMapping : Mapping → Type 0 where
  low_map : LowMapping is_map
  low_rule : {k : ℕ} → 1 ≤ k → k ≤ 6 → LowMapping (breaks k)

any : Subst
any =
    record {
      to_mesg = mesg;
      to_text = λ n. n;
      to_datum = λ n. n;
      to_name = λ n. n;
      to_sym = skey;
      to_asym = λ n. (false, akey n);
    }

no_rule : (A B : Skeleton Term) (bytes : List ℕ) → Upto A B bytes 0
no_rule A B bytes =
    record {
      σ = any;
      kept = record {
        strands = λ l. absurd (omega arith);
        directions = λ l. absurd (omega arith);
        messages = λ l. absurd (omega arith);
        order = λ l. absurd (omega arith);
        non = λ l. absurd (omega arith);
        uniq = λ l. absurd (omega arith);
      };
    }

broken_low : (A B : Skeleton Term) (bytes : List ℕ) (k : ℕ) → FirstBroken A B bytes k → LowMapping (breaks k)
broken_low A B bytes zero f = absurd (f.breaks (no_rule A B bytes))
broken_low A B bytes (suc k) f = low_rule {k = suc k} (omega arith) f.rule

mapping_low : {i j : ℕ} {m lent : List ℕ} {x : Drawing × Drawing} {o : Mapping} {l : List ℕ} → SaysMap i j m lent x o l → LowMapping o
mapping_low (yes_map p q) = low_map
mapping_low {m} {x = x} (no_map {rule} f) = broken_low (meant x.0) (meant x.1) m rule f

pub map_low : (i j : ℕ) (m lent : List ℕ) {bytes : List ℕ} {a : Answer Mapping} {l : List ℕ} → Gives bytes (AskMap i j m lent) a l
    → LowAnswer LowMapping a
unfolding AskMap
map_low i j m lent {bytes} g =
    gives_low _ _ _ _ LowMapping bytes
    (λ s h x k o l y. mapping_low y) g

-- at most 6 strands to one of at most 6 strands each

kept_few : {A : Type 0} (p : A → Bool) (l : List A) → length (keep p l) ≤ length l
unfolding keep
kept_few p [] = omega arith
kept_few p (x ∷ l) = go (p x) (kept_few p l)
  where
    go : (b : Bool) → length (keep p l) ≤ length l → length (cond b (x ∷ keep p l) (keep p l)) ≤ suc (length l)
    go true h = omega arith
    go false h = omega arith

firsts : (b : ℕ) (l : List (List ℕ)) → length (each_first b l) ≡ b * length l
unfolding each_first
firsts zero l = rw zero-mul
firsts (suc b) l =
    let e = length-append (each_first b l) (map (λ m. b ∷ m) l) in
    let f = length-map l (λ m. b ∷ m) in
    omega (arith, firsts b l, suc-mul b (length l))

candidates_few : (n b : ℕ) → b ≤ 6 → length (candidates n b) ≤ 6 ^ n
unfolding candidates
candidates_few zero b h = omega (arith, pow-zero 6)
candidates_few (suc n) b h =
    let e = firsts b (candidates n b) in
    let m : b * length (candidates n b) ≤ 6 * 6 ^ n = mul-le-mul h (candidates_few n b h) in
    omega (arith, pow-suc 6 n)

powers_of_six : (n : ℕ) → n ≤ 6 → 6 ^ n ≤ 46656
powers_of_six n h = let m : 6 ^ n ≤ 6 ^ 6 = pow-le-pow_right (omega arith) h in omega arith

maps_few : (rows : List Row) (A B : Skeleton ℕ) → length A.strands ≤ 6 → length B.strands ≤ 6
    → length (maps rows A B) ≤ 46656
unfolding maps
maps_few rows A B h k =
    let c : List (List ℕ) = candidates (length A.strands) (length B.strands) in
    omega (
      arith,
      kept_few (λ l. map_test rows A B (λ s. get_or l s 0)) c,
      candidates_few (length A.strands) (length B.strands) k,
      powers_of_six (length A.strands) h,
    )

few_strands : {s : Sheet} → WithinLimits s → {k : ℕ} {D : Drawing} → HasSkeleton k s D → length D.skeleton.strands ≤ 6
few_strands {s} w {k} {D} h = (w.drawings D.skeleton (in_list s.skeletons k h.skeleton)).few_strands

pub list_low : (i j : ℕ) (lent : List ℕ) {bytes : List ℕ} {a : Answer ℕ} {l : List ℕ} → Gives bytes (AskList i j lent) a l
    → LowAnswer (λ count. count ≤ 46656) a
unfolding AskList maps_of
list_low i j lent {bytes} g =
    gives_low _ _ _ _ (λ count. count ≤ 46656) bytes
    (λ s h x k count l p.
    let w = within_limits h in
    let e = ap length (maps_one p.all (maps_are i j s (verdict_sound h) x k)) in
    let f = maps_few x.0.rows x.0.skeleton x.1.skeleton (few_strands w k.from) (few_strands w k.to) in
    omega (arith, p.counted)) g
