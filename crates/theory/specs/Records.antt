-- What a record that was read has passed: it may come next, it is right, and all of it is there.
use Rattle.std.specs.Prelude.{◌≡◌, refl, Bool, true, false, not, cond, ◌&&◌, List, [], ◌∷◌, ℕ, zero, suc, ◌+◌, ◌*◌, ◌≤◌, ◌<◌, T, ltb, leb, eqb, length, get_or}
use Rattle.std.proofs.Common.{ap, arith, ltb→lt, leb→le}
use Rattle.std.proofs.Math.Option.{Option, none, some}
use Rattle.std.proofs.Math.Dec.{eqb_refl}
use Rattle.model.specs.Limits.{most_terms, most_skeletons, most_strands, most_height, most_orders, most_nons, most_uniqs}
use Rattle.model.specs.Lists.{upto, every, some_of}
use Rattle.model.specs.Table.{Row, row, row_of_kind, second, earlier, sorted}
use Rattle.model.specs.Skeleton.{Event, message, Node, Skeleton}
use Rattle.model.specs.Reading.{Mark, BS, TM, SK, ST, OR, NO, UO, EN, mark_bytes, may_follow, Record, edition, begin, end, term, strand, order, non, uniq, size, State, in_work, Said, says, check, need, read_BS, on_sheet, read_row, read_TM, read_SK, event, event_in, event_right, read_ST, event_at, sends, receives, read_OR, an_atom, read_atom, read_as, marked_as, read_record}
use Rattle.theory.specs.Tests.{both, pair_up, or_left, or_right}
use Rattle.theory.specs.Each.{Each, each_nil, each_cons, each_append}
use Rattle.theory.specs.ListTests.{every_true}
use Rattle.theory.specs.Upto.{length-upto}

unfoldable pub mark_of : Record → Mark
mark_of edition = BS
mark_of (term r) = TM
mark_of begin = SK
mark_of (strand t) = ST
mark_of (order m n) = OR
mark_of (non t) = NO
mark_of (uniq t) = UO
mark_of end = EN

-- What is asked of a record besides its bytes

pub record RightRow (rows : List Row) (r : Row) : Type 0 where
  pub room : length rows < most_terms
  pub earlier_args : T (earlier (length rows) r)
  pub sorted_args : T (sorted (row rows) r)
  pub new : T (not (on_sheet rows r))

pub record RightTrace (terms : ℕ) (t : List (Event ℕ)) : Type 0 where
  pub some_event : 1 ≤ length t
  pub low : length t ≤ most_height
  pub known : Each (λ e. message e < terms) t

pub record RightStrand (terms strands : ℕ) (t : List (Event ℕ)) : Type 0 where
  pub room : strands < most_strands
  pub right : RightTrace terms t

pub record RightOrder (K : Skeleton ℕ) (m n : Node) : Type 0 where
  pub room : length K.order < most_orders
  pub from : T (sends (event_at K m))
  pub to : T (receives (event_at K n))

pub record RightAtom (most : ℕ) (rows : List Row) (there t : ℕ) : Type 0 where
  pub room : there < most
  pub atom : T (an_atom rows t)

unfoldable pub Right : State → Record → Type 0
Right s edition = Unit {0}
Right s (term r) = RightRow s.rows r
Right s begin = length s.drawn < most_skeletons
Right s (strand t) = RightStrand (length s.rows) (length (in_work s).strands) t
Right s (order m n) = RightOrder (in_work s) m n
Right s (non t) = RightAtom most_nons s.rows (length (in_work s).non) t
Right s (uniq t) = RightAtom most_uniqs s.rows (length (in_work s).uniq) t
Right s end = Unit {0}

-- whether a mark may come next
unfoldable pub same_mark : Mark → Mark → Bool
unfolding mark_bytes
same_mark m k = eqb (mark_bytes m).0 (mark_bytes k).0 && eqb (mark_bytes m).1 (mark_bytes k).1

pub same_mark_refl : (m : Mark) → T (same_mark m m)
unfolding same_mark
same_mark_refl m = pair_up (eqb (mark_bytes m).0 (mark_bytes m).0) _ (eqb_refl (mark_bytes m).0) (eqb_refl (mark_bytes m).1)

unfoldable pub may : Option Mark → Mark → Bool
unfolding some_of same_mark may_follow
may last m = some_of (same_mark m) (may_follow last)

pub record Allowed (s : State) (r : Record) : Type 0 where
  pub next : T (may s.last (mark_of r))
  pub right : Right s r

-- A record that was read

pub record Passed (b : Bool) (x : Said) (r : Record) : Type 0 where
  pub test : T b
  pub then : x ≡ says r

pub passed : (b : Bool) (n : ℕ) (x : Said) {r : Record} → check b n x ≡ says r → Passed b x r
unfolding check
passed true n x e = record { test = tt; then = e }
passed false n x e = let z : ◌≡◌ {A = ℕ} 0 1 = cc in absurd (omega arith)

pub record Given {A : Type 0} (o : Option A) (f : A → Said) (r : Record) : Type 0 where
  pub what : A
  pub is : o ≡ some what
  pub then : f what ≡ says r

pub given : {A : Type 0} (o : Option A) (n : ℕ) (f : A → Said) {r : Record} → need o n f ≡ says r → Given o f r
unfolding need
given (some a) n f e = record { what = a; is = refl; then = e }
given none n f e = let z : ◌≡◌ {A = ℕ} 0 1 = cc in absurd (omega arith)

pub record Told (m : Mark) (s : State) (rest : List ℕ) (r : Record) : Type 0 where
  pub mark : mark_of r ≡ m
  pub right : Right s r
  pub whole : size r ≤ length rest

told : {m : Mark} {s : State} {rest : List ℕ} {q r : Record} → says q ≡ says r → Told m s rest q → Told m s rest r
told {q} {r} e h = let x : q ≡ r = cc in rw x at h

told_BS : (s : State) (rest : List ℕ) {r : Record} → read_BS rest ≡ says r → Told BS s rest r
unfolding read_BS Right mark_of size
told_BS s rest e =
    let p = passed (leb 3 (length rest)) 1 _ e in
    let q = passed (eqb (get_or rest 2 0) 1) 3 _ p.then in
    told q.then (record { mark = refl; right = tt; whole = leb→le _ _ p.test })

told_TM : (s : State) (rest : List ℕ) {r : Record} → read_TM s.rows rest ≡ says r → Told TM s rest r
unfolding read_TM read_row Right mark_of size
told_TM s rest e =
    let rows = s.rows in
    let p = passed (ltb (length rows) most_terms) 4 _ e in
    let q = passed (leb 5 (length rest)) 1 _ p.then in
    let g = given (row_of_kind (get_or rest 2 0) (get_or rest 3 0) (get_or rest 4 0)) 5 _ q.then in
    let a = passed (eqb (second g.what) (get_or rest 4 0)) 5 _ g.then in
    let b = passed (earlier (length rows) g.what && sorted (row rows) g.what) 5 _ a.then in
    let c = passed (not (on_sheet rows g.what)) 6 _ b.then in
    let (x, y) = both (earlier (length rows) g.what) (sorted (row rows) g.what) b.test in
    told c.then
    (record {
      mark = refl;
      right = record { room = ltb→lt _ _ p.test; earlier_args = x; sorted_args = y; new = c.test };
      whole = leb→le _ _ q.test;
    })

told_SK : (s : State) (rest : List ℕ) {r : Record} → 2 ≤ length rest → read_SK (length s.drawn) ≡ says r → Told SK s rest r
unfolding read_SK Right mark_of size
told_SK s rest h e =
    let p = passed (ltb (length s.drawn) most_skeletons) 4 _ e in
    told p.then (record { mark = refl; right = ltb→lt _ _ p.test; whole = h })

event_message : (d t : ℕ) → message (event d t) ≡ t
unfolding event message
event_message zero t = refl
event_message (suc d) t = refl

each_upto : {A : Type 0} (P : A → Type 0) (n : ℕ) (f : ℕ → A) → ((i : ℕ) → i < n → P (f i)) → Each P (upto n f)
unfolding upto
each_upto P zero f h = each_nil P
each_upto P (suc n) f h = each_append P (upto n f) (each_upto P n f (λ i l. h i (omega arith)))
    (each_cons P (h n (omega arith)) (each_nil P))

told_ST : (s : State) (rest : List ℕ) {r : Record} → read_ST (length s.rows) (length (in_work s).strands) rest ≡ says r
    → Told ST s rest r
unfolding read_ST Right mark_of size event_in event_right
told_ST s rest e =
    let h = get_or rest 2 0 in
    let terms = length s.rows in
    let p = passed (ltb (length (in_work s).strands) most_strands) 4 _ e in
    let q = passed (leb 3 (length rest)) 1 _ p.then in
    let a = passed (leb 1 h && leb h most_height) 4 _ q.then in
    let b = passed (leb (3 + 2 * h) (length rest)) 1 _ a.then in
    let c = passed (every h (event_right terms rest)) 7 _ b.then in
    let (x, y) = both (leb 1 h) (leb h most_height) a.test in
    let known : Each (λ e. message e < terms) (upto h (event_in rest)) =
    each_upto _ h (event_in rest) λ i l.
    rw event_message (ltb→lt _ _ (both (leb (get_or rest (3 + 2 * i) 0) 1) _
    (every_true h (event_right terms rest) c.test i l)).1) in
    told c.then
    (record {
      mark = refl;
      right = record {
        room = ltb→lt _ _ p.test;
        right = record {
          some_event = rw length-upto (leb→le 1 h x);
          low = rw length-upto (leb→le h most_height y);
          known = known;
        };
      };
      whole = rw length-upto (leb→le _ _ b.test);
    })

told_OR : (s : State) (rest : List ℕ) {r : Record} → read_OR (in_work s) rest ≡ says r → Told OR s rest r
unfolding read_OR Right mark_of size
told_OR s rest e =
    let K = in_work s in
    let m : Node = record { strand = get_or rest 2 0; position = get_or rest 3 0 } in
    let n : Node = record { strand = get_or rest 4 0; position = get_or rest 5 0 } in
    let p = passed (ltb (length K.order) most_orders) 4 _ e in
    let q = passed (leb 6 (length rest)) 1 _ p.then in
    let a = passed (sends (event_at K m) && receives (event_at K n)) 7 _ q.then in
    let (x, y) = both (sends (event_at K m)) (receives (event_at K n)) a.test in
    told a.then (record {
      mark = refl;
      right = record { room = ltb→lt _ _ p.test; from = x; to = y };
      whole = leb→le _ _
          q.test;
    })

-- an atom, before it is said whether NO or UO
record ToldAtom (most : ℕ) (says_of : ℕ → Record) (rows : List Row) (there : ℕ) (rest : List ℕ) (r : Record) : Type 0 where
  atom : ℕ
  is : says_of atom ≡ r
  right : RightAtom most rows there atom
  whole : 3 ≤ length rest

told_atom : (most : ℕ) (says_of : ℕ → Record) (rows : List Row) (there : ℕ) (rest : List ℕ) {r : Record}
    → read_atom most says_of rows there rest ≡ says r → ToldAtom most says_of rows there rest r
unfolding read_atom
told_atom most says_of rows there rest {r} e =
    let p = passed (ltb there most) 4 _ e in
    let q = passed (leb 3 (length rest)) 1 _ p.then in
    let a = passed (an_atom rows (get_or rest 2 0)) 7 _ q.then in
    let z : says_of (get_or rest 2 0) ≡ r = cc a.then in
    record {
      atom = get_or rest 2 0;
      is = z;
      right = record { room = ltb→lt _ _ p.test; atom = a.test };
      whole = leb→le _ _
          q.test;
    }

pub told_as : (m : Mark) (s : State) (rest : List ℕ) {r : Record} → 2 ≤ length rest → read_as m s rest ≡ says r → Told m s rest r
unfolding read_as Right mark_of size
told_as BS s rest h e = told_BS s rest e
told_as TM s rest h e = told_TM s rest e
told_as SK s rest h e = told_SK s rest h e
told_as ST s rest h e = told_ST s rest e
told_as OR s rest h e = told_OR s rest e
told_as NO s rest h e =
    let a = told_atom most_nons non s.rows (length (in_work s).non) rest e in
    told (ap says a.is) (record { mark = refl; right = a.right; whole = a.whole })
told_as UO s rest h e =
    let a = told_atom most_uniqs uniq s.rows (length (in_work s).uniq) rest e in
    told (ap says a.is) (record { mark = refl; right = a.right; whole = a.whole })
told_as EN s rest h e = told e (record { mark = refl; right = tt; whole = h })

-- the mark that was found may follow
found_mark : (a b : ℕ) (ms : List Mark) {m : Mark} → marked_as a b ms ≡ some m → T (some_of (same_mark m) ms)
unfolding marked_as some_of
found_mark a b [] e = let z : ◌≡◌ {A = ℕ} 0 1 = cc in absurd (omega arith)
found_mark a b (k ∷ ms) {m} e = go (eqb a (mark_bytes k).0 && eqb b (mark_bytes k).1) e (found_mark a b ms)
  where
    go : (t : Bool) → cond t (some k) (marked_as a b ms) ≡ some m → (marked_as a b ms ≡ some m → T (some_of (same_mark m) ms))
        → T (some_of (same_mark m) (k ∷ ms))
    go true q f = let z : k ≡ m = cc in rw z (or_left (same_mark m m) (some_of (same_mark m) ms) (same_mark_refl m))
    go false q f = or_right (same_mark m k) (some_of (same_mark m) ms) (f q)

-- what a record that was read tells
pub record WasRead (s : State) (rest : List ℕ) (r : Record) : Type 0 where
  pub allowed : Allowed s r
  pub whole : size r ≤ length rest

pub was_read : (s : State) (rest : List ℕ) {r : Record} → read_record s rest ≡ says r → WasRead s rest r
unfolding read_record may
was_read s rest e =
    let p = passed (leb 2 (length rest)) 1 _ e in
    let g = given (marked_as (get_or rest 0 0) (get_or rest 1 0) (may_follow s.last)) 2 _ p.then in
    let t = told_as g.what s rest (leb→le _ _ p.test) g.then in
    record {
      allowed = record {
        next = rw t.mark (found_mark (get_or rest 0 0) (get_or rest 1 0) (may_follow s.last) g.is);
        right = t.right;
      };
      whole = t.whole;
    }

-- a record takes bytes
pub takes_two : (r : Record) → 2 ≤ size r
unfolding size
takes_two edition = omega arith
takes_two (term r) = omega arith
takes_two begin = omega arith
takes_two (strand t) = omega arith
takes_two (order m n) = omega arith
takes_two (non t) = omega arith
takes_two (uniq t) = omega arith
takes_two end = omega arith
