-- "its first 4,096 bytes decide": bytes beyond them change no verdict, no answer and no text, since no sheet that is read is that
-- long and every refusal within them lasts.
use Rattle.std.specs.Prelude.{◌≡◌, Bool, not, ◌&&◌, ◌↔◌, ◌≢◌, List, ◌++◌, ltb, eqb, length, drop, take}
use Rattle.std.proofs.Math.Path.{refl}
use Rattle.std.proofs.Common.{ap, arith, length-drop, take-append-drop, take_all, length-take-le}
use Rattle.std.proofs.Math.Bool.{true, false}
use Rattle.std.proofs.Math.Option.{Option, none, some}
use Prim.Native.Nat.{ℕ, ◌+◌, ◌*◌, ◌≤◌, ◌<◌}
use Rattle.std.proofs.Math.Decide.{dec_lt, ℕ_discrete}
use borrow.Author.Tests.{leb-true, leb-false}
use Rattle.std.proofs.Math.Dec.{leb}
use Rattle.std.proofs.Math.ListN.{get_or}
use Rattle.model.specs.Limits.{most_terms, most_orders, most_height, most_nons, most_uniqs, most_strands, most_skeletons}
use Rattle.model.specs.Lists.{every, upto}
use Rattle.model.specs.Table.{Row, row, row_of_kind, second, earlier, sorted}
use Rattle.model.specs.Skeleton.{Node, Skeleton}
use Rattle.model.specs.Sheet.{Refusal, Verdict, refused}
use Rattle.model.specs.Reading.{Mark, BS, TM, SK, ST, OR, NO, UO, EN, may_follow, Record, edition, begin, end, strand, order, non, uniq, size, State, in_work, Said, refuse, says, check, need, on_sheet, read_BS, read_row, read_TM, read_SK, event_in, event_right, read_ST, event_at, sends, receives, read_OR, an_atom, read_atom, read_as, marked_as, read_record, Reading, faulty, fault, Read, at_end, beyond, at_fault, next}
use Rattle.model.specs.Judging.{HasVerdict, unread, judged}
use Rattle.model.specs.Answers.{Gives, Answer}
use Rattle.model.specs.Report.{ListText, listed, no_room, Reports, bad, one, two}
use Rattle.theory.specs.Tests.{both_true}
use Rattle.theory.specs.Records.{was_read}
use Rattle.theory.specs.Encoding.{read_encoded}
use Rattle.theory.specs.Lengths.{read_places, read_length}
use Rattle.theory.specs.Continued.{refusal_lasts}
use Rattle.theory.proofs.Verdicts.{verdict_of, verdict_one}

-- REFUSAL 1 IS GIVEN NEAR THE END: where bytes are missing, fewer than 35 are left, the length of the longest record

record Near (rest : List ℕ) (a : Said) : Type 0 where
  left : a ≡ refuse 1 → length rest < 35

module _ (rest : List ℕ) where
  near_says : (r : Record) → Near rest (says r)
  near_says r = record { left = λ e. let z : ◌≡◌ {A = ℕ} 0 1 = cc in absurd (omega arith) }

  near_check : (b : Bool) (n : ℕ) {a : Said} → n ≢ 1 → (b ≡ true → Near rest a) → Near rest (check b n a)
  unfolding check
  near_check true n h f = f refl
  near_check false n h f = record { left = λ e. let z : n ≡ 1 = cc in absurd (h z) }

  -- a record that is to have k bytes
  near_whole : (k : ℕ) {a : Said} → k ≤ 35 → Near rest a → Near rest (check (leb k (length rest)) 1 a)
  unfolding check
  near_whole k {a} l f = go (leb k (length rest)) refl
    where
      go : (b : Bool) → leb k (length rest) ≡ b → Near rest (check b 1 a)
      go true e = f
      go false e = record { left = λ _. omega (arith, leb-false k (length rest) e) }

  near_need : {A : Type 0} (o : Option A) (n : ℕ) (f : A → Said) → n ≢ 1 → ((a : A) → Near rest (f a)) → Near rest (need o n f)
  unfolding need
  near_need none n f h g = record { left = λ e. let z : n ≡ 1 = cc in absurd (h z) }
  near_need (some a) n f h g = g a

  near_row : (rows : List Row) (k a b : ℕ) → Near rest (read_row rows k a b)
  unfolding read_row
  near_row rows k a b =
      near_need (row_of_kind k a b) 5 _ (omega arith) (λ r.
      near_check (eqb (second r) b) 5 (omega arith) (λ _.
      near_check (earlier (length rows) r && sorted (row rows) r) 5 (omega arith) (λ _.
      near_check (not (on_sheet rows r)) 6 (omega arith) (λ _. near_says (Record.term r)))))

  -- the height is at most 16 where its events are asked for
  near_ST : (terms strands : ℕ) → Near rest (read_ST terms strands rest)
  unfolding read_ST
  near_ST terms strands =
      let h : ℕ = get_or rest 2 0 in
      near_check (ltb strands most_strands) 4 (omega arith) (λ _.
      near_whole 3 (omega arith)
      (near_check (leb 1 h && leb h most_height) 4 (omega arith) (λ e.
      near_whole (3 + 2 * h) (omega (arith, leb-true h most_height (both_true (leb 1 h) (leb h most_height) e).1))
      (near_check (every h (event_right terms rest)) 7 (omega arith) (λ _. near_says (strand (upto h (event_in rest))))))))

  near_OR : (K : Skeleton ℕ) → Near rest (read_OR K rest)
  unfolding read_OR
  near_OR K =
      let m : Node = record { strand = get_or rest 2 0; position = get_or rest 3 0 } in
      let n : Node = record { strand = get_or rest 4 0; position = get_or rest 5 0 } in
      near_check (ltb (length K.order) most_orders) 4 (omega arith) (λ _.
      near_whole 6 (omega arith)
      (near_check (sends (event_at K m) && receives (event_at K n)) 7 (omega arith) (λ _. near_says (order m n))))

  near_atom : (most : ℕ) (says_of : ℕ → Record) (rows : List Row) (there : ℕ) → Near rest (read_atom most says_of rows there rest)
  unfolding read_atom
  near_atom most says_of rows there =
      near_check (ltb there most) 4 (omega arith) (λ _.
      near_whole 3 (omega arith)
      (near_check (an_atom rows (get_or rest 2 0)) 7 (omega arith) (λ _. near_says (says_of (get_or rest 2 0)))))

  near_as : (m : Mark) (s : State) → Near rest (read_as m s rest)
  unfolding read_as read_BS read_TM read_SK
  near_as BS s = near_whole 3 (omega arith) (near_check (eqb (get_or rest 2 0) 1) 3 (omega arith) (λ _. near_says edition))
  near_as TM s =
      near_check (ltb (length s.rows) most_terms) 4 (omega arith) (λ _.
      near_whole 5 (omega arith) (near_row s.rows (get_or rest 2 0) (get_or rest 3 0) (get_or rest 4 0)))
  near_as SK s = near_check (ltb (length s.drawn) most_skeletons) 4 (omega arith) (λ _. near_says begin)
  near_as ST s = near_ST (length s.rows) (length (in_work s).strands)
  near_as OR s = near_OR (in_work s)
  near_as NO s = near_atom most_nons non s.rows (length (in_work s).non)
  near_as UO s = near_atom most_uniqs uniq s.rows (length (in_work s).uniq)
  near_as EN s = near_says end

  near_record : (s : State) → Near rest (read_record s rest)
  unfolding read_record
  near_record s =
      near_whole 2 (omega arith)
      (near_need (marked_as (get_or rest 0 0) (get_or rest 1 0) (may_follow s.last)) 2 _ (omega arith) (λ m. near_as m s))

-- what a fault is
record IsFault (n q : ℕ) (r : Refusal) : Type 0 where
  number : n ≡ r.number
  place : q ≡ r.place
  is : faulty r ≡ fault r.number r.place

is_fault : {n q : ℕ} {r : Refusal} → fault n q ≡ faulty r → IsFault n q r
is_fault {n} {q} {r} e =
    let z : ◌≡◌ {A = Refusal} (record { number = n; place = q; skeleton = 0 }) r = cc in
    record { number = ap (λ r. r.number) z; place = ap (λ r. r.place) z; is = rw (← z) refl }

near_end : {s : State} {p : ℕ} {l : List ℕ} {out : Reading} (r : Refusal) → out ≡ faulty r → r.number ≡ 1 → Read s p l out
    → p + length l < r.place + 35
near_end r e h (at_end g) = let z : ◌≡◌ {A = ℕ} 0 1 = cc in absurd (omega arith)
near_end r e h (beyond g) = let x = is_fault e in absurd (omega (arith, x.number))
near_end {s} {l} r e h (at_fault {n = n} g f) =
    let x = is_fault e in
    let k : n ≡ 1 = omega (arith, x.number) in
    omega (arith, x.place, (near_record l s).left (rw k at f))
near_end {s} {p} {l} r e h (next {r = m} g f k) =
    let i = near_end r e h k in
    let w = (was_read s l f).whole in
    let d = length-drop (size m) l in
    omega arith

-- a refusal has skeleton 0 while it is read
refusal_form : {s : State} {p : ℕ} {l : List ℕ} {out : Reading} (r : Refusal) → out ≡ faulty r → Read s p l out
    → faulty r ≡ fault r.number r.place
refusal_form r e (at_end g) = let z : ◌≡◌ {A = ℕ} 0 1 = cc in absurd (omega arith)
refusal_form r e (beyond g) = (is_fault e).is
refusal_form r e (at_fault g f) = (is_fault e).is
refusal_form r e (next g f k) = refusal_form r e k

-- ENOUGH BYTES DECIDE: 2,581 and the longest record

module _ (n : ℕ) (enough : 2616 ≤ n) where
  verdict_there : (bytes : List ℕ) {v : Verdict} → HasVerdict (take n bytes) v → HasVerdict bytes v
  verdict_there bytes {v} h = go (dec_lt n (length bytes))
    where
      long : n < length bytes → {w : Verdict} → HasVerdict (take n bytes) w → HasVerdict (take n bytes ++ drop n bytes) w
      long l (unread {r} k) = last (ℕ_discrete r.number 1)
        where
          last : Dec (r.number ≡ 1) → HasVerdict (take n bytes ++ drop n bytes) (refused r)
          last (yes e) =
              absurd (omega (arith, near_end r refl e k, read_places k, length-take-le n bytes (omega arith)))
          last (no e) =
              let f = refusal_form r refl k in
              unread {r = r} (rw f (refusal_lasts (drop n bytes) e (rw f at k)))
      long l (judged k a) =
          absurd (omega (arith, read_length (read_encoded k), length-take-le n bytes (omega arith)))

      go : Dec (n < length bytes) → HasVerdict bytes v
      go (yes l) = rw (take-append-drop n bytes) at (long l h)
      go (no l) = rw (take_all n bytes (omega arith)) at h

  pub enough_bytes : (bytes : List ℕ) (v : Verdict) → HasVerdict (take n bytes) v ↔ HasVerdict bytes v
  enough_bytes bytes v = (
    verdict_there bytes,
    λ h.
        let t = verdict_of (take n bytes) in
        rw (verdict_one h (verdict_there bytes t.is)) t.is,
  )

-- the same of every question, and of what the bench writes

module _ {bytes bytes' : List ℕ} (same : (v : Verdict) → HasVerdict bytes v → HasVerdict bytes' v) where
  gives_there : {A : Type 0} {Question : Verdict → Answer A → List ℕ → Type 0} {a : Answer A} {l : List ℕ}
      → Gives bytes Question a l → Gives bytes' Question a l
  gives_there g = record { verdict = g.verdict; judged = same g.verdict g.judged; is = g.is }

  list_there : {lent text : List ℕ} → ListText bytes lent text → ListText bytes' lent text
  list_there (listed v h r m) = listed (same _ v) h r m
  list_there (no_room v h n) = no_room (same _ v) h n

  reports_there : {lent text : List ℕ} → Reports bytes lent text → Reports bytes' lent text
  reports_there (bad g) = bad (gives_there g)
  reports_there (one g e h) = one (gives_there g) e (gives_there h)
  reports_there (two g e h k m) = two (gives_there g) e (gives_there h) (gives_there k) (list_there m)

-- THE FIRST 4,096 BYTES DECIDE

pub verdict_by_4096 : (bytes : List ℕ) (v : Verdict) → HasVerdict (take 4096 bytes) v ↔ HasVerdict bytes v
verdict_by_4096 = enough_bytes 4096 (omega arith)

pub answer_by_4096 : (bytes : List ℕ) {A : Type 0} (Question : Verdict → Answer A → List ℕ → Type 0) (a : Answer A) (l : List ℕ)
    → Gives (take 4096 bytes) Question a l ↔ Gives bytes Question a l
answer_by_4096 bytes Question a l =
    (gives_there (λ v. (verdict_by_4096 bytes v).0), gives_there (λ v. (verdict_by_4096 bytes v).1))

pub text_by_4096 : (input lent text : List ℕ) → Reports (take 4096 input) lent text ↔ Reports input lent text
text_by_4096 input lent text =
    (reports_there (λ v. (verdict_by_4096 input v).0), reports_there (λ v. (verdict_by_4096 input v).1))
