-- Reading more bytes: a refusal other than 1 stays, after refusal 1 reading goes on from the last whole record, and after a whole
-- sheet it is refusal 8.
use Rattle.std.specs.Prelude.{◌≡◌, Bool, ◌&&◌, ◌↔◌, ◌≢◌, List, ◌∷◌, ◌++◌, ℕ, ◌+◌, ◌*◌, ◌≤◌, ◌<◌, ltb, length, get_or, drop}
use Rattle.std.proofs.Math.Path.{refl, ap₂}
use Rattle.std.proofs.Common.{ap, ◌∙◌, sym as back, true≢false, arith, add-zero, le-leb, leb-true, length-append, length-drop}
use Rattle.std.proofs.Math.Bool.{true, false}
use Rattle.std.proofs.Math.Logic.Iff
use Rattle.std.proofs.Math.Option.{Option, none, some}
use Rattle.std.proofs.Math.Dec.{leb}
use Rattle.std.proofs.Math.ListN.{get_or-append}
use Rattle.std.proofs.lemmas.List.{drop-append-le}
use Rattle.model.specs.Limits.{most_terms, most_orders, most_height, most_nons, most_uniqs, most_strands}
use Rattle.model.specs.Lists.{every, upto}
use Rattle.model.specs.Table.{Row}
use Rattle.model.specs.Skeleton.{Skeleton}
use Rattle.model.specs.Sheet.{Sheet, Refusal, refused}
use Rattle.model.specs.Reading.{Mark, BS, TM, SK, ST, OR, NO, UO, EN, may_follow, Record, strand, non, uniq, size, State, start, in_work, Said, refuse, says, check, need, read_BS, read_TM, event_in, event_right, read_ST, read_OR, read_atom, read_as, marked_as, read_record, after, Reading, read, fault, ended, Read, at_end, beyond, at_fault, next}
use Rattle.model.specs.Judging.{HasVerdict, unread}
use Rattle.theory.specs.Upto.{upto_same, every_same}
use Rattle.theory.specs.Records.{was_read}

-- a' is a, unless a says that bytes are missing
pub record Firm (a a' : Said) : Type 0 where
  pub same : a ≢ refuse 1 → a' ≡ a

firm_same : {a a' : Said} → a' ≡ a → Firm a a'
firm_same e = record { same = λ n. e }

firm_check : (b : Bool) (n : ℕ) {a a' : Said} → Firm a a' → Firm (check b n a) (check b n a')
unfolding check
firm_check true n f = record { same = f.same }
firm_check false n f = record { same = λ n. refl }

firm_need : {A : Type 0} (o : Option A) (n : ℕ) (f g : A → Said) → ((a : A) → Firm (f a) (g a)) → Firm (need o n f) (need o n g)
unfolding need
firm_need none n f g h = record { same = λ n. refl }
firm_need (some a) n f g h = record { same = (h a).same }

module _ (rest more : List ℕ) where
  seen : (i : ℕ) → i < length rest → get_or (rest ++ more) i 0 ≡ get_or rest i 0
  seen i h = get_or-append rest more 0 i h

  longer : (k : ℕ) → k ≤ length rest → leb k (length (rest ++ more)) ≡ true
  longer k h = le-leb k (length (rest ++ more)) (simp length-append (omega arith))

  -- a record that is to have k bytes
  firm_whole : (k : ℕ) {a a' : Said} → (k ≤ length rest → Firm a a')
      → Firm (check (leb k (length rest)) 1 a) (check (leb k (length (rest ++ more))) 1 a')
  unfolding check
  firm_whole k {a} {a'} f = go (leb k (length rest)) refl
    where
      go : (b : Bool) → leb k (length rest) ≡ b → Firm (check b 1 a) (check (leb k (length (rest ++ more))) 1 a')
      go true e = rw (longer k (leb-true _ _ e)) (record { same = (f (leb-true _ _ e)).same })
      go false e = record { same = λ n. absurd (n refl) }

  firm_BS : Firm (read_BS rest) (read_BS (rest ++ more))
  unfolding read_BS
  firm_BS = firm_whole 3 (λ l. firm_same (rw (seen 2 (omega arith)) refl))

  firm_TM : (rows : List Row) → Firm (read_TM rows rest) (read_TM rows (rest ++ more))
  unfolding read_TM
  firm_TM rows =
      firm_check (ltb (length rows) most_terms) 4 (firm_whole 5 (λ l.
      firm_same (rw (seen 2 (omega arith), seen 3 (omega arith), seen 4 (omega arith)) refl)))

  -- the events, where all of them are there
  firm_events : (terms h : ℕ) → 3 + 2 * h ≤ length rest
      → check (every h (event_right terms (rest ++ more))) 7 (says (strand (upto h (event_in (rest ++ more)))))
      ≡ check (every h (event_right terms rest)) 7 (says (strand (upto h (event_in rest))))
  unfolding event_right event_in
  firm_events terms h l =
      let e : every h (event_right terms (rest ++ more)) ≡ every h (event_right terms rest) =
      every_same h (event_right terms rest) (event_right terms (rest ++ more))
      (λ i q. rw (seen (3 + 2 * i) (omega arith), seen (4 + 2 * i) (omega arith)) refl) in
      let f : upto h (event_in (rest ++ more)) ≡ upto h (event_in rest) =
      upto_same h (event_in rest) (event_in (rest ++ more))
      (λ i q. rw (seen (3 + 2 * i) (omega arith), seen (4 + 2 * i) (omega arith)) refl) in
      ap₂ (λ b t. check b 7 (says (strand t))) e f

  -- with this height
  firm_height : (terms h : ℕ)
      → Firm (check (leb 1 h && leb h most_height) 4 (check (leb (3 + 2 * h) (length rest)) 1
      (check (every h (event_right terms rest)) 7 (says (strand (upto h (event_in rest)))))))
      (check (leb 1 h && leb h most_height) 4 (check (leb (3 + 2 * h) (length (rest ++ more))) 1
      (check (every h (event_right terms (rest ++ more))) 7 (says (strand (upto h (event_in (rest ++ more))))))))
  firm_height terms h = firm_check _ 4 (firm_whole (3 + 2 * h) (λ k. firm_same (firm_events terms h k)))

  firm_ST : (terms strands : ℕ) → Firm (read_ST terms strands rest) (read_ST terms strands (rest ++ more))
  unfolding read_ST
  firm_ST terms strands =
      firm_check (ltb strands most_strands) 4 (firm_whole 3 (λ l. rw (seen 2 (omega arith)) (firm_height terms (get_or rest 2 0))))

  firm_OR : (K : Skeleton ℕ) → Firm (read_OR K rest) (read_OR K (rest ++ more))
  unfolding read_OR
  firm_OR K =
      firm_check (ltb (length K.order) most_orders) 4 (firm_whole 6 (λ l.
      firm_same (rw (seen 2 (omega arith), seen 3 (omega arith), seen 4 (omega arith), seen 5 (omega arith)) refl)))

  firm_atom : (most : ℕ) (says_of : ℕ → Record) (rows : List Row) (there : ℕ)
      → Firm (read_atom most says_of rows there rest) (read_atom most says_of rows there (rest ++ more))
  unfolding read_atom
  firm_atom most says_of rows there =
      firm_check (ltb there most) 4 (firm_whole 3 (λ l. firm_same (rw (seen 2 (omega arith)) refl)))

  firm_as : (m : Mark) (s : State) → Firm (read_as m s rest) (read_as m s (rest ++ more))
  unfolding read_as
  firm_as BS s = firm_BS
  firm_as TM s = firm_TM s.rows
  firm_as SK s = firm_same refl
  firm_as ST s = firm_ST (length s.rows) (length (in_work s).strands)
  firm_as OR s = firm_OR (in_work s)
  firm_as NO s = firm_atom most_nons non s.rows (length (in_work s).non)
  firm_as UO s = firm_atom most_uniqs uniq s.rows (length (in_work s).uniq)
  firm_as EN s = firm_same refl

  pub firm_record : (s : State) → Firm (read_record s rest) (read_record s (rest ++ more))
  unfolding read_record
  firm_record s =
      firm_whole 2 (λ l.
      rw (seen 0 (omega arith), seen 1 (omega arith))
      (firm_need (marked_as (get_or rest 0 0) (get_or rest 1 0) (may_follow s.last)) 2 _ _ (λ m. firm_as m s)))

  -- a record that was read is read the same with more bytes, and a refusal other than 1 is given
  pub says_same : (s : State) {r : Record} → read_record s rest ≡ says r → read_record s (rest ++ more) ≡ says r
  says_same s {r} e =
      (firm_record s).same (λ z. let w = back e ∙ z in let y : ◌≡◌ {A = ℕ} 0 1 = cc in absurd (omega arith)) ∙ e

  pub refuse_same : (s : State) {n : ℕ} → n ≢ 1 → read_record s rest ≡ refuse n → read_record s (rest ++ more) ≡ refuse n
  refuse_same s {n} h e = (firm_record s).same (λ z. h (let w = back e ∙ z in let y : n ≡ 1 = cc in y)) ∙ e

-- The next record

pub read_next : {s : State} {p : ℕ} {l : List ℕ} {out : Reading} {r : Record} → ended s ≡ false → read_record s l ≡ says r
    → Read s p l out
    → Read (after s r) (p + size r) (drop (size r) l) out
read_next e f (at_end g) = absurd (true≢false (back g ∙ e))
read_next e f (beyond g) = absurd (true≢false (back g ∙ e))
read_next e f (at_fault g h) = let z = back f ∙ h in let w : ◌≡◌ {A = ℕ} 0 1 = cc in absurd (omega arith)
read_next {r} e f (next {r = q} g h k) = let z = back f ∙ h in let w : r ≡ q = cc in rw w k

record SameFault (m n p q : ℕ) : Type 0 where
  number : m ≡ n
  place : p ≡ q

same_fault : {m n p q : ℕ} → fault m p ≡ fault n q → SameFault m n p q
same_fault {m} {n} {p} {q} e =
    let r : Refusal = record { number = m; place = p; skeleton = 0 } in
    let s : Refusal = record { number = n; place = q; skeleton = 0 } in
    let z : r ≡ s = cc in
    record { number = ap (λ r. r.number) z; place = ap (λ r. r.place) z }

module _ (more : List ℕ) where
  -- with more bytes the same record is next
  drop_same : (s : State) (l : List ℕ) (r : Record) → read_record s l ≡ says r
      → drop (size r) (l ++ more) ≡ drop (size r) l ++ more
  drop_same s l r f = drop-append-le (size r) l more (was_read s l f).whole

  goes_past : {s : State} {p : ℕ} (l : List ℕ) {r : Record} (out : Reading) → ended s ≡ false → read_record s l ≡ says r
      → Read (after s r) (p + size r) (drop (size r) l ++ more) out ↔ Read s p (l ++ more) out
  goes_past {s} {p} l {r} out e f =
      let g = says_same l more s f in
      (λ k. next {place = p} {out = out} e g (rw (drop_same s l r f) k), λ k. rw (drop_same s l r f) at (read_next e g k))

  -- A REFUSAL OTHER THAN 1 LASTS
  lasts : {s : State} {p : ℕ} {l : List ℕ} {out : Reading} (n q : ℕ) → n ≢ 1 → out ≡ fault n q → Read s p l out
      → Read s p (l ++ more) (fault n q)
  lasts n q h e (at_end g) = let z : ◌≡◌ {A = ℕ} 0 1 = cc in absurd (omega arith)
  lasts n q h e (beyond g) = let x = same_fault e in rw (← x.number, ← x.place) (beyond g)
  lasts {s} {l} n q h e (at_fault g f) =
      let x = same_fault e in
      rw (← x.number, ← x.place) (at_fault g (refuse_same l more s (rw x.number h) f))
  lasts {l} n q h e (next g f k) = (goes_past l (fault n q) g f).0 (lasts n q h e k)

  pub refusal_lasts : {s : State} {p n q : ℕ} {l : List ℕ} → n ≢ 1 → Read s p l (fault n q) → Read s p (l ++ more) (fault n q)
  refusal_lasts {n} {q} h r = lasts n q h refl r

-- After a whole sheet there is a byte too many
after_sheet : {s : State} {p : ℕ} {l : List ℕ} {out : Reading} (b : ℕ) (more : List ℕ) (t : Sheet) → out ≡ read t → Read s p l out
    → Read s p (l ++ (b ∷ more)) (fault 8 (p + length l))
after_sheet {p} b more t e (at_end g) = rw (add-zero p) (beyond g)
after_sheet b more t e (beyond g) = let z : ◌≡◌ {A = ℕ} 0 1 = cc in absurd (omega arith)
after_sheet b more t e (at_fault g f) = let z : ◌≡◌ {A = ℕ} 0 1 = cc in absurd (omega arith)
after_sheet {s} {p} {l} b more t e (next {r} g f k) =
    let q : p + size r + length (drop (size r) l) ≡ p + length l = rw length-drop (omega (arith, (was_read s l f).whole)) in
    (goes_past (b ∷ more) l (fault 8 (p + length l)) g f).0 (rw q at (after_sheet b more t e k))

pub one_byte_more : {s : State} {p : ℕ} {l : List ℕ} {t : Sheet} (b : ℕ) (more : List ℕ) → Read s p l (read t)
    → Read s p (l ++ (b ∷ more)) (fault 8 (p + length l))
one_byte_more {t} b more r = after_sheet b more t refl r

-- AFTER REFUSAL 1 READING GOES ON FROM THE LAST WHOLE RECORD

pub record GoesOn (s : State) (p : ℕ) (l : List ℕ) (place : ℕ) : Type 0 where
  -- what is read of the whole records, and the bytes after them, which are no whole record
  pub state : State
  pub left : List ℕ
  pub short : read_record state left ≡ refuse 1
  pub goes_on : (more : List ℕ) (out : Reading) → Read state place (left ++ more) out ↔ Read s p (l ++ more) out

going_on : {s : State} {p : ℕ} {l : List ℕ} {out : Reading} (place : ℕ) → out ≡ fault 1 place → Read s p l out
    → GoesOn s p l place
going_on place e (at_end g) = let z : ◌≡◌ {A = ℕ} 0 1 = cc in absurd (omega arith)
going_on place e (beyond g) = let x = same_fault e in absurd (omega (arith, x.number))
going_on {s} {l} place e (at_fault g f) =
    let x = same_fault e in
    rw (← x.place) (record { state = s; left = l; short = rw x.number at f; goes_on = λ more out. (λ r. r, λ r. r) })
going_on {l} place e (next g f k) =
    let h = going_on place e k in
    record {
      state = h.state;
      left = h.left;
      short = h.short;
      goes_on = λ more out. Iff.trans (h.goes_on more out)
          (goes_past more l out g f);
    }

pub reading_goes_on : {s : State} {p place : ℕ} {l : List ℕ} → Read s p l (fault 1 place) → GoesOn s p l place
reading_goes_on {place} r = going_on place refl r

-- the same of verdicts
pub verdict_lasts : {bytes : List ℕ} {n place : ℕ} → n ≢ 1 → Read start 0 bytes (fault n place) → (more : List ℕ)
    → HasVerdict (bytes ++ more) (refused (record { number = n; place = place; skeleton = 0 }))
verdict_lasts h r more = unread (refusal_lasts more h r)
