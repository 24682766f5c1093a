-- What a good answer tells: there is room for the record, all of it is there, and it stands where it may.
use Prim.Native.Nat.{ℕ, ◌+◌, ◌*◌, ◌≤◌, ◌<◌}
use mathlib.Core.Path.{◌≡◌, refl, sym, subst}
use mathlib.Core.Bool.{Bool, true, false, not, cond, ◌&&◌}
use mathlib.Core.List.{List, [], ◌∷◌}
use mathlib.Core.Option.{Option, none, some}
use native.Mathlib.Omega.{arith}
use borrow.Author.Tests.{ltb-true, leb-true}
use lib.ListN.{length, get_or}
use lib.Dec.{ltb, leb, eqb}
use Rattle.model.specs.Lists.{upto, every}
use Rattle.model.specs.Limits.{most_nons, most_uniqs}
use Rattle.model.specs.Reading.{State, in_work, on_sheet, Mark, BS, TM, SK, ST, OR, NO, UO, EN, mark_bytes, may_follow, Record, edition, term, begin, strand, order, non, uniq, end, Said, refuse, says, check, need, read_BS, read_row, read_TM, read_SK, event_right, event_in, read_ST, event_at, sends, receives, read_OR, an_atom, read_atom, read_as, marked_as, read_record}
use Rattle.theory.specs.Tests.{both_true}
use Rattle.theory.specs.Upto.{length-upto}
use Rattle.model.specs.Skeleton.{Node}
use Rattle.tables.specs.Rows.{row_of, kind_of, by_kinds}
use Rattle.tables.specs.declared.rows.Row as TableRow
use Rattle.tables.proofs.Right.{read_by_kinds}
use Rattle.reading.specs.States.{Inside, Inner}

-- what an answer tells of the record, if it is good
abbrev pub Told : State → List ℕ → Said → Type 0
Told s rest (refuse n) = Unit {0}
Told s rest (says edition) = 3 ≤ length rest
Told s rest (says (term r)) = (length s.rows < 200) × (5 ≤ length rest)
Told s rest (says begin) = (length s.drawn < 2) × (2 ≤ length rest)
Told s rest (says (strand t)) =
    (length (in_work s).strands < 6) × (length t ≤ 16) × (3 + 2 * length t ≤ length rest) × Inside s.last
Told s rest (says (order m n)) = (length (in_work s).order < 64) × (6 ≤ length rest) × Inside s.last
Told s rest (says (non a)) = (length (in_work s).non < 32) × (3 ≤ length rest) × Inside s.last
Told s rest (says (uniq a)) = (length (in_work s).uniq < 32) × (3 ≤ length rest) × Inside s.last
Told s rest (says end) = (2 ≤ length rest) × Inside s.last

-- ---- where a mark may come
abbrev Each : (Mark → Type 0) → List Mark → Type 0
Each P [] = Unit {0}
Each P (m ∷ ms) = P m × Each P ms

marked_one : (a b : ℕ) (P : Mark → Type 0) (ms : List Mark) (m : Mark) → Each P ms → marked_as a b ms ≡ some m → P m
unfolding marked_as
marked_one a b P [] m h e = let z : ◌≡◌ {A = ℕ} 0 1 = cc in absurd (omega arith)
marked_one a b P (n ∷ ms) m h e =
    go (eqb a (mark_bytes n).0 && eqb b (mark_bytes n).1) (marked_one a b P ms m h.1) e
  where
    go : (t : Bool) → (marked_as a b ms ≡ some m → P m) → cond t (some n) (marked_as a b ms) ≡ some m → P m
    go true r q = let w : n ≡ m = cc in subst P w h.0
    go false r q = r q

pub inside : (a b : ℕ) (l : Option Mark) (m : Mark) → Inner m → marked_as a b (may_follow l) ≡ some m → Inside l
unfolding may_follow
inside a b none m i e = marked_one a b (λ n. Inner n → ⊥) (BS ∷ []) m ((λ x. x), tt) e i
inside a b (some BS) m i e = marked_one a b (λ n. Inner n → ⊥) (TM ∷ SK ∷ []) m ((λ x. x), ((λ x. x), tt)) e i
inside a b (some TM) m i e = marked_one a b (λ n. Inner n → ⊥) (TM ∷ SK ∷ []) m ((λ x. x), ((λ x. x), tt)) e i
inside a b (some SK) m i e = tt
inside a b (some ST) m i e = tt
inside a b (some OR) m i e = tt
inside a b (some NO) m i e = tt
inside a b (some UO) m i e = tt
inside a b (some EN) m i e = tt

-- ---- each reader
module _ (s : State) (rest : List ℕ) where
  -- a test before an answer: the answer has to tell only where the test is passed
  unless : (b : Bool) (n : ℕ) (a : Said) → (b ≡ true → Told s rest a) → Told s rest (check b n a)
  unfolding check
  unless true n a h = h refl
  unless false n a h = tt

  told_BS : Told s rest (read_BS rest)
  unfolding read_BS
  told_BS =
      unless (leb 3 (length rest)) 1 (check (eqb (get_or rest 2 0) 1) 3 (says edition)) λ whole.
      unless (eqb (get_or rest 2 0) 1) 3 (says edition) λ e. leb-true 3 (length rest) whole

  told_TM : Told s rest (read_TM s.rows rest)
  unfolding read_TM
  told_TM =
      let r : TableRow.Row = record { kind = get_or rest 2 0; first = get_or rest 3 0; second = get_or rest 4 0 } in
      let new : Said = check (not (on_sheet s.rows (row_of r))) 6 (says (term (row_of r))) in
      let row : Said = read_row s.rows r.kind r.first r.second in
      unless (ltb (length s.rows) 200) 4 (check (leb 5 (length rest)) 1 row) λ room.
      unless (leb 5 (length rest)) 1 row λ whole.
      subst (Told s rest) (sym (read_by_kinds s.rows r))
      (unless (by_kinds (kind_of s.rows) r) 5 new λ e.
      unless (not (on_sheet s.rows (row_of r))) 6 (says (term (row_of r))) λ e'.
      (ltb-true (length s.rows) 200 room, leb-true 5 (length rest) whole))

  told_SK : 2 ≤ length rest → Told s rest (read_SK (length s.drawn))
  unfolding read_SK
  told_SK whole = unless (ltb (length s.drawn) 2) 4 (says begin) λ room. (ltb-true (length s.drawn) 2 room, whole)

  told_ST : Inside s.last → Told s rest (read_ST (length s.rows) (length (in_work s).strands) rest)
  unfolding read_ST
  told_ST i =
      let h = get_or rest 2 0 in
      let said : Said = says (strand (upto h (event_in rest))) in
      let last : Said = check (every h (event_right (length s.rows) rest)) 7 said in
      let events : Said = check (leb (3 + 2 * h) (length rest)) 1 last in
      let range : Said = check (leb 1 h && leb h 16) 4 events in
      unless (ltb (length (in_work s).strands) 6) 4 (check (leb 3 (length rest)) 1 range) λ room.
      unless (leb 3 (length rest)) 1 range λ a.
      unless (leb 1 h && leb h 16) 4 events λ b.
      unless (leb (3 + 2 * h) (length rest)) 1 last λ c.
      unless (every h (event_right (length s.rows) rest)) 7 said λ d.
      rw length-upto (
        ltb-true (length (in_work s).strands) 6 room,
        leb-true h 16 (both_true (leb 1 h) (leb h 16) b).1,
        leb-true (3 + 2 * h) (length rest) c,
        i,
      )

  told_OR : Inside s.last → Told s rest (read_OR (in_work s) rest)
  unfolding read_OR
  told_OR i =
      let m : Node = record { strand = get_or rest 2 0; position = get_or rest 3 0 } in
      let n : Node = record { strand = get_or rest 4 0; position = get_or rest 5 0 } in
      let runs : Bool = sends (event_at (in_work s) m) && receives (event_at (in_work s) n) in
      unless (ltb (length (in_work s).order) 64) 4 (check (leb 6 (length rest)) 1 (check runs 7 (says (order m n)))) λ room.
      unless (leb 6 (length rest)) 1 (check runs 7 (says (order m n))) λ whole.
      unless runs 7 (says (order m n)) λ e.
      (ltb-true (length (in_work s).order) 64 room, leb-true 6 (length rest) whole, i)

  told_atom : (most there : ℕ) (f : ℕ → Record) → (there < most → 3 ≤ length rest → Told s rest (says (f (get_or rest 2 0))))
      → Told s rest (read_atom most f s.rows there rest)
  unfolding read_atom
  told_atom most there f h =
      let a = get_or rest 2 0 in
      let last : Said = check (an_atom s.rows a) 7 (says (f a)) in
      unless (ltb there most) 4 (check (leb 3 (length rest)) 1 last) λ room.
      unless (leb 3 (length rest)) 1 last λ whole.
      unless (an_atom s.rows a) 7 (says (f a)) λ e. h (ltb-true there most room) (leb-true 3 (length rest) whole)

  told_as : (m : Mark) → 2 ≤ length rest → marked_as (get_or rest 0 0) (get_or rest 1 0) (may_follow s.last) ≡ some m
      → Told s rest (read_as m s rest)
  unfolding read_as
  told_as BS whole e = told_BS
  told_as TM whole e = told_TM
  told_as SK whole e = told_SK whole
  told_as ST whole e = told_ST (inside _ _ s.last ST tt e)
  told_as OR whole e = told_OR (inside _ _ s.last OR tt e)
  told_as NO whole e = told_atom most_nons _ non (λ a b. (a, b, inside _ _ s.last NO tt e))
  told_as UO whole e = told_atom most_uniqs _ uniq (λ a b. (a, b, inside _ _ s.last UO tt e))
  told_as EN whole e = (whole, inside _ _ s.last EN tt e)

  pub told : Told s rest (read_record s rest)
  unfolding read_record need
  told =
      let f : Mark → Said = λ m. read_as m s rest in
      let mark = marked_as (get_or rest 0 0) (get_or rest 1 0) (may_follow s.last) in
      unless (leb 2 (length rest)) 1 (need mark 2 f) λ whole. go mark refl (leb-true 2 (length rest) whole)
    where
      go : (o : Option Mark) → marked_as (get_or rest 0 0) (get_or rest 1 0) (may_follow s.last) ≡ o → 2 ≤ length rest
          → Told s rest (need o 2 (λ m. read_as m s rest))
      go none e whole = tt
      go (some m) e whole = told_as m whole e
