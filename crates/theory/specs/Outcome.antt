-- Reading has an outcome and no second, and what a sheet that was read is.
use Rattle.std.specs.Prelude.{◌≡◌, refl, Bool, true, false, cond, ◌⊎◌, List, [], ◌∷◌, ℕ, zero, suc, ◌+◌, ◌*◌, ◌≤◌, ◌<◌, T, length, get_or, drop}
use Rattle.std.proofs.Common.{ap, ◌∙◌, sym as back, true≢false, inl, inr, arith, length-drop}
use mathlib.Core.List.Memᴰ
use Rattle.std.proofs.Math.Option.{Option, none, some}
use Rattle.std.proofs.Math.ListN.{get_elem?}
use Rattle.model.specs.Table.{Row}
use Rattle.model.specs.Skeleton.{Event, message, Skeleton, height}
use Rattle.model.specs.Sheet.{Sheet}
use Rattle.model.specs.Reading.{size, State, start, Said, refuse, says, read_record, after, event_at, sends, receives, Reading, read, fault, sheet_of, ended, Read, at_end, beyond, at_fault, next}
use Rattle.theory.specs.Each.{Each, each_nil, each_cons, each_append}
use Rattle.theory.specs.Places.{not_there, inside_list, in_list, in_reversed}
use Rattle.theory.specs.Precedence.{Edge, Low, code, steps, all_steps, edges}
use Rattle.theory.specs.Judgement.{Raw}
use Rattle.theory.specs.Records.{RightTrace, was_read, takes_two}
use Rattle.theory.specs.Standing.{Joins, Drawn, Kept, start_kept, kept_after, atom_inside}
use Rattle.theory.specs.OnTable.{OnTable}

-- No second outcome

pub read_one : {s : State} {p : ℕ} {l : List ℕ} {r q : Reading} → Read s p l r → Read s p l q → r ≡ q
read_one (at_end e) (at_end f) = refl
read_one (at_end e) (at_fault f g) = absurd (true≢false (back e ∙ f))
read_one (at_end e) (next f g h) = absurd (true≢false (back e ∙ f))
read_one (beyond e) (beyond f) = refl
read_one (beyond e) (at_fault f g) = absurd (true≢false (back e ∙ f))
read_one (beyond e) (next f g h) = absurd (true≢false (back e ∙ f))
read_one (at_fault e g) (at_end f) = absurd (true≢false (back f ∙ e))
read_one (at_fault e g) (beyond f) = absurd (true≢false (back f ∙ e))
read_one {p} (at_fault {n = m} e g) (at_fault {n} f h) = let z = back g ∙ h in let w : m ≡ n = cc in ap (λ k. fault k p) w
read_one (at_fault e g) (next f h k) = let z = back g ∙ h in let w : ◌≡◌ {A = ℕ} 0 1 = cc in absurd (omega arith)
read_one (next e g k) (at_end f) = absurd (true≢false (back f ∙ e))
read_one (next e g k) (beyond f) = absurd (true≢false (back f ∙ e))
read_one (next e g k) (at_fault f h) = let z = back g ∙ h in let w : ◌≡◌ {A = ℕ} 0 1 = cc in absurd (omega arith)
read_one (next {r = a} e g k) (next {r = b} f h m) = let z = back g ∙ h in let x : a ≡ b = cc in read_one k (rw x m)

-- There is an outcome

unfoldable pub close : State → ℕ → List ℕ → Reading
unfolding sheet_of
close s p [] = read (sheet_of s)
close s p (b ∷ l) = fault 8 p

unfoldable pub go_on : Said → State → ℕ → List ℕ → (State → ℕ → List ℕ → Reading) → Reading
unfolding after size
go_on (refuse n) s p l f = fault n p
go_on (says r) s p l f = f (after s r) (p + size r) (drop (size r) l)

-- at most n records
unfoldable pub reads : ℕ → State → ℕ → List ℕ → Reading
unfolding close go_on ended read_record
reads zero s p l = fault 1 p
reads (suc n) s p l = cond (ended s) (close s p l) (go_on (read_record s l) s p l (reads n))

pub reads_read : (n : ℕ) (s : State) (p : ℕ) (l : List ℕ) → length l < n → Read s p l (reads n s p l)
unfolding reads
reads_read zero s p l h = absurd (omega arith)
reads_read (suc n) s p l h = go (ended s) refl (read_record s l) refl (reads_read n)
  where
    closed : (r : List ℕ) → ended s ≡ true → Read s p r (close s p r)
    closed [] e = at_end e
    closed (b ∷ r) e = beyond e

    go : (b : Bool) → ended s ≡ b → (x : Said) → read_record s l ≡ x
        → ((s : State) (p : ℕ) (l : List ℕ) → length l < n → Read s p l (reads n s p l))
        → Read s p l (cond b (close s p l) (go_on x s p l (reads n)))
    go true e x q f = closed l e
    go false e (refuse m) q f = at_fault e q
    go false e (says r) q f =
        let w = was_read s l q in
        next e q (f (after s r) (p + size r) (drop (size r) l) (rw length-drop (omega (arith, w.whole, takes_two r))))

-- What a sheet that was read is

record Inside (n : ℕ) (e : Edge) : Type 0 where
  low₁ : e.0.position < 16
  low₂ : e.1.position < 16
  strand₁ : e.0.strand < n
  strand₂ : e.1.strand < n

record InsideEdge (n : ℕ) (e : Edge) : Type 0 where
  lows : Low e.0 × Low e.1
  codes : (code e.0 < n * 16) × (code e.1 < n * 16)

inside_edge : (n : ℕ) {e : Edge} → Inside n e → InsideEdge n e
unfolding Low code
inside_edge n i =
    record { lows = (i.low₁, i.low₂); codes = (omega (arith, i.low₁, i.strand₁), omega (arith, i.low₂, i.strand₂)) }

steps_inside : (n s h : ℕ) → s < n → h ≤ 16 → Each (Inside n) (steps s h)
unfolding steps
steps_inside n s zero l k = each_nil _
steps_inside n s (suc zero) l k = each_nil _
steps_inside n s (suc (suc p)) l k =
    each_cons _ (record { low₁ = omega arith; low₂ = omega arith; strand₁ = l; strand₂ = l })
    (steps_inside n s (suc p) l (omega arith))

all_steps_inside : (n m : ℕ) (h : ℕ → ℕ) → m ≤ n → ((s : ℕ) → h s ≤ 16) → Each (Inside n) (all_steps h m)
unfolding all_steps
all_steps_inside n zero h l f = each_nil _
all_steps_inside n (suc m) h l f =
    each_append _ (steps m (h m)) (steps_inside n m (h m) (omega arith) (f m)) (all_steps_inside n m h (omega arith) f)

heights : (n : ℕ) (ts : List (List (Event ℕ))) → Each (RightTrace n) ts → (s : ℕ) → length (get_or ts s []) ≤ 16
heights n [] f s = omega arith
heights n (t ∷ ts) f zero = (f t (Memᴰ.head refl)).low
heights n (t ∷ ts) f (suc s) = heights n ts (λ x m. f x (Memᴰ.tail m)) s

record NodeIn (n : ℕ) (ts : List (List (Event ℕ))) (s p : ℕ) (e : Event ℕ) : Type 0 where
  low : p < 16
  strand : s < length ts
  known : message e < n

node_in : (n : ℕ) (ts : List (List (Event ℕ))) → Each (RightTrace n) ts → (s p : ℕ) {e : Event ℕ}
    → get_elem? (get_or ts s []) p ≡ some e
    → NodeIn n ts s p e
node_in n [] f s p h = absurd (not_there h)
node_in n (t ∷ ts) f zero p h =
    let g = f t (Memᴰ.head refl) in
    record { low = omega (arith, inside_list t p h, g.low); strand = omega arith; known = g.known _ (in_list t p h) }
node_in n (t ∷ ts) f (suc s) p h =
    let i = node_in n ts (λ x m. f x (Memᴰ.tail m)) s p h in
    record { low = i.low; strand = omega (arith, i.strand); known = i.known }

an_event : (o : Option (Event ℕ)) → T (sends o) ⊎ T (receives o) → (e : Event ℕ) × (o ≡ some e)
unfolding sends receives
an_event none (inl h) = absurd h
an_event none (inr h) = absurd h
an_event (some e) h = (e, refl)

module _ (rows : List Row) (K : Skeleton ℕ) (d : Drawn rows K) where
  joined_inside : (e : Edge) → Joins K e → Inside (length K.strands) e
  unfolding event_at
  joined_inside e j =
      let (x, i) = an_event (event_at K e.0) (inl j.from) in
      let (y, k) = an_event (event_at K e.1) (inr j.to) in
      let a = node_in (length rows) K.strands d.traces e.0.strand e.0.position i in
      let b = node_in (length rows) K.strands d.traces e.1.strand e.1.position k in
      record { low₁ = a.low; low₂ = b.low; strand₁ = a.strand; strand₂ = b.strand }

  edges_inside : Each (Inside (length K.strands)) (edges K)
  unfolding edges
  edges_inside =
      each_append _ (all_steps (height K) (length K.strands))
      (all_steps_inside (length K.strands) (length K.strands) (height K) (omega arith)
      (heights (length rows) K.strands d.traces))
      (λ e m. joined_inside e (d.orders e m))

  drawn_on_table : OnTable rows K
  unfolding Low
  drawn_on_table =
      record {
        messages = λ n e a. (node_in (length rows) K.strands d.traces n.strand n.position a.is).known;
        nons = λ t m. atom_inside rows t (d.nons t m);
        uniqs = λ t m. atom_inside rows t (d.uniqs t m);
        positions = λ n e a. (node_in (length rows) K.strands d.traces n.strand n.position a.is).low;
        low = λ e m. (inside_edge (length K.strands) (edges_inside e m)).lows;
        nodes = λ e m. (inside_edge (length K.strands) (edges_inside e m)).codes;
      }

kept_raw : (s : State) → Kept s → Raw (sheet_of s)
unfolding sheet_of
kept_raw s h =
    record {
      earlier = h.table.earlier_args;
      sorted = h.table.sorted_args;
      distinct = h.table.distinct;
      drawings = λ k D g.
          let m = in_reversed s.drawn (in_list _ k g.skeleton) in
          drawn_on_table D.rows D.skeleton (rw g.rows at (h.drawings D.skeleton m));
    }

-- a state in which reading ended with this sheet
pub record Ended (t : Sheet) : Type 0 where
  pub state : State
  pub kept : Kept state
  pub ended : ended state ≡ true
  pub is : sheet_of state ≡ t

pub read_ended : {s : State} {p : ℕ} {l : List ℕ} {r : Reading} → Kept s → Read s p l r → (t : Sheet) → r ≡ read t → Ended t
read_ended {s} h (at_end e) t q = let z : sheet_of s ≡ t = cc in record { state = s; kept = h; ended = e; is = z }
read_ended h (beyond e) t q = let z : ◌≡◌ {A = ℕ} 0 1 = cc in absurd (omega arith)
read_ended h (at_fault e f) t q = let z : ◌≡◌ {A = ℕ} 0 1 = cc in absurd (omega arith)
read_ended {s} {l} h (next {r} e f k) t q = read_ended (kept_after s h r (was_read s l f).allowed) k t q

pub read_raw : {bytes : List ℕ} {s : Sheet} → Read start 0 bytes (read s) → Raw s
read_raw {s} r =
    let e = read_ended start_kept r s refl in
    rw e.is at (kept_raw e.state e.kept)
