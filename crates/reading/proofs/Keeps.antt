-- What is read so far goes on as the definition says: after each record's store.
use Prim.Native.Nat.{ℕ, suc, ◌+◌, ◌≤◌, ◌<◌}
use mathlib.Core.Path.{◌≡◌, refl}
use mathlib.Core.List.{List}
use mathlib.Core.Option.{Option, none}
use native.Mathlib.Numerals.{add-one}
use native.Mathlib.Omega.{arith}
use Rattle.model.specs.Lists.{upto}
use Rattle.model.specs.Skeleton.{Event, Skeleton, Node}
use Rattle.model.specs.Table as Table
use Rattle.model.specs.Reading.{State, Mark, BS, TM, SK, ST, OR, NO, UO, EN, Record, edition, term, begin, strand, order, end, start, in_work, redrawn, with_strand, with_order, after}
use Rattle.tables.specs.Layout.{term_count, skeleton_count, block}
use Rattle.tables.specs.Tables.{byte, rows_of, rows_in, skeleton_in, drawn_in, Filled}
use Rattle.tables.specs.Rows.{row_of}
use Rattle.tables.specs.Assumed.{with_atom}
use Rattle.tables.specs.Stores.{Keeps, Emptied, RowPut, Begun, Redrawn}
use Rattle.tables.specs.declared.blocks.Assumed.{Assumed}
use Rattle.tables.specs.declared.rows.Row.{Row}
use Rattle.tables.proofs.Stored.{keeps_within}
use Rattle.tables.proofs.Parts.{rows_same, skeleton_same, drawn_same}
use Rattle.records.specs.Said.{atom_mark, atom_record}
use Rattle.reading.specs.States.{state_in, Underway, Kept}

-- a state by its parts
parts : {l : Option Mark} {r r' : List Table.Row} {d d' : List (Skeleton ℕ)} → r' ≡ r → d' ≡ d
    → ◌≡◌ {A = State} (record { last = l; rows = r'; drawn = d' }) (record { last = l; rows = r; drawn = d })
parts p q = cc

-- the skeleton in work is the last
module _ (t : List ℕ) (k : ℕ) (last_is : k + 1 ≡ byte t skeleton_count) where
  counted : byte t skeleton_count ≡ suc k
  counted = omega arith

  pub at_work : (last : Option Mark) → in_work (state_in last t) ≡ skeleton_in t k
  unfolding in_work drawn_in
  at_work last = rw counted

module _ {t t' : List ℕ} (f : Filled t) where
  -- the skeletons below n, where their blocks stay
  drawn_stays : (n : ℕ) → n ≤ byte t skeleton_count → Keeps (block 0) (block n) t t' → drawn_in t' n ≡ drawn_in t n
  drawn_stays n l s =
      drawn_same t t' n (λ k h. skeleton_same (block k) (f.blocks k (omega arith)) (keeps_within (omega arith) (omega arith) s))

  rows_stay : Keeps 0 skeleton_count t t' → rows_in t' ≡ rows_in t
  rows_stay s =
      rw (s.same term_count (omega arith) (omega arith)) (rows_same (keeps_within (omega arith) (omega arith) s) _ f.terms)

  pub term_kept : {r : Row} → RowPut r t t' → Kept (term (row_of r)) t TM t'
  unfolding after
  term_kept p =
      let n : byte t' skeleton_count ≡ byte t skeleton_count = p.kept.same skeleton_count (omega arith) (omega arith) in
      record {
        goes_on = λ last.
            parts p.rows
            (rw n (drawn_stays (byte t skeleton_count) (omega arith)
            (keeps_within (omega arith) (omega (arith, f.skeletons)) p.kept)));
        underway = record { filled = p.filled; begun = λ i. absurd i };
      }

  pub begin_kept : Begun t t' → Kept begin t SK t'
  unfolding after drawn_in
  begin_kept p =
      record {
        goes_on = λ last.
            parts (rows_stay p.terms)
            (rw (p.counted, add-one, p.skeleton, drawn_stays (byte t skeleton_count) (omega arith) p.blocks));
        underway = record { filled = p.filled; begun = λ i. omega (arith, p.counted) };
      }

  -- the last skeleton is k, and it becomes K
  module _ (k : ℕ) (last_is : k + 1 ≡ byte t skeleton_count) where
    redraws : (m : Mark) {r : Record} {K : Skeleton ℕ}
        → ((last : Option Mark) → after (state_in last t) r ≡ redrawn m (state_in last t) K)
        → Redrawn k K t t'
        → Kept r t m t'
    unfolding redrawn drawn_in
    redraws m e p =
        let n : byte t' skeleton_count ≡ byte t skeleton_count = p.below.same skeleton_count (omega arith) (omega arith) in
        record {
          goes_on = λ last.
              rw (e last)
              (parts (rows_stay (keeps_within (omega arith) (omega arith) p.below))
              (rw (
                n,
                counted t k last_is,
                p.skeleton,
                drawn_stays k (omega arith) (keeps_within (omega arith) (omega arith) p.below),
              )));
          underway = record { filled = p.filled; begun = λ i. omega (arith, n) };
        }

    pub strand_kept : {tr : List (Event ℕ)} → Redrawn k (with_strand (skeleton_in t k) tr) t t' → Kept (strand tr) t ST t'
    unfolding after
    strand_kept = redraws ST (λ last. rw (at_work t k last_is last) refl)

    pub order_kept : {m n : Node} → Redrawn k (with_order (skeleton_in t k) m n) t t' → Kept (order m n) t OR t'
    unfolding after
    order_kept = redraws OR (λ last. rw (at_work t k last_is last) refl)

    pub atom_kept : (which : Assumed) (a : ℕ) → Redrawn k (with_atom which (skeleton_in t k) a) t t'
        → Kept (atom_record which a) t (atom_mark which) t'
    unfolding after
    atom_kept Assumed.Non a = redraws NO (λ last. rw (at_work t k last_is last) refl)
    atom_kept Assumed.Uniq a = redraws UO (λ last. rw (at_work t k last_is last) refl)

pub edition_kept : {t : List ℕ} → Filled t → Kept edition t BS t
unfolding after
edition_kept f = record { goes_on = λ last. refl; underway = record { filled = f; begun = λ i. absurd i } }

pub end_kept : {t : List ℕ} → Filled t → 0 < byte t skeleton_count → Kept end t EN t
unfolding after
end_kept f l = record { goes_on = λ last. refl; underway = record { filled = f; begun = λ i. l } }

pub at_start : {t : List ℕ} → Emptied t → (state_in none t ≡ start) × Underway none t
unfolding start rows_of upto drawn_in
at_start e = (rw (e.terms, e.skeletons), record { filled = e.filled; begun = λ i. absurd i })

pub ruleset keeps = (edition_kept, term_kept, begin_kept, strand_kept, order_kept, atom_kept, end_kept)
