-- A strand more: its events stand in their own part of the block, and its height; it is counted, and all else stays.
use Prim.Native.Nat.{ℕ, ◌+◌, ◌*◌, ◌≤◌, ◌<◌}
use mathlib.Core.Path.{◌≡◌, refl, sym, ap, ◌∙◌}
use mathlib.Core.Logic.{◌≢◌}
use mathlib.Core.Bool.{Bool, true, false}
use mathlib.Core.List.{List}
use native.Mathlib.Omega.{arith}
use lib.Dec.{eqb}
use borrow.Author.Tests.{eqb-true, eqb-false}
use Rattle.model.specs.Lists.{upto}
use Rattle.model.specs.Reading.{event_in, with_strand}
use Rattle.tables.specs.Layout.{skeleton_count, block, block_size, table_size, strand_count, order_count, non_count, uniq_count, heights, directions, messages, nons, uniqs}
use Rattle.tables.specs.Tables.{byte, trace_at, strands_at, skeleton_at, skeleton_in, Block, Filled}
use Rattle.tables.specs.Stores.{Keeps, Redrawn, EventsPut}
use Rattle.theory.specs.Upto.{upto_same, upto_more}
use Rattle.tables.proofs.Stored.{Put}
use Rattle.tables.proofs.Parts.{trace_same, orders_same, atoms_same, four_lists}
use Rattle.tables.proofs.BlockPuts.{redrawn}

-- ---- the events, one after the other
pub events_none : (d m : ℕ) (rest t : List ℕ) → EventsPut d m 0 rest t t
events_none d m rest t =
    record { long = refl; sent = λ p h. absurd (omega arith); told = λ p h. absurd (omega arith); apart = λ j a b. refl }

pub events_more : {d m i : ℕ} {rest t t₁ t₂ t₃ : List ℕ} → d + 16 ≤ m → i < 16 → EventsPut d m i rest t t₁
    → Put (d + i) (byte rest (3 + 2 * i)) t₁ t₂ → Put (m + i) (byte rest (4 + 2 * i)) t₂ t₃ → EventsPut d m (i + 1) rest t t₃
events_more {d} {m} {i} {rest} {t} {t₁} {t₂} {t₃} far l e p q =
    record {
      long = q.long ∙ (p.long ∙ e.long);
      sent = λ j h. at_direction j h (eqb j i) refl;
      told = λ j h. at_message j h (eqb j i) refl;
      apart = λ j a b.
          q.apart j (λ x. omega (arith, b (omega arith))) ∙ (p.apart j (λ x. omega (arith, a (omega arith))) ∙ e.apart j a b);
    }
  where
    at_direction : (j : ℕ) → j < i + 1 → (b : Bool) → eqb j i ≡ b → byte t₃ (d + j) ≡ byte rest (3 + 2 * j)
    at_direction j h true x = rw (eqb-true j i x) (q.apart (d + i) (omega arith) ∙ p.here)
    at_direction j h false x =
        let n : j < i = omega (arith, eqb-false j i x) in
        q.apart (d + j) (omega arith) ∙ (p.apart (d + j) (omega arith) ∙ e.sent j n)

    at_message : (j : ℕ) → j < i + 1 → (b : Bool) → eqb j i ≡ b → byte t₃ (m + j) ≡ byte rest (4 + 2 * j)
    at_message j h true x = rw (eqb-true j i x) q.here
    at_message j h false x =
        let n : j < i = omega (arith, eqb-false j i x) in
        q.apart (m + j) (omega arith) ∙ (p.apart (m + j) (omega arith) ∙ e.told j n)

-- ---- the strand
module _ (t t₁ t₂ t' rest : List ℕ) (k n height : ℕ) (f : Filled t) (l : k < byte t skeleton_count)
    (is : n ≡ byte t (block k + strand_count)) (room : n < 6) (low : height ≤ 16)
    (e : EventsPut (block k + directions + 16 * n) (block k + messages + 16 * n) height rest t t₁)
    (h : Put (block k + heights + n) height t₁ t₂)
    (c : Put (block k + strand_count) (byte t (block k + strand_count) + 1) t₂ t') where
  abbrev d : ℕ
  d = block k + directions + 16 * n

  abbrev m : ℕ
  m = block k + messages + 16 * n

  apart : (j : ℕ) → j ≢ block k + strand_count → j ≢ block k + heights + n → (j < d + 16 → j < d) → (j < m + 16 → j < m)
      → byte t' j ≡ byte t j
  apart j a b x y = c.apart j a ∙ (h.apart j b ∙ e.apart j x y)

  keeps : (lo hi : ℕ)
      → ((j : ℕ) → lo ≤ j → j < hi
      → (j ≢ block k + strand_count) × (j ≢ block k + heights + n) × (j < d + 16 → j < d) × (j < m + 16 → j < m))
      → Keeps lo hi t t'
  keeps lo hi g = record { same = λ j a b. let o = g j a b in apart j o.0 o.1 o.2 o.3 }

  height_put : byte t' (block k + heights + n) ≡ height
  height_put = c.apart (block k + heights + n) (omega arith) ∙ h.here

  new_trace : trace_at t' (block k) n ≡ upto height (event_in rest)
  unfolding trace_at event_in
  new_trace =
      rw height_put
      (upto_same height _ _
      (λ p q. rw (
        c.apart (d + p) (omega arith),
        h.apart (d + p) (omega arith),
        e.sent p q,
        c.apart (m + p) (omega arith),
        h.apart (m + p) (omega arith),
        e.told p q,
      )))

  old_trace : (i : ℕ) → i < n → trace_at t' (block k) i ≡ trace_at t (block k) i
  old_trace i q =
      trace_same (block k) i ((f.blocks k l).low i (omega arith)) (keeps _ _ (omega arith)) (keeps _ _ (omega arith))
      (keeps _ _ (omega arith))

  counted : byte t' (block k + strand_count) ≡ n + 1
  counted = c.here ∙ ap (λ j. j + 1) (sym is)

  each_low : (i : ℕ) → i < n + 1 → (b : Bool) → eqb i n ≡ b → byte t' (block k + heights + i) ≤ 16
  each_low i q true x = rw (eqb-true i n x, height_put) low
  each_low i q false x =
      let u : i < n = omega (arith, eqb-false i n x) in
      rw (apart (block k + heights + i) (omega arith) (omega arith) (omega arith) (omega arith))
      ((f.blocks k l).low i (omega arith))

  pub strand_put : Redrawn k (with_strand (skeleton_in t k) (upto height (event_in rest))) t t'
  unfolding skeleton_at with_strand strands_at
  strand_put =
      let b = block k in
      let B : Block t b = f.blocks k l in
      let oc : byte t' (b + order_count) ≡ byte t (b + order_count) =
      apart (b + order_count) (omega arith) (omega arith) (omega arith) (omega arith) in
      let nc : byte t' (b + non_count) ≡ byte t (b + non_count) =
      apart (b + non_count) (omega arith) (omega arith) (omega arith) (omega arith) in
      let uc : byte t' (b + uniq_count) ≡ byte t (b + uniq_count) =
      apart (b + uniq_count) (omega arith) (omega arith) (omega arith) (omega arith) in
      redrawn t t' k f l (c.long ∙ (h.long ∙ e.long)) (keeps 0 b (omega arith))
      (keeps (b + block_size) table_size (omega arith))
      (record {
        strands = rw counted (omega arith);
        low = λ i q. each_low i (omega (arith, counted)) (eqb i n) refl;
        orders_most = rw oc B.orders_most;
        nons_most = rw nc B.nons_most;
        uniqs_most = rw uc B.uniqs_most;
      })
      (four_lists
      (rw (counted, ← is) (upto_more n (trace_at t b) (trace_at t' b) (upto height (event_in rest)) old_trace new_trace))
      (rw oc (orders_same b _ (keeps _ _ (omega (arith, B.orders_most)))))
      (rw nc (atoms_same (b + nons) _ (keeps _ _ (omega arith))))
      (rw uc (atoms_same (b + uniqs) _ (keeps _ _ (omega arith)))))
