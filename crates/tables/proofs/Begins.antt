-- A table with nothing in it, and one with a skeleton more.
use Prim.Native.Nat.{ℕ, ◌+◌, ◌≤◌, ◌<◌}
use mathlib.Core.Path.{◌≡◌, refl, sym, ◌∙◌, subst}
use mathlib.Core.Logic.{◌≢◌}
use mathlib.Core.Bool.{Bool, true, false}
use mathlib.Core.List.{List}
use native.Mathlib.Omega.{arith}
use lib.Dec.{eqb}
use borrow.Author.Tests.{eqb-true, eqb-false}
use Rattle.model.specs.Lists.{upto}
use Rattle.model.specs.Reading.{blank}
use Rattle.tables.specs.Layout.{term_count, skeleton_count, block, strand_count, order_count, non_count, uniq_count}
use Rattle.tables.specs.Tables.{byte, strands_at, orders_at, atoms_at, skeleton_at, skeleton_in, Block, Filled}
use Rattle.tables.specs.Stores.{Keeps, Begun}
use Rattle.tables.proofs.Stored.{Put}
use Rattle.tables.proofs.Parts.{encoded_stays, block_same}

module _ {t t₁ t₂ t₃ t₄ t' : List ℕ} (k : ℕ) (f : Filled t) (is : k ≡ byte t skeleton_count) (room : k < 2)
    (s : Put (block k + strand_count) 0 t t₁) (o : Put (block k + order_count) 0 t₁ t₂) (n : Put (block k + non_count) 0 t₂ t₃)
    (u : Put (block k + uniq_count) 0 t₃ t₄) (c : Put skeleton_count (byte t skeleton_count + 1) t₄ t') where
  apart : (j : ℕ) → j ≢ skeleton_count → (j < block k + 4 → j < block k) → byte t' j ≡ byte t j
  apart j a h =
      c.apart j a
      ∙ (u.apart j (λ e. omega (arith, h (omega arith)))
      ∙ (n.apart j (λ e. omega (arith, h (omega arith)))
      ∙ (o.apart j (λ e. omega (arith, h (omega arith))) ∙ s.apart j (λ e. omega (arith, h (omega arith))))))

  keeps : (lo hi : ℕ) → ((j : ℕ) → lo ≤ j → j < hi → (j ≢ skeleton_count) × (j < block k + 4 → j < block k)) → Keeps lo hi t t'
  keeps lo hi h = record { same = λ j a b. apart j (h j a b).0 (h j a b).1 }

  no_strands : byte t' (block k + strand_count) ≡ 0
  no_strands =
      let j = block k + strand_count in
      c.apart j (omega arith) ∙ (u.apart j (omega arith) ∙ (n.apart j (omega arith) ∙ (o.apart j (omega arith) ∙ s.here)))

  no_orders : byte t' (block k + order_count) ≡ 0
  no_orders =
      let j = block k + order_count in
      c.apart j (omega arith) ∙ (u.apart j (omega arith) ∙ (n.apart j (omega arith) ∙ o.here))

  no_nons : byte t' (block k + non_count) ≡ 0
  no_nons = let j = block k + non_count in c.apart j (omega arith) ∙ (u.apart j (omega arith) ∙ n.here)

  no_uniqs : byte t' (block k + uniq_count) ≡ 0
  no_uniqs = c.apart (block k + uniq_count) (omega arith) ∙ u.here

  nothing_in_it : skeleton_in t' k ≡ blank
  unfolding skeleton_at strands_at orders_at atoms_at upto blank
  nothing_in_it = rw (no_strands, no_orders, no_nons, no_uniqs)

  new_block : Block t' (block k)
  new_block =
      record {
        strands = rw no_strands (omega arith);
        low = λ i h. absurd (omega (arith, no_strands));
        orders_most = rw no_orders (omega arith);
        nons_most = rw no_nons (omega arith);
        uniqs_most = rw no_uniqs (omega arith);
      }

  each_block : (j : ℕ) → j < k + 1 → (b : Bool) → eqb j k ≡ b → Block t' (block j)
  each_block j h true e = subst (λ i. Block t' (block i)) (sym (eqb-true j k e)) new_block
  each_block j h false e =
      let l : j < k = omega (arith, eqb-false j k e) in
      block_same (block j) (f.blocks j (omega arith)) (keeps _ _ (omega arith))

  pub begun : Begun t t'
  begun =
      let terms : byte t' term_count ≡ byte t term_count = apart term_count (omega arith) (omega arith) in
      record {
        counted = c.here;
        skeleton = rw (← is) nothing_in_it;
        terms = keeps 0 skeleton_count (omega arith);
        blocks = keeps (block 0) (block (byte t skeleton_count)) (omega arith);
        filled = record {
          long = c.long ∙ (u.long ∙ (n.long ∙ (o.long ∙ (s.long ∙ f.long))));
          terms = rw terms f.terms;
          encoded = λ i h. encoded_stays (keeps 0 600 (omega arith)) i (omega (arith, f.terms)) (f.encoded i (omega arith));
          skeletons = rw c.here (omega arith);
          blocks = λ j h. each_block j (omega (arith, c.here)) (eqb j k) refl;
        };
      }
