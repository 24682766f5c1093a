-- A record more in a skeleton: its bytes stand after those of its kind, it is counted, and all else stays.
use Prim.Native.Nat.{ℕ, ◌+◌, ◌*◌, ◌≤◌, ◌<◌}
use mathlib.Core.Path.{◌≡◌, refl, sym, ap, ◌∙◌, subst}
use mathlib.Core.Logic.{◌≢◌}
use mathlib.Core.Bool.{Bool, true, false}
use mathlib.Core.List.{List, [], ◌∷◌, ◌++◌}
use native.Mathlib.Omega.{arith}
use lib.Dec.{ltb}
use lib.ListN.{length}
use borrow.Author.Tests.{ltb-true, ltb-false}
use Rattle.model.specs.Skeleton.{Node, Skeleton}
use Rattle.model.specs.Reading.{with_order, with_non, with_uniq}
use Rattle.tables.specs.Layout.{term_count, skeleton_count, block, block_size, table_size, strand_count, order_count, non_count, uniq_count, heights, directions, orders, nons, uniqs}
use Rattle.tables.specs.Tables.{byte, orders_at, atoms_at, skeleton_at, skeleton_in, Block, Filled}
use Rattle.tables.specs.Stores.{Keeps, Redrawn}
use Rattle.tables.specs.Assumed.{count_place, atoms_place, with_atom}
use Rattle.tables.specs.declared.blocks.Assumed.{Assumed}
use Rattle.theory.specs.Upto.{upto_more}
use Rattle.tables.proofs.Stored.{Put, keeps_within}
use Rattle.tables.proofs.Parts.{encoded_stays, strands_same, orders_same, atoms_same, four_lists, block_same}

-- ---- the block of the skeleton k is another, and its counts keep the limits
module _ (t t' : List ℕ) (k : ℕ) (f : Filled t) (l : k < byte t skeleton_count) (long : length t' ≡ length t)
    (below : Keeps 0 (block k) t t') (above : Keeps (block k + block_size) table_size t t') (B : Block t' (block k)) where
  each_block : (j : ℕ) → j < byte t skeleton_count → Block t' (block j)
  each_block j h = go (ltb j k) refl (ltb k j) refl
    where
      go : (a : Bool) → ltb j k ≡ a → (b : Bool) → ltb k j ≡ b → Block t' (block j)
      go true e b q =
          let r : j < k = ltb-true j k e in
          block_same (block j) (f.blocks j h) (keeps_within (omega arith) (omega arith) below)
      go false e true q =
          let r : k < j = ltb-true k j q in
          block_same (block j) (f.blocks j h) (keeps_within (omega arith) (omega (arith, f.skeletons)) above)
      go false e false q =
          let r : k ≡ j = omega (arith, ltb-false j k e, ltb-false k j q) in
          subst (λ i. Block t' (block i)) r B

  pub redrawn : {K : Skeleton ℕ} → skeleton_in t' k ≡ K → Redrawn k K t t'
  redrawn drawn =
      let skeletons : byte t' skeleton_count ≡ byte t skeleton_count = below.same skeleton_count (omega arith) (omega arith) in
      let terms : byte t' term_count ≡ byte t term_count = below.same term_count (omega arith) (omega arith) in
      record {
        skeleton = drawn;
        below = below;
        above = above;
        filled = record {
          long = long ∙ f.long;
          terms = rw terms f.terms;
          encoded =
              λ i h. encoded_stays (keeps_within (omega arith) (omega arith) below) i (omega (arith, f.terms))
              (f.encoded i (omega arith));
          skeletons = rw skeletons f.skeletons;
          blocks = λ j h. each_block j (omega arith);
        };
      }

-- ---- a record of another kind than ST: the strands stay
block_with : (b : ℕ) {t t' : List ℕ} → Block t b → byte t' (b + strand_count) ≡ byte t (b + strand_count)
    → Keeps (b + heights) (b + directions) t t' → byte t' (b + order_count) ≤ 64 → byte t' (b + non_count) ≤ 32
    → byte t' (b + uniq_count) ≤ 32
    → Block t' b
block_with b {t} {t'} B n s o p q =
    record {
      strands = rw n B.strands;
      low = λ i l. rw (s.same (b + heights + i) (omega arith) (omega (arith, B.strands))) (B.low i (omega arith));
      orders_most = o;
      nons_most = p;
      uniqs_most = q;
    }

module _ {t t₁ t' : List ℕ} {i a c n : ℕ} (p : Put i a t t₁) (q : Put c n t₁ t') where
  two_apart : (j : ℕ) → j ≢ i → j ≢ c → byte t' j ≡ byte t j
  two_apart j m o = q.apart j o ∙ p.apart j m

  two_keeps : (lo hi : ℕ) → ((j : ℕ) → lo ≤ j → j < hi → (j ≢ i) × (j ≢ c)) → Keeps lo hi t t'
  two_keeps lo hi h = record { same = λ j l u. two_apart j (h j l u).0 (h j l u).1 }

-- atoms from i on: one more
atom_more : (i n a : ℕ) {t t' : List ℕ} → Keeps i (i + n) t t' → byte t' (i + n) ≡ a
    → atoms_at (n + 1) t' i ≡ atoms_at n t i ++ (a ∷ [])
unfolding atoms_at
atom_more i n a s e = upto_more n _ _ a (λ j l. s.same (i + j) (omega arith) (omega arith)) e

pub places_low : (which : Assumed) → (count_place which ≤ uniq_count) × (atoms_place which ≤ uniqs)
places_low Assumed.Non = (omega arith, omega arith)
places_low Assumed.Uniq = (omega arith, omega arith)

module _ (t t₁ t' : List ℕ) (k n a : ℕ) (f : Filled t) (l : k < byte t skeleton_count) where
  -- an atom of either kind: n are counted at c, and they lie from i on
  module _ (c i : ℕ) (low : non_count ≤ c) (high : c < heights) (far : nons ≤ i) (near : i + n < block_size)
      (p : Put (block k + i + n) a t t₁) (q : Put (block k + c) (byte t (block k + c) + 1) t₁ t') where
    apart : (j : ℕ) → j ≢ block k + i + n → j ≢ block k + c → byte t' j ≡ byte t j
    apart = two_apart p q

    keeps : (lo hi : ℕ) → ((j : ℕ) → lo ≤ j → j < hi → (j ≢ block k + i + n) × (j ≢ block k + c)) → Keeps lo hi t t'
    keeps = two_keeps p q

    atom_put : {non uniq : List ℕ} → byte t' (block k + non_count) ≤ 32 → byte t' (block k + uniq_count) ≤ 32
        → atoms_at (byte t' (block k + non_count)) t' (block k + nons) ≡ non
        → atoms_at (byte t' (block k + uniq_count)) t' (block k + uniqs) ≡ uniq
        → Redrawn k (record { strands = (skeleton_in t k).strands; order = (skeleton_in t k).order; non = non; uniq = uniq }) t t'
    unfolding skeleton_at
    atom_put m u e g =
        let b = block k in
        let B : Block t b = f.blocks k l in
        let s : byte t' (b + strand_count) ≡ byte t (b + strand_count) = apart (b + strand_count) (omega arith) (omega arith) in
        let o : byte t' (b + order_count) ≡ byte t (b + order_count) = apart (b + order_count) (omega arith) (omega arith) in
        redrawn t t' k f l (q.long ∙ p.long) (keeps 0 b (omega arith)) (keeps (b + block_size) table_size (omega arith))
        (block_with b B s (keeps (b + heights) (b + directions) (omega arith)) (rw o B.orders_most) m u)
        (four_lists
        (rw s (strands_same b _ B.strands B.low (keeps (b + heights) (b + orders) (omega arith))))
        (rw o (orders_same b _ (keeps _ _ (omega (arith, B.orders_most)))))
        e
        g)

  module _ (is : n ≡ byte t (block k + non_count)) (room : n < 32)
      (p : Put (block k + nons + n) a t t₁) (q : Put (block k + non_count) (byte t (block k + non_count) + 1) t₁ t') where
    non_put : Redrawn k (with_non (skeleton_in t k) a) t t'
    unfolding skeleton_at with_non
    non_put =
        let b = block k in
        let B : Block t b = f.blocks k l in
        let m : byte t' (b + non_count) ≡ n + 1 = q.here ∙ ap (λ j. j + 1) (sym is) in
        let u : byte t' (b + uniq_count) ≡ byte t (b + uniq_count) = two_apart p q (b + uniq_count) (omega arith) (omega arith) in
        atom_put non_count nons (omega arith) (omega arith) (omega arith) (omega arith) p q (rw m (omega arith))
        (rw u B.uniqs_most)
        (rw (m, ← is)
        (atom_more (b + nons) n a (two_keeps p q _ _ (omega arith)) (q.apart (b + nons + n) (omega arith) ∙ p.here)))
        (rw u (atoms_same (b + uniqs) _ (two_keeps p q _ _ (omega arith))))

  module _ (is : n ≡ byte t (block k + uniq_count)) (room : n < 32)
      (p : Put (block k + uniqs + n) a t t₁) (q : Put (block k + uniq_count) (byte t (block k + uniq_count) + 1) t₁ t') where
    uniq_put : Redrawn k (with_uniq (skeleton_in t k) a) t t'
    unfolding skeleton_at with_uniq
    uniq_put =
        let b = block k in
        let B : Block t b = f.blocks k l in
        let m : byte t' (b + non_count) ≡ byte t (b + non_count) = two_apart p q (b + non_count) (omega arith) (omega arith) in
        let u : byte t' (b + uniq_count) ≡ n + 1 = q.here ∙ ap (λ j. j + 1) (sym is) in
        atom_put uniq_count uniqs (omega arith) (omega arith) (omega arith) (omega arith) p q (rw m B.nons_most)
        (rw u (omega arith))
        (rw m (atoms_same (b + nons) _ (two_keeps p q _ _ (omega (arith, B.nons_most)))))
        (rw (u, ← is)
        (atom_more (b + uniqs) n a (two_keeps p q _ _ (omega arith)) (q.apart (b + uniqs + n) (omega arith) ∙ p.here)))

  pub assumed_put : (which : Assumed) → n ≡ byte t (block k + count_place which) → n < 32
      → Put (block k + atoms_place which + n) a t t₁
      → Put (block k + count_place which) (byte t (block k + count_place which) + 1) t₁ t'
      → Redrawn k (with_atom which (skeleton_in t k) a) t t'
  assumed_put Assumed.Non is room p q = non_put is room p q
  assumed_put Assumed.Uniq is room p q = uniq_put is room p q

-- ---- an OR record: four bytes from `at` on
module _ {t t₁ t₂ t₃ t₄ : List ℕ} (at a b c d : ℕ) (p : Put at a t t₁) (q : Put (at + 1) b t₁ t₂) (r : Put (at + 2) c t₂ t₃)
    (s : Put (at + 3) d t₃ t₄) where
  four_apart : (j : ℕ) → (j < at + 4 → j < at) → byte t₄ j ≡ byte t j
  four_apart j h =
      s.apart j (λ e. omega (arith, h (omega arith)))
      ∙ (r.apart j (λ e. omega (arith, h (omega arith)))
      ∙ (q.apart j (λ e. omega (arith, h (omega arith))) ∙ p.apart j (λ e. omega (arith, h (omega arith)))))

  four_put : (byte t₄ at ≡ a) × (byte t₄ (at + 1) ≡ b) × (byte t₄ (at + 2) ≡ c) × (byte t₄ (at + 2 + 1) ≡ d)
  four_put =
      let e : at + 2 + 1 ≡ at + 3 = omega arith in (
        s.apart at (omega arith) ∙ (r.apart at (omega arith) ∙ (q.apart at (omega arith) ∙ p.here)),
        s.apart (at + 1) (omega arith) ∙ (r.apart (at + 1) (omega arith) ∙ q.here),
        s.apart (at + 2) (omega arith) ∙ r.here,
        rw e s.here,
      )

-- OR records: one more
order_more : (b n : ℕ) (m o : Node) {t t' : List ℕ} → Keeps (b + orders) (b + orders + 4 * n) t t'
    → byte t' (b + orders + 4 * n) ≡ m.strand → byte t' (b + orders + 4 * n + 1) ≡ m.position
    → byte t' (b + orders + 4 * n + 2) ≡ o.strand → byte t' (b + orders + 4 * n + 2 + 1) ≡ o.position
    → orders_at (n + 1) t' b ≡ orders_at n t b ++ ((m, o) ∷ [])
unfolding orders_at
order_more b n m o s p q r u =
    upto_more n _ _ (m, o)
    (λ i l. let at = b + orders + 4 * i in
    rw (
      s.same at (omega arith) (omega arith),
      s.same (at + 1) (omega arith) (omega arith),
      s.same (at + 2) (omega arith) (omega arith),
      s.same (at + 2 + 1) (omega arith) (omega arith),
    ))
    (rw (p, q, r, u))

module _ (t t₁ t₂ t₃ t₄ t' : List ℕ) (k n : ℕ) (m o : Node) (f : Filled t) (l : k < byte t skeleton_count)
    (is : n ≡ byte t (block k + order_count)) (room : n < 64)
    (p : Put (block k + orders + 4 * n) m.strand t t₁) (q : Put (block k + orders + 4 * n + 1) m.position t₁ t₂)
    (r : Put (block k + orders + 4 * n + 2) o.strand t₂ t₃) (s : Put (block k + orders + 4 * n + 3) o.position t₃ t₄)
    (c : Put (block k + order_count) (byte t (block k + order_count) + 1) t₄ t') where
  abbrev at : ℕ
  at = block k + orders + 4 * n

  or_apart : (j : ℕ) → j ≢ block k + order_count → (j < at + 4 → j < at) → byte t' j ≡ byte t j
  or_apart j e h = c.apart j e ∙ four_apart at _ _ _ _ p q r s j h

  or_keeps : (lo hi : ℕ) → ((j : ℕ) → lo ≤ j → j < hi → (j ≢ block k + order_count) × (j < at + 4 → j < at)) → Keeps lo hi t t'
  or_keeps lo hi h = record { same = λ j a b. or_apart j (h j a b).0 (h j a b).1 }

  pub order_put : Redrawn k (with_order (skeleton_in t k) m o) t t'
  unfolding skeleton_at with_order
  order_put =
      let b = block k in
      let B : Block t b = f.blocks k l in
      let put = four_put at _ _ _ _ p q r s in
      let sc : byte t' (b + strand_count) ≡ byte t (b + strand_count) = or_apart (b + strand_count) (omega arith) (omega arith) in
      let oc : byte t' (b + order_count) ≡ n + 1 = c.here ∙ ap (λ j. j + 1) (sym is) in
      let nc : byte t' (b + non_count) ≡ byte t (b + non_count) = or_apart (b + non_count) (omega arith) (omega arith) in
      let uc : byte t' (b + uniq_count) ≡ byte t (b + uniq_count) = or_apart (b + uniq_count) (omega arith) (omega arith) in
      redrawn t t' k f l (c.long ∙ (s.long ∙ (r.long ∙ (q.long ∙ p.long)))) (or_keeps 0 b (omega arith))
      (or_keeps (b + block_size) table_size (omega arith))
      (block_with b B sc (or_keeps (b + heights) (b + directions) (omega arith)) (rw oc (omega arith)) (rw nc B.nons_most)
      (rw uc B.uniqs_most))
      (four_lists
      (rw sc (strands_same b _ B.strands B.low (or_keeps (b + heights) (b + orders) (omega arith))))
      (rw (oc, ← is)
      (order_more b n m o (or_keeps (b + orders) at (omega arith)) (c.apart at (omega arith) ∙ put.0)
      (c.apart (at + 1) (omega arith) ∙ put.1) (c.apart (at + 2) (omega arith) ∙ put.2)
      (c.apart (at + 2 + 1) (omega arith) ∙ put.3)))
      (rw nc (atoms_same (b + nons) _ (or_keeps _ _ (omega (arith, B.nons_most)))))
      (rw uc (atoms_same (b + uniqs) _ (or_keeps _ _ (omega (arith, B.uniqs_most))))))
