-- The events of a skeleton's block, and the wishes of a strand map.
use mathlib.Core.Path.{◌≡◌, refl}
use mathlib.Core.Bool.{Bool}
use mathlib.Core.List.Memᴰ
use mathlib.Core.List.{List, ◌++◌, Memᴰ}
use Prim.Native.Nat.{ℕ, zero, suc, ◌+◌, ◌*◌, ◌≤◌, ◌<◌}
use native.Mathlib.Omega.{arith}
use native.Mathlib.Decide.{ℕ_discrete}
use lib.Dec.{eqb}
use lib.ListN.{length, get_or}
use Rattle.terms.specs.declared.Strand.{Strand}
use Rattle.model.specs.Skeleton.{Event, Node, message, At}
use Rattle.model.specs.Says.{node_of}
use Rattle.model.specs.Reading.{event}
use Rattle.theory.specs.Each.{Each, each_nil, each_cons, each_append}
use Rattle.theory.specs.OnTable.{OnTable}
use Rattle.theory.specs.Matching.{Wish}
use Rattle.tables.specs.Layout.{strand_count, heights, directions, messages}
use Rattle.tables.specs.Tables.{byte, rows_in, skeleton_at}
use Rattle.tables.specs.Nodes.{direction_at, message_at, There}
use Rattle.tables.specs.Drawn.{Drawn}
use Rattle.tables.proofs.Nodes.{stands_at, said_at}
use Rattle.matching.specs.Matches.{Laid}
use Rattle.matching.specs.Pass.{gather, one_wish, strand_wishes, wishes}

-- The members of lists, from f i on

module _ {A : Type 0} (f : ℕ → List A) where
  pub each_gather : (P : A → Type 0) (i n : ℕ) → ((k : ℕ) → i ≤ k → k < i + n → Each P (f k)) → Each P (gather f i n)
  unfolding gather
  each_gather P i zero h = each_nil P
  each_gather P i (suc n) h =
      each_append P (f i) (h i (omega arith) (omega arith)) (each_gather P (suc i) n (λ k a b. h k (omega arith) (omega arith)))

  pub in_gather : (i n k : ℕ) {x : A} → i ≤ k → k < i + n → Memᴰ x (f k) → Memᴰ x (gather f i n)
  unfolding gather
  in_gather i zero k a b m = absurd (omega arith)
  in_gather i (suc n) k {x} a b m = go (ℕ_discrete k i) (λ c. in_gather (suc i) n k c (omega arith) m)
    where
      go : Dec (k ≡ i) → (suc i ≤ k → Memᴰ x (gather f (suc i) n)) → Memᴰ x (f i ++ gather f (suc i) n)
      go (yes e) r = Memᴰ.append_left (gather f (suc i) n) (rw e at m)
      go (no e) r = Memᴰ.append_right (f i) (r (omega arith))

-- The events of a block

module _ (t : List ℕ) (b : ℕ) where
  -- the byte of a message
  abbrev pub said : ℕ → ℕ → ℕ
  said s p = message_at t b (record { strand = s; position = p })

  pub event_at : (s p : ℕ) → s < byte t (b + strand_count) → p < byte t (b + heights + s)
      → (e : Event ℕ) × At (skeleton_at t b) (record { strand = s; position = p }) e × (message e ≡ said s p)
  event_at s p h k =
      let n : Node = record { strand = s; position = p } in
      let a = stands_at t b {n = n} {e = event (direction_at t b n) (message_at t b n)}
      (record { there = record { strand = h; position = k }; is = refl }) in
      (_, a, said_at t b a)

  -- a message is a term
  pub said_low : OnTable (rows_in t) (skeleton_at t b) → (s p : ℕ) → s < byte t (b + strand_count) → p < byte t (b + heights + s)
      → said s p < length (rows_in t)
  said_low ok s p h k = let (e, a, q) = event_at s p h k in rw q at (ok.messages (record { strand = s; position = p }) e a)

-- A node of the block at b of the table t, by a drawing of that block
module _ {t t' : List ℕ} {b b' : ℕ} (e : t' ≡ t) (f : b' ≡ b) (s : Strand) (p : ℕ) where
  abbrev node : Node
  node = node_of (record { strand = s; position = p })

  pub there : s.0 < byte t (b + strand_count) → p < byte t (b + heights + s.0) → There t' b' node
  unfolding node_of
  there h k = rw (e, f) (record { strand = h; position = k })

  pub says : {m : ℕ} → m ≡ message_at t' b' node → m ≡ said t b s.0 p
  unfolding node_of
  says q = rw (e, f) at q

  pub sends : {r : Bool} → r ≡ eqb (direction_at t' b' node) 0 → r ≡ eqb (byte t (b + directions + 16 * s.0 + p)) 0
  unfolding node_of
  sends q = rw (e, f) at q

-- The wishes

module _ {t : List ℕ} {a b : ℕ} (A : Drawn t a) (B : Drawn t b) {map : List ℕ} (laid : Laid t a b map) where
  -- the target strand
  abbrev to : ℕ → ℕ
  to s = get_or map s 0

  module _ (s : ℕ) (h : s < length map) where
    source_strand : s < byte t (a + strand_count)
    source_strand = rw (← laid.full) h

    module _ (p : ℕ) (k : p < byte t (a + heights + s)) where
      pub source_low : said t a s p < length (rows_in t)
      source_low = said_low t a A.on_table s p source_strand k

      pub target_low : said t b (to s) p < length (rows_in t)
      target_low = said_low t b B.on_table (to s) p (laid.inside s h) (omega (arith, laid.high s h))

      pub in_wishes : Memᴰ (said t a s p, said t b (to s) p) (wishes t a b map)
      unfolding wishes
      in_wishes =
          in_gather (λ s. strand_wishes t a b s (to s)) 0 (length map) s (omega arith) (omega arith)
          (in_gather (one_wish t (a + messages + 16 * s) (b + messages + 16 * to s)) 0 (byte t (a + heights + s)) p (omega arith)
          (omega arith) (Memᴰ.head refl))

  pub each_wish : (P : Wish → Type 0)
      → ((s p : ℕ) → s < length map → p < byte t (a + heights + s) → P (said t a s p, said t b (to s) p))
      → Each P (wishes t a b map)
  unfolding wishes
  each_wish P f =
      each_gather (λ s. strand_wishes t a b s (to s)) P 0 (length map) λ s _ h.
      each_gather (one_wish t (a + messages + 16 * s) (b + messages + 16 * to s)) P 0 (byte t (a + heights + s)) λ p _ k.
      each_cons P (f s p (omega arith) (omega arith)) (each_nil P)
