-- Rules 1, 2 and 4 by the bytes of a table: the blocks at a and b, and a strand map. Assumes nothing.
use mathlib.Core.Path.{◌≡◌, refl, ap, subst, ◌∙◌, sym}
use mathlib.Core.Bool.{Bool, true, false}
use mathlib.Core.Logic.{◌↔◌}
use mathlib.Core.List.Memᴰ
use mathlib.Core.List.{List, Memᴰ}
use Prim.Native.Nat.{ℕ, zero, suc, ◌+◌, ◌*◌, ◌<◌}
use native.Mathlib.Omega.{arith}
use native.Mathlib.Decide.{dec_lt}
use lib.Dec.{eqb}
use lib.ListN.{length, get_or}
use borrow.Author.Tests.{eqb-true, ne_eqb}
use Rattle.terms.specs.declared.Node as Numbered
use Rattle.model.specs.Says.{node_of}
use Rattle.model.specs.Term.{Term, tag}
use Rattle.model.specs.Table.{term}
use Rattle.model.specs.Skeleton.{send, Node, Skeleton, At, trace, height, means, on_message}
use Rattle.model.specs.Reading.{event}
use Rattle.model.specs.Events.{Before, next, listed, chain}
use Rattle.model.specs.Maps.{move, SameDirection, both_send, both_receive, Rule2, Rule4}
use Rattle.theory.specs.Upto.{OneOf}
use Rattle.theory.specs.Places.{inside_list, element_at}
use Rattle.theory.specs.Precedence as Precedence
use Rattle.theory.specs.Precedence.{all_steps, edges}
use Rattle.theory.specs.Happenings.{at_means, at_meant, before_means, before_meant}
use Rattle.tables.specs.Layout.{strand_count, order_count, heights, directions, orders}
use Rattle.tables.specs.Tables.{byte, node_at, rows_in, skeleton_at}
use Rattle.tables.specs.Nodes.{direction_at, message_at, There}
use Rattle.tables.proofs.Look.{length_strands}
use Rattle.tables.proofs.Nodes.{strands_meant, stands_at, at_stands, pair_at, pair_in, pair_of}
use Rattle.order.specs.Precedence.{on, code, Low, Shows}
use Rattle.matching.specs.Matches.{Laid}
use Rattle.maps.specs.Rules.{KeptTo1, Tells1}
use Rattle.tables.specs.Drawn.{Drawn}
use Rattle.maps.specs.Strands.{StrandKept}
use Rattle.maps.proofs.Answers.{refused}

-- Equal directions, of two events by their bytes

same_event : (f : ℕ → Term) (c d m n : ℕ) → eqb c 0 ≡ eqb d 0
    → SameDirection (on_message f (event c m)) (on_message f (event d n))
unfolding event on_message
same_event f zero zero m n e = both_send
same_event f zero (suc d) m n e = absurd (omega (arith, eqb-true (suc d) 0 (sym e)))
same_event f (suc c) zero m n e = absurd (omega (arith, eqb-true (suc c) 0 e))
same_event f (suc c) (suc d) m n e = both_receive

event_same : (f : ℕ → Term) (c d m n : ℕ) → SameDirection (on_message f (event c m)) (on_message f (event d n))
    → eqb c 0 ≡ eqb d 0
unfolding event on_message
event_same f zero zero m n s = refl
event_same f (suc c) (suc d) m n s = ne_eqb (suc c) 0 (λ e. omega arith) ∙ sym (ne_eqb (suc d) 0 (λ e. omega arith))
event_same f zero (suc d) m n s = elim s [ ]
event_same f (suc c) zero m n s = elim s [ ]

-- where the node at i goes
abbrev pub moved_at : List ℕ → List ℕ → ℕ → Node
moved_at t map i = move (λ s. get_or map s 0) (node_at t i)

-- a node of an OR pair, and where it goes
pub record End (t map : List ℕ) (i : ℕ) : Type 0 where
  pub strand : byte t i < length map
  pub low : Low (moved_at t map i)

-- what the target's matrix says of a pair
pub pair_told : {K : Skeleton ℕ} {m : List ℕ} {x y : Node} {r : Bool} → r ≡ on m (code x) (code y) → Shows K m → Low x → Low y
    → (r ≡ true) ↔ Before K x y
pair_told e shows p q = let h = shows.at _ _ p q in (λ z. h.0 (sym e ∙ z), λ b. e ∙ h.1 b)

-- Succession is kept by rule 2, so precedence is kept where the OR pairs are

module _ (A B : Skeleton Term) (f : ℕ → ℕ) (directions : Rule2 A B f) where
  height_kept : (s p : ℕ) → p < height A s → p < height B (f s)
  unfolding Rule2
  height_kept s p h =
      let (d, at, _) = directions (record { strand = s; position = p }) _
      (record { is = element_at (trace A s) p (send (tag 0)) h }) in
      inside_list (trace B (f s)) p at.is

  module _ (pairs : (m n : Node) → Memᴰ (m, n) A.order → Before B (move f m) (move f n)) where
    before_kept : {m n : Node} → Before A m n → Before B (move f m) (move f n)
    before_kept (next {s} {p} h) = next (height_kept s (suc p) h)
    before_kept (listed q) = pairs _ _ q
    before_kept (chain p q) = chain (before_kept p) (before_kept q)

    order_kept : Rule4 A B f
    unfolding Rule4
    order_kept m n = before_kept

module _ (t : List ℕ) (a b : ℕ) (map : List ℕ) where
  abbrev A : Skeleton ℕ
  A = skeleton_at t a

  abbrev B : Skeleton ℕ
  B = skeleton_at t b

  abbrev means_term : ℕ → Term
  means_term = term (rows_in t)

  abbrev to : ℕ → ℕ
  to s = get_or map s 0

  -- the event of the bytes
  event_stands : (c : ℕ) (n : Node) → There t c n → At (skeleton_at t c) n (event (direction_at t c n) (message_at t c n))
  event_stands c n h = stands_at t c {n = n} {e = event (direction_at t c n) (message_at t c n)} (record { there = h; is = refl })

  -- Rule 1

  pub one_told : {r : Bool} → length map ≡ byte t (a + strand_count)
      → (r ≡ true) ↔ ((s : ℕ) → s < length map → to s < byte t (b + strand_count)) → Tells1 (rows_in t) A B map r
  one_told e test = (
    λ q. record {
      full = e ∙ sym (strands_meant t a means_term);
      inside = λ s h. rw (strands_meant t b means_term) (test.0 q s h);
    },
    λ o. test.1 (λ s h. rw (strands_meant t b means_term) at (o.inside s h)),
  )

  pub one_refused : ¬ (length map ≡ byte t (a + strand_count)) → Tells1 (rows_in t) A B map false
  one_refused n = refused (λ o. n (o.full ∙ strands_meant t a means_term))

  -- Rule 2, where rule 1 holds

  module _ (one : KeptTo1 (rows_in t) A B map) where
    pub full : length map ≡ byte t (a + strand_count)
    full = one.full ∙ strands_meant t a means_term

    pub inside : (s : ℕ) → s < length map → to s < byte t (b + strand_count)
    inside s h = rw (strands_meant t b means_term) at (one.inside s h)

    pub strands_laid : ((s : ℕ) → s < length map → StrandKept t a b s (to s)) → Laid t a b map
    strands_laid kept = record { full = full; inside = inside; high = λ s h. (kept s h).high }

    pub strands_kept : ((s : ℕ) → s < length map → StrandKept t a b s (to s))
        → Rule2 (means means_term A) (means means_term B) to
    unfolding Rule2
    strands_kept kept n e at =
        let (e₀, at₀, q) = at_meant means_term A at in
        let s = at_stands t a at₀ in
        let h : n.strand < length map = omega (arith, full, s.there.strand) in
        let k = kept n.strand h in
        let there = event_stands b (move to n)
        (record { strand = inside n.strand h; position = omega (arith, s.there.position, k.high) }) in
        let way = same_event means_term _ _ _ _ (k.same.at n.position s.there.position) in
        (_, at_means means_term B there, rw (← q, ← s.is) way)

    module _ (two : Rule2 (means means_term A) (means means_term B) to) (s : ℕ) (h : s < length map) where
      -- what stands at the node that a node of the strand goes to
      record Met (p : ℕ) : Type 0 where
        there : p < byte t (b + heights + to s)
        same : eqb (byte t (a + directions + 16 * s + p)) 0 ≡ eqb (byte t (b + directions + 16 * to s + p)) 0

      met : (p : ℕ) → p < byte t (a + heights + s) → Met p
      unfolding Rule2
      met p l =
          let n : Node = record { strand = s; position = p } in
          let here = event_stands a n (record { strand = omega (arith, full); position = l }) in
          let (d, at, way) = two n _ (at_means means_term A here) in
          let (d₀, at₀, q) = at_meant means_term B at in
          let u = at_stands t b at₀ in
          record { there = u.there.position; same = event_same means_term _ _ _ _ (rw (← q, ← u.is) at way) }

      pub strand_kept : StrandKept t a b s (to s)
      strand_kept =
          record {
            high = elim (dec_lt (byte t (b + heights + to s)) (byte t (a + heights + s))) [
              | yes l ↦ absurd (omega (arith, (met _ l).there))
              | no l ↦ omega arith
            ];
            same = record { at = λ p l. (met p l).same };
          }

    -- Rule 4, where rules 1 and 2 hold

    module _ (source : Drawn t a) (target : Drawn t b) (k : ℕ) (h : k < byte t (a + order_count)) where
      edge : Memᴰ (pair_at t a k) (edges A)
      unfolding edges
      edge = Memᴰ.append_right (all_steps (height A) (length A.strands)) (pair_in t a k h)

      end : (i : ℕ) → byte t (i + 1) < 16 → byte t i * 16 + byte t (i + 1) < length A.strands * 16 → End t map i
      end i p c =
          let s : byte t i < length map = omega (arith, full, length_strands t a) in
          record {
            strand = s;
            low = record { strand = omega (arith, inside (byte t i) s, target.block.strands); position = p };
          }

      pub first_end : End t map (a + orders + 4 * k)
      unfolding Precedence.Low Precedence.code
      first_end = end _ (source.on_table.low _ edge).0 (source.on_table.nodes _ edge).0

      pub second_end : End t map (a + orders + 4 * k + 2)
      unfolding Precedence.Low Precedence.code
      second_end = end _ (source.on_table.low _ edge).1 (source.on_table.nodes _ edge).1

  -- the k-th OR pair is kept
  abbrev pub PairKept : ℕ → Type 0
  PairKept k = Before B (moved_at t map (a + orders + 4 * k)) (moved_at t map (a + orders + 4 * k + 2))

  -- the nodes x and y are those of the OR pair k: where they go
  pub record Ends (k : ℕ) (x y : Numbered.Node) : Type 0 where
    pub here : k < byte t (a + order_count)
    pub first : x.strand.0 < length map
    pub second : y.strand.0 < length map
    pub first_low : Low (move to (node_of x))
    pub second_low : Low (move to (node_of y))
    pub first_goes : move to (node_of x) ≡ moved_at t map (a + orders + 4 * k)
    pub second_goes : move to (node_of y) ≡ moved_at t map (a + orders + 4 * k + 2)

  -- the OR pair k as a drawing of the source's block reads it
  pub pair_ends : Drawn t a → Drawn t b → KeptTo1 (rows_in t) A B map → {t' : List ℕ} {a' k n : ℕ} → (t' ≡ t) × (a' ≡ a)
      → n ≡ byte t' (a' + order_count)
      → k < n
      → {x y : Numbered.Node}
      → node_of x ≡ node_at t' (a' + orders + 4 * k)
      → node_of y ≡ node_at t' (a' + orders + 4 * k + 2)
      → Ends k x y
  unfolding node_of
  pair_ends source target one {k = k} same counted h leaves arrives =
      let count = rw (same.0, same.1) at counted in
      let low : k < byte t (a + order_count) = omega arith in
      let start = first_end one source target k low in
      let finish = second_end one source target k low in
      let is_first = rw (same.0, same.1) at leaves in
      let is_second = rw (same.0, same.1) at arrives in
      let LowAfter : Node → Type 0 = λ n. Low (move to n) in
      record {
        here = low;
        first = rw (ap (λ (m : Node). m.strand) is_first) start.strand;
        second = rw (ap (λ (m : Node). m.strand) is_second) finish.strand;
        first_low = subst LowAfter (sym is_first) start.low;
        second_low = subst LowAfter (sym is_second) finish.low;
        first_goes = ap (move to) is_first;
        second_goes = ap (move to) is_second;
      }

  pub pairs_kept : Rule2 (means means_term A) (means means_term B) to → ((k : ℕ) → k < byte t (a + order_count) → PairKept k)
      → Rule4 (means means_term A) (means means_term B) to
  unfolding means
  pairs_kept two kept =
      order_kept (means means_term A) (means means_term B) to two
      (λ m n q. before_means means_term B (one (m, n) (pair_of t a q)))
    where
      one : (e : Node × Node) → OneOf (byte t (a + order_count)) (pair_at t a) e → Before B (move to e.0) (move to e.1)
      one e o = rw o.is (kept o.index o.below)

  pub pair_kept : Rule4 (means means_term A) (means means_term B) to → (k : ℕ) → k < byte t (a + order_count) → PairKept k
  unfolding Rule4
  pair_kept four k h = before_meant means_term B (four _ _ (before_means means_term A (listed (pair_in t a k h))))
