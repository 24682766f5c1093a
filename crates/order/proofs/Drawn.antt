-- What a matrix of precedence says of the skeleton whose block begins at b of the table t. Assumes nothing.
use mathlib.Core.Path.{◌≡◌, refl, sym, ◌∙◌, ap}
use mathlib.Core.Bool.{Bool, true, false, true≢false}
use mathlib.Core.List.{List, Memᴰ}
use mathlib.Core.Logic.{◌↔◌, ◌⊎◌, ⊎_elim, ⊎_map, inl, inr}
use Prim.Native.Nat.{ℕ, suc, ◌+◌, ◌*◌, ◌/◌, ◌%◌, ◌<◌, ◌≤◌}
use native.Mathlib.Omega.{arith}
use native.Mathlib.Decide.{dec_lt}
use Rattle.model.specs.Skeleton.{Node, Skeleton, height}
use Rattle.model.specs.Events.{Before, next, listed, chain}
use Rattle.tables.specs.Layout.{strand_count, heights}
use Rattle.tables.specs.Tables.{byte, skeleton_at, Block}
use Rattle.tables.proofs.Nodes.{height_at, height_out, pair_in, pair_of}
use Rattle.order.specs.Precedence.{on, code, Low, Shows, Ordered}
use Rattle.order.specs.Matrix.{EmptyFrom, Adds, Way, step, then, Closed, Looped}
use Rattle.order.specs.Steps.{Along, Among}

-- the node of a number
abbrev node : ℕ → Node
node a = record { strand = a / 16; position = a % 16 }

pub low_code : (x : Node) → Low x → code x < 96
low_code x l = omega (arith, l.strand, l.position)

node_code : (x : Node) → Low x → node (code x) ≡ x
node_code x l =
    let s : (16 * x.strand + x.position) / 16 ≡ x.strand = omega (arith, l.position) in
    let p : (16 * x.strand + x.position) % 16 ≡ x.position = omega (arith, l.position) in
    rw (s, p)

code_node : (a : ℕ) → code (node a) ≡ a
code_node a = omega arith

low_node : (a : ℕ) → a < 96 → Low (node a)
low_node a h = record { strand = omega arith; position = omega arith }

-- rows beyond which nothing is on
rows_beyond : {n : ℕ} (m : List ℕ) → ((x y : ℕ) → x < 96 → y < 96 → on m x y ≡ true → x / 16 < n) → EmptyFrom (16 * n) m
rows_beyond {n} m low =
    record { row = λ x l hx. record { off = λ y hy. not_on (on m x y) (λ e. omega (arith, low x y hx hy e)) } }
  where
    not_on : (o : Bool) → (o ≡ true → ⊥) → o ≡ false
    not_on false h = refl
    not_on true h = absurd (h refl)

-- some node comes before itself
pub record Cycle {M : Type 0} (K : Skeleton M) : Type 0 where
  pub node : Node
  pub cycle : Before K node node

-- precedence relates only nodes that a matrix has rows for
pub record AllLow {M : Type 0} (K : Skeleton M) : Type 0 where
  pub at : (x y : Node) → Before K x y → Low x × Low y

-- a matrix says whether there is a cycle
pub cycle_looped : {M : Type 0} {K : Skeleton M} {m : List ℕ} → Shows K m → AllLow K → Looped m ↔ Cycle K
cycle_looped {M} {K} {m} shows low = (there, back)
  where
    there : Looped m → Cycle K
    there l =
        let a = l.node in
        let h = low_node a l.row in
        record { node = node a; cycle = (shows.at (node a) (node a) h h).0 (rw (code_node a) l.own) }

    back : Cycle K → Looped m
    back c =
        let h = (low.at c.node c.node c.cycle).0 in
        record { node = code c.node; row = low_code c.node h; own = (shows.at c.node c.node h h).1 c.cycle }

module _ (t : List ℕ) (b : ℕ) where
  module _ (block : Block t b) where
    -- strand succession, in the skeleton and in its block
    record Next (s p : ℕ) : Type 0 where
      strand : s < byte t (b + strand_count)
      below : suc p < byte t (b + heights + s)
      short : byte t (b + heights + s) ≤ 16

    next_of : (s p : ℕ) → suc p < height (skeleton_at t b) s → Next s p
    next_of s p l =
        elim (dec_lt s (byte t (b + strand_count))) [
          | yes h ↦ record { strand = h; below = rw (height_at t b s h) at l; short = block.low s h }
          | no h ↦ let e = height_out t b s (omega arith) in absurd (omega arith)
        ]

    module _ (ordered : Ordered t b) where
      low : {x y : Node} → Before (skeleton_at t b) x y → Low x × Low y
      low (next {s} {p} l) =
          let n = next_of s p l in
          let h = block.strands in (
            record { strand = omega (arith, n.strand); position = omega (arith, n.below, n.short) },
            record { strand = omega (arith, n.strand); position = omega (arith, n.below, n.short) },
          )
      low (listed q) =
          let o = pair_of t b q in (
            rw (ap (λ (w : Node × Node). w.0) o.is) (ordered.first o.index o.below),
            rw (ap (λ (w : Node × Node). w.1) o.is) (ordered.second o.index o.below),
          )
      low (chain p q) = ((low p).0, (low q).1)

      pub before_low : AllLow (skeleton_at t b)
      before_low = record { at = λ x y p. low p }

      -- what comes before something is on one of the strands
      drawn : {x y : Node} → Before (skeleton_at t b) x y → x.strand < byte t (b + strand_count)
      drawn (next {s} {p} l) = (next_of s p l).strand
      drawn (listed q) =
          let o = pair_of t b q in rw (ap (λ (w : Node × Node). w.0) o.is) (ordered.inside o.index o.below)
      drawn (chain p q) = drawn p

      -- so the rows beyond the strands are empty, once the matrix is closed
      pub rows_shown : {m : List ℕ} → Shows (skeleton_at t b) m → EmptyFrom (16 * byte t (b + strand_count)) m
      rows_shown {m} shows =
          rows_beyond m (λ x y hx hy e. drawn ((shows.at (node x) (node y) (low_node x hx) (low_node y hy)).0
          (rw (code_node x, code_node y) e)))

      along_before : (x y : ℕ) → Along t b x y → Before (skeleton_at t b) (node x) (node y)
      along_before x y w =
          let short = block.low (x / 16) w.strand in
          let s : y / 16 ≡ x / 16 = omega (arith, w.next, w.below) in
          let p : y % 16 ≡ suc (x % 16) = omega (arith, w.next, w.below) in
          rw (s, p) (next {s = x / 16} {p = x % 16} (rw (height_at t b (x / 16) w.strand) (omega (arith, w.below))))

      among_before : (x y : ℕ) → Among t b x y → Before (skeleton_at t b) (node x) (node y)
      among_before x y w =
          let first = node_code _ (ordered.first w.index w.below) in
          let second = node_code _ (ordered.second w.index w.below) in
          rw (← w.starts, ← w.ends, first, second) (listed (pair_in t b w.index w.below))

      next_along : (s p : ℕ) → Next s p → Along t b (16 * s + p) (16 * s + suc p)
      next_along s p n =
          let strand : (16 * s + p) / 16 ≡ s = omega (arith, n.below, n.short) in
          let position : (16 * s + p) % 16 ≡ p = omega (arith, n.below, n.short) in
          record { next = omega arith; strand = rw strand n.strand; below = rw (strand, position) (omega (arith, n.below)) }

      listed_among : {x y : Node} → Memᴰ (x, y) (skeleton_at t b).order → Among t b (code x) (code y)
      listed_among q =
          let o = pair_of t b q in
          record {
            index = o.index;
            below = o.below;
            starts = ap (λ (w : Node × Node). code w.0) (sym o.is);
            ends = ap (λ (w : Node × Node). code w.1) (sym o.is);
          }

      module _ {g : List ℕ} (steps : (x y : ℕ) → x < 96 → y < 96 → (on g x y ≡ true) ↔ (Along t b x y ⊎ Among t b x y)) where
        one_step : (x y : Node) → Low x × Low y → Along t b (code x) (code y) ⊎ Among t b (code x) (code y)
            → Way g (code x) (code y)
        one_step x y l w =
            let hx = low_code x l.0 in
            let hy = low_code y l.1 in step hx hy ((steps (code x) (code y) hx hy).1 w)

        way : {x y : Node} → Before (skeleton_at t b) x y → Way g (code x) (code y)
        way (next {s} {p} l) = one_step _ _ (low (next l)) (inl (next_along s p (next_of s p l)))
        way (listed q) = one_step _ _ (low (listed q)) (inr (listed_among q))
        way (chain p q) = then (way p) (way q)

        before : {x y : ℕ} → Way g x y → Before (skeleton_at t b) (node x) (node y)
        before (step hx hy e) = ⊎_elim (along_before _ _) (among_before _ _) ((steps _ _ hx hy).0 e)
        before (then p q) = chain (before p) (before q)

        closed_shows : {m : List ℕ} → Closed g m → Shows (skeleton_at t b) m
        closed_shows c =
            record {
              at = λ x y lx ly. let both = c.at (code x) (code y) (low_code x lx) (low_code y ly) in
                  (λ e. rw (node_code x lx, node_code y ly) at (before (both.0 e)), λ p. both.1 (way p));
            }

      -- succession and the OR pairs, added to nothing
      module _ {z s g : List ℕ} (none : EmptyFrom 0 z) (along : Adds (Along t b) z s) (among : Adds (Among t b) s g) where
        strands : (x y : ℕ) → x < 96 → y < 96 → (on s x y ≡ true) → Along t b x y
        strands x y hx hy e =
            ⊎_elim
            (λ o. absurd (true≢false (sym o ∙ (none.row x (omega arith) hx).off y hy)))
            (λ w. w)
            ((along.at x y hx hy).0 e)

        steps : (x y : ℕ) → x < 96 → y < 96 → (on g x y ≡ true) ↔ (Along t b x y ⊎ Among t b x y)
        steps x y hx hy = (
          λ e. ⊎_map (strands x y hx hy) (λ w. w) ((among.at x y hx hy).0 e),
          λ w. (among.at x y hx hy).1 (⊎_map (λ a. (along.at x y hx hy).1 (inr a)) (λ q. q) w),
        )

        -- a pair's first node is on one of the strands
        starts_drawn : (x y : ℕ) → Among t b x y → x / 16 < byte t (b + strand_count)
        starts_drawn x y w =
            let low = ordered.first w.index w.below in
            omega (arith, w.starts, low.position, ordered.inside w.index w.below)

        pub rows_stepped : EmptyFrom (16 * byte t (b + strand_count)) g
        rows_stepped =
            rows_beyond g (λ x y hx hy e. ⊎_elim (λ w. w.strand) (starts_drawn x y) ((steps x y hx hy).0 e))

        -- their closure
        pub before_shown : {m : List ℕ} → Closed g m → Shows (skeleton_at t b) m
        before_shown closed = closed_shows steps closed
