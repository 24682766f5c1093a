-- The skeletons of a sheet that lies in a table, and that their OR records name nodes of a matrix. Assumes nothing.
use mathlib.Core.Path.{◌≡◌, refl}
use mathlib.Core.List.{List, Memᴰ}
use Prim.Native.Nat.{ℕ, ◌<◌, ◌+◌}
use native.Mathlib.Omega.{arith}
use lib.ListN.{length}
use Rattle.model.specs.Table.{term}
use Rattle.model.specs.Skeleton.{Node, height, means}
use Rattle.model.specs.Sheet.{Drawing, HasSkeleton, meant}
use Rattle.theory.specs.Upto.{upto_there, upto_below, upto_is}
use Rattle.theory.specs.Judgement.{Sound}
use Rattle.theory.specs.Skeletons.{IsSkeleton}
use Rattle.theory.specs.Precedence as Precedence
use Rattle.theory.specs.Precedence.{edges, all_steps}
use Rattle.theory.specs.OnTable.{OnTable}
use Rattle.tables.specs.Layout.{block, skeleton_count, strand_count}
use Rattle.tables.specs.Tables.{byte, rows_in, skeleton_at, skeleton_in, sheet_in, Block, Filled}
use Rattle.tables.specs.Drawn.{drawing, Drawn}
use Rattle.tables.proofs.Look.{length_strands}
use Rattle.tables.proofs.Nodes.{pair_in}
use Rattle.order.specs.Precedence.{Low, Ordered}

pub has_skeleton : (t : List ℕ) (k : ℕ) → k < byte t skeleton_count → HasSkeleton k (sheet_in t) (drawing t (block k))
unfolding sheet_in
has_skeleton t k h = record { rows = refl; skeleton = upto_there (byte t skeleton_count) (skeleton_in t) k h }

pub record Lies (t : List ℕ) (k : ℕ) (D : Drawing) : Type 0 where
  pub inside : k < byte t skeleton_count
  pub is : drawing t (block k) ≡ D

pub skeleton_lies : (t : List ℕ) (k : ℕ) (D : Drawing) → HasSkeleton k (sheet_in t) D → Lies t k D
unfolding sheet_in
skeleton_lies t k D h =
    let l = upto_below (byte t skeleton_count) (skeleton_in t) k h.skeleton in
    let e = upto_is (byte t skeleton_count) (skeleton_in t) k h.skeleton in
    record { inside = l; is = λ i. record { rows = h.rows i; skeleton = e i } }

-- a skeleton of a sound sheet is drawn, and obeys the skeleton rules
module _ (t : List ℕ) (filled : Filled t) (sound : Sound (sheet_in t)) (k : ℕ) (h : k < byte t skeleton_count) where
  pub is_drawn : Drawn t (block k)
  unfolding sheet_in
  is_drawn =
      record {
        filled = filled;
        good = sound.good;
        inside = omega (arith, h, filled.skeletons);
        block = filled.blocks k h;
        on_table = sound.drawings k (drawing t (block k)) (has_skeleton t k h);
      }

  pub is_right : IsSkeleton (means (term (rows_in t)) (skeleton_in t k))
  unfolding meant
  is_right = sound.skeletons k (drawing t (block k)) (has_skeleton t k h)

-- the OR records' nodes
module _ (t : List ℕ) (b : ℕ) (few : Block t b) (on : OnTable (rows_in t) (skeleton_at t b)) where
  pair_low : (m n : Node) → Memᴰ (m, n) (skeleton_at t b).order → Low m × Low n × (m.strand < byte t (b + strand_count))
  unfolding edges Precedence.Low Precedence.code
  pair_low m n p =
      let e : Memᴰ (m, n) (edges (skeleton_at t b)) =
      mathlib.Core.List.Memᴰ.append_right (all_steps (height (skeleton_at t b)) (length (skeleton_at t b).strands)) p in
      let (x, y) = on.low (m, n) e in
      let (c, d) = on.nodes (m, n) e in
      let l = length_strands t b in (
        record { strand = omega (arith, few.strands); position = x },
        record { strand = omega (arith, few.strands); position = y },
        omega arith,
      )

  pub or_ordered : Ordered t b
  or_ordered =
      record {
        inside = λ i h. (pair_low _ _ (pair_in t b i h)).2;
        first = λ i h. (pair_low _ _ (pair_in t b i h)).0;
        second = λ i h. (pair_low _ _ (pair_in t b i h)).1;
      }
