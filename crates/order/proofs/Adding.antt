-- A relation added to a matrix, pair by pair: strand succession, and the OR pairs. Assumes nothing.
use mathlib.Core.Path.{◌≡◌, refl, sym, ◌∙◌, ap}
use mathlib.Core.Bool.{true}
use mathlib.Core.List.{List}
use mathlib.Core.Logic.{◌↔◌, ◌⊎◌, ⊎_elim, ⊎_map, inl, inr}
use Prim.Native.Nat.{ℕ, ◌+◌, ◌*◌, ◌/◌, ◌%◌, ◌<◌, ◌≤◌}
use native.Mathlib.Omega.{arith}
use native.Mathlib.Decide.{ℕ_discrete}
use Rattle.terms.specs.Set.{Added}
use Rattle.tables.specs.Layout.{strand_count, heights, orders}
use Rattle.tables.specs.Tables.{byte, node_at}
use Rattle.order.specs.Precedence.{on, code}
use Rattle.order.specs.Matrix.{Adds}
use Rattle.order.specs.Steps.{Along, Listed}
use Rattle.order.proofs.Rows.{on_put, on_put_other}

adds_none : {m₀ : List ℕ} {R : ℕ → ℕ → Type 0} → ((a b : ℕ) → R a b → ⊥) → Adds R m₀ m₀
adds_none none = record { at = λ a b ha hb. (inl, ⊎_elim (λ e. e) (λ r. absurd (none a b r))) }

module _ {m₀ : List ℕ} {R S : ℕ → ℕ → Type 0} {m : List ℕ} (h : Adds R m₀ m) (up : (a b : ℕ) → R a b → S a b) where
  adds_same : ((a b : ℕ) → S a b → R a b) → Adds S m₀ m
  adds_same down =
      record {
        at = λ a b ha hb. let both = h.at a b ha hb in
            (λ e. ⊎_map (λ o. o) (up a b) (both.0 e), λ s. both.1 (⊎_map (λ o. o) (down a b) s));
      }

  module _ {m' : List ℕ} {x y : ℕ} (put : Added (128 * x + y) true m m') (hy : y < 96) (s : S x y)
      (down : (a b : ℕ) → S a b → R a b ⊎ ((a ≡ x) × (b ≡ y))) where
    there : (a b : ℕ) → a ≡ x → b ≡ y → (on m' a b ≡ true) ↔ ((on m₀ a b ≡ true) ⊎ S a b)
    there a b e f = (λ t. inr (rw (e, f) s), λ t. rw (e, f) (on_put _ _ _ _ put))

    elsewhere : (a b : ℕ) → a < 96 → b < 96 → (a ≡ x → b ≡ y → ⊥)
        → (on m' a b ≡ true) ↔ ((on m₀ a b ≡ true) ⊎ S a b)
    elsewhere a b ha hb ne =
        let both = h.at a b ha hb in
        let kept = on_put_other _ _ _ _ put a b (omega arith) (omega arith) ne in (
          λ t. ⊎_map (λ o. o) (up a b) (both.0 (sym kept ∙ t)),
          λ t. kept
              ∙ both.1 (⊎_map (λ o. o) (λ r. ⊎_elim (λ q. q) (λ w. absurd (ne w.0 w.1)) (down a b r)) t),
        )

    adds_with : Adds S m₀ m'
    adds_with =
        record {
          at = λ a b ha hb. elim (ℕ_discrete a x) [
            | no n ↦ elsewhere a b ha hb (λ e f. n e)
            | yes e ↦ elim (ℕ_discrete b y) [ no n ↦ elsewhere a b ha hb (λ d f. n f) | yes f ↦ there a b e f ]
          ];
        }

-- strand succession from the nodes below n
pub record Below (t : List ℕ) (b n x y : ℕ) : Type 0 where
  pub along : Along t b x y
  pub node : x < n

pub strand_none : {m₀ t : List ℕ} {b : ℕ} → Adds (Below t b 0) m₀ m₀
strand_none = adds_none (λ x y w. omega (arith, w.node))

module _ {m₀ t : List ℕ} {b n : ℕ} {m : List ℕ} (h : Adds (Below t b n) m₀ m) where
  wider : (x y : ℕ) → Below t b n x y → Below t b (n + 1) x y
  wider x y w = record { along = w.along; node = omega (arith, w.node) }

  pub strand_more : {m' : List ℕ} → Added (128 * n + (n + 1)) true m m' → n + 1 < 96 → n / 16 < byte t (b + strand_count)
      → n % 16 + 1 < byte t (b + heights + n / 16)
      → Adds (Below t b (n + 1)) m₀ m'
  strand_more put l s u =
      adds_with h wider put l
      (record { along = record { next = refl; strand = s; below = u }; node = omega arith })
      (λ x y w. elim (ℕ_discrete x n) [
        | yes e ↦ inr (e, w.along.next ∙ ap (λ (i : ℕ). i + 1) e)
        | no ne ↦ inl (record { along = w.along; node = omega (arith, w.node) })
      ])

  pub strand_skip : byte t (b + heights + n / 16) ≤ n % 16 + 1 → Adds (Below t b (n + 1)) m₀ m
  strand_skip u =
      adds_same h wider
      (λ x y w. elim (ℕ_discrete x n) [
        | yes e ↦
            let v : n % 16 + 1 < byte t (b + heights + n / 16) = rw e at w.along.below in
            absurd (omega arith)
        | no ne ↦ record { along = w.along; node = omega (arith, w.node) }
      ])

  pub strand_all : 16 * byte t (b + strand_count) ≤ n → Adds (Along t b) m₀ m
  strand_all l = adds_same h (λ x y w. w.along) (λ x y w. record { along = w; node = omega (arith, w.strand) })

pub order_none : {m₀ t : List ℕ} {b : ℕ} → Adds (Listed t b 0) m₀ m₀
order_none = adds_none (λ x y g. omega (arith, g.below))

pub order_more : {m₀ t : List ℕ} {b n : ℕ} {m m' : List ℕ} → Adds (Listed t b n) m₀ m
    → Added (128 * code (node_at t (b + orders + 4 * n)) + code (node_at t (b + orders + 4 * n + 2))) true m m'
    → code (node_at t (b + orders + 4 * n + 2)) < 96
    → Adds (Listed t b (n + 1)) m₀ m'
order_more {t = t} {b = b} {n = n} h put hy = adds_with h up put hy here down
  where
    first : ℕ
    first = code (node_at t (b + orders + 4 * n))

    second : ℕ
    second = code (node_at t (b + orders + 4 * n + 2))

    up : (x y : ℕ) → Listed t b n x y → Listed t b (n + 1) x y
    up x y g = record { index = g.index; below = omega (arith, g.below); starts = g.starts; ends = g.ends }

    here : Listed t b (n + 1) first second
    here = record { index = n; below = omega arith; starts = refl; ends = refl }

    down : (x y : ℕ) → Listed t b (n + 1) x y → Listed t b n x y ⊎ ((x ≡ first) × (y ≡ second))
    down x y g =
        elim (ℕ_discrete g.index n) [
          | yes e ↦ inr (rw e at (sym g.starts), rw e at (sym g.ends))
          | no ne ↦ inl (record { index = g.index; below = omega (arith, g.below); starts = g.starts; ends = g.ends })
        ]
