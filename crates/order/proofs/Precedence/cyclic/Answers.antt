-- `order::Precedence::cyclic` meets its contract. Assumes nothing.
use borrow.Author.Rules.{rules}
use borrow.Author.Tests.{tests}
use mathlib.Core.Path.{◌≡◌, refl, sym, ◌∙◌}
use mathlib.Core.Bool.{Bool, true, false, true≢false}
use Prim.Native.Nat.{ℕ, ◌<◌}
use native.Mathlib.Omega.{arith}
use native.Mathlib.Decide.{dec_lt}
use Rattle.std.specs.List.{list_any, range_with_len}
use Rattle.std.proofs.lemmas.Iterator.{YieldsList-from_range}
use Rattle.std.proofs.lemmas.Iterator.Search.{any_from_yields_List}
use Rattle.order.specs.Precedence.{on}
use Rattle.order.specs.Matrix.{EmptyFrom, Looped}
use Rattle.order.proofs.Drawn.{rows_shown}
use Rattle.order.proofs.Ranges.{any_found, any_none}
use Rattle.order.proofs.Precedence.cyclic.Goals as goal

pub returns : goal.returns
returns c = rw asked (
  λ e. let w = any_found own 0 n e in record { node = w.number; row = omega (arith, w.below, c.row_count.ensures.1); own = w.is },
  λ w. go w (list_any own (range_with_len 0 n)) refl,
)
  where
    n : ℕ
    n = c.row_count.result

    own : ℕ → Bool
    own a = on c.args.self.now.words a a

    asked : c.any.result ≡ list_any own (range_with_len 0 n)
    asked =
        any_from_yields_List own _ _ c.any.result c.any.ensures.ran
        (YieldsList-from_range 0 n n refl (omega arith))
        (λ x b q k. search (rules, tests))

    beyond : EmptyFrom n c.args.self.now.words
    beyond = rw c.row_count.ensures.0 (rows_shown _ _ c.requires.1 c.requires.3 c.requires.4)

    off : list_any own (range_with_len 0 n) ≡ false → (a : ℕ) → a < 96 → own a ≡ false
    off e a h =
        elim (dec_lt a n) [
          | yes k ↦ any_none own 0 n e a (omega arith) (omega arith)
          | no k ↦ (beyond.row a (omega arith) h).off a h
        ]

    go : Looped c.args.self.now.words → (b : Bool) → list_any own (range_with_len 0 n) ≡ b → b ≡ true
    go w true e = refl
    go w false e = absurd (true≢false (sym w.own ∙ off e w.node w.row))
