-- The rules of each row of a table, in a list.
use Rattle.std.specs.Prelude.{◌≡◌, length}
use mathlib.Core.List.Memᴰ
use mathlib.Core.List.{List, [], ◌∷◌, ◌++◌, Memᴰ}
use Prim.Native.Nat.{ℕ, zero, suc, ◌+◌, ◌<◌}
use native.Mathlib.Omega.{arith}
use Rattle.model.specs.Table.{Row, row}
use Rattle.theory.specs.Each.{Each, each_nil, each_append}
use Rattle.theory.specs.Rules.{Rule}

module _ (f : ℕ → Row → List Rule) where
  -- of rows that stand from n on
  unfoldable pub rules_from : ℕ → List Row → List Rule
  rules_from n [] = []
  rules_from n (r ∷ rs) = f n r ++ rules_from (suc n) rs

  pub of_row : (rs : List Row) (n i p : ℕ) {r : Rule} → p ≡ n + i → i < length rs → Memᴰ r (f p (row rs i))
      → Memᴰ r (rules_from n rs)
  unfolding rules_from
  of_row [] n i p e h m = absurd (omega arith)
  of_row (q ∷ rs) n zero p e h m = let z : p ≡ n = omega arith in Memᴰ.append_left (rules_from (suc n) rs) (rw z at m)
  of_row (q ∷ rs) n (suc i) p e h m = Memᴰ.append_right (f n q) (of_row rs (suc n) i p (omega arith) (omega arith) m)

  pub each_row : (P : Rule → Type 0) (rs : List Row) (n : ℕ) → ((i p : ℕ) → p ≡ n + i → i < length rs → Each P (f p (row rs i)))
      → Each P (rules_from n rs)
  unfolding rules_from
  each_row P [] n g = each_nil P
  each_row P (q ∷ rs) n g =
      each_append P _ (g 0 n (omega arith) (omega arith)) (each_row P rs (suc n)
      (λ i p e h. g (suc i) p (omega arith) (omega arith)))
