-- How a strand first has a marked message, position by position. Assumes nothing.
use mathlib.Core.Path.{◌≡◌, refl, ap, ◌∙◌}
use mathlib.Core.Bool.{Bool, true, false}
use mathlib.Core.List.{List}
use Prim.Native.Nat.{ℕ, ◌+◌, ◌≤◌}
use native.Mathlib.Omega.{arith}
use native.Mathlib.Decide.{ℕ_discrete}
use lib.Dec.{eqb}
use Rattle.tables.specs.Layout.{heights}
use Rattle.tables.specs.Tables.{byte, skeleton_at}
use Rattle.origin.specs.declared.Appears.{Appears}
use Rattle.origin.specs.Marked.{node, NoneBefore, AppearsAs, nowhere, sent, received}
use Rattle.tables.specs.Nodes.{direction_at, message_at, There}
use Rattle.tables.proofs.Nodes.{at_stands, sent_at, received_at, said_at}

-- no event of strand s before position p is marked
pub record Unmarked (t : List ℕ) (b : ℕ) (marks : ℕ → Bool) (s p : ℕ) : Type 0 where
  pub none : NoneBefore (skeleton_at t b) marks (node s p)

module _ {t : List ℕ} {b : ℕ} {marks : ℕ → Bool} {s : ℕ} where
  pub unmarked_none : Unmarked t b marks s 0
  unmarked_none = record { none = λ q e l a. absurd (omega arith) }

  pub unmarked_more : {p : ℕ} → Unmarked t b marks s p → marks (message_at t b (node s p)) ≡ false → Unmarked t b marks s (p + 1)
  unmarked_more {p} u off =
      record {
        none = λ q e l a. elim (ℕ_discrete q p) [
          | yes z ↦ ap marks (said_at t b a) ∙ rw z off
          | no ne ↦ u.none q e (omega arith) a
        ];
      }

  pub first_sent : {p : ℕ} → Unmarked t b marks s p → There t b (node s p) → marks (message_at t b (node s p)) ≡ true
      → eqb (direction_at t b (node s p)) 0 ≡ true → AppearsAs (skeleton_at t b) marks s (Appears.Sent p)
  first_sent u h m d = sent (record { said = _; at = sent_at t b h d refl; marked = m; first = u.none })

  pub first_received : {p : ℕ} → Unmarked t b marks s p → There t b (node s p) → marks (message_at t b (node s p)) ≡ true
      → eqb (direction_at t b (node s p)) 0 ≡ false → AppearsAs (skeleton_at t b) marks s (Appears.Received p)
  first_received u h m d = received (record { heard = _; at = received_at t b h d refl; marked = m; first = u.none })

  pub never_marked : {p : ℕ} → Unmarked t b marks s p → byte t (b + heights + s) ≤ p
      → AppearsAs (skeleton_at t b) marks s Appears.Nowhere
  never_marked u l = nowhere (λ q e a. u.none q e (omega (arith, (at_stands t b a).there.position)) a)
