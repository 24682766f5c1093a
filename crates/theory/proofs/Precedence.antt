-- Precedence decided on node numbers.
use Rattle.std.specs.Prelude.{◌↔◌, T}
use Rattle.std.proofs.Math.Logic.Iff
use mathlib.Core.List.{List}
use Prim.Native.Nat.{ℕ, ◌<◌}
use Rattle.model.specs.Skeleton.{Node}
use Rattle.theory.specs.Each.{Each, each_cons}
use Rattle.theory.specs.Rules.{Rule, marked, reach, InRange}
use Rattle.theory.proofs.Rules.{reach_iff}
use Rattle.theory.specs.Precedence.{code, Low, Edge, Leads, to_rules, each_edge, reached_iff_leads}

module _ (es : List Edge) (low : Each (λ e. Low e.0 × Low e.1) es) (goal : Node) (goal_low : Low goal) (n : ℕ)
    (inside : Each (λ e. code e.0 < n) es) (goal_inside : code goal < n) where
  Below : Rule → Type 0
  Below r = r.gives < n

  rules_below : Each Below (to_rules es goal)
  unfolding to_rules Below
  rules_below = each_cons Below goal_inside (each_edge Below es inside)

  pub leads_decided : (m : Node) → Low m → T (marked (reach (to_rules es goal) n) (code m)) ↔ Leads es m goal
  unfolding InRange Below
  leads_decided m h = Iff.trans (reach_iff n (to_rules es goal) rules_below (code m)) (reached_iff_leads es low goal goal_low m h)
