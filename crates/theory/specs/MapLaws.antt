-- Maps agree on what occurs, one map after another is a map, and the plain map is one.
use Rattle.std.specs.Prelude.{◌≡◌, ℕ, ◌<◌, length}
use Rattle.std.proofs.Common.{ap, ◌∙◌}
use mathlib.Core.List.{Memᴰ}
use Rattle.model.specs.Maps.{move, SameDirection, both_send, both_receive, Rule2, Rule3, Rule4, Rule5, Rule6}
use Rattle.model.specs.Term.{Term}
use Rattle.model.specs.Carry.{Occurs}
use Rattle.model.specs.Subst.{Subst, apply, Variable}
use Rattle.model.specs.Skeleton.{Event, send, recv, message, Node, Skeleton, At}
use Rattle.model.specs.Events.{InSomeEvent}
use Rattle.theory.specs.Parts.{carried_occurs, occurs_after}
use Rattle.theory.specs.Substituting.{plain, ◌then◌, apply_plain, apply_then, agree, same_images}
use Rattle.theory.specs.Skeletons.{at_one, IsSkeleton}

same_direction : (e : Event Term) → SameDirection e e
same_direction (send t) = both_send
same_direction (recv t) = both_receive

both_directions : {c d e : Event Term} → SameDirection c d → SameDirection d e → SameDirection c e
both_directions both_send both_send = both_send
both_directions both_receive both_receive = both_receive

-- The rules

module _ (A B : Skeleton Term) (f : ℕ → ℕ) where
  unfoldable pub Rule1 : Type 0
  Rule1 = (s : ℕ) → s < length A.strands → f s < length B.strands

  pub record IsMap (σ : Subst) : Type 0 where
    pub strands : Rule1
    pub directions : Rule2 A B f
    pub messages : Rule3 A B f σ
    pub order : Rule4 A B f
    pub non : Rule5 A B f σ
    pub uniq : Rule6 A B f σ

-- One substitution at most, on what occurs

-- each variable of the term occurs in an event
unfoldable pub VariablesOccur : Skeleton Term → Term → Type 0
VariablesOccur A t = (x : Term) → Variable x → Occurs x t → InSomeEvent A x

-- each variable of an NO or UO atom occurs in an event
pub record AtomsOccur (A : Skeleton Term) : Type 0 where
  pub non : (t : Term) → Memᴰ t A.non → VariablesOccur A t
  pub uniq : (t : Term) → Memᴰ t A.uniq → VariablesOccur A t

pub skeleton_atoms : (A : Skeleton Term) → IsSkeleton A → AtomsOccur A
unfolding VariablesOccur message
skeleton_atoms A s =
    record {
      non = s.non_occurs;
      uniq = λ t m x v o.
          let (n, g) = s.an_origin t m in
          record { node = n; event = send g.said; at = g.at; occurs = occurs_after o (carried_occurs g.carries) };
    }

module _ (A B : Skeleton Term) (f : ℕ → ℕ) (σ τ : Subst) (directions : Rule2 A B f) (h : Rule3 A B f σ) (k : Rule3 A B f τ) where
  pub images_agree : (n : Node) (e : Event Term) → At A n e → {u : Term} → Occurs u (message e) → apply σ u ≡ apply τ u
  unfolding Rule2 Rule3
  images_agree n e a o =
      let (d, b, _) = directions n e a in
      agree σ τ o (cc (h n e d a b, k n e d a b))

  -- so rules 5 and 6 do not hang on which substitution is taken
  pub atoms_agree : (t : Term) → VariablesOccur A t → apply σ t ≡ apply τ t
  unfolding VariablesOccur
  atoms_agree t f = same_images σ τ t (λ x v o. let g = f x v o in images_agree g.node g.event g.at g.occurs)

-- The plain map

pub plain_is_map : (A : Skeleton Term) → IsMap A A (λ s. s) plain
unfolding Rule1 Rule2 Rule3 Rule4 Rule5 Rule6
plain_is_map A =
    record {
      strands = λ s h. h;
      directions = λ n e a. (e, a, same_direction e);
      messages = λ n e d a b. apply_plain (message e) ∙ ap message (at_one A a b);
      order = λ m n b. b;
      non = λ a m. rw apply_plain m;
      uniq = λ a m. rw apply_plain (m, λ n o. o);
    }

-- One map after another

module _ (A B C : Skeleton Term) (f g : ℕ → ℕ) (σ τ : Subst) (h : IsMap A B f σ) (k : IsMap B C g τ) where
  pub map_after_map : IsMap A C (λ s. g (f s)) (◌then◌ σ τ)
  unfolding Rule1 Rule2 Rule3 Rule4 Rule5 Rule6
  map_after_map =
      record {
        strands = λ s l. k.strands (f s) (h.strands s l);
        directions = λ n e a.
            let (d, b, s) = h.directions n e a in
            let (c, i, t) = k.directions (move f n) d b in
            (c, i, both_directions s t);
        messages = λ n e d a b.
            let (c, i, _) = h.directions n e a in
            cc (apply_then σ τ (message e), h.messages n e c a i, k.messages (move f n) c d i b);
        order = λ m n b. k.order _ _ (h.order m n b);
        non = λ a m. rw apply_then (k.non _ (h.non a m));
        uniq = λ a m.
            let (u, o) = h.uniq a m in
            let (v, q) = k.uniq (apply σ a) u in
            rw apply_then (v, λ n x. q (move f n) (o n x));
      }
