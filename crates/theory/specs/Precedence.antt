-- Precedence on node numbers: the edges of a skeleton, and the rules that reach what leads to a node.
use Rattle.std.specs.Prelude.{◌≡◌, refl, ◌↔◌, length}
use Rattle.std.proofs.Common.{ap, arith}
use mathlib.Core.List.Memᴰ
use mathlib.Core.List.{List, [], ◌∷◌, ◌++◌, Memᴰ}
use Prim.Native.Nat.{ℕ, zero, suc, ◌+◌, ◌*◌, ◌≤◌, ◌<◌}
use Rattle.std.proofs.Math.Decide.{ℕ_discrete, dec_lt}
use Rattle.std.proofs.Math.ListN.{get_or-eq_default}
use Rattle.model.specs.Skeleton.{Node, Skeleton, height}
use Rattle.model.specs.Events.{Before, next, listed, chain}
use Rattle.theory.specs.Each.{Each, each_nil, each_cons, each_append}
use Rattle.theory.specs.Rules.{Rule, ◌⊢◌, Reached, by}

-- a node's code; no strand is higher than 16
unfoldable pub code : Node → ℕ
code n = n.strand * 16 + n.position

unfoldable pub Low : Node → Type 0
Low n = n.position < 16

code_injective : (m n : Node) → Low m → Low n → code m ≡ code n → m ≡ n
unfolding code Low
code_injective m n h k e = λ i. record { strand = s i; position = p i }
  where
    s : m.strand ≡ n.strand
    s = omega arith

    p : m.position ≡ n.position
    p = omega arith

abbrev pub Edge : Type 0
Edge = Node × Node

-- Chains of edges

pub data Leads (es : List Edge) : Node → Node → Type 0 where
  stop : {n : Node} → Leads es n n
  step : {m n o : Node} → Memᴰ (m, n) es → Leads es n o → Leads es m o

joined : {es : List Edge} {m n o : Node} → Leads es m n → Leads es n o → Leads es m o
joined stop l = l
joined (step e k) l = step e (joined k l)

-- the rules that reach the codes of the nodes that lead to a node
unfoldable pub edge_rules : List Edge → List Rule
unfolding code
edge_rules [] = []
edge_rules (e ∷ es) = ◌⊢◌ (code e.1 ∷ []) (code e.0) ∷ edge_rules es

unfoldable pub to_rules : List Edge → Node → List Rule
unfolding edge_rules code
to_rules es goal = ◌⊢◌ [] (code goal) ∷ edge_rules es

edge_rule : (es : List Edge) {m n : Node} → Memᴰ (m, n) es → Memᴰ (◌⊢◌ (code n ∷ []) (code m)) (edge_rules es)
unfolding edge_rules
edge_rule (e ∷ es) (Memᴰ.head q) = Memᴰ.head (ap (λ (d : Edge). ◌⊢◌ (code d.1 ∷ []) (code d.0)) q)
edge_rule (e ∷ es) (Memᴰ.tail k) = Memᴰ.tail (edge_rule es k)
edge_rule [] {m = m} {n = n} x' = elim x' [ ]

pub each_edge : (P : Rule → Type 0) (es : List Edge) → Each (λ e. P (◌⊢◌ (code e.1 ∷ []) (code e.0))) es
    → Each P (edge_rules es)
unfolding edge_rules
each_edge P [] f = each_nil P
each_edge P (e ∷ es) f = each_cons P (f e (Memᴰ.head refl)) (each_edge P es (λ d k. f d (Memᴰ.tail k)))

module _ (es : List Edge) (low : Each (λ e. Low e.0 × Low e.1) es) (goal : Node) (goal_low : Low goal) where
  R : ℕ → Type 0
  R i = Reached (to_rules es goal) i

  leads_reached : {m : Node} → Leads es m goal → R (code m)
  unfolding R to_rules
  leads_reached stop = by (Memᴰ.head refl) (each_nil R)
  leads_reached (step e l) = by (Memᴰ.tail (edge_rule es e)) (each_cons R (leads_reached l) (each_nil R))

  record Found (c : ℕ) : Type 0 where
    node : Node
    is_low : Low node
    is : code node ≡ c
    leads : Leads es node goal

  Sound : Rule → Type 0
  Sound r = Each Found r.needs → Found r.gives

  edge_sound : Each (λ e. Sound (◌⊢◌ (code e.1 ∷ []) (code e.0))) es
  unfolding Sound
  edge_sound (m, n) k f =
      let g = f (code n) (Memᴰ.head refl) in
      let e : g.node ≡ n = code_injective g.node n g.is_low (low (m, n) k).1 g.is in
      record { node = m; is_low = (low (m, n) k).0; is = refl; leads = step k (rw e at g.leads) }

  rules_sound : Each Sound (to_rules es goal)
  unfolding to_rules Sound
  rules_sound =
      each_cons Sound (λ f. record { node = goal; is_low = goal_low; is = refl; leads = stop }) (each_edge Sound es edge_sound)

  reached_found : {c : ℕ} → R c → Found c
  unfolding R Sound
  reached_found (by {r = r} m f) = rules_sound r m (λ i k. reached_found (f i k))

  pub reached_iff_leads : (m : Node) → Low m → Reached (to_rules es goal) (code m) ↔ Leads es m goal
  unfolding R
  reached_iff_leads m h =
      (λ r. let g = reached_found r in rw (code_injective g.node m g.is_low h g.is) at g.leads, leads_reached)

-- The edges of a skeleton

-- the edges of a strand, and of the strands below a number
unfoldable pub steps : ℕ → ℕ → List Edge
steps s zero = []
steps s (suc zero) = []
steps s (suc (suc p)) = (record { strand = s; position = p }, record { strand = s; position = suc p }) ∷ steps s (suc p)

unfoldable pub all_steps : (ℕ → ℕ) → ℕ → List Edge
unfolding steps
all_steps h zero = []
all_steps h (suc s) = steps s (h s) ++ all_steps h s

unfoldable pub edges : {M : Type 0} → Skeleton M → List Edge
unfolding all_steps
edges K = all_steps (height K) (length K.strands) ++ K.order

edge : ℕ → ℕ → Edge
edge s p = (record { strand = s; position = p }, record { strand = s; position = suc p })

step_in : (s h p : ℕ) → suc p < h → Memᴰ (edge s p) (steps s h)
unfolding steps edge
step_in s zero p l = absurd (omega arith)
step_in s (suc zero) p l = absurd (omega arith)
step_in s (suc (suc q)) p l = go (ℕ_discrete p q) (λ k. step_in s (suc q) p k)
  where
    go : Dec (p ≡ q) → (suc p < suc q → Memᴰ (edge s p) (steps s (suc q)))
        → Memᴰ (edge s p) (edge s q ∷ steps s (suc q))
    go (yes e) f = Memᴰ.head (ap (edge s) e)
    go (no e) f = Memᴰ.tail (f (omega arith))

step_in_all : (h : ℕ → ℕ) (n s : ℕ) {e : Edge} → s < n → Memᴰ e (steps s (h s)) → Memᴰ e (all_steps h n)
unfolding all_steps
step_in_all h zero s l m = absurd (omega arith)
step_in_all h (suc n) s {e} l m = go (ℕ_discrete s n) (λ k. step_in_all h n s k m)
  where
    go : Dec (s ≡ n) → (s < n → Memᴰ e (all_steps h n)) → Memᴰ e (steps n (h n) ++ all_steps h n)
    go (yes q) f = Memᴰ.append_left (all_steps h n) (rw q at m)
    go (no q) f = Memᴰ.append_right (steps n (h n)) (f (omega arith))

module _ {M : Type 0} (K : Skeleton M) where
  pub a_strand : (s : ℕ) → 0 < height K s → s < length K.strands
  a_strand s h = go (dec_lt s (length K.strands))
    where
      go : Dec (s < length K.strands) → s < length K.strands
      go (yes l) = l
      go (no l) = absurd (omega (arith, ap length (get_or-eq_default K.strands [] {n = s} (omega arith))))

  Kept : Edge → Type 0
  Kept e = Before K e.0 e.1

  steps_kept : (s h : ℕ) → h ≤ height K s → Each Kept (steps s h)
  unfolding steps Kept
  steps_kept s zero l = each_nil Kept
  steps_kept s (suc zero) l = each_nil Kept
  steps_kept s (suc (suc p)) l = each_cons Kept (next (omega arith)) (steps_kept s (suc p) (omega arith))

  all_steps_kept : (n : ℕ) → Each Kept (all_steps (height K) n)
  unfolding all_steps
  all_steps_kept zero = each_nil Kept
  all_steps_kept (suc s) = each_append Kept (steps s (height K s)) (steps_kept s (height K s) (omega arith)) (all_steps_kept s)

  edge_before : Each Kept (edges K)
  unfolding edges Kept
  edge_before =
      each_append Kept (all_steps (height K) (length K.strands)) (all_steps_kept (length K.strands)) (λ e m. listed m)

  pub before_edge : {m n : Node} → Before K m n → (o : Node) × Memᴰ (m, o) (edges K) × Leads (edges K) o n
  unfolding edges edge
  before_edge (next {s} {p} h) = (
    _,
    Memᴰ.append_left K.order
        (step_in_all (height K) (length K.strands) s (a_strand s (omega arith)) (step_in s (height K s) p h)),
    stop,
  )
  before_edge (listed e) = (_, Memᴰ.append_right (all_steps (height K) (length K.strands)) e, stop)
  before_edge (chain p q) =
      let (o, e, l) = before_edge p in
      let (o', e', l') = before_edge q in
      (o, e, joined l (step e' l'))

  pub edge_leads : {m n o : Node} → Memᴰ (m, o) (edges K) → Leads (edges K) o n → Before K m n
  unfolding Kept
  edge_leads e stop = edge_before _ e
  edge_leads e (step f l) = chain (edge_before _ e) (edge_leads f l)
