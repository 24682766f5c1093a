-- Which receptions are open: node by node, strand by strand, and the first of all.
use Rattle.std.specs.Prelude.{Bool, true, false, ℕ, ◌<◌, Option, Some, None}
use Rattle.terms.specs.declared.Node as Code
use Rattle.model.specs.Term.{Term}
use Rattle.model.specs.Skeleton.{recv, Node, Skeleton, At}
use Rattle.model.specs.Derive.{DerivableBefore, Realized}
use Rattle.model.specs.Answers.{FirstOpen}
use Rattle.model.specs.Says.{node_of}
use Rattle.origin.specs.Marked.{node}

module _ (K : Skeleton Term) where
  -- what is received at the node, if anything is, is derivable before it
  pub record Met (n : Node) : Type 0 where
    pub derivable : (t : Term) → At K n (recv t) → DerivableBefore K n t

  -- what is received at the node is not
  pub record Unmet (n : Node) : Type 0 where
    pub message : Term
    pub at : At K n (recv message)
    pub unrealized : ¬ DerivableBefore K n message

  pub data OpenIs (n : Node) : Bool → Type 0 where
    unmet : Unmet n → OpenIs n true
    met : Met n → OpenIs n false

  -- the first open reception of strand s
  pub data OpenOn (s : ℕ) : Option ℕ → Type 0 where
    nowhere : ((p : ℕ) → Met (node s p)) → OpenOn s None
    here : {p : ℕ} → Unmet (node s p) → ((q : ℕ) → q < p → Met (node s q)) → OpenOn s (Some p)

  -- "Realized: yes, or the first unrealized reception by strand, then position."
  pub data FirstOpenIs : Option Code.Node → Type 0 where
    none : Realized K → FirstOpenIs None
    first : {n : Code.Node} → FirstOpen K (node_of n) → FirstOpenIs (Some n)
