-- "SK: a skeleton begins"; "ST: height h, then h times: direction (0 send, 1 receive), term"; "OR: strand, position,
-- strand, position"; "NO: non-originating atom"; "UO: uniquely originating atom". "Terms, skeletons, strands and
-- positions count from 0."
use Rattle.std.specs.Prelude.{◌≡◌, List, [], map, ℕ, length, get_or}
use Rattle.std.proofs.Math.Option.{some}
use Rattle.std.proofs.Math.ListN.{get_elem?}

-- a message is a term's number on a sheet, and a term where it is judged
pub data Event (M : Type 0) : Type 0 where
  send recv : M → Event M

unfoldable pub message : {M : Type 0} → Event M → M
message (send t) = t
message (recv t) = t

pub record Node : Type 0 where
  pub strand : ℕ
  pub position : ℕ

pub record Skeleton (M : Type 0) : Type 0 where
  pub strands : List (List (Event M))
  -- the OR pairs: a send, and the reception that comes after it
  pub order : List (Node × Node)
  pub non : List M
  pub uniq : List M

module _ {M : Type 0} (K : Skeleton M) where
  abbrev pub trace : ℕ → List (Event M)
  trace s = get_or K.strands s []

  abbrev pub height : ℕ → ℕ
  height s = length (trace s)

  -- the event at a node
  pub record At (n : Node) (e : Event M) : Type 0 where
    pub is : get_elem? (trace n.strand) n.position ≡ some e

-- with other messages in their place
unfoldable pub on_message : {M N : Type 0} → (M → N) → Event M → Event N
on_message f (send t) = send (f t)
on_message f (recv t) = recv (f t)

unfoldable pub means : {M N : Type 0} → (M → N) → Skeleton M → Skeleton N
unfolding on_message
means f K =
    record {
      strands = map (map (on_message f)) K.strands;
      order = K.order;
      non = map f K.non;
      uniq = map f K.uniq;
    }
