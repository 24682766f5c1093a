-- Small sheets that the laws look at, and short ways to write a node, a skeleton and a record.
use Rattle.std.specs.Prelude.{List, [], ◌∷◌, ◌++◌, ℕ}
use Rattle.model.specs.Table.{Row, Tag, Mesg, Text, Datum, Name, Skey, Akey, Pubk, Inv, Ltk, Pair, Enc, Hash}
use Rattle.model.specs.Skeleton.{Event, send, recv, Node, Skeleton}
use Rattle.model.specs.Sheet.{Sheet, Refusal}

abbrev pub node : ℕ → ℕ → Node
node s p = record { strand = s; position = p }

abbrev pub skeleton : {M : Type 0} → List (List (Event M)) → List (Node × Node) → List M → List M → Skeleton M
skeleton strands order non uniq = record { strands = strands; order = order; non = non; uniq = uniq }

-- number, place and skeleton of a refusal
abbrev pub given_as : ℕ → ℕ → ℕ → Refusal
given_as number place k = record { number = number; place = place; skeleton = k }

-- a TM record
abbrev pub TM_of : ℕ → ℕ → ℕ → List ℕ
TM_of k a b = 0x54 ∷ 0x4d ∷ k ∷ a ∷ b ∷ []

-- A SHEET WITH EVERY KIND AND EVERY RECORD

unfoldable pub every_kind : List Row
every_kind =
    Tag 7 ∷ Mesg 7 ∷ Text 7 ∷ Datum 7 ∷ Name 7 ∷ Name 8 ∷ Skey 7 ∷ Akey 7 ∷ Pubk 5 ∷ Inv 7 ∷ Inv 8 ∷ Ltk 4 5 ∷ Pair 0 1 ∷ Enc 2 6
    ∷ Hash 3 ∷ []

unfoldable pub every_kind_bytes : List ℕ
every_kind_bytes =
    TM_of 0 7 0 ++ TM_of 1 7 0 ++ TM_of 2 7 0 ++ TM_of 3 7 0 ++ TM_of 4 7 0 ++ TM_of 4 8 0 ++ TM_of 5 7 0 ++ TM_of 6 7 0
    ++ TM_of 7 5 0 ++ TM_of 8 7 0 ++ TM_of 8 8 0 ++ TM_of 9 4 5 ++ TM_of 10 0 1 ++ TM_of 11 2 6 ++ TM_of 12 3 0

-- text 2 is sent and tag 0 received, text 2 is received on another strand after that; term 9 is non-originating and 2 unique
unfoldable pub every_record : Sheet
unfolding every_kind
every_record =
    record {
      rows = every_kind;
      skeletons = skeleton ((send 2 ∷ recv 0 ∷ []) ∷ (recv 2 ∷ []) ∷ []) ((node 0 0, node 1 0) ∷ []) (9 ∷ []) (2 ∷ [])
          ∷ skeleton ((send 0 ∷ []) ∷ []) [] [] []
          ∷ [];
    }

unfoldable pub every_record_bytes : List ℕ
unfolding every_kind_bytes
every_record_bytes =
    (0x42 ∷ 0x53 ∷ 1 ∷ []) ++ every_kind_bytes
    ++ (0x53 ∷ 0x4b ∷ []) ++ (0x53 ∷ 0x54 ∷ 2 ∷ 0 ∷ 2 ∷ 1 ∷ 0 ∷ []) ++ (0x53 ∷ 0x54 ∷ 1 ∷ 1 ∷ 2 ∷ [])
    ++ (0x4f ∷ 0x52 ∷ 0 ∷ 0 ∷ 1 ∷ 0 ∷ []) ++ (0x4e ∷ 0x4f ∷ 9 ∷ []) ++ (0x55 ∷ 0x4f ∷ 2 ∷ [])
    ++ (0x53 ∷ 0x4b ∷ []) ++ (0x53 ∷ 0x54 ∷ 1 ∷ 0 ∷ 0 ∷ []) ++ (0x45 ∷ 0x4e ∷ [])
