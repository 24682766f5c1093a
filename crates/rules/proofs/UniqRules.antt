-- What origins and precedence say of a UO atom: whether it has one originating strand, and whether a reception comes too early.
-- Assumes nothing.
use mathlib.Core.Path.{◌≡◌, refl, sym, ap, ◌∙◌}
use mathlib.Core.Bool.{Bool, true, false, true≢false}
use mathlib.Core.List.{List}
use mathlib.Core.Logic.Iff
use mathlib.Core.Logic.{◌↔◌}
use Prim.Native.Nat.{ℕ, ◌+◌, ◌<◌}
use Rattle.std.specs.Prelude.{Ok, Err}
use Rattle.model.specs.declared.Reason.{Reason}
use Rattle.terms.specs.declared.TermSet.{TermSet}
use Rattle.terms.specs.declared.Node as Code
use Rattle.terms.specs.Set.{mem}
use Rattle.model.specs.Term.{Term}
use Rattle.model.specs.Table.{term}
use Rattle.model.specs.Skeleton.{Event, on_message, message, recv, Node, Skeleton, At, means}
use Rattle.model.specs.Events.{Before, Origin}
use Rattle.model.specs.Says.{node_of}
use Rattle.model.specs.Sheet.{meant}
use Rattle.model.specs.Accepting.{Early, OneStrand}
use Rattle.theory.specs.Happenings.{at_means, at_meant, before_means, before_meant}
use Rattle.theory.specs.Happenings.{recv_means}
use Rattle.tables.specs.Layout.{strand_count}
use Rattle.tables.specs.Tables.{byte, rows_in, skeleton_at}
use Rattle.carry.specs.Sets.{IsCarriers}
use Rattle.origin.specs.declared.Origins.{Origins}
use Rattle.origin.specs.Marked.{FirstSent, OriginatesAs}
use Rattle.tables.proofs.Nodes.{at_stands, strand_low, position_low}
use Rattle.order.specs.Precedence.{on, code, Low, Shows}
use Rattle.tables.specs.Drawn.{drawing, Drawn}
use Rattle.rules.specs.Judged.{UniqAs, ArriveAs}
use Rattle.rules.proofs.Transfer.{origin_iff}

-- the skeleton of the block at b, with terms in place of their numbers
abbrev meant_at : List ℕ → ℕ → Skeleton Term
meant_at t b = means (term (rows_in t)) (skeleton_at t b)

-- What an answer `At` says
module _ {K : Skeleton ℕ} {marks : ℕ → Bool} {n : Code.Node} where
  first : OriginatesAs K marks (Origins.At n) → FirstSent K marks (node_of n)
  first (OriginatesAs.at f only) = f

  alone : OriginatesAs K marks (Origins.At n) → (m : Node) → FirstSent K marks m → m ≡ node_of n
  alone (OriginatesAs.at f only) = only

module _ {t : List ℕ} {b : ℕ} (ready : Drawn t b) where
  -- nodes with events have rows in a matrix
  low_at : {n : Node} {e : Event ℕ} → At (skeleton_at t b) n e → Low n
  low_at a = record { strand = strand_low ready.block a; position = position_low ready.block a }

  module _ {a : ℕ} {C : TermSet} (carriers : IsCarriers (rows_in t) a C) where
    same : (n : Node) → FirstSent (skeleton_at t b) (mem C) n ↔ Origin (meant_at t b) (term (rows_in t) a) n
    same = origin_iff (rows_in t) ready.good (skeleton_at t b) ready.on_table a C carriers

    -- an answer that is not `At` says that there is not one strand
    pub not_one_strand : (r : Origins) → ((n : Code.Node) → r ≡ Origins.At n → ⊥) → OriginatesAs (skeleton_at t b) (mem C) r
        → UniqAs (drawing t b) a (Err Reason.NoSingleOrigin)
    unfolding meant
    not_one_strand r k (OriginatesAs.nowhere none) = UniqAs.not_one (λ o. none _ ((same _).1 o.originates.origin))
    not_one_strand r k (OriginatesAs.at f only) = absurd (k _ refl)
    not_one_strand r k (OriginatesAs.several {m} {n} f g apart) =
        UniqAs.not_one (λ o. apart
        (o.only m.strand (record { position = m.position; origin = (same m).0 f })
        ∙ sym (o.only n.strand (record { position = n.position; origin = (same n).0 g }))))

    module _ {n : Code.Node} where
      pub low_origin : OriginatesAs (skeleton_at t b) (mem C) (Origins.At n) → Low (node_of n)
      low_origin o = low_at (first o).at

      one_strand : OriginatesAs (skeleton_at t b) (mem C) (Origins.At n)
          → OneStrand (meant_at t b) (term (rows_in t) a)
      one_strand o =
          record {
            strand = (node_of n).strand;
            originates = record { position = (node_of n).position; origin = (same (node_of n)).0 (first o) };
            only = λ s w. ap (λ (m : Node). m.strand) (alone o _ ((same _).1 w.origin));
          }

      module _ {g : List ℕ} (shows : Shows (skeleton_at t b) g) (o : OriginatesAs (skeleton_at t b) (mem C) (Origins.At n)) where
        comes_before : {m : Node} → Low m
            → (on g (code (node_of n)) (code m) ≡ true) ↔ Before (meant_at t b) (node_of n) m
        comes_before {m} l =
            Iff.trans (shows.at (node_of n) m (low_origin o) l)
            (before_means (term (rows_in t)) (skeleton_at t b), before_meant (term (rows_in t)) (skeleton_at t b))

        pub too_early : {P : Node → Type 0} {r : Bool} → ArriveAs (skeleton_at t b) (mem C) g (node_of n) P r → r ≡ false
            → UniqAs (drawing t b) a (Err Reason.HeardBeforeOrigin)
        unfolding meant on_message
        too_early (ArriveAs.all f) e = absurd (true≢false e)
        too_early (ArriveAs.one_early {m} {u} d marked off) e =
            UniqAs.early (one_strand o) (record {
              source = node_of n;
              origin = (same (node_of n)).0 (first o);
              node = m;
              heard = term (rows_in t) u;
              at = at_means (term (rows_in t)) (skeleton_at t b) d;
              carries = ((carriers.shows.at u).0 marked).1;
              not_after = λ p. true≢false (sym ((comes_before (low_at d)).1 p) ∙ off);
            })

        in_time : {r : Bool} → ArriveAs (skeleton_at t b) (mem C) g (node_of n) (λ m. m.strand < byte t (b + strand_count)) r → r ≡ true
            → ¬ Early (meant_at t b) (term (rows_in t) a)
        unfolding message
        in_time (ArriveAs.one_early d marked off) e w = true≢false (sym e)
        in_time (ArriveAs.all f) e w =
            let (d, x, z) = at_meant (term (rows_in t)) (skeleton_at t b) w.at in
            let (u, y, v) = recv_means (term (rows_in t)) d z in
            let at : At (skeleton_at t b) w.node (recv u) = rw y at x in
            let marked : mem C u ≡ true = (carriers.shows.at u).1 (ready.on_table.messages _ _ at, rw v w.carries) in
            let source : w.source ≡ node_of n = alone o w.source ((same w.source).1 w.origin) in
            w.not_after (rw source ((comes_before (low_at at)).0 (f w.node u (at_stands t b at).there.strand at marked)))

        pub on_time : {r : Bool} → ArriveAs (skeleton_at t b) (mem C) g (node_of n) (λ m. m.strand < byte t (b + strand_count)) r
            → r ≡ true → UniqAs (drawing t b) a (Ok tt)
        unfolding meant
        on_time w e = UniqAs.fine (record { one_strand = one_strand o; in_time = in_time w e })
