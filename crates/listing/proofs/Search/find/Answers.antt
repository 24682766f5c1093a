-- `listing::Search::find` meets its contract: the candidates that were passed are marked if they are maps. Assumes nothing.
use mathlib.Core.Path.{◌≡◌}
use Prim.Native.Nat.{◌^◌}
use borrow.Author.Rules.{rules}
use Rattle.listing.proofs.Marking.{marked_none, marked_in, marked_out}
use Rattle.listing.proofs.Search.find.Goals as goal
use Rattle.listing.proofs.Search.find.Goals.{then-is_map, else-is_map}

pub loop-c-init : goal.loop-c-init
loop-c-init c = marked_none c.clear.ensures

pub loop-c-preserved : goal.loop-c-preserved
loop-c-preserved c =
    elim c.if-is_map.branch [
      | then-is_map w ↦ rw w.found-is (marked_in c.loop-c.invariant (c.is_map.ensures.0 w.if-is_map.true) w.mark.ensures)
      | else-is_map w ↦ rw w.found-is (marked_out c.loop-c.invariant c.is_map.ensures w.if-is_map.false)
    ]

pub returns : goal.returns
returns c =
    let all : c.loop-c.c ≡ c.args.self.now.candidates.base ^ c.args.self.now.candidates.n = search rules in
    rw all at c.loop-c.invariant
