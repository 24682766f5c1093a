-- `listing::write_list` meets its contract. Assumes nothing.
use mathlib.Core.Path.{refl}
use Prim.Native.Nat.{◌*◌, ◌≤◌}
use native.Mathlib.Omega.{arith}
use borrow.Author.Rules.{rules}
use Rattle.model.specs.Says.{list_says}
use Rattle.listing.proofs.Giving.{few_bytes, no_room, all_given}
use Rattle.listing.proofs.write_list.Goals as goal

pub overflow_mul-count : goal.overflow_mul-count
overflow_mul-count c =
    let few : c.count-count.result * c.args.candidates.n ≤ 279936 =
    few_bytes _ _ _ c.count-count.ensures.upper_bound c.total-total.ensures.1 c.args.candidates.few.2 in
    rw c.from.ensures (search rules)

pub returns-then-space-count : goal.returns-then-space-count
unfolding list_says
returns-then-space-count c =
    let counted = c.count-count.ensures.by_index c.args.candidates.n c.args.candidates.base in (
      no_room (rw c.total-total.ensures.0 at counted) (rw c.from.ensures at c.if-space-count.true)
          (rw c.from-then-space-count.ensures refl),
      tt,
    )

pub write-requires : goal.write-requires
write-requires c =
    let counted = c.count-count.ensures.by_index c.args.candidates.n c.args.candidates.base in
    let fits = rw c.from.ensures at c.if-space-count.false in
    (omega (arith, c.total-total.ensures.0), rw counted at fits)

pub returns : goal.returns
unfolding list_says
returns c =
    let power = c.total-total.ensures.0 in
    let counted = c.count-count.ensures.by_index c.args.candidates.n c.args.candidates.base in
    let fits = rw c.from.ensures at c.if-space-count.false in (
      all_given (rw power at counted) fits (rw power at c.write.ensures),
      omega (arith, c.count-count.ensures.upper_bound, c.total-total.ensures.1),
    )
