-- `list::Candidates::total` meets its contract. Assumes nothing.
use mathlib.Core.Path.{◌≡◌, refl, ◌∙◌}
use Prim.Native.Nat.{◌^◌}
use native.Mathlib.Omega.{arith}
use Rattle.list.proofs.Powers.{power_most}
use Rattle.list.proofs.Candidates.total.Goals as goal

pub pow-requires : goal.pow-requires
pow-requires c =
    let few = c.args.self.few in
    let most = power_most c.args.self.base c.args.self.n few.1 few.2 in
    rw (c.from.ensures, c.from-2.ensures) (omega (arith, most))

pub returns : goal.returns
returns c =
    let few = c.args.self.few in
    let is : c.pow.result ≡ c.args.self.base ^ c.args.self.n = c.pow.ensures ∙ rw (c.from.ensures, c.from-2.ensures) refl in
    (is, rw is (power_most _ _ few.1 few.2))
