-- `realized::Scene::is_open` meets its contract: what stands at the node, and whether it is reached. Assumes nothing.
use borrow.Author.Rules.{rules}
use Rattle.origin.proofs.Nodes.{is_received, not_received}
use Rattle.realized.proofs.Opening.{nothing_received, received}
use Rattle.realized.proofs.Scene.is_open.Goals as goal

pub returns-in_default : goal.returns-in_default
returns-in_default c =
    nothing_received c.args.self.skeleton.drawn (not_received _ (λ t e. search rules) c.in_default.ensures)

pub returns : goal.returns
returns c =
    let at = is_received (rw c.in-Some-Reception.field-0-is at c.in-Some-Reception.ensures) in
    rw c.has.ensures (received c.args.self.skeleton.drawn at c.reached.ensures)

pub returns-in_default-2 : goal.returns-in_default-2
returns-in_default-2 c =
    nothing_received c.args.self.skeleton.drawn (not_received _ (λ t e. search rules) (rw c.in_default.is at c.event_at.ensures))
