-- `realized::Scene::reached` meets its contract: from what is sent before the node and what is withheld. Assumes nothing.
use Rattle.realized.proofs.Transfer.{reached_before}
use Rattle.realized.proofs.Scene.reached.Goals as goal

pub returns : goal.returns
returns c =
    let drawn = c.args.self.skeleton.drawn in
    reached_before _ _ drawn.on_table _ c.requires.withheld c.requires.ready.0.rules.an_origin
    _ _ _ c.sent_before-sent.ensures c.reach.ensures
