-- `realized::Scene::count_reached` meets its contract: it counts the members of the set. Assumes nothing.
use Rattle.realized.proofs.Counting.{reach_counted}
use Rattle.realized.proofs.Scene.count_reached.Goals as goal

pub returns : goal.returns
returns c k = reach_counted k c.reached_before.ensures c.count.ensures
