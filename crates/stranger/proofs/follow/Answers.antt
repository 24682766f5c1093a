-- `stranger::follow` meets its contract. Assumes nothing.
use mathlib.Core.Path.{◌≡◌, sym, ◌∙◌}
use mathlib.Core.List.{map}
use borrow.Author.Rules.{rules}
use borrow.Author.Tests.{tests}
use Rattle.std.specs.List.{list_all}
use Rattle.std.proofs.lemmas.Iterator.{YieldsList-from_slice}
use Rattle.std.proofs.lemmas.Iterator.Search.{all_from_yields_List}
use Rattle.terms.specs.Set.{member}
use Rattle.theory.specs.Rules.{◌⊢◌}
use Rattle.stranger.specs.Steps.{number}
use Rattle.stranger.proofs.Steps.{put, all_ready}
use Rattle.stranger.proofs.follow.Goals as goal

pub returns : goal.returns
returns g c =
    let s = c.args.set.now.words in
    let needs = c.args.needs in
    let all : c.all-so.result ≡ list_all (λ x. member s (number x)) needs =
    all_from_yields_List (λ x. member s (number x)) _ _ _ c.all-so.ensures.ran (YieldsList-from_slice needs cc)
    (λ x b q k. search (rules, tests)) in
    put (◌⊢◌ (map number needs) c.args.z.0) c.insert_if.ensures (λ e. (all_ready s needs).0 (sym all ∙ e))
    (λ ready. all ∙ (all_ready s needs).1 ready)
