-- `list::Found::count` meets its contract. Assumes nothing.
use mathlib.Core.Path.{◌≡◌, sym, ◌∙◌}
use lib.ListN.{length}
use Rattle.std.proofs.Common.{rules, tests}
use Rattle.std.proofs.lemmas.Iterator.{YieldsList-from_range}
use Rattle.std.proofs.lemmas.Iterator.Consumers.{YieldsList-from_filter, count_from_yields_List}
use Rattle.list.specs.Found.{marked}
use Rattle.list.proofs.Filtered.{numbers, passing_many}
use Rattle.list.proofs.Found.count.Goals as goal

pub returns-clause-by_index : goal.returns-clause-by_index
returns-clause-by_index c n base =
    let counted : c.count.result ≡ length (numbers (marked c.args.self.now) c.args.total) =
    count_from_yields_List _ _ c.count.ensures.ran
    (YieldsList-from_filter _ (marked c.args.self.now) (YieldsList-from_range 0 c.args.total c.args.total (cc) (search rules)) c.filter.ensures.closure (λ x r q k. search (rules, tests))) in
    counted ∙ sym (passing_many (marked c.args.self.now) n base c.args.total)
