-- `listing::Search::is_map` meets its contract. Assumes nothing.
use mathlib.Core.Path.{◌≡◌, sym, ap, ap₂, ◌∙◌}
use Prim.Native.Nat.{ℕ}
use lib.ListN.{take}
use Rattle.list.specs.Candidates.{digits}
use Rattle.listing.specs.Found.{strands}
use Rattle.listing.proofs.Marking.{judged_map, digits_first}
use Rattle.listing.proofs.Search.is_map.Goals as goal

pub returns : goal.returns
returns c =
    let s = c.requires.0 in
    let sides = c.args.self.now.prepared.sides in
    let judged = judged_map _ c.judge_map.ensures.0 in
    let bytes : take c.from-used.result c.put_digits.new.out
    ≡ digits (strands sides.table.now sides.source) (strands sides.table.now sides.target) c.args.c =
    ap (λ (k : ℕ). take k c.put_digits.new.out) c.from-used.ensures ∙ digits_first _ _ _ _ c.put_digits.ensures
    ∙ ap₂ (λ (n base : ℕ). digits n base c.args.c) s.n s.base in
    let value = c.is_ok.ensures.value in
    (λ r. record { is = rw bytes at (judged.0 (sym value ∙ r)) }, λ m. value ∙ judged.1 (rw bytes m.is))
