-- `records::readers::events_right` meets its contract.
-- Assumes nothing.
use Rattle.std.proofs.Common.{rules, tests, arith, ◌≡◌, refl, ◌∙◌, ℕ, zero, suc, ◌+◌, Bool, true, false, ◌&&◌, zero-add, add-zero}
use Rattle.std.specs.List.{list_all, range_with_len}
use Rattle.std.proofs.lemmas.Iterator.{YieldsList-from_range}
use Rattle.std.proofs.lemmas.Iterator.Search.{all_from_yields_List}
use Rattle.model.specs.Lists.{every}
use Rattle.model.specs.Reading.{event_right}
use Rattle.records.proofs.readers.events_right.Goals as goal

-- `all` over the numbers below n
and_swap : (x y z : Bool) → (x && (y && z)) ≡ (y && (x && z))
and_swap true y z = refl
and_swap false true z = refl
and_swap false false z = refl

all_more : (p : ℕ → Bool) (a n : ℕ) → list_all p (range_with_len a (suc n)) ≡ (p (a + n) && list_all p (range_with_len a n))
all_more p a zero = rw add-zero refl
all_more p a (suc n) = let e : a + 1 + n ≡ a + suc n = omega arith in rw (all_more p (a + 1) n, e) (and_swap (p a) (p (a + suc n)) _)

all_every : (p : ℕ → Bool) (n : ℕ) → list_all p (range_with_len 0 n) ≡ every n p
unfolding every
all_every p zero = refl
all_every p (suc n) = rw (all_more p 0 n, zero-add, all_every p n) refl

pub returns : goal.returns
unfolding event_right
returns c =
    all_from_yields_List (event_right c.args.terms c.args.rest.now) _ _ _ c.all.ensures.ran
    (YieldsList-from_range 0 c.args.height c.args.height (cc) (omega arith)) (λ x b q k. search (rules, tests))
    ∙ all_every _ _
