-- `order::Precedence::used` meets its contract: the first row from behind that is not empty is the last of them. Assumes nothing.
use borrow.Author.Rules.{rules}
use borrow.Author.Tests.{tests}
use mathlib.Core.Path.{◌≡◌}
use native.Mathlib.Omega.{arith}
use native.Mathlib.Decide.{dec_lt}
use Rattle.std.proofs.lemmas.Iterator.{first_from_find}
use Rattle.order.specs.Matrix.{Empty}
use Rattle.order.proofs.Backwards.{yields_down, after, highest}
use Rattle.order.proofs.Precedence.used.Goals as goal

pub returns : goal.returns
returns c =
    let m = c.args.self.now.words in
    let found = highest (λ a. Unit {0}) (Empty m) c.args.top c.find.result
    (first_from_find _ _ c.find.result (λ a. Unit {0}) (Empty m) c.find.ensures.ran (yields_down c.args.top (cc))
    (λ i q k. tt) (λ i q k. search (rules, tests))) in
    let is : c.map_or.result ≡ after c.find.result = search rules in (
      omega (arith, is, found.0),
      record {
        row = λ a l h. elim (dec_lt a c.args.top) [
          | yes k ↦ found.1 a (omega (arith, is)) k
          | no k ↦ c.requires.1.row a (omega arith) h
        ];
      },
    )
