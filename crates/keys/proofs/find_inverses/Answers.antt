-- `keys::find_inverses` meets its contract: the first key that is found lacks its inverse, and none before it does.
-- Assumes nothing.
use native.Mathlib.Omega.{arith}
use borrow.Author.Rules.{rules}
use borrow.Author.Tests.{tests}
use Rattle.std.proofs.lemmas.Iterator.{first_from_Range}
use Rattle.model.specs.Accepting.{Lacking}
use Rattle.tables.specs.Tables.{rows_in}
use Rattle.keys.specs.Inverted.{lacks}
use Rattle.keys.proofs.Pairing.{all_paired}
use Rattle.keys.proofs.find_inverses.Goals as goal

pub returns-in-Some : goal.returns-in-Some
returns-in-Some c =
    let rows = rows_in c.args.table.now in
    let first =
    first_from_Range _ _ _ c.find.result (Lacking rows) (λ i. ¬ Lacking rows i) c.find.ensures.ran
    (λ i q k. search (rules, tests)) (λ i q k. search (rules, tests)) in
    let found = rw c.in-Some.is at first in
    (lacks found.2 (λ j h. found.3 j (omega arith) h), c.rows.ensures.long)

pub returns-in-None : goal.returns-in-None
returns-in-None c =
    let rows = rows_in c.args.table.now in
    let first =
    first_from_Range _ _ _ c.find.result (Lacking rows) (λ i. ¬ Lacking rows i) c.find.ensures.ran
    (λ i q k. search (rules, tests)) (λ i q k. search (rules, tests)) in
    let none = rw c.in-None.is at first in (
      all_paired c.args.table.now _ c.requires.1 (omega (arith, c.terms_in.ensures)) (λ j h. none j (omega arith) h) c.rows.ensures,
      c.rows.ensures.long,
    )
