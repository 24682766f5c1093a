-- `tables::rows::find_row` meets its contract: the first that passes the test is a row with these bytes. Assumes nothing.
use mathlib.Core.Path.{◌≡◌}
use mathlib.Core.Bool.{true, false}
use borrow.Author.Rules.{rules}
use borrow.Author.Tests.{tests}
use Rattle.std.specs.Prelude.{MatchOption, Some, None}
use Rattle.std.proofs.lemmas.Iterator.{first_from_Range}
use Rattle.tables.specs.Rows.{same_bytes}
use Rattle.tables.proofs.Look.{looked_up}
use Rattle.tables.proofs.rows.find_row.Goals as goal

pub returns : goal.returns
returns c =
    let t = c.args.table.now in
    let r = c.args.row in
    let first =
    first_from_Range _ _ _ c.find.result (λ i. same_bytes t i r ≡ true) (λ i. same_bytes t i r ≡ false) c.find.ensures.ran
    (λ i q k. search (rules, tests)) (λ i q k. search (rules, tests)) in
    let moved : MatchOption c.find.result (c.map.result ≡ None) (λ i. c.map.result ≡ Some (record { 0 = i })) = search rules in
    looked_up t r _ _ c.terms_in.ensures first moved
