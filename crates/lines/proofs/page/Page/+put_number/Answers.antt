-- `lines::Page::put_number` meets its contract: the number without its last digit, and that digit, by the law of `decimal`. The
-- measure is the number. Assumes nothing.
use mathlib.Core.Path.{ap}
use native.Mathlib.Omega.{arith}
use borrow.Author.Rules.{rules}
use lib.ListN.{length}
use Rattle.lines.proofs.Puts.{put_length, put_after}
use Rattle.lines.proofs.Digits.{one_digit, last_digit, digits_less}
use Rattle.lines.proofs.page.Page.+put_number.Goals as goal

pub put_digit-requires : goal.put_digit-requires
put_digit-requires t c = (omega (arith, ap length (one_digit _ c.if-n-lt10.true)), search rules)

pub returns-then-n-lt10-clause-text : goal.returns-then-n-lt10-clause-text
returns-then-n-lt10-clause-text t c = rw (one_digit _ c.if-n-lt10.true) c.put_digit.ensures.text

pub put_number-requires : goal.put_number-requires
put_number-requires t c = (omega arith, omega (arith, digits_less _ c.if-n-lt10.false))

pub put_digit-requires-2 : goal.put_digit-requires-2
put_digit-requires-2 t c =
    let p = c.put_number.ensures.text in
    (omega (arith, digits_less _ c.if-n-lt10.false, p.next, put_length p), omega arith)

pub returns-clause-text : goal.returns-clause-text
returns-clause-text t c = rw (last_digit _ c.if-n-lt10.false) (put_after c.put_number.ensures.text c.put_digit-2.ensures.text)
