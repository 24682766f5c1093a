-- `matching::may_be` meets its contract. Assumes nothing.
use Rattle.std.proofs.Common.{arith}
use Rattle.std.proofs.lemmas.Bool.Decides.{nat_tests}
use Rattle.matching.specs.Pass.{may_be}
use Rattle.matching.proofs.Codes.{may_be_own}
use Rattle.matching.proofs.may_be.Goals as goal

pub returns-in-Mesg : goal.returns-in-Mesg
unfolding may_be
returns-in-Mesg c = rw c.in-Mesg.is

pub returns-in-Skey : goal.returns-in-Skey
unfolding may_be
returns-in-Skey c = rw (c.in-Skey.is, c.is.ensures, c.is-in-Skey.ensures)

pub returns-in-Akey : goal.returns-in-Akey
unfolding may_be
returns-in-Akey c =
    rw (c.in-Akey.is, c.is-in-Akey.ensures, c.is-in-Akey-2.ensures, c.is-in-Akey-3.ensures) (grind (arith, nat_tests))

pub returns-in_default : goal.returns-in_default
returns-in_default c =
    rw c.is-in_default.ensures (may_be_own c.args.k _ c.in_default.not-Mesg c.in_default.not-Skey c.in_default.not-Akey)
