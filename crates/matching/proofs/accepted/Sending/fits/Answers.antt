-- `matching::accepted::Sending::fits` meets its contract. Assumes nothing.
use Rattle.matching.proofs.Codes.{number_is, number_is_not}
use Rattle.matching.proofs.Sending.{tag_fits, inverse_fits, other_fits}
use Rattle.matching.proofs.accepted.Sending.fits.Goals as goal

pub returns-in-Tag : goal.returns-in-Tag
returns-in-Tag c =
    let fits = tag_fits c.args.self.sheet.ready.filled c.args.self.terms (number_is c.kind_at.ensures c.in-Tag.is) in
    cc

pub returns-in-Inverse : goal.returns-in-Inverse
returns-in-Inverse c =
    inverse_fits c.args.self.sheet.ready.filled c.args.self.terms (number_is c.kind_at.ensures c.in-Inverse.is)
    (rw c.kind_at-h.ensures at c.may_be.ensures)

pub returns-in_default : goal.returns-in_default
returns-in_default c =
    let no_tag = number_is_not c.kind_at.ensures c.in_default.not-Tag in
    let no_inverse = number_is_not c.kind_at.ensures c.in_default.not-Inverse in
    other_fits c.args.self.sheet.ready.filled c.args.self.terms no_tag no_inverse
    (rw (c.kind_at.ensures, c.kind_at-h.ensures) at c.may_be-in_default.ensures)
