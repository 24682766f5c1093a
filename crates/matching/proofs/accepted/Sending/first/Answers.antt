-- `matching::accepted::Sending::first` meets its contract. Assumes nothing.
use Rattle.std.proofs.Common.{◌∙◌}
use Rattle.matching.proofs.Codes.{number_is, number_is_not}
use Rattle.matching.proofs.Sending.{inverse_to, other_to}
use Rattle.matching.proofs.accepted.Sending.first.Goals as goal

pub returns-in-Inverse : goal.returns-in-Inverse
returns-in-Inverse c =
    let ready = c.args.self.sheet.ready in
    c.inverse.ensures ∙ inverse_to ready.filled c.args.self.terms ready.inverted (number_is c.kind_at.ensures c.in-Inverse.is)

pub returns-in_default : goal.returns-in_default
returns-in_default c =
    let other = number_is_not c.kind_at.ensures c.in_default.not-Inverse in
    c.first_at.ensures ∙ other_to c.args.self.sheet.ready.filled c.args.self.terms other
