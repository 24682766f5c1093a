-- `maps::images::Images::of_atom` meets its contract. Assumes nothing.
use Rattle.std.proofs.Common.{arith}
use Rattle.matching.proofs.Codes.{number_is}
use Rattle.maps.proofs.Found.{image_low, args_low, key_plain, inverse_on, inverse_off}
use Rattle.maps.proofs.images.Images.of_atom.Goals as goal

pub of_plain-requires : goal.of_plain-requires
of_plain-requires c =
    let ready = c.args.self.sheet.ready in
    let inverse = number_is c.kind_at.ensures c.in-Inverse.is in
    let low = args_low ready.filled ready.good c.args.self.bytes.now _ c.requires inverse tt in
    rw c.first_at.ensures (omega arith, key_plain ready.filled ready.good c.args.self.bytes.now _ c.requires inverse)

pub returns-in_err-image-in-Inverse : goal.returns-in_err-image-in-Inverse
returns-in_err-image-in-Inverse c =
    let ready = c.args.self.sheet.ready in
    let image = rw (c.first_at.ensures, c.in_err-image-in-Inverse.was) at c.of_plain.ensures in
    rw c.from_residual.ensures
    (inverse_off ready.filled ready.good _ _ c.requires (number_is c.kind_at.ensures c.in-Inverse.is) image)

pub inverse-requires : goal.inverse-requires
inverse-requires c =
    let ready = c.args.self.sheet.ready in
    image_low ready.filled ready.good _ c.of_plain.ensures c.in_ok-image-in-Inverse.image c.in_ok-image-in-Inverse.was

pub returns-in_ok-image-in-Inverse : goal.returns-in_ok-image-in-Inverse
returns-in_ok-image-in-Inverse c =
    let ready = c.args.self.sheet.ready in
    let image = rw (c.first_at.ensures, c.in_ok-image-in-Inverse.was) at c.of_plain.ensures in
    rw (← c.inverse.ensures) at
    (inverse_on ready.filled ready.good _ _ c.requires (number_is c.kind_at.ensures c.in-Inverse.is) ready.inverted image)
