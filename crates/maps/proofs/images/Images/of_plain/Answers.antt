-- `maps::images::Images::of_plain` meets its contract. Assumes nothing.
use Rattle.maps.proofs.Found.{known_image}
use Rattle.maps.proofs.images.Images.of_plain.Goals as goal

pub returns-then-image-terms_in : goal.returns-then-image-terms_in
returns-then-image-terms_in c =
    let ready = c.args.self.sheet.ready in
    let known = rw (c.from.ensures, c.terms_in.ensures) at c.if-image-terms_in.true in
    rw c.from.ensures (known_image ready.filled ready.good _ _ c.requires.0 known)
