-- `maps::images::Images::of_named` meets its contract. Assumes nothing.
use Rattle.std.proofs.Common.{arith}
use Rattle.matching.proofs.Codes.{number_is, number_is_not}
use Rattle.maps.proofs.Found.{args_low, public_image, long_term_image, no_image}
use Rattle.maps.proofs.images.Images.of_named.Goals as goal

pub bounds-self-from : goal.bounds-self-from
bounds-self-from c =
    let ready = c.args.self.sheet.ready in
    let low = args_low ready.filled ready.good c.args.self.bytes.now _ c.requires.0 (number_is c.kind_at.ensures c.in-Public.is) tt in
    omega (arith, ready.filled.terms)

pub bounds-self-from-in-LongTerm : goal.bounds-self-from-in-LongTerm
bounds-self-from-in-LongTerm c =
    let ready = c.args.self.sheet.ready in
    let low = args_low ready.filled ready.good c.args.self.bytes.now _ c.requires.0 (number_is c.kind_at.ensures c.in-LongTerm.is) tt in
    omega (arith, ready.filled.terms)

pub bounds-self-from-in-LongTerm-2 : goal.bounds-self-from-in-LongTerm-2
bounds-self-from-in-LongTerm-2 c =
    let ready = c.args.self.sheet.ready in
    let low = args_low ready.filled ready.good c.args.self.bytes.now _ c.requires.0 (number_is c.kind_at.ensures c.in-LongTerm.is) tt in
    omega (arith, ready.filled.terms)

pub returns-in-Public : goal.returns-in-Public
returns-in-Public c =
    let ready = c.args.self.sheet.ready in
    public_image ready.filled ready.good _ _ c.requires.0 (number_is c.kind_at.ensures c.in-Public.is)
    (rw (c.number.ensures.0, c.from.ensures, c.first_at.ensures) at c.find_row.ensures)

pub returns-in-LongTerm : goal.returns-in-LongTerm
returns-in-LongTerm c =
    let ready = c.args.self.sheet.ready in
    let up = rw (c.number-in-LongTerm.ensures.0, c.from-in-LongTerm.ensures, c.first_at-in-LongTerm.ensures) at c.find_row-in-LongTerm.ensures in
    long_term_image ready.filled ready.good _ _ c.requires.0 (number_is c.kind_at.ensures c.in-LongTerm.is)
    (rw (c.from-in-LongTerm-2.ensures, c.second_at.ensures) at up)

pub returns-in_default : goal.returns-in_default
returns-in_default c =
    let ready = c.args.self.sheet.ready in
    no_image ready.filled ready.good _ _ c.requires.0 c.requires.2 (number_is_not c.kind_at.ensures c.in_default.not-Public)
    c.requires.1 (number_is_not c.kind_at.ensures c.in_default.not-LongTerm)
