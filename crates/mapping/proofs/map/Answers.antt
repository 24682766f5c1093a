-- `mapping::map` meets its contract. Assumes nothing.
use native.Mathlib.Omega.{arith}
use Rattle.model.specs.Says.{map_says, mapping_of}
use Rattle.accept.proofs.Known.{stored_of}
use Rattle.mapping.proofs.Asking.{sides_asked, prepared_for, lacks_one, short_room, rule_broken, is_a_map}
use Rattle.mapping.proofs.map.Goals as goal

pub prepare-prepared-requires : goal.prepare-prepared-requires
prepare-prepared-requires c = sides_asked (stored_of c.args.sheet.stored) c.requires c.in-Some.ensures

pub returns-in_default : goal.returns-in_default
unfolding map_says
returns-in_default c = rw c.from.ensures (lacks_one _ _ _ _ _ c.in_default.ensures)

pub returns-then-images-from : goal.returns-then-images-from
unfolding map_says
returns-then-images-from c =
    rw c.from-then-images-from.ensures (short_room _ _ _ _ _ c.in-Some.ensures.there (omega arith))

pub returns-in-Err : goal.returns-in-Err
unfolding map_says mapping_of
returns-in-Err c =
    let q = c.in-Some.ensures in
    let g = c.prepare-prepared.ensures in
    let p = prepared_for q g.prepared g.table g.source g.target in
    rule_broken _ _ _ _ _ q.there (omega arith) (rw (p.table, p.from, p.to) at c.in-Err.ensures.0)

pub returns : goal.returns
unfolding map_says mapping_of
returns c =
    let q = c.in-Some.ensures in
    let g = c.prepare-prepared.ensures in
    let p = prepared_for q g.prepared g.table g.source g.target in
    is_a_map _ _ _ _ _ q.there (omega arith) (rw (p.table, p.from, p.to) at c.in_default-judge_map.ensures.0) c.write_images.ensures
