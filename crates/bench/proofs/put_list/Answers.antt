-- `bench::put_list` meets its contract: as many maps as fit into the space have room as lines. Assumes nothing.
use native.Mathlib.Omega.{arith}
use borrow.Author.Rules.{rules}
use Rattle.bench.proofs.Telling.{refused_then, list_refused, list_listed, maps_fit}
use Rattle.lines.proofs.Puts.{put_length}
use Rattle.bench.proofs.put_list.Goals as goal

pub put_maps-requires : goal.put_maps-requires
put_maps-requires c =
    let fit =
    maps_fit c.args.space.now _ c.in-Ok.is c.list-answer.ensures.0 c.list-answer.ensures.1 c.strands.ensures
    (search rules) in
    (omega (arith, fit), omega (arith, fit, c.maps_line.ensures.text.short, put_length c.maps_line.ensures.text.put))

pub returns-in_default-clause-text : goal.returns-in_default-clause-text
returns-in_default-clause-text c =
    let (r, e) = refused_then _ c.in_default.not-Ok in
    list_refused r e c.list-answer.ensures.0 c.maps_line.ensures.text

pub returns-clause-text : goal.returns-clause-text
returns-clause-text c =
    list_listed _ c.in-Ok.is c.list-answer.ensures.0 c.maps_line.ensures.text c.strands.ensures c.put_maps.ensures.text
