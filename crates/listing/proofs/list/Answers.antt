-- `listing::list` meets its contract. Assumes nothing.
use Rattle.model.specs.Says.{list_says}
use Rattle.accept.proofs.Known.{stored_of}
use Rattle.mapping.proofs.Asking.{sides_asked, prepared_for}
use Rattle.mapping.proofs.Reading.{within_listed}
use Rattle.listing.proofs.Listing.{lacks_one, target_strand, search_told}
use Rattle.listing.proofs.list.Goals as goal

pub prepare-requires : goal.prepare-requires
prepare-requires c = sides_asked (stored_of c.args.sheet.stored) (within_listed _ c.requires) c.in-Some.ensures

pub new-search-requires : goal.new-search-requires
new-search-requires c =
    let g = c.prepare.ensures in
    let q = prepared_for c.in-Some.ensures g.prepared g.table g.source g.target in
    (q.prepared, rw (q.table, q.to) (target_strand _ _ _ c.args.space.now q.there c.requires))

pub returns-in_default : goal.returns-in_default
unfolding list_says
returns-in_default c = (rw c.from.ensures (lacks_one _ _ _ _ c.in_default.ensures), tt)

pub returns : goal.returns
unfolding list_says
returns c =
    let g = c.prepare.ensures in
    let q = prepared_for c.in-Some.ensures g.prepared g.table g.source g.target in
    let given = c.write_list.ensures in
    let new = c.new-search.ensures in
    (search_told _ _ _ _ _ c.requires new.searches (rw new.same q) c.find.ensures given.0, given.1)
