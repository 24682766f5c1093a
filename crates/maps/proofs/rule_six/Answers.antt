-- `maps::rule_six` meets its contract. Assumes nothing.
use Rattle.std.proofs.Common.{◌<◌, arith, rules}
use Rattle.tables.specs.Tables.{rows_in}
use Rattle.maps.specs.Atoms.{OriginGoes}
use Rattle.maps.proofs.Sending.{found_all, origin_on, moved_on, judged_six}
use Rattle.maps.proofs.rule_six.Goals as goal

pub all-requires : goal.all-requires
all-requires c = λ a i h l m.
    let most = c.args.images.sheet.ready.filled.terms in
    let a_low : a < 200 = omega arith in
    let i_low : i < 200 = omega arith in
    let starts = c.requires.strand a m in
    search rules

pub returns : goal.returns
returns c =
    let ready = c.args.images.sheet.ready in
    let to = c.args.to in
    let map = c.args.map.now in
    let origins = c.args.from.origins.now in
    let targets = to.origins.now in
    judged_six ready.filled ready.good
    (found_all _ _ _ _ _ (OriginGoes (rows_in c.args.images.sheet.table.now) to.atoms map origins targets) (λ σ a w. moved_on w)
    (λ σ a i r m h means q. origin_on ready.good σ a i.0 h means to.atoms map origins targets (search rules)) c.all.ensures)
