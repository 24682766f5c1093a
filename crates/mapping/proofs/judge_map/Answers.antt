-- `mapping::judge_map` meets its contract: the rules' tests in order. Assumes nothing.
use borrow.Author.Rules.{rules}
use Rattle.maps.proofs.Starting.{origins_start}
use Rattle.mapping.proofs.Judging.{breaks_1, breaks_2, breaks_3, breaks_4, breaks_5, breaks_6, all_hold, full, nons_tell, uniqs_tell, kept_to_2, kept_to_3}
use Rattle.mapping.proofs.judge_map.Goals as goal

pub returns-then-not-rule_one : goal.returns-then-not-rule_one
returns-then-not-rule_one c = (breaks_1 _ _ _ _ _ c.rule_one.ensures (cc), search rules)

pub rule_two-requires : goal.rule_two-requires
rule_two-requires c = c.rule_one.ensures.0 (cc)

pub returns-then-not-rule_two : goal.returns-then-not-rule_two
returns-then-not-rule_two c = (breaks_2 _ _ _ _ _ (c.rule_one.ensures.0 (cc)) c.rule_two.ensures.tells2 (cc), search rules)

pub matches-requires : goal.matches-requires
matches-requires c = record { inverted = c.requires.asked.inverted; laid = c.rule_two.ensures.laid (cc) }

pub returns-then-not-matches : goal.returns-then-not-matches
returns-then-not-matches c =
    let two = kept_to_2 _ _ _ _ (c.rule_one.ensures.0 (cc)) c.rule_two.ensures.tells2 (cc) in
    (breaks_3 _ _ _ _ _ two c.matches.ensures.0 (cc), c.matches.ensures.1)

pub rule_four-requires : goal.rule_four-requires
rule_four-requires c =
    record { kept_to2 = kept_to_2 _ _ _ _ (c.rule_one.ensures.0 (cc)) c.rule_two.ensures.tells2 (cc); shows = c.requires.matrix }

pub returns-then-not-rule_four : goal.returns-then-not-rule_four
returns-then-not-rule_four c =
    let two = kept_to_2 _ _ _ _ (c.rule_one.ensures.0 (cc)) c.rule_two.ensures.tells2 (cc) in
    (breaks_4 _ _ _ _ _ (kept_to_3 _ _ _ _ _ two c.matches.ensures.0 (cc)) c.rule_four.ensures (cc), c.matches.ensures.1)

-- Rules 5 and 6, of the images

pub images_of-images-requires : goal.images_of-images-requires
images_of-images-requires c =
    let asked = c.requires.asked in
    record { filled = asked.source.filled; good = asked.source.good; inverted = asked.inverted }

pub returns-then-not-rule_five : goal.returns-then-not-rule_five
returns-then-not-rule_five c =
    let two = kept_to_2 _ _ _ _ (c.rule_one.ensures.0 (cc)) c.rule_two.ensures.tells2 (cc) in
    let three = kept_to_3 _ _ _ _ _ two c.matches.ensures.0 (cc) in
    let is = c.images_of-images.ensures in
    let five = nons_tell _ c.requires _ _ (rw (is.0, is.1) at c.rule_five.ensures) three in
    (breaks_5 _ _ _ _ _ three c.rule_four.ensures (cc) five (cc), c.matches.ensures.1)

pub rule_six-requires : goal.rule_six-requires
rule_six-requires c =
    let p = c.requires in
    let source = p.asked.source in
    let is = c.uniques.ensures in
    rw (is.0, is.1) (origins_start source.good source.on_table p.source_atoms.uniqs p.source_atoms.origins
    (full _ _ _ _ (c.rule_one.ensures.0 (cc))))

pub returns-then-not-rule_six : goal.returns-then-not-rule_six
returns-then-not-rule_six c =
    let two = kept_to_2 _ _ _ _ (c.rule_one.ensures.0 (cc)) c.rule_two.ensures.tells2 (cc) in
    let three = kept_to_3 _ _ _ _ _ two c.matches.ensures.0 (cc) in
    let is = c.images_of-images.ensures in
    let five = nons_tell _ c.requires _ _ (rw (is.0, is.1) at c.rule_five.ensures) three in
    let from = c.uniques.ensures in
    let to = c.uniques-2.ensures in
    let six = uniqs_tell _ c.requires _ _ (rw (is.0, is.1, from.0, from.1, to.0, to.1) at c.rule_six.ensures) three in
    (breaks_6 _ _ _ _ _ three c.rule_four.ensures (cc) five (cc) six (cc), c.matches.ensures.1)

pub returns : goal.returns
returns c =
    let two = kept_to_2 _ _ _ _ (c.rule_one.ensures.0 (cc)) c.rule_two.ensures.tells2 (cc) in
    let three = kept_to_3 _ _ _ _ _ two c.matches.ensures.0 (cc) in
    let is = c.images_of-images.ensures in
    let five = nons_tell _ c.requires _ _ (rw (is.0, is.1) at c.rule_five.ensures) three in
    let from = c.uniques.ensures in
    let to = c.uniques-2.ensures in
    let six = uniqs_tell _ c.requires _ _ (rw (is.0, is.1, from.0, from.1, to.0, to.1) at c.rule_six.ensures) three in
    (all_hold _ _ _ _ _ three c.rule_four.ensures (cc) five (cc) six (cc), c.matches.ensures.1)
