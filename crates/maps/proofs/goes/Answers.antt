-- `maps::goes` meets its contract. Assumes nothing.
use Rattle.std.proofs.Common.{◌≡◌, sym, ◌∙◌}
use Rattle.maps.proofs.Answers.{same_nodes}
use Rattle.maps.proofs.goes.Goals as goal

pub returns-in-Some-Some : goal.returns-in-Some-Some
returns-in-Some-Some c =
    let here = c.in-Some-Some in
    let same = same_nodes c.moved.result here.m in (
      λ e. record {
        from = here.n;
        to = here.m;
        starts = here.is-0;
        ends = here.is-1;
        moves = sym c.moved.ensures ∙ same.0 (cc);
      },
      λ w.
          let n : w.from ≡ here.n = cc in
          let m : w.to ≡ here.m = cc in
          let equal = same.1 (c.moved.ensures ∙ rw (n, m) at w.moves) in
          cc,
    )
