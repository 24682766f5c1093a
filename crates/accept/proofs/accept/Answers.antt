-- `accept::accept` meets its contract. Assumes nothing.
use Rattle.std.proofs.lemmas.Grind.{merely}
use Rattle.std.proofs.lemmas.Result.{err_from_is_err_and}
use Rattle.model.specs.Judging.{unread, judged}
use Rattle.model.specs.Says.{refusal_of}
use Rattle.theory.specs.Outcome.{read_raw}
use Rattle.accept.specs.Held.{Held}
use Rattle.accept.proofs.InTurn.{held_stored}
use Rattle.accept.proofs.accept.Goals as goal

pub accept_terms-requires : goal.accept_terms-requires
accept_terms-requires c = (c.in_default.ensures.filled, read_raw c.in_default.ensures.reads)

pub returns-in-Err : goal.returns-in-Err
unfolding refusal_of
returns-in-Err c = unread c.in-Err.ensures.reads

pub invariant_of-result : goal.invariant_of-result
invariant_of-result c =
    let (accepted, inverted, long) = c.in_ok-accept_terms.ensures in
    let held : Held c.args.bytes.now _ _ =
    record {
      verdict = judged c.in_default.ensures.reads accepted;
      filled = c.in_default.ensures.filled;
      inverted = inverted;
      inverses_long = long;
    } in
    record { stored = merely (held_stored held) }

pub returns-in_err-accept_terms : goal.returns-in_err-accept_terms
returns-in_err-accept_terms c =
    let p = err_from_is_err_and c.from_residual.result c.from_residual.ensures.1 in
    rw (p.1, p.2) (judged c.in_default.ensures.reads c.in_err-accept_terms.ensures)

pub returns : goal.returns
returns c =
    let (accepted, inverted, long) = c.in_ok-accept_terms.ensures in
    record {
      verdict = judged c.in_default.ensures.reads accepted;
      filled = c.in_default.ensures.filled;
      inverted = inverted;
      inverses_long = long;
    }
