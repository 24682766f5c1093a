-- `order::Precedence::through` meets its contract. Assumes nothing.
use borrow.Author.Rules.{rules}
use mathlib.Core.Path.{◌≡◌, sym, ◌∙◌}
use Rattle.order.proofs.Closing.{partly_skip, partly_join, partly_all}
use Rattle.order.proofs.Precedence.through.Goals as goal
use Rattle.order.proofs.Precedence.through.Goals.{then-has, else-has}

pub loop-a-preserved : goal.loop-a-preserved
loop-a-preserved c =
    let l = c.loop-a in
    let k = c.args.k in
    let seen = c.has.ensures in
    elim c.if-has.branch [
      | then-has w ↦ let set = sym seen ∙ w.if-has.true in
          rw (w.self-is, w.join.ensures)
          (search rules, partly_join _ k _ _ l.invariant.1 (search rules) (search rules) set)
      | else-has w ↦ rw w.self-is
          (search rules, partly_skip _ k _ _ l.invariant.1 (search rules) (sym seen ∙ w.if-has.false))
    ]

pub returns : goal.returns
returns c =
    let all : c.loop-a.a ≡ c.args.n = search rules in
    partly_all _ _ c.loop-a.a _ (search rules) (rw all c.requires.1) c.loop-a.invariant.1
