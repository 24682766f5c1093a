-- `questions::skeleton_heard` meets its contract. Assumes nothing.
use borrow.Author.Rules.{rules}
use mathlib.Core.Path.{◌≡◌}
use Rattle.std.specs.Prelude.{Some}
use Rattle.terms.specs.declared.Term.{Term}
use Rattle.tables.specs.declared.blocks.Event.{Event}
use Rattle.model.specs.Says.{node_of}
use Rattle.origin.proofs.Nodes.{is_received, not_received}
use Rattle.questions.proofs.Subjects.{nothing_heard, heard_there}
use Rattle.questions.proofs.skeleton_heard.Goals as goal
use Rattle.questions.proofs.skeleton_heard.Goals.{in_default-via-in-Some+in_default, in_default-via-in_default}

pub returns-in_default : goal.returns-in_default
returns-in_default c =
    let a = c.args in
    let (e, b, h) = c.in_ok-skeleton.ensures in
    let other : (t : Term) → c.event_at.result ≡ Some (Event.Reception t) → ⊥ =
    λ t s. elim c.in_default.branch [
      | in_default-via-in-Some+in_default w ↦ search rules
      | in_default-via-in_default w ↦ search rules
    ] in
    nothing_heard a.sheet.table.now a.skeleton c.in_ok-skeleton.skeleton e b (node_of a.node)
    (not_received c.event_at.result other c.event_at.ensures)

pub returns : goal.returns
returns c =
    let a = c.args in
    let (e, b, h) = c.in_ok-skeleton.ensures in
    let at = is_received (rw c.in-Some-Reception.field-0-is at c.in-Some-Reception.ensures) in
    (e, b, heard_there a.sheet.table.now a.skeleton c.in_ok-skeleton.skeleton e b (node_of a.node) h at)
