-- `mapping::prepared::Atoms::find_origins` meets its contract: the terms that were passed are looked at. Assumes nothing.
use mathlib.Core.Path.{◌≡◌, refl, sym, ap, ◌∙◌}
use Prim.Native.Nat.{◌<◌}
use native.Mathlib.Omega.{arith}
use borrow.Author.Rules.{rules}
use lib.ListN.{length, length-set}
use Rattle.terms.specs.declared.TermSet.{TermSet}
use Rattle.terms.specs.Set.{mem}
use Rattle.tables.proofs.Look.{count_is}
use Rattle.mapping.proofs.Starting.{starts_none, starts_more, starts_out, all_origins}
use Rattle.mapping.proofs.prepared.Atoms.find_origins.Goals as goal
use Rattle.mapping.proofs.prepared.Atoms.find_origins.Goals.{then-has, else-has}

pub loop-a-init : goal.loop-a-init
loop-a-init c = (refl, refl, search rules, starts_none)

pub loop-a-preserved : goal.loop-a-preserved
loop-a-preserved c =
    let l = c.loop-a in
    let (nons, uniqs, long, below) = l.invariant in
    let h : l.a < length l.self.origins = omega (arith, long, c.args.skeleton.drawn.filled.terms) in
    let same : mem l.self.uniqs l.a ≡ mem c.args.self.now.uniqs l.a = ap (λ (s : TermSet). mem s l.a) uniqs in
    elim c.if-has.branch [
      | then-has w ↦ rw (w.self-is, w.from.ensures)
          (nons, uniqs, simp length-set long, starts_more h below w.origin_of.ensures)
      | else-has w ↦ rw w.self-is
          (nons, uniqs, long, starts_out below (sym same ∙ sym c.has.ensures ∙ w.if-has.false))
    ]

pub returns : goal.returns
returns c =
    let (nons, uniqs, long, below) = c.loop-a.invariant in
    let d = c.args.skeleton.drawn in
    record {
      same = (nons, uniqs);
      origins = all_origins d.on_table c.requires.right c.requires.uniqs (omega (arith, count_is c.args.skeleton.table.now)) below;
    }
