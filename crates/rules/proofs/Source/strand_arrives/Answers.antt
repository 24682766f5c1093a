-- `rules::Source::strand_arrives` meets its contract: it asks each node below the strand's height. Assumes nothing.
use borrow.Author.Rules.{rules}
use mathlib.Core.Path.{◌≡◌, refl}
use mathlib.Core.Bool.{Bool}
use Prim.Native.Nat.{ℕ}
use native.Mathlib.Omega.{arith}
use Rattle.std.proofs.lemmas.Iterator.{YieldsList-from_range}
use Rattle.terms.specs.Set.{mem}
use Rattle.model.specs.Says.{node_of}
use Rattle.tables.specs.Tables.{skeleton_at}
use Rattle.origin.specs.Marked.{node}
use Rattle.rules.specs.Judged.{ArriveAs}
use Rattle.rules.proofs.Asked.{all_asked}
use Rattle.rules.proofs.Arriving.{arrive_all, arrive_same, on_strand}
use Rattle.rules.proofs.Source.strand_arrives.Goals as goal

pub returns : goal.returns
returns c =
    let self = c.args.self.now in
    let K = skeleton_at self.skeleton.table.now self.skeleton.block in
    let s = c.args.strand.0 in
    let h = c.height.result in
    arrive_all (λ k m. m ≡ node s k) h (on_strand _ _ s h c.height.ensures.0)
    (all_asked _ _ c.all.result h
    (λ (k : ℕ) (b : Bool). ArriveAs K (mem self.marks.now) self.before.now.words (node_of self.origin) (λ m. m ≡ node s k) b)
    c.all.ensures.ran (YieldsList-from_range 0 h h refl (omega arith)) (λ x b q k. ((λ i. (k.met.1.0 i, k.met.1.1 i)), search (rules, arrive_same))))
