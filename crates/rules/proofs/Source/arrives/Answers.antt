-- `rules::Source::arrives` meets its contract: it asks each strand. Assumes nothing.
use borrow.Author.Rules.{rules}
use mathlib.Core.Path.{◌≡◌, refl}
use mathlib.Core.Bool.{Bool}
use Prim.Native.Nat.{ℕ}
use native.Mathlib.Omega.{arith}
use Rattle.std.proofs.lemmas.Iterator.{YieldsList-from_range}
use Rattle.terms.specs.Set.{mem}
use Rattle.model.specs.Says.{node_of}
use Rattle.tables.specs.Tables.{skeleton_at}
use Rattle.rules.specs.Judged.{ArriveAs}
use Rattle.rules.proofs.Asked.{all_asked}
use Rattle.rules.proofs.Arriving.{arrive_all, arrive_same}
use Rattle.rules.proofs.Source.arrives.Goals as goal

pub returns : goal.returns
returns c =
    let self = c.args.self.now in
    let K = skeleton_at self.skeleton.table.now self.skeleton.block in
    let n = c.strand_count.result in
    arrive_all (λ k m. m.strand ≡ k) n (λ m e a p. (m.strand, rw c.strand_count.ensures.0 p, refl))
    (all_asked _ _ c.all.result n
    (λ (k : ℕ) (b : Bool). ArriveAs K (mem self.marks.now) self.before.now.words (node_of self.origin) (λ m. m.strand ≡ k) b)
    c.all.ensures.ran (YieldsList-from_range 0 n n refl (omega arith))
    (λ x b q k. ((λ i. record { 0 = k.met.1 i }), search (rules, arrive_same))))
