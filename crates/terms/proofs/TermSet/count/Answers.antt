-- `terms::TermSet::count` meets its contract: the bits of four words are counted.
use mathlib.Core.Path.{◌≡◌, sym}
use native.Mathlib.Omega.{arith}
use borrow.Author.Rules.{rules}
use Rattle.terms.proofs.Count.{count_none}
use Rattle.terms.proofs.Words.{count_word, member_small}
use Rattle.terms.proofs.TermSet.count.Goals as goal

pub loop-w-init : goal.loop-w-init
loop-w-init c = (sym (count_none _), omega arith)

pub loop-w-preserved : goal.loop-w-preserved
loop-w-preserved c = (
  omega (arith, count_word c.args.self.now.words c.loop-w.w-index c.loop-w-test.element_fits.fits),
  search rules,
)

pub returns : goal.returns
returns c =
    let four : c.loop-w.w-index ≡ 4 = omega arith in
    record {
      exact = rw four at c.loop-w.invariant.0;
      most = omega arith;
      small = member_small c.args.self.now.words (search rules);
    }
