-- `maps::rule_two` meets its contract. Assumes nothing.
use Rattle.std.proofs.Common.{ℕ, ◌<◌, length, get_or, sym, arith, rules, below_more}
use mathlib.Core.Bool.{true≢false}
use Rattle.theory.specs.Tests.{was_no}
use Rattle.maps.specs.Strands.{StrandKept}
use Rattle.maps.proofs.Answers.{granted, refused}
use Rattle.maps.proofs.Keeping.{full, inside, strands_laid, strands_kept, strand_kept}
use Rattle.maps.proofs.rule_two.Goals as goal

pub overflow_cast-s : goal.overflow_cast-s
overflow_cast-s c =
    let s = c.args.sides in
    let all = full s.table.now s.source s.target c.args.map.now c.requires in
    omega (arith, s.drawn.0.block.strands)

pub strand_kept-requires : goal.strand_kept-requires
strand_kept-requires c =
    let s = c.args.sides in
    let all = full s.table.now s.source s.target c.args.map.now c.requires in
    (search rules, inside s.table.now s.source s.target c.args.map.now c.requires c.loop-s.s (search rules))

pub returns-then-not-strand_kept : goal.returns-then-not-strand_kept
returns-then-not-strand_kept c =
    let s = c.args.sides in
    let no = was_no {P = StrandKept s.table.now s.source s.target c.loop-s.s (get_or c.args.map.now c.loop-s.s 0)}
    c.strand_kept.ensures c.if-not-strand_kept.true in
    record {
      tells2 = refused (λ two. no (strand_kept _ _ _ c.args.map.now c.requires two _ (search rules)));
      laid = λ e. absurd (true≢false (sym e));
    }

pub loop-s-preserved : goal.loop-s-preserved
loop-s-preserved c = below_more _ _ c.loop-s.invariant (c.strand_kept.ensures.0 c.if-not-strand_kept.false)

pub returns : goal.returns
returns c =
    let s = c.args.sides in
    let map = c.args.map.now in
    let all : (k : ℕ) → k < length map → StrandKept s.table.now s.source s.target k (get_or map k 0) =
    λ k h. c.loop-s.invariant k (search rules) in
    record {
      tells2 = granted (strands_kept _ _ _ map c.requires all);
      laid = λ e. strands_laid _ _ _ map c.requires all;
    }
