-- `carry::loose_at` meets its contract: the bytes are those of the row. Assumes nothing.
use mathlib.Core.Path.{◌≡◌, refl, sym, ◌∙◌}
use mathlib.Core.Bool.{true, false, true≢false, and-false, or-false}
use lib.Dec.{eqb}
use Rattle.std.specs.Ordering.{partial_lt}
use Rattle.tables.specs.Kinds.{code}
use Rattle.tables.specs.declared.kinds.Kind.{Kind}
use Rattle.tables.specs.contracts.kinds.KindPartialOrd.TheImpl.{partial_cmp-value}
use Rattle.carry.specs.Next.{part_carries, loose_next}
use Rattle.carry.proofs.loose_at.Goals as goal

-- a kind below pairs is that of neither a pair nor an encryption
low : (k : Kind) → partial_lt partial_cmp-value.it k Kind.Pair ≡ true → (eqb (code k) 10 ≡ false) × (eqb (code k) 11 ≡ false)
low Kind.Pair e = absurd (true≢false (sym e))
low Kind.Encryption e = absurd (true≢false (sym e))
low Kind.Hash e = absurd (true≢false (sym e))
low _ e = (refl, refl)

pub returns-then-lt : goal.returns-then-lt
unfolding loose_next part_carries
returns-then-lt c =
    let e = c.requires.0.encoded c.args.inside.0 c.requires.1 in
    let neither = low c.kind_at-kind.result (sym c.lt.ensures ∙ c.if-lt.true) in
    rw (c.eq.ensures, e.kind_is, ← c.kind_at-kind.ensures, neither.0, neither.1, and-false, or-false)

pub returns : goal.returns
unfolding loose_next part_carries
returns c =
    let e = c.requires.0.encoded c.args.inside.0 c.requires.1 in
    rw (
      c.eq-2.ensures,
      c.has.ensures,
      c.has-first.ensures,
      c.has-second.ensures,
      c.first_at.ensures,
      c.second_at.ensures,
      c.is.ensures,
      c.is-2.ensures,
      c.kind_at-kind.ensures,
      e.kind_is,
      e.first_is,
      e.second_is,
    )
