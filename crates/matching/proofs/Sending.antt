-- What is compared and demanded where a term goes to another, read from the table's bytes.
use mathlib.Core.Path.{◌≡◌, sym as back}
use mathlib.Core.Bool.{Bool, true, false, ◌&&◌}
use mathlib.Core.List.{List}
use Prim.Native.Nat.{ℕ, ◌+◌, ◌<◌}
use lib.Dec.{eqb, leb}
use lib.ListN.{length}
use borrow.Author.Tests.{ne_eqb}
use Rattle.tables.proofs.Look.{count_is, kind_is, first_is, second_is}
use Rattle.tables.specs.Layout.{firsts, seconds, term_count}
use Rattle.tables.specs.Tables.{byte, rows_in, Filled}
use Rattle.keys.specs.Inverted.{Inverted}
use Rattle.matching.specs.Ready.{Terms}
use Rattle.matching.specs.Pass.{and_then, demand, demands, may_be, heads, heads_fit, Ends}
use Rattle.matching.specs.Pass.{first_to, second_wishes, part_wishes}
use Rattle.matching.proofs.Rows.{parts_none, parts_some}
use Rattle.matching.proofs.Outcomes.{at_once, ends_stopped, ends_went, demand_alone}

-- the term p goes to u
module _ {t : List ℕ} (filled : Filled t) {p u : ℕ} (terms : Terms t p u) where
  abbrev h : p < byte t term_count
  h = terms.source

  abbrev k : u < byte t term_count
  k = terms.target

  pub tag_fits : byte t p ≡ 0 → eqb u p ≡ heads_fit (rows_in t) p u
  unfolding heads
  tag_fits e = rw (kind_is t p filled h, e)

  pub inverse_fits : {r : Bool} → byte t p ≡ 8 → r ≡ may_be 6 (byte t u) → r ≡ heads_fit (rows_in t) p u
  unfolding heads
  inverse_fits e q = rw (kind_is t p filled h, e, kind_is t u filled k) q

  pub other_fits : {r : Bool} → ¬ (byte t p ≡ 0) → ¬ (byte t p ≡ 8) → r ≡ may_be (byte t p) (byte t u)
      → r ≡ heads_fit (rows_in t) p u
  unfolding heads
  other_fits n m q = rw (kind_is t p filled h, ne_eqb (byte t p) 0 n, ne_eqb (byte t p) 8 m, kind_is t u filled k) q

  pub inverse_to : {inverses : List ℕ} → Inverted (rows_in t) inverses → byte t p ≡ 8 → byte inverses u ≡ first_to (rows_in t) p u
  unfolding first_to
  inverse_to i e = rw (kind_is t p filled h, e) (i.at u (rw (count_is t) k))

  pub other_to : ¬ (byte t p ≡ 8) → byte t (firsts + u) ≡ first_to (rows_in t) p u
  unfolding first_to
  other_to n = rw (kind_is t p filled h, ne_eqb (byte t p) 8 n) (back (first_is t u filled k))

  pub no_second : (leb 9 (byte t p) && leb (byte t p) 11) ≡ false → {l : List ℕ} → length l ≡ 200
      → Ends (demands (second_wishes (rows_in t) p u) l) l true
  unfolding second_wishes demands
  no_second e long = at_once (rw (kind_is t p filled h, e)) long

  pub asks_second : (leb 9 (byte t p) && leb (byte t p) 11) ≡ true → (l : List ℕ) {m : List ℕ} {r : Bool}
      → Ends (demand (byte t (seconds + p), byte t (seconds + u)) l) m r
      → Ends (demands (second_wishes (rows_in t) p u) l) m r
  unfolding second_wishes
  asks_second e l step = rw (kind_is t p filled h, e, second_is t p filled h, second_is t u filled k) (demand_alone _ l step)

  pub no_parts : leb 7 (byte t p) ≡ false → {l : List ℕ} → length l ≡ 200 → Ends (demands (part_wishes (rows_in t) p u) l) l true
  unfolding demands
  no_parts e long = at_once (rw (parts_none (rows_in t) u p (rw (kind_is t p filled h) e))) long

  module _ (more : leb 7 (byte t p) ≡ true) (x : ℕ) (is : x ≡ first_to (rows_in t) p u) (l : List ℕ) {m : List ℕ} {r : Bool}
      (step : Ends (demand (byte t (firsts + p), x) l) m r) where
    split : and_then (demand (byte t (firsts + p), x) l) (demands (second_wishes (rows_in t) p u))
        ≡ demands (part_wishes (rows_in t) p u) l
    unfolding demands
    split =
        rw (parts_some (rows_in t) u p (rw (kind_is t p filled h) more), first_is t p filled h, is)

    pub first_clashes : r ≡ false → Ends (demands (part_wishes (rows_in t) p u) l) m false
    first_clashes e = ends_stopped (demands (second_wishes (rows_in t) p u)) step e split

    pub first_asked : r ≡ true → {n : List ℕ} {s : Bool} → Ends (demands (second_wishes (rows_in t) p u) m) n s
        → Ends (demands (part_wishes (rows_in t) p u) l) n s
    first_asked e rest = rw (← split) (ends_went (demands (second_wishes (rows_in t) p u)) step e rest)
