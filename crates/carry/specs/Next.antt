-- What one visit of a term computes, from its row and what is known of other terms.
use Rattle.std.specs.Prelude.{Bool, not, ◌&&◌, ◌||◌, ℕ, eqb, leb}
use Rattle.model.specs.Table.{Row, kind, first, second}

-- "a pair carries what either half carries; an encryption carries what its body carries"
unfoldable pub part_carries : (ℕ → Bool) → Row → Bool
part_carries known r = (eqb (kind r) 10 && (known (first r) || known (second r))) || (eqb (kind r) 11 && known (first r))

-- whether t is loose in the term i, whose row is r
unfoldable pub loose_next : (set known : ℕ → Bool) → ℕ → ℕ → Row → Bool
unfolding part_carries
loose_next set known t i r = eqb i t || (not (set i) && part_carries known r)

-- whether a row's first, or second, argument is a term that occurs in it
unfoldable pub has_first : Row → Bool
has_first r = leb 7 (kind r)

unfoldable pub has_second : Row → Bool
has_second r = leb 9 (kind r) && leb (kind r) 11

-- whether k is an argument of the row that occurs in its term
unfoldable pub is_part : Row → ℕ → Bool
unfolding has_first has_second
is_part r k = (has_first r && eqb k (first r)) || (has_second r && eqb k (second r))

-- whether k is an argument of the row that its term carries: either half of a pair, the body of an encryption
unfoldable pub is_carried : Row → ℕ → Bool
is_carried r k = ((eqb (kind r) 10 || eqb (kind r) 11) && eqb k (first r)) || (eqb (kind r) 10 && eqb k (second r))

-- whether k is in the set after the term i, whose row is r, was visited and gave the arguments with `part`
unfoldable pub parts_next : (part : Row → ℕ → Bool) → (start known : ℕ → Bool) → ℕ → Row → ℕ → Bool
parts_next part start known i r k = known k || ((start i || known i) && (eqb k i || part r k))

-- "1 to 6 are variables"
unfoldable pub is_variable : Row → Bool
is_variable r = leb 1 (kind r) && leb (kind r) 6
