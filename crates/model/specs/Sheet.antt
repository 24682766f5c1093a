-- A sheet as it is read, a refusal, and a verdict.
use Rattle.std.specs.Prelude.{◌≡◌, List, ℕ}
use Rattle.std.proofs.Math.Option.{some}
use Rattle.std.proofs.Math.ListN.{get_elem?}
use Rattle.model.specs.Term.{Term}
use Rattle.model.specs.Table.{Row, term}
use Rattle.model.specs.Skeleton.{Skeleton, means}

pub record Sheet : Type 0 where
  pub rows : List Row
  pub skeletons : List (Skeleton ℕ)

-- "A refusal is its number, its place and a skeleton number (the faulty skeleton for 10 to 14, else 0)"
pub record Refusal : Type 0 where
  pub number : ℕ
  pub place : ℕ
  pub skeleton : ℕ

pub data Verdict : Type 0 where
  refused : Refusal → Verdict
  accepted : Sheet → Verdict

-- the terms and one skeleton: all that a question about that skeleton may look at
pub record Drawing : Type 0 where
  pub rows : List Row
  pub skeleton : Skeleton ℕ

-- with terms in place of their numbers
unfoldable pub meant : Drawing → Skeleton Term
unfolding means term
meant D = means (term D.rows) D.skeleton

-- D is skeleton k of the sheet, with the sheet's terms
pub record HasSkeleton (k : ℕ) (s : Sheet) (D : Drawing) : Type 0 where
  pub rows : s.rows ≡ D.rows
  pub skeleton : get_elem? s.skeletons k ≡ some D.skeleton
