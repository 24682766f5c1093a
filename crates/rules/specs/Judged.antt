-- What judging a skeleton says: its first fault, or that it is right.
use Rattle.std.specs.Prelude.{◌≡◌, Bool, true, false, ℕ, ◌<◌, Result, Ok, Err}
use mathlib.Core.List.{List, Memᴰ}
use Rattle.terms.specs.declared.Term.{Term}
use Rattle.terms.specs.declared.TermSet.{TermSet}
use Rattle.model.specs.declared.Reason.{Reason}
use Rattle.model.specs.Table.{term}
use Rattle.model.specs.Skeleton.{Node, recv, Skeleton, At}
use Rattle.model.specs.Sheet.{Drawing, meant}
use Rattle.model.specs.Accepting.{Cyclic, Carried, Missing, Early, OneStrand, NonRight, UniqRight}
use Rattle.model.specs.Accepting as Accepting
use Rattle.model.specs.Says.{number_of}
use Rattle.tables.specs.Tables.{rows_in, skeleton_at}
use Rattle.carry.specs.Sets.{IsCarried, IsParts, IsVariables}
use Rattle.origin.specs.Marked.{IsMessages}
use Rattle.order.specs.Precedence.{on, code}
use Rattle.rules.specs.declared.Fault.{Fault}

-- what the messages of the events carry, what occurs in them, and the variables of the table
pub record Heard (t : List ℕ) (b : ℕ) (C H X : TermSet) : Type 0 where
  pub said : TermSet
  pub messages : IsMessages (skeleton_at t b) said
  pub carried : IsCarried (rows_in t) said C
  pub heard : IsParts (rows_in t) said H
  pub variables : IsVariables (rows_in t) X

module _ (D : Drawing) where
  -- the refusal that a NO atom is due, if any
  pub data NonAs (a : ℕ) : Result (Unit {0}) Reason → Type 0 where
    fine : NonRight D a → NonAs a (Ok tt)
    missing : Missing (meant D) (term D.rows a) → NonAs a (Err Reason.VariableMissing)
    carried : Carried (meant D) (term D.rows a) → NonAs a (Err Reason.NonCarried)

  -- the refusal that a UO atom is due, if any
  pub data UniqAs (a : ℕ) : Result (Unit {0}) Reason → Type 0 where
    fine : UniqRight D a → UniqAs a (Ok tt)
    not_one : ¬ OneStrand (meant D) (term D.rows a) → UniqAs a (Err Reason.NoSingleOrigin)
    early : OneStrand (meant D) (term D.rows a) → Early (meant D) (term D.rows a) → UniqAs a (Err Reason.HeardBeforeOrigin)

  -- the UO atoms come up: precedence has no cycle, and the NO atoms are right
  pub record UniqsTurn : Type 0 where
    pub acyclic : ¬ Cyclic (meant D)
    pub nons : (a : ℕ) → Memᴰ a D.skeleton.non → NonRight D a

  -- the refusal's number and its place
  abbrev pub FaultIs : Fault → Type 0
  FaultIs f = Accepting.Fault D (number_of f.reason) f.place

  -- the first fault among the NO atoms, where precedence has no cycle; among the UO atoms, where the NO atoms are right; of all
  pub data NonsAs : Result (Unit {0}) Fault → Type 0 where
    right : ((a : ℕ) → Memᴰ a D.skeleton.non → NonRight D a) → NonsAs (Ok tt)
    faulty : {f : Fault} → FaultIs f → NonsAs (Err f)

  pub data UniqsAs : Result (Unit {0}) Fault → Type 0 where
    right : ((a : ℕ) → Memᴰ a D.skeleton.uniq → UniqRight D a) → UniqsAs (Ok tt)
    faulty : {f : Fault} → FaultIs f → UniqsAs (Err f)

  pub data JudgedAs : Result (Unit {0}) Fault → Type 0 where
    right : Accepting.Right D → JudgedAs (Ok tt)
    faulty : {f : Fault} → FaultIs f → JudgedAs (Err f)

-- Of the terms below n that a set has, judged by rising number. J says what judging answers
module _ (n : ℕ) (has : ℕ → Bool) (J : Term → Result (Unit {0}) Reason → Type 0) where
  -- those below i are fine
  pub record FineBelow (i : ℕ) : Type 0 where
    pub fine : (t : Term) → t.0 < i → has t.0 ≡ true → J t (Ok tt)

  -- the first that is not
  pub data FirstAs : Result (Unit {0}) Fault → Type 0 where
    none : FineBelow n → FirstAs (Ok tt)
    one : {f : Fault} (t : Term) → f.place ≡ t.0 → t.0 < n → has t.0 ≡ true → J t (Err f.reason) → FineBelow t.0
        → FirstAs (Err f)

-- whether every reception with a marked message comes after the node
module _ (K : Skeleton ℕ) (marks : ℕ → Bool) (before : List ℕ) (n : Node) where
  abbrev pub After : Node → Type 0
  After m = on before (code n) (code m) ≡ true

  -- of the receptions at the nodes with P
  pub data ArriveAs (P : Node → Type 0) : Bool → Type 0 where
    all : ((m : Node) (u : ℕ) → P m → At K m (recv u) → marks u ≡ true → After m) → ArriveAs P true
    one_early : {m : Node} {u : ℕ} → At K m (recv u) → marks u ≡ true → on before (code n) (code m) ≡ false → ArriveAs P false
