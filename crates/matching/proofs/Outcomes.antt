-- Laws of outcomes: one step after another.
use mathlib.Core.Path.{◌≡◌, refl, ap, ◌∙◌, sym as back}
use mathlib.Core.Bool.{Bool, true, false}
use mathlib.Core.List.{List, [], ◌∷◌, ◌++◌}
use mathlib.Core.Option.{Option, none, some}
use Prim.Native.Nat.{ℕ, suc, ◌+◌, ◌-◌, ◌≤◌, ◌<◌}
use native.Mathlib.Omega.{arith}
use native.Mathlib.Numerals.{add-one}
use lib.Dec.{eqb}
use lib.ListN.{length, set, length-set}
use borrow.Author.Tests.{eq-eqb, ne_eqb, lt-ltb, le-ltb}
use Rattle.model.specs.Table.{Row}
use Rattle.theory.specs.Matching.{Wish}
use Rattle.tables.specs.Tables.{byte}
use Rattle.matching.specs.Pass.{and_then, demand, demands, heads_fit, part_wishes, sent, visit, pass, gather, Ends}

abbrev Outcome : Type 0
Outcome = Option (List ℕ)

-- nothing was to be done
pub at_once : {l : List ℕ} {o : Outcome} → o ≡ some l → length l ≡ 200 → Ends o l true
at_once e h = record { gives = e; long = h }

-- a step, and what comes after it
module _ {o : Outcome} {m : List ℕ} {r : Bool} (f : List ℕ → Outcome) (step : Ends o m r) where
  pub stopped : r ≡ false → and_then o f ≡ none
  unfolding and_then
  stopped e = rw (step.gives, e)

  pub went : r ≡ true → and_then o f ≡ f m
  unfolding and_then
  went e = rw (step.gives, e)

-- a step ends the whole
pub ends_stopped : {o whole : Outcome} {m : List ℕ} {r : Bool} (f : List ℕ → Outcome) → Ends o m r → r ≡ false
    → and_then o f ≡ whole → Ends whole m false
ends_stopped f step e q = record { gives = back q ∙ stopped f step e; long = step.long }

pub ends_went : {o : Outcome} {m l : List ℕ} {r s : Bool} (f : List ℕ → Outcome) → Ends o m r → r ≡ true → Ends (f m) l s
    → Ends (and_then o f) l s
ends_went f step e rest = record { gives = went f step e ∙ rest.gives; long = rest.long }

-- A demand, where there is no image yet, and where there is one

module _ (q t : ℕ) (l : List ℕ) (long : length l ≡ 200) where
  pub demand_noted : byte l q ≡ 255 → Ends (demand (q, t) l) (set l q t) true
  unfolding demand
  demand_noted e = record { gives = rw (eq-eqb (byte l q) 255 e); long = length-set l q t ∙ long }

  pub demand_held : (byte l q ≡ 255 → ⊥) → Ends (demand (q, t) l) l (eqb (byte l q) t)
  unfolding demand
  demand_held e = record { gives = rw (ne_eqb (byte l q) 255 e); long = long }

-- one demand is all
and_then_some : (o : Outcome) → and_then o some ≡ o
unfolding and_then
and_then_some none = refl
and_then_some (some l) = refl

pub demand_alone : (w : Wish) (l : List ℕ) {m : List ℕ} {r : Bool} → Ends (demand w l) m r → Ends (demands (w ∷ []) l) m r
unfolding demands
demand_alone w l step = record { gives = and_then_some (demand w l) ∙ step.gives; long = step.long }

and_then_twice : (o : Outcome) (f g h : List ℕ → Outcome) → ((l : List ℕ) → f l ≡ and_then (g l) h)
    → and_then o f ≡ and_then (and_then o g) h
unfolding and_then
and_then_twice none f g h e = refl
and_then_twice (some l) f g h e = e l

demands_append : (ws vs : List Wish) (l : List ℕ) → demands (ws ++ vs) l ≡ and_then (demands ws l) (demands vs)
unfolding demands and_then
demands_append [] vs l = refl
demands_append (w ∷ ws) vs l = and_then_twice (demand w l) (demands (ws ++ vs)) (demands ws) (demands vs) (demands_append ws vs)

-- A loop that counts i up to n: what is left to demand ends as the whole does

pub record ToDemand (f : ℕ → List Wish) (n i : ℕ) (l : List ℕ) (whole : Outcome) : Type 0 where
  pub left : demands (gather f i (n - i)) l ≡ whole
  pub long : length l ≡ 200

module _ {f : ℕ → List Wish} {n : ℕ} {l : List ℕ} where
  pub gather_begun : length l ≡ 200 → ToDemand f n 0 l (demands (gather f 0 n) l)
  gather_begun h = let e : n - 0 ≡ n = omega arith in record { left = rw e; long = h }

module _ {f : ℕ → List Wish} {n i : ℕ} {l : List ℕ} {whole : Outcome} (todo : ToDemand f n i l whole) where
  rest : List ℕ → Outcome
  rest = demands (gather f (i + 1) (n - (i + 1)))

  gather_next : i < n → and_then (demands (f i) l) rest ≡ whole
  unfolding gather rest
  gather_next h =
      let e : n - i ≡ suc (n - (i + 1)) = omega arith in
      let q : demands (f i ++ gather f (suc i) (n - (i + 1))) l ≡ whole = rw e at todo.left in
      rw (add-one i) (back (demands_append (f i) (gather f (suc i) (n - suc i)) l) ∙ rw (add-one i) at q)

  module _ {m : List ℕ} {r : Bool} (h : i < n) (step : Ends (demands (f i) l) m r) where
    pub gather_stopped : r ≡ false → Ends whole m false
    gather_stopped e = ends_stopped rest step e (gather_next h)

    pub gather_went : r ≡ true → ToDemand f n (i + 1) m whole
    unfolding rest
    gather_went e = record { left = back (went rest step e) ∙ gather_next h; long = step.long }

  pub gather_done : n ≤ i → Ends whole l true
  unfolding gather demands
  gather_done h =
      let e : n - i ≡ 0 = omega arith in
      at_once (back todo.left ∙ rw e) todo.long

-- A loop that counts p down to 0

pub record ToVisit (rows : List Row) (p : ℕ) (l : List ℕ) (whole : Outcome) : Type 0 where
  pub left : pass rows p l ≡ whole
  pub long : length l ≡ 200

module _ {rows : List Row} {p : ℕ} {l : List ℕ} {whole : Outcome} (todo : ToVisit rows p l whole) where
  pass_next : 0 < p → and_then (visit rows (p - 1) l) (pass rows (p - 1)) ≡ whole
  unfolding pass
  pass_next h =
      let e : p ≡ suc (p - 1) = omega arith in
      back (ap (λ k. pass rows k l) e) ∙ todo.left

  module _ {m : List ℕ} {r : Bool} (h : 0 < p) (step : Ends (visit rows (p - 1) l) m r) where
    pub pass_stopped : r ≡ false → Ends whole m false
    pass_stopped e = ends_stopped (pass rows (p - 1)) step e (pass_next h)

    pub pass_went : r ≡ true → ToVisit rows (p - 1) m whole
    pass_went e = record { left = back (went (pass rows (p - 1)) step e) ∙ pass_next h; long = step.long }

  pub pass_done : p ≤ 0 → Ends whole l true
  unfolding pass
  pass_done h =
      let e : p ≡ 0 = omega arith in
      at_once (back todo.left ∙ rw e) todo.long

-- A visit

module _ (rows : List Row) (p : ℕ) (l : List ℕ) (long : length l ≡ 200) where
  pub visit_nothing : length rows ≤ byte l p → Ends (visit rows p l) l true
  unfolding visit
  visit_nothing h = at_once (rw (le-ltb (byte l p) (length rows) h)) long

  pub visit_unfit : byte l p < length rows → heads_fit rows p (byte l p) ≡ false → Ends (visit rows p l) l false
  unfolding visit sent
  visit_unfit h e = record { gives = rw (lt-ltb (byte l p) (length rows) h, e); long = long }

  pub visit_sent : {m : List ℕ} {r : Bool} → byte l p < length rows → heads_fit rows p (byte l p) ≡ true
      → Ends (demands (part_wishes rows p (byte l p)) l) m r
      → Ends (visit rows p l) m r
  unfolding visit sent
  visit_sent h e step = record { gives = rw (lt-ltb (byte l p) (length rows) h, e) step.gives; long = step.long }
