-- The pass that decides map rule 3, over images as bytes: a byte for each term, 255 where it has no image yet. There is no
-- outcome where two demands clash, or where a term cannot go to its image.
use Rattle.std.specs.Prelude.{◌≡◌, Bool, true, cond, ◌||◌, ◌&&◌, List, [], ◌∷◌, ◌++◌, ℕ, zero, suc, ◌+◌, ◌*◌, eqb, leb, ltb, length, get_or, set}
use Rattle.std.proofs.Math.Option.{Option, none, some}
use Rattle.model.specs.Table.{Row, row, kind, first, second}
use Rattle.theory.specs.Reach.{inverse_at}
use Rattle.theory.specs.Matching.{Wish, parts}
use Rattle.tables.specs.Layout.{heights, messages}
use Rattle.tables.specs.Tables.{byte}

-- where there is an outcome, what is done with it
unfoldable pub and_then : {A B : Type 0} → Option A → (A → Option B) → Option B
and_then none f = none
and_then (some x) f = f x

-- the image of the first term of the wish has to be the second: noted where it has none yet
unfoldable pub demand : Wish → List ℕ → Option (List ℕ)
demand w l =
    cond (eqb (byte l w.0) 255) (some (set l w.0 w.1))
    (cond (eqb (byte l w.0) w.1) (some l) none)

unfoldable pub demands : List Wish → List ℕ → Option (List ℕ)
demands [] l = some l
demands (w ∷ ws) l = and_then (demand w l) (demands ws)

-- "message variable: any term; asymmetric key: any kind 6, 7 or 8 term; symmetric key: kind 5 or 9; others: own kind": a term
-- of kind h may be the image of a term of kind k. Any other term than a variable goes to its own kind too.
unfoldable pub may_be : ℕ → ℕ → Bool
may_be k h = cond (eqb k 1) true (cond (eqb k 5) (eqb h 5 || eqb h 9) (cond (eqb k 6) (leb 6 h && leb h 8) (eqb h k)))

-- of the term p of kind k and the term t of kind h: a tag goes to itself, and an inverse to any asymmetric key
unfoldable pub heads : ℕ → ℕ → ℕ → ℕ → Bool
heads p t k h = cond (eqb k 0) (eqb t p) (may_be (cond (eqb k 8) 6 k) h)

module _ (rows : List Row) where
  abbrev pub heads_fit : ℕ → ℕ → Bool
  heads_fit p t = heads p t (kind (row rows p)) (kind (row rows t))

  -- what the first argument of p has to go to, where p goes to t
  unfoldable pub first_to : ℕ → ℕ → ℕ
  first_to p t = cond (eqb (kind (row rows p)) 8) (inverse_at rows t) (first (row rows t))

  -- its second argument, if it has one
  unfoldable pub second_wishes : ℕ → ℕ → List Wish
  second_wishes p t =
      cond (leb 9 (kind (row rows p)) && leb (kind (row rows p)) 11) ((second (row rows p), second (row rows t)) ∷ []) []

  -- all its arguments
  abbrev pub part_wishes : ℕ → ℕ → List Wish
  part_wishes p t = parts rows (row rows p) t

  -- the term p goes to t: the heads fit, and the images of p's arguments are demanded
  unfoldable pub sent : ℕ → ℕ → List ℕ → Option (List ℕ)
  sent p t l = cond (heads_fit p t) (demands (part_wishes p t) l) none

  -- to its image, if it has one
  unfoldable pub visit : ℕ → List ℕ → Option (List ℕ)
  visit p l = cond (ltb (byte l p) (length rows)) (sent p (byte l p) l) (some l)

  -- the terms below p, from the last down to the first
  unfoldable pub pass : ℕ → List ℕ → Option (List ℕ)
  pass zero l = some l
  pass (suc p) l = and_then (visit p l) (pass p)

-- the members of n lists, from f i on
unfoldable pub gather : {A : Type 0} → (ℕ → List A) → ℕ → ℕ → List A
gather f i zero = []
gather f i (suc n) = f i ++ gather f (suc i) n

module _ (t : List ℕ) where
  -- the message p places after one place is to go to that p places after another
  abbrev pub one_wish : ℕ → ℕ → ℕ → List Wish
  one_wish from to p = (byte t (from + p), byte t (to + p)) ∷ []

  -- Of the blocks at a and b: the messages of the source strand s are to go to those of the target strand u
  abbrev pub strand_wishes : (a b s u : ℕ) → List Wish
  strand_wishes a b s u = gather (one_wish (a + messages + 16 * s) (b + messages + 16 * u)) 0 (byte t (a + heights + s))

  -- of all source strands
  unfoldable pub wishes : ℕ → ℕ → List ℕ → List Wish
  wishes a b map = gather (λ s. strand_wishes a b s (get_or map s 0)) 0 (length map)

-- the answer and the lent images afterwards, for an outcome; where it is no, nothing is said of the images but their length
pub record Ends (outcome : Option (List ℕ)) (images : List ℕ) (r : Bool) : Type 0 where
  pub gives : outcome ≡ cond r (some images) none
  pub long : length images ≡ 200
