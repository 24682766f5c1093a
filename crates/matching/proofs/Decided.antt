-- The pass decides whether a substitution grants the wishes, and leaves its images.
use mathlib.Core.Path.{◌≡◌, refl, ap, ◌∙◌}
use mathlib.Core.Bool.{Bool, true, false, cond}
use mathlib.Core.List.{List}
use mathlib.Core.Option.{Option, none, some}
use Prim.Native.Nat.{ℕ, ◌≤◌, ◌<◌}
use native.Mathlib.Omega.{arith}
use lib.Dec.{T, eqb}
use lib.ListN.{length, replicate}
use Rattle.std.proofs.lemmas.List.{length-replicate, get_or-replicate}
use borrow.Author.Tests.{eqb-false, ne_eqb}
use Rattle.model.specs.Subst.{Subst, apply}
use Rattle.model.specs.Table.{Row, row, term}
use Rattle.theory.specs.Each.{Each}
use Rattle.theory.specs.Places.{not_there}
use Rattle.theory.specs.GoodTable.{Good}
use Rattle.theory.specs.Coherent.{Coherent, reading, images_read}
use Rattle.theory.specs.Matching.{Wish, images, Granted, Matched, matched_iff}
use Rattle.theory.specs.Matching as theory
use Rattle.tables.specs.Tables.{byte}
use Rattle.matching.specs.Pass.{and_then, demands, heads_fit, part_wishes, pass}
use Rattle.matching.proofs.Demanded.{between, onward, Sound, Steps, steps, Every, every_demands, all_met}
use Rattle.matching.proofs.Shapes.{fits_here, parts_inside, heads_there, parts_there}
use Rattle.matching.proofs.Passing.{State, pass_state, Held, pass_held, can_pass}

-- a byte as an image, and the bytes as images
abbrev pub shown : ℕ → Option ℕ
shown u = cond (eqb u 255) none (some u)

abbrev pub img : List ℕ → ℕ → Option ℕ
img l p = shown (byte l p)

is_shown : (u v : ℕ) → shown u ≡ some v → (u ≡ v) × ¬ (u ≡ 255)
is_shown u v = go (eqb u 255) refl
  where
    go : (b : Bool) → eqb u 255 ≡ b → cond b none (some u) ≡ some v → (u ≡ v) × ¬ (u ≡ 255)
    go true e q = absurd (not_there q)
    go false e q = (cc, eqb-false u 255 e)

pub shows : (l : List ℕ) (p : ℕ) {u : ℕ} → byte l p ≡ u → u < 200 → img l p ≡ some u
shows l p {u} e h = let z : eqb u 255 ≡ false = ne_eqb u 255 (λ q. omega arith) in rw (e, z)

-- no term has an image yet
pub record Blank (l : List ℕ) : Type 0 where
  pub long : length l ≡ 200
  pub blank : (i : ℕ) → i < 200 → byte l i ≡ 255

pub all_blank : {l : List ℕ} (n : ℕ) → l ≡ replicate n 255 → n ≡ 200 → Blank l
all_blank n e h =
    record { long = rw (e, h) (length-replicate {A = ℕ} 200 255); blank = λ i k. rw (e, h) (get_or-replicate 200 i 255 0 k) }

-- a good table, wishes between its terms, and no images yet
pub record Posed (rows : List Row) (asked : List Wish) (l : List ℕ) : Type 0 where
  pub good : Good rows
  pub few : length rows ≤ 200
  pub inside : Each (λ w. (w.0 < length rows) × (w.1 < length rows)) asked
  pub blank : Blank l

module _ {rows : List Row} {asked : List Wish} {l : List ℕ} (posed : Posed rows asked l) where
  abbrev good : Good rows
  good = posed.good

  abbrev few : length rows ≤ 200
  few = posed.few

  abbrev inside : Each (λ w. (w.0 < length rows) × (w.1 < length rows)) asked
  inside = posed.inside

  abbrev blank : Blank l
  blank = posed.blank

  abbrev pub outcome : Option (List ℕ)
  outcome = and_then (demands asked l) (pass rows (length rows))

  none_yet : (R : Wish → Type 0) → Every R l
  none_yet R p h n = absurd (n (blank.blank p h))

  places : Each (λ w. w.0 < 200) asked
  places w m = let b = inside w m in omega arith

  sound : Each Sound asked
  sound w m = let b = inside w m in record { place = omega arith; real = λ e. omega arith }

  begun : {x : List ℕ} → demands asked l ≡ some x → Steps asked l x
  begun e = steps asked l blank.long sound e

  begun_every : (R : Wish → Type 0) {x : List ℕ} → demands asked l ≡ some x → Each R asked → Every R x
  begun_every R e f = every_demands R asked l blank.long places e f (none_yet R)

  -- What the pass leaves

  module _ {m : List ℕ} (done : outcome ≡ some m) where
    both : State rows good few 0 m × Each (λ w. byte m w.0 ≡ w.1) asked
    both =
        let (x, d, r) = between (demands asked l) (pass rows (length rows)) done in
        let s = begun d in
        let start : State rows good few (length rows) x =
        record {
          long = s.long;
          inside = begun_every (λ w. w.1 < length rows) d (λ w k. (inside w k).1);
          settled = λ q a b. absurd (omega arith);
        }
        in
        let (state, keeps) = pass_state rows good few (length rows) (omega arith) x start r in
        (state, λ w k. let e = s.here w k in let b = inside w k in keeps w.0 (λ z. omega arith) ∙ e)

    pub image_low : (p : ℕ) → p < length rows → ¬ (byte m p ≡ 255) → byte m p < length rows
    image_low p h n = both.0.inside p (omega arith) n

    pub asked_low : Each (λ w. byte m w.0 < length rows) asked
    asked_low w k = rw (both.1 w k) (inside w k).1

    -- the arguments of a term that has an image have theirs
    pub args_low : (p : ℕ) → p < length rows → byte m p < length rows
        → Each (λ w. byte m w.0 < length rows) (part_wishes rows p (byte m p))
    args_low p h k w i =
        let s = both.0.settled p (omega arith) h in
        rw (s.args k w i) (parts_inside rows good p (byte m p) h k (row rows p) (good.earlier p h) (s.fit k) w i).1

    coherent : Coherent rows (img m)
    coherent =
        record {
          inside = λ t u h e. let (q, n) = is_shown (byte m t) u e in rw q at (image_low t h n);
          fits = λ t u h e.
              let (q, n) = is_shown (byte m t) u e in
              let k = image_low t h n in
              let s = both.0.settled t (omega arith) h in
              let below = parts_inside rows good t (byte m t) h k (row rows t) (good.earlier t h) (s.fit k) in
              rw (← q) (fits_here rows good t (byte m t) h k (img m) (row rows t) refl (s.fit k)
              (λ w i. let b = below w i in shows m w.0 (s.args k w i) (omega arith)));
        }

    -- the substitution that the images stand for
    abbrev pub found : Subst
    found = reading rows (img m)

    pub found_takes : (p : ℕ) → p < length rows → byte m p < length rows → apply found (term rows p) ≡ term rows (byte m p)
    found_takes p h k = images_read rows (img m) good coherent p (byte m p) h (shows m p refl (omega arith))

    pub found_grants : Each (Granted rows good found) asked
    found_grants w k =
        let (h, j) = inside w k in
        record { from = h; to = j; is = found_takes w.0 h (asked_low w k) ∙ ap (term rows) (both.1 w k) }

    -- what holds of the wished terms and goes down to arguments holds of all that have an image
    module _ (Q : ℕ → Type 0) (start : Each (λ w. Q w.0) asked)
        (down : (p u : ℕ) → p < length rows → Q p → Each (λ w. w.0 < length rows → Q w.0) (part_wishes rows p u)) where
      going : (p u : ℕ) → p < length rows → u < length rows → T (heads_fit rows p u) → Q p
          → Each (λ w. Q w.0) (part_wishes rows p u)
      going p u h k t q w i =
          let b = parts_inside rows good p u h k (row rows p) (good.earlier p h) t w i in
          down p u h q w i (omega arith)

      pub only : (p : ℕ) → p < length rows → ¬ (byte m p ≡ 255) → Q p
      only p h n =
          let (x, d, r) = between (demands asked l) (pass rows (length rows)) done in
          let held : Held rows good few (λ w. Q w.0) going x =
          record { long = (begun d).long; every = begun_every (λ w. Q w.0) d start }
          in
          (pass_held rows good few (λ w. Q w.0) going (length rows) (omega arith) x held r).every p (omega arith) n

  -- Where a substitution grants the wishes, there is an outcome

  module _ (σ : Subst) (grants : Each (Granted rows good σ) asked) where
    matched : Matched rows asked
    matched = (matched_iff rows good asked inside).0 (σ, grants)

    abbrev to : ℕ → Option ℕ
    to = theory.img (images rows asked)

    R : Wish → Type 0
    R w = (w.0 < length rows) × (to w.0 ≡ some w.1)

    down : (p u : ℕ) → p < length rows → u < length rows → T (heads_fit rows p u) → R (p, u) → Each R (part_wishes rows p u)
    unfolding R
    down p u h k t r =
        let fits = matched.coherent.fits p u h r.1 in
        parts_there rows good p u h k to matched.coherent (row rows p) (good.earlier p h) fits

    fit : (p u : ℕ) → p < length rows → u < length rows → R (p, u) → T (heads_fit rows p u)
    unfolding R
    fit p u h k r =
        let fits = matched.coherent.fits p u h r.1 in
        heads_there rows good p u h k to matched.coherent (row rows p) refl (good.earlier p h) (good.sorted p h) fits

    pub has_outcome : (m : List ℕ) × (outcome ≡ some m)
    unfolding R
    has_outcome =
        let one : (p u v : ℕ) → R (p, u) → R (p, v) → u ≡ v = λ p u v a b. let x = a.1 in let y = b.1 in cc in
        let each : Each R asked = λ w k. ((inside w k).0, matched.kept w k) in
        let (x, d) = all_met R one asked l blank.long places each (none_yet R) in
        let held : Held rows good few R down x =
        record { long = (begun d).long; every = begun_every R d each }
        in
        let (m, r) = can_pass rows good few R down one fit (length rows) (omega arith) x held in
        (m, onward (demands asked l) (pass rows (length rows)) d r)
