-- What demands do to the images, and when they can be met.
use mathlib.Core.Path.{◌≡◌, refl, ap, ◌∙◌, sym as back}
use mathlib.Core.Bool.{Bool, true, false, cond}
use mathlib.Core.List.Memᴰ
use mathlib.Core.List.{List, [], ◌∷◌}
use mathlib.Core.Option.{Option, none, some}
use Prim.Native.Nat.{ℕ, ◌≤◌, ◌<◌}
use native.Mathlib.Omega.{arith}
use native.Mathlib.Decide.{ℕ_discrete}
use lib.Dec.{eqb}
use lib.ListN.{length, set, length-set}
use lib.Seq.{get_or-set_same, get_or-set_other}
use borrow.Author.Tests.{eqb-true, eqb-false, eq-eqb}
use Rattle.theory.specs.Each.{Each, each_nil, each_cons}
use Rattle.theory.specs.Places.{not_there}
use Rattle.theory.specs.Matching.{Wish}
use Rattle.tables.specs.Tables.{byte}
use Rattle.matching.specs.Pass.{and_then, demand, demands}

-- an outcome after another comes from an outcome between them
pub between : {A B : Type 0} (o : Option A) (f : A → Option B) {y : B} → and_then o f ≡ some y
    → (x : A) × (o ≡ some x) × (f x ≡ some y)
unfolding and_then
between none f e = absurd (not_there e)
between (some x) f e = (x, refl, e)

pub onward : {A B : Type 0} (o : Option A) (f : A → Option B) {x : A} {y : B} → o ≡ some x → f x ≡ some y → and_then o f ≡ some y
unfolding and_then
onward o f e q = rw e q

-- One demand

pub record Step (w : Wish) (l m : List ℕ) : Type 0 where
  pub long : length m ≡ length l
  pub here : byte m w.0 ≡ w.1
  pub other : (p : ℕ) → ¬ (p ≡ w.0) → byte m p ≡ byte l p
  pub kept : (p : ℕ) → ¬ (byte l p ≡ 255) → byte m p ≡ byte l p

step : (w : Wish) (l : List ℕ) {m : List ℕ} → w.0 < length l → demand w l ≡ some m → Step w l m
unfolding demand
step w l {m} h = go (eqb (byte l w.0) 255) refl (eqb (byte l w.0) w.1) refl
  where
    go : (a : Bool) → eqb (byte l w.0) 255 ≡ a → (b : Bool) → eqb (byte l w.0) w.1 ≡ b
        → cond a (some (set l w.0 w.1)) (cond b (some l) none) ≡ some m → Step w l m
    go true e b f q =
        let z : set l w.0 w.1 ≡ m = cc in
        rw (← z)
        (record {
          long = length-set l w.0 w.1;
          here = get_or-set_same l w.0 w.1 0 h;
          other = λ p n. get_or-set_other l w.0 p w.1 0 n;
          kept = λ p n. get_or-set_other l w.0 p w.1 0 (λ x. n (ap (byte l) x ∙ eqb-true (byte l w.0) 255 e));
        })
    go false e true f q =
        let z : l ≡ m = cc in
        rw (← z) (record { long = refl; here = eqb-true (byte l w.0) w.1 f; other = λ p n. refl; kept = λ p n. refl })
    go false e false f q = absurd (not_there q)

met : (w : Wish) (l : List ℕ) → (¬ (byte l w.0 ≡ 255) → byte l w.0 ≡ w.1) → (m : List ℕ) × (demand w l ≡ some m)
unfolding demand
met w l h = go (eqb (byte l w.0) 255) refl
  where
    go : (a : Bool) → eqb (byte l w.0) 255 ≡ a
        → (m : List ℕ) × (cond a (some (set l w.0 w.1)) (cond (eqb (byte l w.0) w.1) (some l) none) ≡ some m)
    go true e = (set l w.0 w.1, refl)
    go false e = (l, rw (eq-eqb (byte l w.0) w.1 (h (eqb-false (byte l w.0) 255 e))))

-- Several

-- the term has a byte among the images, and its wished image is no 255
pub record Sound (w : Wish) : Type 0 where
  pub place : w.0 < 200
  pub real : ¬ (w.1 ≡ 255)

pub record Steps (ws : List Wish) (l m : List ℕ) : Type 0 where
  pub long : length m ≡ 200
  pub here : Each (λ w. byte m w.0 ≡ w.1) ws
  pub above : (k : ℕ) → Each (λ w. w.0 < k) ws → (p : ℕ) → k ≤ p → byte m p ≡ byte l p
  pub kept : (p : ℕ) → ¬ (byte l p ≡ 255) → byte m p ≡ byte l p

pub steps : (ws : List Wish) (l : List ℕ) {m : List ℕ} → length l ≡ 200 → Each Sound ws → demands ws l ≡ some m → Steps ws l m
unfolding demands
steps [] l {m} h f e =
    let z : l ≡ m = cc in
    rw (← z) (record { long = h; here = each_nil _; above = λ k g p n. refl; kept = λ p n. refl })
steps (w ∷ ws) l {m} h f e =
    let (x, q, r) = between (demand w l) (demands ws) e in
    let sound = f w (Memᴰ.head refl) in
    let s = step w l (rw h sound.place) q in
    let rest = steps ws x (s.long ∙ h) (λ v k. f v (Memᴰ.tail k)) r in
    record {
      long = rest.long;
      here = each_cons _ (rest.kept w.0 (λ z. sound.real (back s.here ∙ z)) ∙ s.here) rest.here;
      above = λ k g p n.
          let b : w.0 < k = g w (Memᴰ.head refl) in
          rest.above k (λ v j. g v (Memᴰ.tail j)) p n ∙ s.other p (λ z. omega arith);
      kept = λ p n. rest.kept p (λ z. n (back (s.kept p n) ∙ z)) ∙ s.kept p n;
    }

-- R holds of each term that has an image, and the image
abbrev pub Every : (Wish → Type 0) → List ℕ → Type 0
Every R l = (p : ℕ) → p < 200 → ¬ (byte l p ≡ 255) → R (p, byte l p)

module _ (R : Wish → Type 0) where
  every_step : {w : Wish} {l m : List ℕ} → Step w l m → R w → Every R l → Every R m
  every_step {w} {l} {m} s r f p h n = go (ℕ_discrete p w.0)
    where
      go : Dec (p ≡ w.0) → R (p, byte m p)
      go (yes e) = rw (e, s.here) r
      go (no e) = rw (s.other p e) (f p h (λ z. n (s.other p e ∙ z)))

  pub every_demands : (ws : List Wish) (l : List ℕ) {m : List ℕ} → length l ≡ 200 → Each (λ w. w.0 < 200) ws
      → demands ws l ≡ some m → Each R ws → Every R l → Every R m
  unfolding demands
  every_demands [] l {m} h b e r f = let z : l ≡ m = cc in rw (← z) f
  every_demands (w ∷ ws) l h b e r f =
      let (x, q, d) = between (demand w l) (demands ws) e in
      let s = step w l (rw h (b w (Memᴰ.head refl))) q in
      let next = every_step s (r w (Memᴰ.head refl)) f in
      every_demands ws x (s.long ∙ h) (λ v k. b v (Memᴰ.tail k)) d (λ v k. r v (Memᴰ.tail k)) next

  -- demands of one image each are met
  module _ (one : (p u v : ℕ) → R (p, u) → R (p, v) → u ≡ v) where
    pub all_met : (ws : List Wish) (l : List ℕ) → length l ≡ 200 → Each (λ w. w.0 < 200) ws → Each R ws → Every R l
        → (m : List ℕ) × (demands ws l ≡ some m)
    unfolding demands
    all_met [] l h b r f = (l, refl)
    all_met (w ∷ ws) l h b r f =
        let k : w.0 < 200 = b w (Memᴰ.head refl) in
        let mine : R w = r w (Memᴰ.head refl) in
        let (x, q) = met w l (λ n. one w.0 (byte l w.0) w.1 (f w.0 k n) mine) in
        let s = step w l (rw h k) q in
        let next = every_step s mine f in
        let (m, d) = all_met ws x (s.long ∙ h) (λ v j. b v (Memᴰ.tail j)) (λ v j. r v (Memᴰ.tail j)) next in
        (m, onward (demand w l) (demands ws) q d)
