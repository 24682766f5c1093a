-- The computation on rules decides: what it marks is the least set that they close. Assumes nothing.
use Rattle.std.specs.Prelude.{◌≡◌, Bool, not, ◌||◌, cond, ◌↔◌, ◌⊎◌, length, set, replicate}
use Rattle.std.proofs.Math.Path.{refl, ap}
use Rattle.std.proofs.Common.{◌∙◌, inr, arith, length-set}
use Rattle.std.proofs.Math.Bool.{true, false}
use Rattle.std.proofs.Math.Logic.{inl, ⊎_elim, ⊎_map}
use mathlib.Core.List.{List, [], ◌∷◌, Memᴰ}
use Prim.Native.Nat.{ℕ, zero, suc, ◌+◌, ◌≤◌, ◌<◌}
use Rattle.std.proofs.Math.Decide.{ℕ_discrete}
use Rattle.std.proofs.Math.Dec.{T}
use Rattle.std.proofs.lemmas.List.{length-replicate, set-get_or}
use Rattle.std.proofs.Math.Seq.{get_or-set_other}
use Rattle.theory.specs.Tests.{both, pair_up, implied}
use Rattle.theory.specs.Rules.{Rule, ◌⊢◌, Reached, by, marked, ready, fire, pass, passes, reach, kept, settled, InRange, Made, none_yet, one_more}

-- no pass is one too many: each number comes from the one below it, and the highest is tried first
pub chain_reached : reach (◌⊢◌ (2 ∷ []) 3 ∷ ◌⊢◌ (1 ∷ []) 2 ∷ ◌⊢◌ (0 ∷ []) 1 ∷ ◌⊢◌ [] 0 ∷ []) 4 ≡ true ∷ true ∷ true ∷ true ∷ []
unfolding reach
chain_reached = refl

-- Every mark is reached

Sound : List Rule → List Bool → Type 0
Sound rules s = (i : ℕ) → T (marked s i) → Reached rules i

ready_each : (s : List Bool) (is : List ℕ) → T (ready s is) → (i : ℕ) → Memᴰ i is → T (marked s i)
unfolding ready
ready_each s (j ∷ is) h i (Memᴰ.head e) = rw e (both (marked s j) (ready s is) h).0
ready_each s (j ∷ is) h i (Memᴰ.tail m) = ready_each s is (both (marked s j) (ready s is) h).1 i m
ready_each s [] h i x'' = elim x'' [ ]

module _ (rules : List Rule) where
  set_sound : (s : List Bool) (c : ℕ) → Sound rules s → Reached rules c → Sound rules (set s c true)
  unfolding Sound
  set_sound s c h r i m = go (ℕ_discrete i c)
    where
      go : Dec (i ≡ c) → Reached rules i
      go (yes e) = rw e r
      go (no e) = h i (rw get_or-set_other at m)

  fire_sound : (s : List Bool) (r : Rule) → Memᴰ r rules → Sound rules s → Sound rules (fire s r)
  unfolding fire Sound
  fire_sound s r m h = go (ready s r.needs) (ready_each s r.needs)
    where
      go : (b : Bool) → (T b → (i : ℕ) → Memᴰ i r.needs → T (marked s i)) → Sound rules (cond b (set s r.gives true) s)
      go true f = set_sound s r.gives h (by m (λ i k. h i (f tt i k)))
      go false f = h

  pass_sound : (rs : List Rule) → ((r : Rule) → Memᴰ r rs → Memᴰ r rules) → (s : List Bool) → Sound rules s
      → Sound rules (pass rs s)
  unfolding pass
  pass_sound [] sub s h = h
  pass_sound (r ∷ rs) sub s h =
      pass_sound rs (λ q m. sub q (Memᴰ.tail m)) (fire s r) (fire_sound s r (sub r (Memᴰ.head refl)) h)

  passes_sound : (k : ℕ) (s : List Bool) → Sound rules s → Sound rules (passes rules k s)
  unfolding passes
  passes_sound zero s h = h
  passes_sound (suc k) s h = passes_sound k (pass rules s) (pass_sound rules (λ r m. m) s h)

-- A settled set of marks holds all that is reached

each_ready : (s : List Bool) (is : List ℕ) → ((i : ℕ) → Memᴰ i is → T (marked s i)) → T (ready s is)
unfolding ready
each_ready s [] h = tt
each_ready s (j ∷ is) h = pair_up (marked s j) (ready s is) (h j (Memᴰ.head refl))
    (each_ready s is (λ i m. h i (Memᴰ.tail m)))

settled_each : (s : List Bool) (rs : List Rule) → T (settled s rs) → (r : Rule) → Memᴰ r rs → T (kept s r)
unfolding settled
settled_each s (q ∷ rs) h r (Memᴰ.head e) = rw e (both (kept s q) (settled s rs) h).0
settled_each s (q ∷ rs) h r (Memᴰ.tail m) = settled_each s rs (both (kept s q) (settled s rs) h).1 r m
settled_each s [] h r x'' = elim x'' [ ]

pub settled_complete : (rules : List Rule) (s : List Bool) → T (settled s rules) → {i : ℕ} → Reached rules i → T (marked s i)
unfolding kept
settled_complete rules s h (by {r = r} m f) =
    implied (ready s r.needs) (marked s r.gives) (settled_each s rules h r m)
    (each_ready s r.needs (λ i k. settled_complete rules s h (f i k)))

-- Passes settle: each that changes something marks one more

unfoldable pub count : List Bool → ℕ
count [] = 0
count (true ∷ s) = suc (count s)
count (false ∷ s) = count s

count_le : (s : List Bool) → count s ≤ length s
unfolding count
count_le [] = omega arith
count_le (true ∷ s) = omega (arith, count_le s)
count_le (false ∷ s) = omega (arith, count_le s)

count_set : (s : List Bool) (i : ℕ) → i < length s → marked s i ≡ false → count (set s i true) ≡ suc (count s)
unfolding count
count_set [] i h e = absurd (omega arith)
count_set (true ∷ s) zero h e = cc
count_set (false ∷ s) zero h e = refl
count_set (true ∷ s) (suc i) h e = ap suc (count_set s i (omega arith) e)
count_set (false ∷ s) (suc i) h e = count_set s i (omega arith) e

pub length-fire : (s : List Bool) (r : Rule) → length (fire s r) ≡ length s
unfolding fire
length-fire s r = go (ready s r.needs)
  where
    go : (b : Bool) → length (cond b (set s r.gives true) s) ≡ length s
    go true = length-set s r.gives true
    go false = refl

pub length-pass : (rs : List Rule) (s : List Bool) → length (pass rs s) ≡ length s
unfolding pass
length-pass [] s = refl
length-pass (r ∷ rs) s = length-pass rs (fire s r) ∙ length-fire s r

-- a rule is kept and changes nothing, or it marks one more
Idle : List Bool → Rule → Type 0
Idle s r = T (kept s r) × (fire s r ≡ s)

fire_cases : (s : List Bool) (r : Rule) → r.gives < length s → Idle s r ⊎ (count (fire s r) ≡ suc (count s))
unfolding Idle kept fire
fire_cases s r h = go (ready s r.needs) (marked s r.gives) refl
  where
    go : (a b : Bool) → marked s r.gives ≡ b
        → (T (not a || b) × (cond a (set s r.gives true) s ≡ s)) ⊎ (count (cond a (set s r.gives true) s) ≡ suc (count s))
    go false b e = inl (tt, refl)
    go true true e = inl (tt, rw (← e) (set-get_or s r.gives false))
    go true false e = inr (count_set s r.gives h e)

Settled : List Rule → List Bool → Type 0
Settled rules s = T (settled s rules) × (pass rules s ≡ s)

blank : (n i : ℕ) → marked (replicate n false) i ≡ false
blank zero i = refl
blank (suc n) zero = refl
blank (suc n) (suc i) = blank n i

-- a pass changes nothing, or it marks more
Pass : List Rule → List Bool → Type 0
Pass rules s = Settled rules s ⊎ (count s < count (pass rules s))

pass_idle : (s : List Bool) (r : Rule) (rs : List Rule) → Idle s r → Pass rs s → Pass (r ∷ rs) s
unfolding Pass Idle Settled settled pass
pass_idle s r rs i (inl h) = inl (pair_up (kept s r) (settled s rs) i.0 h.0, ap (pass rs) i.1 ∙ h.1)
pass_idle s r rs i (inr l) = inr (rw i.1 l)

pass_more : (s : List Bool) (r : Rule) (rs : List Rule) → count (fire s r) ≡ suc (count s) → Pass rs (fire s r) → Pass (r ∷ rs) s
unfolding Pass Settled pass
pass_more s r rs e (inl h) = inr (rw h.1 (omega arith))
pass_more s r rs e (inr l) = inr (omega arith)

module _ (n : ℕ) where
  pass_cases : (rules : List Rule) → InRange n rules → (s : List Bool) → length s ≡ n → Pass rules s
  unfolding InRange Pass Settled settled pass
  pass_cases [] range s e = inl (tt, refl)
  pass_cases (r ∷ rs) range s e =
      let rest = pass_cases rs (λ q m. range q (Memᴰ.tail m)) in
      ⊎_elim (λ i. pass_idle s r rs i (rest s e)) (λ m. pass_more s r rs m (rest (fire s r) (length-fire s r ∙ e)))
      (fire_cases s r (omega (arith, range r (Memᴰ.head refl))))

  module _ (rules : List Rule) (range : InRange n rules) where
    passes_still : (k : ℕ) (s : List Bool) → pass rules s ≡ s → passes rules k s ≡ s
    unfolding passes
    passes_still zero s e = refl
    passes_still (suc k) s e = ap (passes rules k) e ∙ passes_still k s e

    passes_settle : (k : ℕ) (s : List Bool) → length s ≡ n → T (settled (passes rules k s) rules) ⊎ (count s + k < n)
    unfolding passes Pass Settled
    passes_settle zero s e =
        ⊎_map (λ h. h.0) (λ l. omega (arith, count_le (pass rules s), length-pass rules s)) (pass_cases rules range s e)
    passes_settle (suc k) s e =
        let rest = passes_settle k (pass rules s) (length-pass rules s ∙ e) in
        ⊎_elim (λ h. inl (rw (h.1, passes_still k s h.1) h.0)) (λ l. ⊎_map (λ h. h) (λ m. omega arith) rest)
        (pass_cases rules range s e)

    -- AS MANY PASSES AS NUMBERS SETTLE
    pub reach_settled : T (settled (reach rules n) rules)
    unfolding reach
    reach_settled = ⊎_elim (λ h. h) (λ l. absurd (omega arith)) (passes_settle n (replicate n false) (length-replicate n false))

    none_marked : Sound rules (replicate n false)
    unfolding Sound
    none_marked i h = absurd (rw (blank n i) at h)

    -- THE COMPUTATION DECIDES: marked is reached
    pub reach_iff : (i : ℕ) → T (marked (reach rules n) i) ↔ Reached rules i
    unfolding reach Sound
    reach_iff i = (passes_sound rules n (replicate n false) none_marked i, settled_complete rules (reach rules n) reach_settled)

-- WHATEVER THE ORDER OF THE STEPS: marks made by the rules, one at a time, are the least set once they are settled

made_sound : {rules : List Rule} {n : ℕ} {s : List Bool} → Made rules n s → Sound rules s
unfolding Sound
made_sound {n} none_yet = λ i h. absurd (rw (blank n i) at h)
made_sound {rules} (one_more {s} {r} m k) = fire_sound rules s r k (made_sound m)

pub made_settled : (rules : List Rule) (n : ℕ) (s : List Bool) → Made rules n s → T (settled s rules) → (i : ℕ)
    → T (marked s i) ↔ Reached rules i
unfolding Sound
made_settled rules n s m h i = (made_sound m i, settled_complete rules s h)

-- the least: what the rules keep holds of all that is reached
pub least : {rules : List Rule} (P : ℕ → Type 0)
    → ((r : Rule) → Memᴰ r rules → ((i : ℕ) → Memᴰ i r.needs → P i) → P r.gives)
    → {i : ℕ} → Reached rules i
    → P i
least P keeps (by {r} m f) = keeps r m (λ i k. least P keeps (f i k))
