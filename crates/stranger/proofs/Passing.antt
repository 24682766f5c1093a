-- The numbers below another that pass a test, and the rules of what is sent.
use mathlib.Core.Path.{◌≡◌, refl, sym, ap, ◌∙◌}
use mathlib.Core.Bool.{Bool, true, false, true≢false, cond}
use mathlib.Core.List.{List, [], ◌∷◌, Memᴰ}
use Prim.Native.Nat.{ℕ, zero, suc, ◌<◌}
use native.Mathlib.Omega.{arith}
use native.Mathlib.Decide.{ℕ_discrete}
use Rattle.theory.specs.Each.{Each, each_nil, each_cons}
use Rattle.theory.proofs.Reach.{sent_rules}
use Rattle.theory.specs.Rules.{Rule, ◌⊢◌}

module _ (p : ℕ → Bool) where
  unfoldable pub passing : ℕ → List ℕ
  passing zero = []
  passing (suc n) = cond (p n) (n ∷ passing n) (passing n)

  pub record Passes (n k : ℕ) : Type 0 where
    pub below : k < n
    pub passed : p k ≡ true

  pub all_pass : (n : ℕ) → Each (Passes n) (passing n)
  unfolding passing
  all_pass zero = each_nil (Passes 0)
  all_pass (suc n) =
      go (p n) refl (λ k m. let h = all_pass n k m in record { below = omega (arith, h.below); passed = h.passed })
    where
      go : (b : Bool) → p n ≡ b → Each (Passes (suc n)) (passing n) → Each (Passes (suc n)) (cond b (n ∷ passing n) (passing n))
      go true e f = each_cons (Passes (suc n)) (record { below = omega arith; passed = e }) f
      go false e f = f

  pub is_passing : (n k : ℕ) → k < n → p k ≡ true → Memᴰ k (passing n)
  unfolding passing
  is_passing zero k h e = absurd (omega arith)
  is_passing (suc n) k h e = go (ℕ_discrete k n) (p n) refl (λ l. is_passing n k l e)
    where
      go : Dec (k ≡ n) → (b : Bool) → p n ≡ b → (k < n → Memᴰ k (passing n))
          → Memᴰ k (cond b (n ∷ passing n) (passing n))
      go (yes z) true q f = Memᴰ.head z
      go (yes z) false q f = absurd (true≢false (sym e ∙ rw z q))
      go (no z) true q f = Memᴰ.tail (f (omega arith))
      go (no z) false q f = f (omega arith)

pub sent_each : (P : Rule → Type 0) (is : List ℕ) → ((i : ℕ) → Memᴰ i is → P (◌⊢◌ [] i)) → Each P (sent_rules is)
unfolding sent_rules
sent_each P [] f = each_nil P
sent_each P (i ∷ is) f = each_cons P (f i (Memᴰ.head refl)) (sent_each P is (λ j m. f j (Memᴰ.tail m)))

pub is_sent : (is : List ℕ) {i : ℕ} → Memᴰ i is → Memᴰ (◌⊢◌ [] i) (sent_rules is)
unfolding sent_rules
is_sent (j ∷ is) (Memᴰ.head e) = Memᴰ.head (ap (◌⊢◌ []) e)
is_sent (j ∷ is) (Memᴰ.tail m) = Memᴰ.tail (is_sent is m)
is_sent [] {i = i} x' = elim x' [ ]
