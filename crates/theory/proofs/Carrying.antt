-- Carrying, and carried only within, decided on a table's numbers.
use Rattle.std.specs.Prelude.{◌≡◌, Bool, cond, ◌↔◌, ℕ, ◌<◌, T, length}
use Rattle.std.proofs.Math.Path.{refl}
use Rattle.std.proofs.Common.{ap, ◌∙◌, sym as back, arith}
use Rattle.std.proofs.Math.Bool.{true, false}
use Rattle.std.proofs.Math.Logic.Iff
use mathlib.Core.List.{List, [], ◌∷◌, Memᴰ}
use Rattle.model.specs.Term.{Term, pair, enc}
use Rattle.model.specs.Table.{Row, Tag, Mesg, Text, Datum, Name, Skey, Akey, Pubk, Inv, Ltk, Pair, Enc, Hash, row, meaning, term}
use Rattle.theory.specs.Within.{Loose}
use Rattle.theory.specs.Each.{Each, each_nil, each_cons}
use Rattle.theory.specs.GoodTable.{Good}
use Rattle.theory.specs.Numbers.{row_of, law, number, number_term, term_injective}
use Rattle.theory.specs.OnSheet.{OnSheet, on_pair, on_enc, term_number, number_inside, row_at_number}
use Rattle.theory.specs.Rules.{Rule, ◌⊢◌, Reached, by, marked, reach, InRange}
use Rattle.theory.proofs.Rules.{reach_iff}
use Rattle.theory.specs.RowRules.{rules_from, of_row, each_row}
use Rattle.model.specs.Carry.{Carries}
use Rattle.theory.specs.Carrying.{Marked}

module _ (set : ℕ → Bool) where
  unfoldable pub carry_rules : ℕ → Row → List Rule
  carry_rules i (Tag n) = []
  carry_rules i (Mesg n) = []
  carry_rules i (Text n) = []
  carry_rules i (Datum n) = []
  carry_rules i (Name n) = []
  carry_rules i (Skey n) = []
  carry_rules i (Akey n) = []
  carry_rules i (Pubk a) = []
  carry_rules i (Inv a) = []
  carry_rules i (Ltk a b) = []
  carry_rules i (Pair a b) = cond (set i) [] (◌⊢◌ (a ∷ []) i ∷ ◌⊢◌ (b ∷ []) i ∷ [])
  carry_rules i (Enc a b) = cond (set i) [] (◌⊢◌ (a ∷ []) i ∷ [])
  carry_rules i (Hash a) = []

  unfoldable pub loose_rules : List Row → ℕ → List Rule
  unfolding carry_rules rules_from
  loose_rules rows t = ◌⊢◌ [] t ∷ rules_from carry_rules 0 rows

module _ (rows : List Row) (good : Good rows) (set : ℕ → Bool) (t : ℕ) (inside : t < length rows) where
  Free : ℕ → Type 0
  Free i = Loose (Marked rows set) (term rows t) (term rows i)

  Sound : Rule → Type 0
  Sound r = Each Free r.needs → Free r.gives

  unmarked : (i : ℕ) {u : Term} → i < length rows → term rows i ≡ u → set i ≡ false → ¬ Marked rows set u
  unmarked i h e f m = rw (term_injective rows good m.which i m.inside h (m.means ∙ back e), f) at m.holds

  row_sound : (i : ℕ) → i < length rows → (r : Row) → row rows i ≡ r → Each Sound (carry_rules set i r)
  unfolding carry_rules Sound Free meaning
  row_sound i h (Tag n) e = each_nil Sound
  row_sound i h (Mesg n) e = each_nil Sound
  row_sound i h (Text n) e = each_nil Sound
  row_sound i h (Datum n) e = each_nil Sound
  row_sound i h (Name n) e = each_nil Sound
  row_sound i h (Skey n) e = each_nil Sound
  row_sound i h (Akey n) e = each_nil Sound
  row_sound i h (Pubk a) e = each_nil Sound
  row_sound i h (Inv a) e = each_nil Sound
  row_sound i h (Ltk a b) e = each_nil Sound
  row_sound i h (Pair a b) e = go (set i) refl
    where
      go : (x : Bool) → set i ≡ x → Each Sound (cond x [] (◌⊢◌ (a ∷ []) i ∷ ◌⊢◌ (b ∷ []) i ∷ []))
      go true q = each_nil Sound
      go false q =
          let l = law rows good i h e in
          let n = unmarked i h l q in
          each_cons Sound (λ f. rw l (Loose.left n (f a (Memᴰ.head refl))))
          (each_cons Sound (λ f. rw l (Loose.right n (f b (Memᴰ.head refl)))) (each_nil Sound))
  row_sound i h (Enc a b) e = go (set i) refl
    where
      go : (x : Bool) → set i ≡ x → Each Sound (cond x [] (◌⊢◌ (a ∷ []) i ∷ []))
      go true q = each_nil Sound
      go false q =
          let l = law rows good i h e in
          each_cons Sound (λ f. rw l (Loose.body (unmarked i h l q) (f a (Memᴰ.head refl)))) (each_nil Sound)
  row_sound i h (Hash a) e = each_nil Sound

  rules_sound : Each Sound (loose_rules set rows t)
  unfolding loose_rules Sound Free
  rules_sound =
      each_cons Sound (λ f. Loose.here)
      (each_row (carry_rules set) Sound rows 0 (λ i p e h. row_sound p (omega arith) (row rows i) (ap (row rows) (omega arith))))

  reached_free : {i : ℕ} → Reached (loose_rules set rows t) i → Free i
  unfolding Sound
  reached_free (by {r = r} m f) = rules_sound r m (λ j k. reached_free (f j k))

  R : ℕ → Type 0
  R i = Reached (loose_rules set rows t) i

  unset : {u : Term} → OnSheet rows u → ¬ Marked rows set u → set (number rows u) ≡ false
  unset {u} s n = go (set (number rows u)) refl
    where
      go : (b : Bool) → set (number rows u) ≡ b → b ≡ false
      go true e = absurd (n (record {
        which = number rows u;
        inside = number_inside rows good s;
        holds = rw e tt;
        means = term_number rows good s;
      }))
      go false e = refl

  rule_of : {u : Term} {r : Rule} → OnSheet rows u → Memᴰ r (carry_rules set (number rows u) (row_of (number rows) u))
      → Memᴰ r (loose_rules set rows t)
  unfolding loose_rules
  rule_of {u} s m =
      Memᴰ.tail (of_row (carry_rules set) rows 0 (number rows u) (number rows u) (omega arith) (number_inside rows good s)
      (rw (row_at_number rows good s) m))

  free_reached : {u : Term} → OnSheet rows u → Loose (Marked rows set) (term rows t) u → R (number rows u)
  unfolding R carry_rules row_of loose_rules
  free_reached s Loose.here = rw (number_term rows good t inside) (by (Memᴰ.head refl) (each_nil R))
  free_reached s (Loose.left {u} {v} n l) =
      by {r = ◌⊢◌ (number rows u ∷ []) (number rows (pair u v))} (rule_of s (rw (unset s n) (Memᴰ.head refl)))
      (each_cons R (free_reached (on_pair rows good s).0 l) (each_nil R))
  free_reached s (Loose.right {u} {v} n l) =
      by {r = ◌⊢◌ (number rows v ∷ []) (number rows (pair u v))}
      (rule_of s (rw (unset s n) (Memᴰ.tail (Memᴰ.head refl))))
      (each_cons R (free_reached (on_pair rows good s).1 l) (each_nil R))
  free_reached s (Loose.body {u} {k} n l) =
      by {r = ◌⊢◌ (number rows u ∷ []) (number rows (enc u k))} (rule_of s (rw (unset s n) (Memᴰ.head refl)))
      (each_cons R (free_reached (on_enc rows good s).0 l) (each_nil R))

  Below : Rule → Type 0
  Below r = r.gives < length rows

  row_below : (i : ℕ) → i < length rows → (r : Row) → Each Below (carry_rules set i r)
  unfolding carry_rules Below
  row_below i h (Tag n) = each_nil Below
  row_below i h (Mesg n) = each_nil Below
  row_below i h (Text n) = each_nil Below
  row_below i h (Datum n) = each_nil Below
  row_below i h (Name n) = each_nil Below
  row_below i h (Skey n) = each_nil Below
  row_below i h (Akey n) = each_nil Below
  row_below i h (Pubk a) = each_nil Below
  row_below i h (Inv a) = each_nil Below
  row_below i h (Ltk a b) = each_nil Below
  row_below i h (Pair a b) = go (set i)
    where
      go : (x : Bool) → Each Below (cond x [] (◌⊢◌ (a ∷ []) i ∷ ◌⊢◌ (b ∷ []) i ∷ []))
      go true = each_nil Below
      go false = each_cons Below h (each_cons Below h (each_nil Below))
  row_below i h (Enc a b) = go (set i)
    where
      go : (x : Bool) → Each Below (cond x [] (◌⊢◌ (a ∷ []) i ∷ []))
      go true = each_nil Below
      go false = each_cons Below h (each_nil Below)
  row_below i h (Hash a) = each_nil Below

  rules_below : Each Below (loose_rules set rows t)
  unfolding loose_rules Below
  rules_below =
      each_cons Below inside (each_row (carry_rules set) Below rows 0 (λ i p e h. row_below p (omega arith) (row rows i)))

  pub loose_decided : (i : ℕ) → i < length rows
      → T (marked (reach (loose_rules set rows t) (length rows)) i) ↔ Loose (Marked rows set) (term rows t) (term rows i)
  unfolding InRange Below R Free
  loose_decided i h =
      Iff.trans (reach_iff (length rows) (loose_rules set rows t) rules_below i)
      (reached_free, λ l. rw (number_term rows good i h) at (free_reached (record { which = i; inside = h; means = refl }) l))

-- Carrying is being loose in no set

unfoldable pub carries : List Row → ℕ → ℕ → Bool
unfolding reach loose_rules
carries rows t i = marked (reach (loose_rules (λ _. false) rows t) (length rows)) i

loose_carries : {S : Term → Type 0} {t u : Term} → Loose S t u → Carries t u
loose_carries Loose.here = Carries.here
loose_carries (Loose.left n l) = Carries.left (loose_carries l)
loose_carries (Loose.right n l) = Carries.right (loose_carries l)
loose_carries (Loose.body n l) = Carries.body (loose_carries l)

module _ (rows : List Row) (good : Good rows) where
  carries_loose : {t u : Term} → Carries t u → Loose (Marked rows (λ _. false)) t u
  carries_loose Carries.here = Loose.here
  carries_loose (Carries.left p) = Loose.left (λ m. m.holds) (carries_loose p)
  carries_loose (Carries.right p) = Loose.right (λ m. m.holds) (carries_loose p)
  carries_loose (Carries.body p) = Loose.body (λ m. m.holds) (carries_loose p)

  -- CARRYING IS DECIDED
  pub carries_iff : (t i : ℕ) → t < length rows → i < length rows → T (carries rows t i) ↔ Carries (term rows t) (term rows i)
  unfolding carries
  carries_iff t i h k = Iff.trans (loose_decided rows good (λ _. false) t h i k) (loose_carries, carries_loose)
