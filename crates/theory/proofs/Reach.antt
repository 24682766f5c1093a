-- The rules of a table over its numbers, and that they reach exactly what is derivable.
use Rattle.std.specs.Prelude.{◌≡◌, Bool, cond, ◌↔◌, ℕ, ◌<◌, T}
use Rattle.std.proofs.Math.Path.{refl, ap, sym as back}
use Rattle.std.proofs.Common.{◌∙◌}
use Rattle.std.proofs.Math.Bool.{true, false}
use Rattle.std.proofs.Math.Logic.Iff
use mathlib.Core.List.Memᴰ
use mathlib.Core.List.{List, [], ◌∷◌, ◌++◌, Memᴰ}
use native.Mathlib.Omega.{arith}
use Rattle.std.proofs.Math.ListN.{length}
use Rattle.model.specs.Term.{akey, pubk, skey, ltk, Atom, text, datum, name, symmetric, asymmetric, Term, atom, flip, inv}
use Rattle.model.specs.Table.{Row, Tag, Mesg, Text, Datum, Name, Skey, Akey, Pubk, Inv, Ltk, Pair, Enc, Hash, row, meaning, term}
use Rattle.model.specs.Derive.{Derivable}
use Rattle.theory.specs.Each.{Each, each_nil, each_cons, each_append}
use Rattle.theory.specs.GoodTable.{IsKey, Good, Earlier, Sorted}
use Rattle.theory.specs.Numbers.{row_of, term_law, law, number, number_term, term_injective, key_shown}
use Rattle.theory.specs.OnSheet.{OnSheet, on_enc, sheet_closed, number_place, row_at_number}
use Rattle.theory.specs.Locality.{derivable_iff_local, Local, local_on_sheet, given, a_tag, a_mesg, an_atom, join, split_left, split_right, encrypt, decrypt, make_hash}
use Rattle.theory.specs.RowRules.{rules_from, of_row, each_row}
use Rattle.theory.specs.Rules.{Rule, ◌⊢◌, Reached, by, marked, reach, InRange}
use Rattle.theory.proofs.Rules.{reach_iff}
use Rattle.theory.specs.Reach.{inverse_at, inverse_law}

-- The rules of a table

module _ (withheld : ℕ → Bool) (inverse : ℕ → ℕ) where
  unfoldable pub atom_rules : ℕ → List Rule
  atom_rules i = cond (withheld i) [] (◌⊢◌ [] i ∷ [])

  unfoldable pub row_rules : ℕ → Row → List Rule
  row_rules i (Tag n) = ◌⊢◌ [] i ∷ []
  row_rules i (Mesg n) = ◌⊢◌ [] i ∷ []
  row_rules i (Text n) = atom_rules i
  row_rules i (Datum n) = atom_rules i
  row_rules i (Name n) = atom_rules i
  row_rules i (Skey n) = atom_rules i
  row_rules i (Akey n) = atom_rules i
  row_rules i (Pubk a) = atom_rules i
  row_rules i (Inv a) = atom_rules i
  row_rules i (Ltk a b) = atom_rules i
  row_rules i (Pair a b) = ◌⊢◌ (a ∷ b ∷ []) i ∷ ◌⊢◌ (i ∷ []) a ∷ ◌⊢◌ (i ∷ []) b ∷ []
  row_rules i (Enc a b) = ◌⊢◌ (a ∷ b ∷ []) i ∷ ◌⊢◌ (i ∷ inverse b ∷ []) a ∷ []
  row_rules i (Hash a) = ◌⊢◌ (a ∷ []) i ∷ []

unfoldable pub sent_rules : List ℕ → List Rule
sent_rules [] = []
sent_rules (i ∷ is) = ◌⊢◌ [] i ∷ sent_rules is

unfoldable pub table_rules : List Row → (ℕ → Bool) → List ℕ → List Rule
unfolding inverse_at atom_rules row_rules rules_from sent_rules
table_rules rows withheld sent = sent_rules sent ++ rules_from (row_rules withheld (inverse_at rows)) 0 rows

each_sent : (P : Rule → Type 0) (is : List ℕ) → ((i : ℕ) → Memᴰ i is → P (◌⊢◌ [] i)) → Each P (sent_rules is)
unfolding sent_rules
each_sent P [] f = each_nil P
each_sent P (i ∷ is) f = each_cons P (f i (Memᴰ.head refl)) (each_sent P is (λ j m. f j (Memᴰ.tail m)))

of_sent : (is : List ℕ) {i : ℕ} → Memᴰ i is → Memᴰ (◌⊢◌ [] i) (sent_rules is)
unfolding sent_rules
of_sent (j ∷ is) (Memᴰ.head e) = Memᴰ.head (ap (◌⊢◌ []) e)
of_sent (j ∷ is) (Memᴰ.tail m) = Memᴰ.tail (of_sent is m)
of_sent [] {i = i} x' = elim x' [ ]

-- The terms that the numbers name

module _ (rows : List Row) where
  pub record NumberSent (sent : List ℕ) (t : Term) : Type 0 where
    pub which : ℕ
    pub listed : Memᴰ which sent
    pub means : term rows which ≡ t

  pub record NumberWithheld (withheld : ℕ → Bool) (a : Atom) : Type 0 where
    pub which : ℕ
    pub inside : which < length rows
    pub held : T (withheld which)
    pub means : term rows which ≡ atom a

-- What the rules reach is locally derivable

module _ (rows : List Row) (good : Good rows) (withheld : ℕ → Bool) (sent : List ℕ)
    (in_table : (i : ℕ) → Memᴰ i sent → i < length rows) where
  Here : ℕ → Type 0
  Here i = Local (OnSheet rows) (NumberSent rows sent) (NumberWithheld rows withheld) (term rows i)

  Sound : Rule → Type 0
  Sound r = ((i : ℕ) → Memᴰ i r.needs → Here i) → Here r.gives

  on_sheet : (i : ℕ) {t : Term} → i < length rows → term rows i ≡ t → OnSheet rows t
  on_sheet i h e = record { which = i; inside = h; means = e }

  atom_sound : (i : ℕ) (a : Atom) → i < length rows → term rows i ≡ atom a → Each Sound (atom_rules withheld (inverse_at rows) i)
  unfolding atom_rules Sound Here
  atom_sound i a h e = go (withheld i) refl
    where
      go : (b : Bool) → withheld i ≡ b → Each Sound (cond b [] (◌⊢◌ [] i ∷ []))
      go true w = each_nil Sound
      go false w = each_cons Sound (λ _. rw e (an_atom (on_sheet i h e)
          (λ k. rw (term_injective rows good k.which i k.inside h (k.means ∙ back e), w) at k.held))) (each_nil Sound)

  -- each rule of a row keeps within what is locally derivable
  row_sound : (i : ℕ) → i < length rows → (r : Row) → row rows i ≡ r → Each Sound (row_rules withheld (inverse_at rows) i r)
  unfolding row_rules Sound Here meaning inv flip Earlier Sorted
  row_sound i h (Tag n) e = let l = law rows good i h e in each_cons Sound (λ _. rw l (a_tag (on_sheet i h l))) (each_nil Sound)
  row_sound i h (Mesg n) e = let l = law rows good i h e in each_cons Sound (λ _. rw l (a_mesg (on_sheet i h l))) (each_nil Sound)
  row_sound i h (Text n) e = atom_sound i _ h (law rows good i h e)
  row_sound i h (Datum n) e = atom_sound i _ h (law rows good i h e)
  row_sound i h (Name n) e = atom_sound i _ h (law rows good i h e)
  row_sound i h (Skey n) e = atom_sound i _ h (law rows good i h e)
  row_sound i h (Akey n) e = atom_sound i _ h (law rows good i h e)
  row_sound i h (Pubk a) e = atom_sound i _ h (law rows good i h e)
  row_sound i h (Inv a) e =
      let s : IsKey (row rows a) = rw e at (good.sorted i h) in
      let b : a < i = rw e at (good.earlier i h) in
      let (k, q) = key_shown (term rows) s (term_law rows good a (omega arith)) in
      atom_sound i (asymmetric true k) h (law rows good i h e ∙ ap inv q)
  row_sound i h (Ltk a b) e = atom_sound i _ h (law rows good i h e)
  row_sound i h (Pair a b) e =
      let l = law rows good i h e in
      let k : (a < i) × (b < i) = rw e at (good.earlier i h) in
      each_cons Sound (λ f. rw l (join (on_sheet i h l) (f a (Memᴰ.head refl)) (f b (Memᴰ.tail (Memᴰ.head refl)))))
      (each_cons Sound (λ f. split_left (on_sheet a (omega arith) refl) (rw l at (f i (Memᴰ.head refl))))
      (each_cons Sound (λ f. split_right (on_sheet b (omega arith) refl) (rw l at (f i (Memᴰ.head refl)))) (each_nil Sound)))
  row_sound i h (Enc a b) e =
      let l = law rows good i h e in
      let k : (a < i) × (b < i) = rw e at (good.earlier i h) in
      let d : term rows (inverse_at rows b) ≡ inv (term rows b) = (inverse_law rows good b (omega arith)).means in
      each_cons Sound (λ f. rw l (encrypt (on_sheet i h l) (f a (Memᴰ.head refl))
      (f b (Memᴰ.tail (Memᴰ.head refl)))))
      (each_cons Sound
      (λ f. decrypt (on_sheet a (omega arith) refl) (rw l at (f i (Memᴰ.head refl)))
      (rw d at (f (inverse_at rows b) (Memᴰ.tail (Memᴰ.head refl)))))
      (each_nil Sound))
  row_sound i h (Hash a) e = let l = law rows good i h e in each_cons Sound
      (λ f. rw l (make_hash (on_sheet i h l) (f a (Memᴰ.head refl)))) (each_nil Sound)

  sent_sound : (i : ℕ) → Memᴰ i sent → Sound (◌⊢◌ [] i)
  unfolding Sound Here
  sent_sound i m f = given (on_sheet i (in_table i m) refl) (record { which = i; listed = m; means = refl })

  rules_sound : Each Sound (table_rules rows withheld sent)
  unfolding table_rules
  rules_sound = each_append Sound (sent_rules sent) (each_sent Sound sent sent_sound)
      (each_row (row_rules withheld (inverse_at rows)) Sound rows 0
      (λ i p e h. row_sound p (omega arith) (row rows i) (ap (row rows) (omega arith))))

  reached_local : {i : ℕ} → Reached (table_rules rows withheld sent) i → Here i
  unfolding Sound
  reached_local (by {r = r} m f) = rules_sound r m (λ j k. reached_local (f j k))

  -- What is locally derivable is reached

  R : ℕ → Type 0
  R i = Reached (table_rules rows withheld sent) i

  -- a rule of the row of a term of the sheet
  rule_of : {t : Term} {r : Rule} → OnSheet rows t
      → Memᴰ r (row_rules withheld (inverse_at rows) (number rows t) (row_of (number rows) t))
      → Memᴰ r (table_rules rows withheld sent)
  unfolding table_rules
  rule_of {t} s m =
      let h : number rows t < length rows = rw (number_place rows good s) s.inside in
      Memᴰ.append_right (sent_rules sent) (of_row (row_rules withheld (inverse_at rows)) rows 0 (number rows t) (number rows t)
      (omega arith) h (rw (row_at_number rows good s) m))

  atom_row_rules : (a : Atom) (i : ℕ)
      → row_rules withheld (inverse_at rows) i (row_of (number rows) (atom a)) ≡ atom_rules withheld (inverse_at rows) i
  unfolding row_rules row_of
  atom_row_rules (text n) i = refl
  atom_row_rules (datum n) i = refl
  atom_row_rules (name n) i = refl
  atom_row_rules (symmetric (skey n)) i = refl
  atom_row_rules (symmetric (ltk a b)) i = refl
  atom_row_rules (asymmetric false (akey n)) i = refl
  atom_row_rules (asymmetric false (pubk n)) i = refl
  atom_row_rules (asymmetric true k) i = refl

  free_atom : (a : Atom) → OnSheet rows (atom a) → ¬ NumberWithheld rows withheld a → withheld (number rows (atom a)) ≡ false
  free_atom a s n = go (withheld (number rows (atom a))) refl
    where
      go : (b : Bool) → withheld (number rows (atom a)) ≡ b → b ≡ false
      go true e = absurd (n (record {
        which = s.which;
        inside = s.inside;
        held = rw (← number_place rows good s, e) tt;
        means = s.means;
      }))
      go false e = refl

  sent_reached : {t : Term} → NumberSent rows sent t → R (number rows t)
  unfolding R table_rules
  sent_reached g =
      let i = g.which in
      let e : number rows (term rows i) ≡ i = number_term rows good i (in_table i g.listed) in
      rw (← g.means, e) (by (Memᴰ.append_left _ (of_sent sent g.listed)) (each_nil R))

  atom_reached : {a : Atom} → OnSheet rows (atom a) → ¬ NumberWithheld rows withheld a → R (number rows (atom a))
  unfolding R atom_rules
  atom_reached {a} s n = by {r = ◌⊢◌ [] (number rows (atom a))}
      (rule_of s (rw (atom_row_rules a (number rows (atom a)), free_atom a s n) (Memᴰ.head refl))) (each_nil R)

  inverse_number : {k : Term} → OnSheet rows k → inverse_at rows (number rows k) ≡ number rows (inv k)
  inverse_number {k} s =
      let v = inverse_law rows good s.which s.inside in
      rw (number_place rows good s) (back (number_term rows good _ v.inside) ∙ ap (number rows) (v.means ∙ ap inv s.means))

  local_reached : {t : Term} → Local (OnSheet rows) (NumberSent rows sent) (NumberWithheld rows withheld) t → R (number rows t)
  unfolding R row_rules row_of atom_rules
  local_reached (given s g) = sent_reached g
  local_reached (a_tag s) = by (rule_of s (Memᴰ.head refl)) (each_nil R)
  local_reached (a_mesg s) = by (rule_of s (Memᴰ.head refl)) (each_nil R)
  local_reached (an_atom s n) = atom_reached s n
  local_reached (join s d e) =
      by (rule_of s (Memᴰ.head refl)) (each_cons R (local_reached d) (each_cons R (local_reached e) (each_nil R)))
  local_reached (split_left s d) =
      by (rule_of (local_on_sheet _ _ _ d) (Memᴰ.tail (Memᴰ.head refl))) (each_cons R (local_reached d) (each_nil R))
  local_reached (split_right s d) = by (rule_of (local_on_sheet _ _ _ d) (Memᴰ.tail (Memᴰ.tail (Memᴰ.head refl))))
      (each_cons R (local_reached d) (each_nil R))
  local_reached (encrypt s d e) =
      by (rule_of s (Memᴰ.head refl)) (each_cons R (local_reached d) (each_cons R (local_reached e) (each_nil R)))
  local_reached (decrypt s d e) = by (rule_of (local_on_sheet _ _ _ d) (Memᴰ.tail (Memᴰ.head refl)))
      (each_cons R (local_reached d) (each_cons R (rw (inverse_number (on_enc rows good (local_on_sheet _ _ _ d)).1)
      (local_reached e)) (each_nil R)))
  local_reached (make_hash s d) = by (rule_of s (Memᴰ.head refl)) (each_cons R (local_reached d) (each_nil R))

  -- THE RULES DECIDE: reached is derivable, in the set that ranges over all terms
  pub reached_iff_derivable : (i : ℕ) → i < length rows
      → Reached (table_rules rows withheld sent) i ↔ Derivable (NumberSent rows sent) (NumberWithheld rows withheld) (term rows i)
  unfolding R Here
  reached_iff_derivable i h =
      (λ r. local.1 (reached_local r), λ d. rw (number_term rows good i h) at (local_reached (local.0 d)))
    where
      local : Derivable (NumberSent rows sent) (NumberWithheld rows withheld) (term rows i) ↔ Local (OnSheet rows)
          (NumberSent rows sent) (NumberWithheld rows withheld) (term rows i)
      local = derivable_iff_local (OnSheet rows) (NumberSent rows sent) (NumberWithheld rows withheld) (sheet_closed rows good)
          (λ t g. on_sheet g.which (in_table g.which g.listed) g.means) (on_sheet i h refl)

  -- The computation

  Below : Rule → Type 0
  Below r = r.gives < length rows

  atom_below : (i : ℕ) → i < length rows → Each Below (atom_rules withheld (inverse_at rows) i)
  unfolding atom_rules Below
  atom_below i h = go (withheld i)
    where
      go : (b : Bool) → Each Below (cond b [] (◌⊢◌ [] i ∷ []))
      go true = each_nil Below
      go false = each_cons Below h (each_nil Below)

  row_below : (i : ℕ) → i < length rows → (r : Row) → Earlier i r → Each Below (row_rules withheld (inverse_at rows) i r)
  unfolding row_rules Below Earlier
  row_below i h (Tag n) k = each_cons Below h (each_nil Below)
  row_below i h (Mesg n) k = each_cons Below h (each_nil Below)
  row_below i h (Text n) k = atom_below i h
  row_below i h (Datum n) k = atom_below i h
  row_below i h (Name n) k = atom_below i h
  row_below i h (Skey n) k = atom_below i h
  row_below i h (Akey n) k = atom_below i h
  row_below i h (Pubk a) k = atom_below i h
  row_below i h (Inv a) k = atom_below i h
  row_below i h (Ltk a b) k = atom_below i h
  row_below i h (Pair a b) k = each_cons Below h (each_cons Below (omega arith) (each_cons Below (omega arith) (each_nil Below)))
  row_below i h (Enc a b) k = each_cons Below h (each_cons Below (omega arith) (each_nil Below))
  row_below i h (Hash a) k = each_cons Below h (each_nil Below)

  rules_below : Each Below (table_rules rows withheld sent)
  unfolding table_rules Below
  rules_below =
      each_append Below (sent_rules sent) (each_sent Below sent in_table)
      (each_row (row_rules withheld (inverse_at rows)) Below rows 0
      (λ i p e h. let q : p ≡ i = omega arith in row_below p (omega arith) (row rows i) (rw q (good.earlier i h))))

  pub derivable_decided : (i : ℕ) → i < length rows
      → T (marked (reach (table_rules rows withheld sent) (length rows)) i) ↔ Derivable (NumberSent rows sent)
      (NumberWithheld rows withheld) (term rows i)
  unfolding InRange Below
  derivable_decided i h =
      Iff.trans (reach_iff (length rows) (table_rules rows withheld sent) rules_below i) (reached_iff_derivable i h)
