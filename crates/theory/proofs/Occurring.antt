-- Occurring decided on a table's numbers.
use Rattle.std.specs.Prelude.{◌≡◌, ◌↔◌, ℕ, ◌<◌, T}
use Rattle.std.proofs.Math.Path.{refl, ap}
use Rattle.std.proofs.Common.{◌∙◌}
use Rattle.std.proofs.Math.Bool.{true, false}
use Rattle.std.proofs.Math.Logic.Iff
use mathlib.Core.List.{List, [], ◌∷◌, Memᴰ}
use native.Mathlib.Omega.{arith}
use Rattle.std.proofs.Math.ListN.{length}
use Rattle.model.specs.Term.{pubk, Atom, name, asymmetric, Term, atom, inv, flip}
use Rattle.model.specs.Carry.{Inside, in_inverse, in_pubk, in_ltk_left, in_ltk_right, Occurs, here, left, right, body, key, hashed, inside}
use Rattle.model.specs.Table.{Row, Tag, Mesg, Text, Datum, Name, Skey, Akey, Pubk, Inv, Ltk, Pair, Enc, Hash, row, meaning, term, name_of}
use Rattle.theory.specs.Each.{Each, each_nil, each_cons}
use Rattle.theory.specs.GoodTable.{Good, Earlier, Sorted, IsName, IsKey}
use Rattle.theory.specs.Numbers.{row_of, term_law, law, number, number_term, number_found, name_shown, key_shown}
use Rattle.theory.specs.OnSheet.{OnSheet, on_pair, on_enc, on_hash, number_inside, row_at_number}
use Rattle.theory.specs.Rules.{Rule, ◌⊢◌, Reached, by, marked, reach, InRange}
use Rattle.theory.proofs.Rules.{reach_iff}
use Rattle.theory.specs.RowRules.{rules_from, of_row, each_row}

-- "Occurring goes into every part: bodies, keys, what is hashed, and the key or names inside an atom."
unfoldable pub parts : Row → List ℕ
parts (Tag n) = []
parts (Mesg n) = []
parts (Text n) = []
parts (Datum n) = []
parts (Name n) = []
parts (Skey n) = []
parts (Akey n) = []
parts (Pubk a) = a ∷ []
parts (Inv a) = a ∷ []
parts (Ltk a b) = a ∷ b ∷ []
parts (Pair a b) = a ∷ b ∷ []
parts (Enc a b) = a ∷ b ∷ []
parts (Hash a) = a ∷ []

unfoldable pub to_each : ℕ → List ℕ → List Rule
to_each i [] = []
to_each i (a ∷ l) = ◌⊢◌ (a ∷ []) i ∷ to_each i l

unfoldable pub part_rules : ℕ → Row → List Rule
unfolding parts to_each
part_rules i r = to_each i (parts r)

unfoldable pub occur_rules : List Row → ℕ → List Rule
unfolding part_rules rules_from
occur_rules rows t = ◌⊢◌ [] t ∷ rules_from part_rules 0 rows

each_part : (P : Rule → Type 0) (i : ℕ) (l : List ℕ) → Each (λ a. P (◌⊢◌ (a ∷ []) i)) l → Each P (to_each i l)
unfolding to_each
each_part P i [] f = each_nil P
each_part P i (a ∷ l) f = each_cons P (f a (Memᴰ.head refl)) (each_part P i l (λ b m. f b (Memᴰ.tail m)))

part_rule : (i a : ℕ) (l : List ℕ) → Memᴰ a l → Memᴰ (◌⊢◌ (a ∷ []) i) (to_each i l)
unfolding to_each
part_rule i a (b ∷ l) (Memᴰ.head e) = Memᴰ.head (ap (λ c. ◌⊢◌ (c ∷ []) i) e)
part_rule i a (b ∷ l) (Memᴰ.tail m) = Memᴰ.tail (part_rule i a l m)
part_rule i a [] x' = elim x' [ ]

module _ (rows : List Row) (good : Good rows) where
  -- a part of a term of the sheet is on the sheet
  parts_earlier : (i : ℕ) (r : Row) → Earlier i r → Each (λ a. a < i) (parts r)
  unfolding Earlier parts
  parts_earlier i (Tag n) h = each_nil _
  parts_earlier i (Mesg n) h = each_nil _
  parts_earlier i (Text n) h = each_nil _
  parts_earlier i (Datum n) h = each_nil _
  parts_earlier i (Name n) h = each_nil _
  parts_earlier i (Skey n) h = each_nil _
  parts_earlier i (Akey n) h = each_nil _
  parts_earlier i (Pubk a) h = each_cons _ h (each_nil _)
  parts_earlier i (Inv a) h = each_cons _ h (each_nil _)
  parts_earlier i (Ltk a b) h = each_cons _ h.0 (each_cons _ h.1 (each_nil _))
  parts_earlier i (Pair a b) h = each_cons _ h.0 (each_cons _ h.1 (each_nil _))
  parts_earlier i (Enc a b) h = each_cons _ h.0 (each_cons _ h.1 (each_nil _))
  parts_earlier i (Hash a) h = each_cons _ h (each_nil _)

  part_on : {u : Term} (v : Term) → OnSheet rows u → Memᴰ (number rows v) (parts (row_of (number rows) u)) → OnSheet rows v
  part_on {u} v s m =
      let l : number rows u < length rows = number_inside rows good s in
      let e : Earlier (number rows u) (row_of (number rows) u) =
      rw (row_at_number rows good s) at (good.earlier (number rows u) l) in
      let k : number rows v < number rows u = parts_earlier (number rows u) (row_of (number rows) u) e (number rows v) m in
      let h : number rows v < length rows = omega arith in
      record { which = number rows v; inside = h; means = number_found rows good v h }

  pub occurs_on : {t u : Term} → Occurs t u → OnSheet rows u → OnSheet rows t
  unfolding parts row_of
  occurs_on here s = s
  occurs_on (left o) s = occurs_on o (on_pair rows good s).0
  occurs_on (right o) s = occurs_on o (on_pair rows good s).1
  occurs_on (body o) s = occurs_on o (on_enc rows good s).0
  occurs_on (key o) s = occurs_on o (on_enc rows good s).1
  occurs_on (hashed o) s = occurs_on o (on_hash rows good s)
  occurs_on (inside in_inverse o) s = occurs_on o (part_on _ s (Memᴰ.head refl))
  occurs_on (inside (in_pubk {i = false}) o) s = occurs_on o (part_on _ s (Memᴰ.head refl))
  occurs_on (inside (in_pubk {i = true} {a}) o) s =
      occurs_on o (part_on _ (part_on (atom (asymmetric false (pubk a))) s (Memᴰ.head refl)) (Memᴰ.head refl))
  occurs_on (inside in_ltk_left o) s = occurs_on o (part_on _ s (Memᴰ.head refl))
  occurs_on (inside in_ltk_right o) s = occurs_on o (part_on _ s (Memᴰ.tail (Memᴰ.head refl)))

  module _ (t : ℕ) (t_inside : t < length rows) where
    There : ℕ → Type 0
    There i = Occurs (term rows t) (term rows i)

    Sound : Rule → Type 0
    Sound r = Each There r.needs → There r.gives

    step_sound : (i a : ℕ) → (There a → There i) → Sound (◌⊢◌ (a ∷ []) i)
    unfolding Sound
    step_sound i a f g = f (g a (Memᴰ.head refl))

    named : (i a : ℕ) {b : Atom} → a < length rows → IsName (row rows a) → term rows i ≡ atom b
        → Inside (name (name_of (term rows a))) b → There a → There i
    unfolding There
    named i a h n e k o =
        let q : atom (name (name_of (term rows a))) ≡ term rows a = name_shown (term rows) n (term_law rows good a h) in
        rw e (inside k (rw (← q) at o))

    row_sound : (i : ℕ) → i < length rows → (r : Row) → row rows i ≡ r → Each (λ a. Sound (◌⊢◌ (a ∷ []) i)) (parts r)
    unfolding parts There meaning Earlier Sorted inv flip
    row_sound i h (Tag n) e = each_nil _
    row_sound i h (Mesg n) e = each_nil _
    row_sound i h (Text n) e = each_nil _
    row_sound i h (Datum n) e = each_nil _
    row_sound i h (Name n) e = each_nil _
    row_sound i h (Skey n) e = each_nil _
    row_sound i h (Akey n) e = each_nil _
    row_sound i h (Pubk a) e =
        let s : IsName (row rows a) = rw e at (good.sorted i h) in
        let b : a < i = rw e at (good.earlier i h) in
        each_cons _ (step_sound i a (named i a (omega arith) s (law rows good i h e) in_pubk)) (each_nil _)
    row_sound i h (Inv a) e =
        let s : IsKey (row rows a) = rw e at (good.sorted i h) in
        let b : a < i = rw e at (good.earlier i h) in
        let (k, q) = key_shown (term rows) s (term_law rows good a (omega arith)) in
        let l : term rows i ≡ atom (asymmetric true k) = law rows good i h e ∙ ap inv q in
        each_cons _ (step_sound i a (λ o. rw l (inside in_inverse (rw q at o)))) (each_nil _)
    row_sound i h (Ltk a b) e =
        let s : IsName (row rows a) × IsName (row rows b) = rw e at (good.sorted i h) in
        let c : (a < i) × (b < i) = rw e at (good.earlier i h) in
        each_cons _ (step_sound i a (named i a (omega arith) s.0 (law rows good i h e) in_ltk_left))
        (each_cons _ (step_sound i b (named i b (omega arith) s.1 (law rows good i h e) in_ltk_right)) (each_nil _))
    row_sound i h (Pair a b) e =
        let l = law rows good i h e in
        each_cons _ (step_sound i a (λ o. rw l (left o))) (each_cons _ (step_sound i b (λ o. rw l (right o))) (each_nil _))
    row_sound i h (Enc a b) e =
        let l = law rows good i h e in
        each_cons _ (step_sound i a (λ o. rw l (body o))) (each_cons _ (step_sound i b (λ o. rw l (key o))) (each_nil _))
    row_sound i h (Hash a) e = let l = law rows good i h e in each_cons _ (step_sound i a (λ o. rw l (hashed o))) (each_nil _)

    rules_sound : Each Sound (occur_rules rows t)
    unfolding occur_rules Sound There part_rules
    rules_sound =
        each_cons Sound (λ f. here)
        (each_row part_rules Sound rows 0 (λ i p e h. each_part Sound p (parts (row rows i))
        (row_sound p (omega arith) (row rows i) (ap (row rows) (omega arith)))))

    reached_there : {i : ℕ} → Reached (occur_rules rows t) i → There i
    unfolding Sound
    reached_there (by {r = r} m f) = rules_sound r m (λ j k. reached_there (f j k))

    R : ℕ → Type 0
    R i = Reached (occur_rules rows t) i

    -- one part is reached, so the whole is
    whole : {u : Term} {a : ℕ} → OnSheet rows u → Memᴰ a (parts (row_of (number rows) u)) → R a → R (number rows u)
    unfolding R occur_rules part_rules
    whole {u} {a} s m r =
        by {r = ◌⊢◌ (a ∷ []) (number rows u)}
        (Memᴰ.tail (of_row part_rules rows 0 (number rows u) (number rows u) (omega arith) (number_inside rows good s)
        (rw (row_at_number rows good s) (part_rule (number rows u) a _ m))))
        (each_cons R r (each_nil R))

    there_reached : {u : Term} → OnSheet rows u → Occurs (term rows t) u → R (number rows u)
    unfolding R parts row_of occur_rules
    there_reached s here = rw (number_term rows good t t_inside) (by (Memᴰ.head refl) (each_nil R))
    there_reached s (left o) = whole s (Memᴰ.head refl) (there_reached (on_pair rows good s).0 o)
    there_reached s (right o) = whole s (Memᴰ.tail (Memᴰ.head refl)) (there_reached (on_pair rows good s).1 o)
    there_reached s (body o) = whole s (Memᴰ.head refl) (there_reached (on_enc rows good s).0 o)
    there_reached s (key o) = whole s (Memᴰ.tail (Memᴰ.head refl)) (there_reached (on_enc rows good s).1 o)
    there_reached s (hashed o) = whole s (Memᴰ.head refl) (there_reached (on_hash rows good s) o)
    there_reached s (inside in_inverse o) = whole s (Memᴰ.head refl) (there_reached (part_on _ s (Memᴰ.head refl)) o)
    there_reached s (inside (in_pubk {i = false}) o) =
        whole s (Memᴰ.head refl) (there_reached (part_on _ s (Memᴰ.head refl)) o)
    there_reached s (inside (in_pubk {i = true} {a}) o) =
        let k = part_on (atom (asymmetric false (pubk a))) s (Memᴰ.head refl) in
        whole s (Memᴰ.head refl) (whole k (Memᴰ.head refl) (there_reached (part_on _ k (Memᴰ.head refl)) o))
    there_reached s (inside in_ltk_left o) = whole s (Memᴰ.head refl) (there_reached (part_on _ s (Memᴰ.head refl)) o)
    there_reached s (inside in_ltk_right o) =
        whole s (Memᴰ.tail (Memᴰ.head refl)) (there_reached (part_on _ s (Memᴰ.tail (Memᴰ.head refl))) o)

    Below : Rule → Type 0
    Below r = r.gives < length rows

    rules_below : Each Below (occur_rules rows t)
    unfolding occur_rules Below part_rules
    rules_below =
        each_cons Below t_inside
        (each_row part_rules Below rows 0 (λ i p e h. each_part Below p (parts (row rows i))
        (λ a m. let l : p < length rows = omega arith in l)))

    pub occurs_iff : (i : ℕ) → i < length rows
        → T (marked (reach (occur_rules rows t) (length rows)) i) ↔ Occurs (term rows t) (term rows i)
    unfolding InRange Below R There
    occurs_iff i h =
        Iff.trans (reach_iff (length rows) (occur_rules rows t) rules_below i)
        (reached_there, λ o. rw (number_term rows good i h) at (there_reached (record { which = i; inside = h; means = refl }) o))
