-- The row of a kind with its arguments, and the images of atoms. Assumes nothing.
use mathlib.Core.Path.{◌≡◌, refl, sym, ap, ap₂, ◌∙◌}
use mathlib.Core.Bool.{true, false}
use mathlib.Core.List.{List}
use mathlib.Core.Logic.{◌≢◌}
use Prim.Native.Nat.{ℕ, ◌+◌, ◌<◌, ◌≤◌}
use native.Mathlib.Omega.{arith}
use lib.Dec.{T, ltb, leb, lt→ltb}
use lib.ListN.{length}
use Rattle.std.proofs.Common.{Option, Some, None}
use Rattle.terms.specs.declared.Term as Number
use Rattle.model.specs.Term.{Asym, ltk, pubk, name, symmetric, asymmetric, Term, mesg, atom, inv, flip}
use Rattle.model.specs.Carry.{Occurs, in_inverse, in_pubk, in_ltk_left, in_ltk_right}
use Rattle.model.specs.Subst.{Subst, turned, on_sym, on_asym, on_atom, apply, Variable}
use Rattle.model.specs.Table.{Row, Text, Datum, Name, Skey, Akey, Pubk, Inv, Ltk, row, kind, first, second, is_atom, name_of, meaning, term}
use Rattle.model.specs.Reading.{an_atom}
use Rattle.tables.proofs.Look.{count_is, row_in, kind_is}
use Rattle.theory.specs.Tests.{both, pair_up}
use Rattle.theory.specs.Parts.{occurs_after}
use Rattle.model.proofs.Laws.{inv-inv}
use Rattle.model.proofs.Laws.{inv_apply}
use Rattle.theory.specs.GoodTable.{Good, IsName, IsKey, an_akey, a_pubk, Earlier, Sorted}
use Rattle.theory.specs.Numbers.{row_of, term_law, law, number, number_term, name_shown, key_shown}
use Rattle.theory.specs.Numbers as Numbers
use Rattle.theory.specs.OnSheet.{OnSheet, on_inverse}
use Rattle.theory.specs.Reach.{inverse_at, inverse_law}
use Rattle.tables.specs.Layout.{firsts, seconds, term_count}
use Rattle.tables.specs.Tables.{byte, the_row, row_at, rows_in, Filled}
use Rattle.tables.specs.Rows.{IsRow, LooksUp, found, missing}
use Rattle.keys.specs.Inverted.{Inverted}
use Rattle.keys.proofs.Rows.{EarlierBytes, earlier_bytes}
use Rattle.maps.specs.Images.{IsImage, on, off, Gives, Known, Imaged}

-- What an image says

module _ {rows : List Row} {t : Term} where
  pub on_sheet : {i : Number.Term} → IsImage rows t (Some i) → (i.0 < length rows) × (term rows i.0 ≡ t)
  on_sheet (on h e) = (h, e)

  pub off_sheet : IsImage rows t None → ¬ OnSheet rows t
  off_sheet (off n) = n

same_number : {i j : Number.Term} → Some i ≡ Some j → i.0 ≡ j.0
same_number {i} {j} e = let z : i ≡ j = cc in ap (λ (n : Number.Term). n.0) z

-- The sorts of rows

variable_row : (f : ℕ → Term) (r : Row) → T (is_atom r) → kind r ≢ 7 → kind r ≢ 8 → kind r ≢ 9 → Variable (meaning f r)
unfolding is_atom kind meaning
variable_row f (Text n) h p q s = Variable.a_text
variable_row f (Datum n) h p q s = Variable.a_datum
variable_row f (Name n) h p q s = Variable.a_name
variable_row f (Skey n) h p q s = Variable.an_skey
variable_row f (Akey n) h p q s = Variable.an_akey
variable_row f (Pubk a) h p q s = absurd (p refl)
variable_row f (Inv a) h p q s = absurd (q refl)
variable_row f (Ltk a b) h p q s = absurd (s refl)
variable_row f _ h p q s = elim h [ ]

no_inverse : {r : Row} → IsKey r → kind r ≢ 8
unfolding kind
no_inverse an_akey e = omega arith
no_inverse a_pubk e = omega arith

key_atom : {r : Row} → IsKey r → T (is_atom r)
unfolding is_atom kind
key_atom an_akey = tt
key_atom a_pubk = tt

-- a key occurs in its inverse
in_its_inverse : (k : Asym) {s u : Term} → s ≡ atom (asymmetric false k) → u ≡ inv s → Occurs s u
unfolding inv flip
in_its_inverse k {s} {u} z e =
    let m : u ≡ atom (asymmetric true k) = e ∙ ap inv z in
    rw (z, m) (Occurs.inside in_inverse Occurs.here)

module _ {t : List ℕ} (filled : Filled t) (good : Good (rows_in t)) (images : List ℕ) where
  abbrev rows : List Row
  rows = rows_in t

  -- the row of three bytes, and the three bytes of a row
  row_found : {k a b i : ℕ} → i < byte t term_count → IsRow t k a b i → row rows i ≡ the_row k a b
  row_found {i = i} h is = row_in t i h ∙ rw (is.kind, is.first, is.second)

  row_has : (i : ℕ) → i < byte t term_count → {r : Row} → row rows i ≡ r → IsRow t (kind r) (first r) (second r) i
  row_has i h {r} e =
      let c = filled.encoded i h in
      let q : row_at t i ≡ r = sym (row_in t i h) ∙ e in
      record {
        kind = sym c.kind_is ∙ ap kind q;
        first = sym c.first_is ∙ ap first q;
        second = sym c.second_is ∙ ap second q;
      }

  -- A term that was looked up

  looked_inside : {k a b : ℕ} {r : Option Number.Term} → LooksUp t k a b r → (i : ℕ) → r ≡ Some (record { 0 = i }) → i < length rows
  looked_inside (found {i = j} h is) i e = omega (arith, h, count_is t, same_number e)
  looked_inside (missing n) i e = let z : ◌≡◌ {A = ℕ} 0 1 = cc in absurd (omega arith)

  looked : {w : Term} {r : Option Number.Term} (q : Row) → the_row (kind q) (first q) (second q) ≡ q
      → LooksUp t (kind q) (first q) (second q) r
      → meaning (term rows) q ≡ w
      → ((s : OnSheet rows w) → row rows s.which ≡ q)
      → IsImage rows w r
  looked q z (found {i} h is) e f =
      let l : i < length rows = omega (arith, count_is t) in on l (law rows good i l (row_found h is ∙ z) ∙ e)
  looked q z (missing n) e f =
      off (λ s. let h : s.which < byte t term_count = omega (arith, s.inside, count_is t) in n s.which h
      (row_has s.which h (f s)))

  -- an image has a number below 200
  pub image_low : {a : ℕ} {r : Option Number.Term} → Imaged rows images a r → (i : Number.Term) → r ≡ Some i → i.0 < 200
  image_low image i e = omega (arith, image.inside i.0 e, count_is t, filled.terms)

  module _ (a : ℕ) (h : a < byte t term_count) where
    here : a < length rows
    here = rw (count_is t) h

    -- An image that is known

    pub known_image : byte images a < byte t term_count → Imaged rows images a (Some (record { 0 = byte images a }))
    known_image l =
        let k : byte images a < length rows = rw (count_is t) l in
        record { is = λ σ g _. on k (g.image a here k); inside = λ i e. omega (arith, same_number e) }

    -- A variable's image is known

    pub no_image : byte t term_count ≤ byte images a → byte t a ≢ 7 → byte t a ≢ 8 → byte t a ≢ 9 → Imaged rows images a None
    unfolding an_atom
    no_image n p q s =
        record {
          is = λ σ g k.
              let e = kind_is t a filled h in
              let atom = (both (ltb a (length rows)) _ k.atom).1 in
              let v : Variable (term rows a) = rw (term_law rows good a here)
              (variable_row (term rows) (row rows a) atom (λ z. p (sym e ∙ z)) (λ z. q (sym e ∙ z)) (λ z. s (sym e ∙ z))) in
              absurd (omega (arith, count_is t, k.variables a here v Occurs.here));
          inside = λ i e. let z : ◌≡◌ {A = ℕ} 0 1 = cc in absurd (omega arith);
        }

    -- The key of names, by their images

    -- a name of the atom a
    record Named (σ : Subst) (x : ℕ) : Type 0 where
      inside : byte images x < length rows
      is : term rows (byte images x) ≡ atom (name (σ.to_name (name_of (term rows x))))
      numbered : number rows (atom (name (σ.to_name (name_of (term rows x))))) ≡ byte images x

    named : {σ : Subst} → Gives rows images σ → Known rows images a → (x : ℕ) → x < length rows → IsName (row rows x)
        → Occurs (atom (name (name_of (term rows x)))) (term rows a)
        → Named σ x
    unfolding apply on_atom
    named {σ} g k x l n o =
        let e : atom (name (name_of (term rows x))) ≡ term rows x = name_shown (term rows) n (term_law rows good x l) in
        let c : byte images x < length rows = k.variables x l (rw (← e) Variable.a_name) (rw (← e) o) in
        let i : term rows (byte images x) ≡ atom (name (σ.to_name (name_of (term rows x)))) =
        g.image x l c ∙ ap (apply σ) (sym e) in
        record { inside = c; is = i; numbered = ap (number rows) (sym i) ∙ number_term rows good (byte images x) c }

    -- the row that the image of a must have
    row_at_image : {w : Term} (s : OnSheet rows w) → row rows s.which ≡ row_of (number rows) w
    row_at_image s = Numbers.row_is rows good s.which s.inside ∙ ap (row_of (number rows)) s.means

    pub public_image : {r : Option Number.Term} → byte t a ≡ 7 → LooksUp t 7 (byte images (byte t (firsts + a))) 0 r → Imaged rows images a r
    unfolding the_row Earlier Sorted meaning apply on_atom on_asym turned row_of name_of kind first second
    public_image {r} e up =
        let x = byte t (firsts + a) in
        let q : row rows a ≡ Pubk x = row_in t a h ∙ rw e in
        let l : x < a = rw q at (good.earlier a here) in
        let n : IsName (row rows x) = rw q at (good.sorted a here) in
        let m : term rows a ≡ atom (asymmetric false (pubk (name_of (term rows x)))) = law rows good a here q in
        record {
          is = λ σ g k.
              let y = named g k x (omega (arith, here)) n (rw m (Occurs.inside in_pubk Occurs.here)) in
              rw m (looked (Pubk (byte images x)) refl up (rw y.is) (λ s. row_at_image s ∙ ap Pubk y.numbered));
          inside = looked_inside up;
        }

    pub long_term_image : {r : Option Number.Term} → byte t a ≡ 9
        → LooksUp t 9 (byte images (byte t (firsts + a))) (byte images (byte t (seconds + a))) r
        → Imaged rows images a r
    unfolding the_row Earlier Sorted meaning apply on_atom on_sym row_of name_of kind first second
    long_term_image {r} e up =
        let x = byte t (firsts + a) in
        let y = byte t (seconds + a) in
        let q : row rows a ≡ Ltk x y = row_in t a h ∙ rw e in
        let l : (x < a) × (y < a) = rw q at (good.earlier a here) in
        let n : IsName (row rows x) × IsName (row rows y) = rw q at (good.sorted a here) in
        let m : term rows a ≡ atom (symmetric (ltk (name_of (term rows x)) (name_of (term rows y)))) =
        law rows good a here q in
        record {
          is = λ σ g k.
              let u = named g k x (omega (arith, here)) n.0 (rw m (Occurs.inside in_ltk_left Occurs.here)) in
              let v = named g k y (omega (arith, here)) n.1 (rw m (Occurs.inside in_ltk_right Occurs.here)) in
              rw m (looked (Ltk (byte images x) (byte images y)) refl up (rw (u.is, v.is))
              (λ s. row_at_image s ∙ ap₂ Ltk u.numbered v.numbered));
          inside = looked_inside up;
        }

    -- The inverse of a key, by the image of the key

    pub args_low : {k : ℕ} → byte t a ≡ k → T (leb 7 k) → EarlierBytes t a
    args_low e l = earlier_bytes t a filled h (good.earlier a here) (rw e l)

    module _ (e : byte t a ≡ 8) where
      abbrev key : ℕ
      key = byte t (firsts + a)

      inverse_row : row rows a ≡ Inv key
      unfolding the_row
      inverse_row = row_in t a h ∙ rw e

      key_low : key < length rows
      key_low = omega (arith, (args_low e tt).first, here)

      is_key : IsKey (row rows key)
      unfolding Sorted
      is_key = rw inverse_row at (good.sorted a here)

      pub key_plain : byte t key ≢ 8
      key_plain z = no_inverse is_key (kind_is t key filled (rw (← count_is t) key_low) ∙ z)

      inverse_term : term rows a ≡ inv (term rows key)
      unfolding meaning
      inverse_term = law rows good a here inverse_row

      -- the key of an atom that is known
      known_key : Known rows images a → Known rows images key
      unfolding an_atom
      known_key k =
          let (y, z) = key_shown (term rows) is_key (term_law rows good key key_low) in
          record {
            atom = pair_up (ltb key (length rows)) (is_atom (row rows key)) (lt→ltb key (length rows) key_low) (key_atom is_key);
            variables = λ x l v o. k.variables x l v (occurs_after o (in_its_inverse y z inverse_term));
          }

      inverse_goes : (σ : Subst) → inv (apply σ (term rows key)) ≡ apply σ (term rows a)
      inverse_goes σ =
          let (y, z) = key_shown (term rows) is_key (term_law rows good key key_low) in
          let keyish : (n : ℕ) → term rows key ≢ mesg n = λ n e. let y : ◌≡◌ {A = ℕ} 0 1 = cc in omega arith in
          inv_apply σ (term rows key) keyish ∙ ap (apply σ) (sym inverse_term)

      pub inverse_on : {inverses : List ℕ} {i : Number.Term} → Inverted rows inverses → Imaged rows images key (Some i)
          → Imaged rows images a (Some (record { 0 = byte inverses i.0 }))
      inverse_on {inverses} {i} inverted image =
          let l : i.0 < length rows = image.inside i.0 refl in
          let law = inverse_law rows good i.0 l in
          let q : byte inverses i.0 ≡ inverse_at rows i.0 = inverted.at i.0 l in
          let k : byte inverses i.0 < length rows = rw q law.inside in
          record {
            is = λ σ g known.
                let m = (on_sheet (image.is σ g (known_key known))).1 in
                on k (ap (term rows) q ∙ (law.means ∙ (ap inv m ∙ inverse_goes σ)));
            inside = λ j z. omega (arith, same_number z);
          }

      pub inverse_off : Imaged rows images key None → Imaged rows images a None
      inverse_off image =
          record {
            is = λ σ g known. off (λ s. off_sheet (image.is σ g (known_key known)) (rw (inv-inv _)
                at (on_inverse rows good _ (rw (← inverse_goes σ) at s))));
            inside = λ j z. let y : ◌≡◌ {A = ℕ} 0 1 = cc in absurd (omega arith);
          }
