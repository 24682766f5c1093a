-- Matching on a table: an image for each term that has one, and the substitution that it stands for.
use Rattle.std.specs.Prelude.{◌≡◌, Bool, false, ◌≢◌, List, ℕ, zero, suc, ◌<◌, length}
use Rattle.std.proofs.Math.Path.{refl, ap, ap₂, sym as back}
use Rattle.std.proofs.Common.{◌∙◌, arith}
use Rattle.std.proofs.Math.Option.{Option, none, some}
use Rattle.model.specs.Term.{Sym, skey, Asym, akey, Atom, text, datum, name, symmetric, asymmetric, Term, tag, mesg, atom, pair, enc, hash, inv}
use Rattle.model.specs.Subst.{Subst, on_atom, on_asym, on_sym, turned, apply}
use Rattle.model.specs.Table.{Row, Tag, Mesg, Text, Datum, Name, Skey, Akey, Pubk, Inv, Ltk, Pair, Enc, Hash, row, name_of, meaning, term}
use Rattle.model.proofs.Laws.{inv-inv, inv_apply}
use Rattle.theory.specs.GoodTable.{IsName, IsKey, Good, Earlier, Sorted}
use Rattle.theory.specs.Numbers.{row_of, term_law, law, number, number_term, row_is, key_shown, name_shown}
use Rattle.theory.specs.OnSheet.{OnSheet, on_inverse, term_number, number_inside}

-- an atom is no message variable
no_variable : {a : Atom} {n : ℕ} → atom a ≡ mesg n → ⊥
no_variable e = let z : ◌≡◌ {A = ℕ} 0 1 = cc in omega arith

-- what a term of a sort holds
unfoldable pub text_of : Term → ℕ
text_of (tag n) = 0
text_of (mesg n) = 0
text_of (atom (text n)) = n
text_of (atom (datum n)) = n
text_of (atom (name n)) = n
text_of (atom (symmetric k)) = 0
text_of (atom (asymmetric i k)) = 0
text_of (pair t u) = 0
text_of (enc t k) = 0
text_of (hash t) = 0

unfoldable pub sym_of : Term → Sym
sym_of (tag n) = skey 0
sym_of (mesg n) = skey 0
sym_of (atom (text n)) = skey 0
sym_of (atom (datum n)) = skey 0
sym_of (atom (name n)) = skey 0
sym_of (atom (symmetric k)) = k
sym_of (atom (asymmetric i k)) = skey 0
sym_of (pair t u) = skey 0
sym_of (enc t k) = skey 0
sym_of (hash t) = skey 0

unfoldable pub asym_of : Term → Bool × Asym
asym_of (tag n) = (false, akey 0)
asym_of (mesg n) = (false, akey 0)
asym_of (atom (text n)) = (false, akey 0)
asym_of (atom (datum n)) = (false, akey 0)
asym_of (atom (name n)) = (false, akey 0)
asym_of (atom (symmetric k)) = (false, akey 0)
asym_of (atom (asymmetric i k)) = (i, k)
asym_of (pair t u) = (false, akey 0)
asym_of (enc t k) = (false, akey 0)
asym_of (hash t) = (false, akey 0)

module _ (rows : List Row) (img : ℕ → Option ℕ) where
  -- the image of a term by its number
  unfoldable pub shown : Option ℕ → Term
  shown none = tag 0
  shown (some u) = term rows u

  unfoldable pub image : Term → Term
  unfolding shown
  image t = shown (img (number rows t))

  -- the substitution that the images stand for
  unfoldable pub reading : Subst
  reading =
      record {
        to_mesg = λ n. image (mesg n);
        to_text = λ n. text_of (image (atom (text n)));
        to_datum = λ n. text_of (image (atom (datum n)));
        to_name = λ n. text_of (image (atom (name n)));
        to_sym = λ n. sym_of (image (atom (symmetric (skey n))));
        to_asym = λ n. asym_of (image (atom (asymmetric false (akey n))));
      }

  -- the term numbered u may be the image of a term with this row
  unfoldable pub Fits : Row → ℕ → Type 0
  Fits (Tag n) u = term rows u ≡ tag n
  Fits (Mesg n) u = Unit {0}
  Fits (Text n) u = (k : ℕ) × (term rows u ≡ atom (text k))
  Fits (Datum n) u = (k : ℕ) × (term rows u ≡ atom (datum k))
  Fits (Name n) u = (k : ℕ) × (term rows u ≡ atom (name k))
  Fits (Skey n) u = (k : Sym) × (term rows u ≡ atom (symmetric k))
  Fits (Akey n) u = (i : Bool) × (k : Asym) × (term rows u ≡ atom (asymmetric i k))
  Fits (Pubk a) u = (c : ℕ) × (img a ≡ some c) × (row rows u ≡ Pubk c)
  Fits (Inv a) u = (c : ℕ) × (img a ≡ some c) × (c < length rows) × (term rows u ≡ inv (term rows c))
  Fits (Ltk a b) u = (c : ℕ) × (d : ℕ) × (img a ≡ some c) × (img b ≡ some d) × (row rows u ≡ Ltk c d)
  Fits (Pair a b) u = (c : ℕ) × (d : ℕ) × (img a ≡ some c) × (img b ≡ some d) × (row rows u ≡ Pair c d)
  Fits (Enc a b) u = (c : ℕ) × (d : ℕ) × (img a ≡ some c) × (img b ≡ some d) × (row rows u ≡ Enc c d)
  Fits (Hash a) u = (c : ℕ) × (img a ≡ some c) × (row rows u ≡ Hash c)

  pub record Coherent : Type 0 where
    pub inside : (t u : ℕ) → t < length rows → img t ≡ some u → u < length rows
    pub fits : (t u : ℕ) → t < length rows → img t ≡ some u → Fits (row rows t) u

  module _ (good : Good rows) (coherent : Coherent) where
    -- one term, where the earlier ones are known
    module _ (t u : ℕ) (h : t < length rows) (l : u < length rows) (e : img t ≡ some u)
        (known : (a c : ℕ) → a < t → img a ≡ some c → apply reading (term rows a) ≡ term rows c) where
      -- the term, and that its number is t
      image_is : {w : Term} → term rows t ≡ w → image w ≡ term rows u
      unfolding image shown
      image_is q = rw (← q, number_term rows good t h, e)

      name_image : (a c : ℕ) → a < t → IsName (row rows a) → img a ≡ some c
          → text_of (image (atom (name (name_of (term rows a))))) ≡ name_of (term rows c)
      unfolding apply reading on_atom name_of
      name_image a c b n i =
          let z = ap (apply reading) (name_shown (term rows) n (term_law rows good a (omega arith))) ∙ known a c b i in
          ap name_of z

      image_row : (r : Row) → row rows t ≡ r → Earlier t r → Sorted (row rows) r → Fits r u
          → apply reading (meaning (term rows) r) ≡ term rows u
      unfolding meaning apply reading Fits on_atom Earlier Sorted text_of sym_of asym_of turned on_asym on_sym
      image_row (Tag n) q b s f = back f
      image_row (Mesg n) q b s f = image_is (law rows good t h q)
      image_row (Text n) q b s (k, p) = rw (image_is (law rows good t h q), p)
      image_row (Datum n) q b s (k, p) = rw (image_is (law rows good t h q), p)
      image_row (Name n) q b s (k, p) = rw (image_is (law rows good t h q), p)
      image_row (Skey n) q b s (k, p) = rw (image_is (law rows good t h q), p)
      image_row (Akey n) q b s (i, k, p) = rw (image_is (law rows good t h q), p)
      image_row (Pubk a) q b s (c, i, p) = rw (law rows good u l p, name_image a c b s i)
      image_row (Inv a) q b s (c, i, _, p) =
          let (k, z) = key_shown (term rows) s (term_law rows good a (omega arith)) in
          let y : (n : ℕ) → term rows a ≢ mesg n = λ n e. no_variable (back z ∙ e) in
          back (inv_apply reading (term rows a) y) ∙ (ap inv (known a c b i) ∙ back p)
      image_row (Ltk a c) q b s (x, y, i, j, p) =
          rw (law rows good u l p, name_image a x b.0 s.0 i, name_image c y b.1 s.1 j)
      image_row (Pair a c) q b s (x, y, i, j, p) = rw (law rows good u l p, known a x b.0 i, known c y b.1 j)
      image_row (Enc a c) q b s (x, y, i, j, p) = rw (law rows good u l p, known a x b.0 i, known c y b.1 j)
      image_row (Hash a) q b s (x, i, p) = rw (law rows good u l p, known a x b i)

    images_upto : (m t u : ℕ) → t < m → t < length rows → img t ≡ some u → apply reading (term rows t) ≡ term rows u
    images_upto zero t u k h e = absurd (omega arith)
    images_upto (suc m) t u k h e =
        ap (apply reading) (term_law rows good t h)
        ∙ image_row t u h (coherent.inside t u h e) e (λ a c l i. images_upto m a c (omega arith) (omega arith) i)
        (row rows t) refl (good.earlier t h) (good.sorted t h) (coherent.fits t u h e)

    -- COHERENT IMAGES ARE A SUBSTITUTION'S
    pub images_read : (t u : ℕ) → t < length rows → img t ≡ some u → apply reading (term rows t) ≡ term rows u
    images_read t u h e = images_upto (suc t) t u (omega arith) h e

-- A SUBSTITUTION'S IMAGES ARE COHERENT

unfoldable pub images_of : List Row → Subst → ℕ → Option ℕ
images_of rows σ a = some (number rows (apply σ (term rows a)))

module _ (rows : List Row) (good : Good rows) (σ : Subst) where
  row_back : (u : ℕ) → u < length rows → {w : Term} → w ≡ term rows u → row rows u ≡ row_of (number rows) w
  row_back u h e = row_is rows good u h ∙ ap (row_of (number rows)) (back e)

  name_moved : (a : ℕ) → a < length rows → IsName (row rows a)
      → apply σ (atom (name (name_of (term rows a)))) ≡ apply σ (term rows a)
  name_moved a h n = ap (apply σ) (name_shown (term rows) n (term_law rows good a h))

  inverse_moved : (a u : ℕ) → a < length rows → u < length rows → IsKey (row rows a) → apply σ (inv (term rows a)) ≡ term rows u
      → (number rows (apply σ (term rows a)) < length rows)
      × (term rows u ≡ inv (term rows (number rows (apply σ (term rows a)))))
  inverse_moved a u h l k e =
      let (b, z) = key_shown (term rows) k (term_law rows good a h) in
      let y : (n : ℕ) → term rows a ≢ mesg n = λ n e. no_variable (back z ∙ e) in
      let x : inv (apply σ (term rows a)) ≡ term rows u = inv_apply σ (term rows a) y ∙ e in
      let s : OnSheet rows (inv (term rows u)) = on_inverse rows good (term rows u)
      (record { which = u; inside = l; means = refl }) in
      let w : inv (term rows u) ≡ apply σ (term rows a) = ap inv (back x) ∙ inv-inv _ in
      let o : OnSheet rows (apply σ (term rows a)) = rw w at s in
      (number_inside rows good o, back x ∙ ap inv (back (term_number rows good o)))

  fits_row : (r : Row) (t u : ℕ) → t < length rows → u < length rows → Earlier t r → Sorted (row rows) r
      → apply σ (meaning (term rows) r) ≡ term rows u
      → Fits rows (images_of rows σ) r u
  unfolding Fits images_of meaning apply on_atom Earlier Sorted row_of on_sym on_asym turned
  fits_row (Tag n) t u l h b s e = back e
  fits_row (Mesg n) t u l h b s e = tt
  fits_row (Text n) t u l h b s e = (_, back e)
  fits_row (Datum n) t u l h b s e = (_, back e)
  fits_row (Name n) t u l h b s e = (_, back e)
  fits_row (Skey n) t u l h b s e = (_, back e)
  fits_row (Akey n) t u l h b s e = (_, _, back e)
  fits_row (Pubk a) t u l h b s e = (_, refl, row_back u h e ∙ ap Pubk (ap (number rows) (name_moved a (omega arith) s)))
  fits_row (Inv a) t u l h b s e = let m = inverse_moved a u (omega arith) h s e in (_, refl, m.0, m.1)
  fits_row (Ltk a c) t u l h b s e = (
    _,
    _,
    refl,
    refl,
    row_back u h e ∙ ap₂ Ltk (ap (number rows) (name_moved a (omega arith) s.0))
        (ap (number rows) (name_moved c (omega arith) s.1)),
  )
  fits_row (Pair a c) t u l h b s e = (_, _, refl, refl, row_back u h e)
  fits_row (Enc a c) t u l h b s e = (_, _, refl, refl, row_back u h e)
  fits_row (Hash a) t u l h b s e = (_, refl, row_back u h e)

  pub images_fit : (t u : ℕ) → t < length rows → u < length rows → apply σ (term rows t) ≡ term rows u
      → Fits rows (images_of rows σ) (row rows t) u
  images_fit t u h l e =
      fits_row (row rows t) t u h l (good.earlier t h) (good.sorted t h) (ap (apply σ) (back (term_law rows good t h)) ∙ e)
