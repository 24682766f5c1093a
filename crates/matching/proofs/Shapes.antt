-- A row and the row of its image: the heads that fit and the arguments' images are exactly what `Fits` asks.
use mathlib.Core.Path.{◌≡◌, refl, ap, ◌∙◌, sym as back}
use mathlib.Core.Bool.{Bool, true, false, not}
use mathlib.Core.List.Memᴰ
use mathlib.Core.List.{List}
use mathlib.Core.Option.{Option, some}
use Prim.Native.Nat.{ℕ, ◌<◌}
use native.Mathlib.Omega.{arith}
use lib.Dec.{T, eqb, eqb→eq, eqb_refl}
use lib.ListN.{length}
use Rattle.model.specs.Term.{Sym, skey, ltk, Asym, akey, pubk, symmetric, asymmetric, Term, atom, flip, inv}
use Rattle.model.specs.Table.{Row, Tag, Mesg, Text, Datum, Name, Skey, Akey, Pubk, Inv, Ltk, Pair, Enc, Hash}
use Rattle.model.specs.Table.{row, kind, first, second, meaning, term}
use Rattle.theory.specs.Each.{Each, each_nil, each_cons}
use Rattle.model.proofs.Laws.{inv-inv}
use Rattle.theory.specs.GoodTable.{Good, Earlier, Sorted, IsKey, an_akey, a_pubk}
use Rattle.theory.specs.Numbers.{row_of, term_law, law, number, term_injective, row_is, key_shown}
use Rattle.theory.specs.Reach.{inverse_at, inverse_law}
use Rattle.theory.specs.Coherent.{Fits, Coherent}
use Rattle.theory.specs.Matching.{Wish, parts}
use Rattle.matching.specs.Pass.{may_be, heads}

-- The row of a kind

is_text : (r : Row) → T (eqb (kind r) 2) → (n : ℕ) × (r ≡ Text n)
unfolding kind
is_text (Text n) h = (n, refl)
is_text _ h = elim h [ ]

is_datum : (r : Row) → T (eqb (kind r) 3) → (n : ℕ) × (r ≡ Datum n)
unfolding kind
is_datum (Datum n) h = (n, refl)
is_datum _ h = elim h [ ]

is_name : (r : Row) → T (eqb (kind r) 4) → (n : ℕ) × (r ≡ Name n)
unfolding kind
is_name (Name n) h = (n, refl)
is_name _ h = elim h [ ]

is_skey : (r : Row) → T (eqb (kind r) 5) → (n : ℕ) × (r ≡ Skey n)
unfolding kind
is_skey (Skey n) h = (n, refl)
is_skey _ h = elim h [ ]

is_pubk : (r : Row) → T (eqb (kind r) 7) → (a : ℕ) × (r ≡ Pubk a)
unfolding kind
is_pubk (Pubk a) h = (a, refl)
is_pubk _ h = elim h [ ]

is_ltk : (r : Row) → T (eqb (kind r) 9) → (a : ℕ) × (b : ℕ) × (r ≡ Ltk a b)
unfolding kind
is_ltk (Ltk a b) h = (a, b, refl)
is_ltk _ h = elim h [ ]

is_pair : (r : Row) → T (eqb (kind r) 10) → (a : ℕ) × (b : ℕ) × (r ≡ Pair a b)
unfolding kind
is_pair (Pair a b) h = (a, b, refl)
is_pair _ h = elim h [ ]

is_enc : (r : Row) → T (eqb (kind r) 11) → (a : ℕ) × (b : ℕ) × (r ≡ Enc a b)
unfolding kind
is_enc (Enc a b) h = (a, b, refl)
is_enc _ h = elim h [ ]

is_hash : (r : Row) → T (eqb (kind r) 12) → (a : ℕ) × (r ≡ Hash a)
unfolding kind
is_hash (Hash a) h = (a, refl)
is_hash _ h = elim h [ ]

-- The kind of a key's row

sym_kind : (f : Term → ℕ) (k : Sym) → T (may_be 5 (kind (row_of f (atom (symmetric k)))))
unfolding may_be kind row_of
sym_kind f (skey n) = tt
sym_kind f (ltk a b) = tt

asym_kind : (f : Term → ℕ) (i : Bool) (k : Asym) → T (may_be 6 (kind (row_of f (atom (asymmetric i k)))))
unfolding may_be kind row_of
asym_kind f false (akey n) = tt
asym_kind f false (pubk a) = tt
asym_kind f true k = tt

module _ (rows : List Row) (good : Good rows) where
  -- an asymmetric key by its kind
  module _ (u : ℕ) (k : u < length rows) where
    asym_row : (r : Row) → row rows u ≡ r → T (may_be 6 (kind r))
        → (i : Bool) × (c : Asym) × (term rows u ≡ atom (asymmetric i c))
    unfolding may_be kind meaning Earlier Sorted inv flip
    asym_row (Akey n) e h = (false, akey n, law rows good u k e)
    asym_row (Pubk a) e h = (false, _, law rows good u k e)
    asym_row (Inv a) e h =
        let s : IsKey (row rows a) = rw e at (good.sorted u k) in
        let b : a < u = rw e at (good.earlier u k) in
        let (c, q) = key_shown (term rows) s (term_law rows good a (omega arith)) in
        (true, c, law rows good u k e ∙ ap inv q)
    asym_row _ e h = elim h [ ]

    sym_row : (r : Row) → row rows u ≡ r → T (may_be 5 (kind r)) → (c : Sym) × (term rows u ≡ atom (symmetric c))
    unfolding may_be kind meaning
    sym_row (Skey n) e h = (skey n, law rows good u k e)
    sym_row (Ltk a b) e h = (_, law rows good u k e)
    sym_row _ e h = elim h [ ]

    row_from : {w : Term} → term rows u ≡ w → row rows u ≡ row_of (number rows) w
    row_from e = row_is rows good u k ∙ ap (row_of (number rows)) e

  -- the term p goes to u
  module _ (p u : ℕ) (h : p < length rows) (k : u < length rows) where
    abbrev Fit : Row → Type 0
    Fit r = T (heads p u (kind r) (kind (row rows u)))

    pub fits_here : (img : ℕ → Option ℕ) (r : Row) → row rows p ≡ r → Fit r
        → Each (λ w. img w.0 ≡ some w.1) (parts rows r u) → Fits rows img r u
    unfolding heads may_be kind parts Fits first second meaning
    fits_here img (Tag n) e t f = rw (eqb→eq u p t) (law rows good p h e)
    fits_here img (Mesg n) e t f = tt
    fits_here img (Text n) e t f = let (m, q) = is_text (row rows u) t in (m, law rows good u k q)
    fits_here img (Datum n) e t f = let (m, q) = is_datum (row rows u) t in (m, law rows good u k q)
    fits_here img (Name n) e t f = let (m, q) = is_name (row rows u) t in (m, law rows good u k q)
    fits_here img (Skey n) e t f = sym_row u k (row rows u) refl t
    fits_here img (Akey n) e t f = asym_row u k (row rows u) refl t
    fits_here img (Pubk a) e t f =
        let (c, q) = is_pubk (row rows u) t in
        (c, rw q at (f _ (Memᴰ.head refl)), q)
    fits_here img (Inv a) e t f =
        let v = inverse_law rows good u k in
        (inverse_at rows u, f _ (Memᴰ.head refl), v.inside, back (inv-inv _) ∙ ap inv (back v.means))
    fits_here img (Ltk a b) e t f =
        let (c, d, q) = is_ltk (row rows u) t in
        (c, d, rw q at (f _ (Memᴰ.head refl)), rw q at (f _ (Memᴰ.tail (Memᴰ.head refl))), q)
    fits_here img (Pair a b) e t f =
        let (c, d, q) = is_pair (row rows u) t in
        (c, d, rw q at (f _ (Memᴰ.head refl)), rw q at (f _ (Memᴰ.tail (Memᴰ.head refl))), q)
    fits_here img (Enc a b) e t f =
        let (c, d, q) = is_enc (row rows u) t in
        (c, d, rw q at (f _ (Memᴰ.head refl)), rw q at (f _ (Memᴰ.tail (Memᴰ.head refl))), q)
    fits_here img (Hash a) e t f =
        let (c, q) = is_hash (row rows u) t in
        (c, rw q at (f _ (Memᴰ.head refl)), q)

    -- the arguments are earlier, and go to terms
    abbrev Both : Wish → Type 0
    Both w = (w.0 < p) × (w.1 < length rows)

    pub parts_inside : (r : Row) → Earlier p r → Fit r → Each Both (parts rows r u)
    unfolding heads may_be kind parts Earlier first second
    parts_inside (Tag n) b t = each_nil _
    parts_inside (Mesg n) b t = each_nil _
    parts_inside (Text n) b t = each_nil _
    parts_inside (Datum n) b t = each_nil _
    parts_inside (Name n) b t = each_nil _
    parts_inside (Skey n) b t = each_nil _
    parts_inside (Akey n) b t = each_nil _
    parts_inside (Pubk a) b t =
        let (c, q) = is_pubk (row rows u) t in
        let l : c < u = rw q at (good.earlier u k) in
        rw q (each_cons _ (b, omega arith) (each_nil _))
    parts_inside (Inv a) b t = each_cons _ (b, (inverse_law rows good u k).inside) (each_nil _)
    parts_inside (Ltk a c) b t =
        let (x, y, q) = is_ltk (row rows u) t in
        let l : (x < u) × (y < u) = rw q at (good.earlier u k) in
        rw q (each_cons _ (b.0, omega arith) (each_cons _ (b.1, omega arith) (each_nil _)))
    parts_inside (Pair a c) b t =
        let (x, y, q) = is_pair (row rows u) t in
        let l : (x < u) × (y < u) = rw q at (good.earlier u k) in
        rw q (each_cons _ (b.0, omega arith) (each_cons _ (b.1, omega arith) (each_nil _)))
    parts_inside (Enc a c) b t =
        let (x, y, q) = is_enc (row rows u) t in
        let l : (x < u) × (y < u) = rw q at (good.earlier u k) in
        rw q (each_cons _ (b.0, omega arith) (each_cons _ (b.1, omega arith) (each_nil _)))
    parts_inside (Hash a) b t =
        let (c, q) = is_hash (row rows u) t in
        let l : c < u = rw q at (good.earlier u k) in
        rw q (each_cons _ (b, omega arith) (each_nil _))

    module _ (img : ℕ → Option ℕ) (coherent : Coherent rows img) where
      key_goes : (a c : ℕ) → c < length rows → (r : Row) → IsKey r → Fits rows img r c
          → (i : Bool) × (x : Asym) × (term rows c ≡ atom (asymmetric i x))
      unfolding Fits meaning
      key_goes a c l (Akey n) an_akey f = f
      key_goes a c l (Pubk b) a_pubk (d, i, q) = (false, _, law rows good c l q)
      key_goes a c l _ x f = elim x [ ]

      pub heads_there : (r : Row) → row rows p ≡ r → Earlier p r → Sorted (row rows) r → Fits rows img r u → Fit r
      unfolding heads may_be kind Fits Earlier Sorted row_of meaning inv flip
      heads_there (Tag n) e b s f = rw (term_injective rows good u p k h (f ∙ back (law rows good p h e))) (eqb_refl p)
      heads_there (Mesg n) e b s f = tt
      heads_there (Text n) e b s (m, q) = rw (row_from u k q) tt
      heads_there (Datum n) e b s (m, q) = rw (row_from u k q) tt
      heads_there (Name n) e b s (m, q) = rw (row_from u k q) tt
      heads_there (Skey n) e b s (c, q) = rw (row_from u k q) (sym_kind (number rows) c)
      heads_there (Akey n) e b s (i, c, q) = rw (row_from u k q) (asym_kind (number rows) i c)
      heads_there (Pubk a) e b s (c, i, q) = rw q tt
      heads_there (Inv a) e b s (c, i, l, q) =
          let (j, x, z) = key_goes a c l (row rows a) s (coherent.fits a c (omega arith) i) in
          rw (row_from u k (q ∙ ap inv z)) (asym_kind (number rows) (not j) x)
      heads_there (Ltk a c) e b s (x, y, i, j, q) = rw q tt
      heads_there (Pair a c) e b s (x, y, i, j, q) = rw q tt
      heads_there (Enc a c) e b s (x, y, i, j, q) = rw q tt
      heads_there (Hash a) e b s (x, i, q) = rw q tt

      abbrev Goes : Wish → Type 0
      Goes w = (w.0 < length rows) × (img w.0 ≡ some w.1)

      pub parts_there : (r : Row) → Earlier p r → Fits rows img r u → Each Goes (parts rows r u)
      unfolding Fits parts Earlier first second
      parts_there (Tag n) b f = each_nil _
      parts_there (Mesg n) b f = each_nil _
      parts_there (Text n) b f = each_nil _
      parts_there (Datum n) b f = each_nil _
      parts_there (Name n) b f = each_nil _
      parts_there (Skey n) b f = each_nil _
      parts_there (Akey n) b f = each_nil _
      parts_there (Pubk a) b (c, i, q) = rw q (each_cons _ (omega arith, i) (each_nil _))
      parts_there (Inv a) b (c, i, l, q) =
          let v = inverse_law rows good u k in
          let y = v.means ∙ (ap inv q ∙ inv-inv _) in
          let z : inverse_at rows u ≡ c = term_injective rows good (inverse_at rows u) c v.inside l y in
          rw z (each_cons _ (omega arith, i) (each_nil _))
      parts_there (Ltk a c) b (x, y, i, j, q) = rw q (each_cons _ (omega arith, i) (each_cons _ (omega arith, j) (each_nil _)))
      parts_there (Pair a c) b (x, y, i, j, q) = rw q (each_cons _ (omega arith, i) (each_cons _ (omega arith, j) (each_nil _)))
      parts_there (Enc a c) b (x, y, i, j, q) = rw q (each_cons _ (omega arith, i) (each_cons _ (omega arith, j) (each_nil _)))
      parts_there (Hash a) b (c, i, q) = rw q (each_cons _ (omega arith, i) (each_nil _))
