-- Whether a substitution takes each term of some pairs to the other: decided, with the images.
use Rattle.std.proofs.Math.Path.{◌≡◌, refl, sym as back}
use Rattle.std.proofs.Common.{ap, ◌∙◌, arith}
use Rattle.std.specs.Prelude.{Bool, true, false, ◌↔◌, T, get_or, set}
use mathlib.Core.List.Memᴰ
use mathlib.Core.List.{List, [], ◌∷◌}
use Rattle.std.proofs.Math.Option.{Option, none, some}
use Prim.Native.Nat.{ℕ, zero, suc, ◌≤◌, ◌<◌}
use Rattle.std.proofs.Math.Decide.{ℕ_discrete}
use Rattle.std.proofs.Math.ListN.{length, replicate, length-set, length-replicate}
use Rattle.std.proofs.Math.Seq.{get_or-set_same, get_or-set_other}
use Rattle.model.specs.Term.{Term, atom_same, same, flip, inv}
use Rattle.model.specs.Subst.{Subst, apply, on_atom, on_sym, on_asym, turned}
use Rattle.model.specs.Table.{Row, Tag, Mesg, Text, Datum, Name, Skey, Akey, Pubk, Inv, Ltk, Pair, Enc, Hash, row, name_of, meaning, terms_after, term, first, second}
use Rattle.theory.specs.Each.{Each, each_nil, each_cons}
use Rattle.model.proofs.Laws.{inv-inv}
use Rattle.theory.specs.GoodTable.{Good, Earlier}
use Rattle.theory.specs.Numbers.{term_injective, number, number_term, number_found}
use Rattle.theory.specs.ListTests.{all_of, all_each, each_all}
use Rattle.theory.specs.Reach.{inverse_at, inverse_law}
use Rattle.theory.specs.Coherent.{Fits, Coherent, text_of, sym_of, asym_of, image, reading, images_of, images_read, images_fit}
use Rattle.theory.specs.Places.{not_there}

abbrev pub ImageList : Type 0
ImageList = List (Option ℕ)

abbrev pub img : ImageList → ℕ → Option ℕ
img is t = get_or is t none

-- The computation: from the highest term down, a term's image gives its parts theirs; the first wish counts

abbrev pub Wish : Type 0
Wish = ℕ × ℕ

module _ (rows : List Row) where
  unfoldable pub parts : Row → ℕ → List Wish
  unfolding first second inverse_at
  parts (Tag n) u = []
  parts (Mesg n) u = []
  parts (Text n) u = []
  parts (Datum n) u = []
  parts (Name n) u = []
  parts (Skey n) u = []
  parts (Akey n) u = []
  parts (Pubk a) u = (a, first (row rows u)) ∷ []
  parts (Inv a) u = (a, inverse_at rows u) ∷ []
  parts (Ltk a b) u = (a, first (row rows u)) ∷ (b, second (row rows u)) ∷ []
  parts (Pair a b) u = (a, first (row rows u)) ∷ (b, second (row rows u)) ∷ []
  parts (Enc a b) u = (a, first (row rows u)) ∷ (b, second (row rows u)) ∷ []
  parts (Hash a) u = (a, first (row rows u)) ∷ []

  unfoldable pub fill : Option ℕ → ℕ → Option ℕ
  fill none u = some u
  fill (some v) u = some v

  unfoldable pub put : List Wish → ImageList → ImageList
  unfolding fill
  put [] is = is
  put (w ∷ ws) is = put ws (set is w.0 (fill (img is w.0) w.1))

  unfoldable pub visit : ℕ → Option ℕ → ImageList → ImageList
  unfolding parts put
  visit t none is = is
  visit t (some u) is = put (parts (row rows t) u) is

  unfoldable pub descend : ℕ → ImageList → ImageList
  unfolding visit
  descend zero is = is
  descend (suc t) is = descend t (visit t (img is t) is)

  unfoldable pub images : List Wish → ImageList
  unfolding descend put
  images asked = descend (length rows) (put asked (replicate (length rows) none))

-- A substitution's wishes are kept

module _ (rows : List Row) (good : Good rows) (σ : Subst) where
  -- the substitution grants the wish
  pub record Granted (w : Wish) : Type 0 where
    pub from : w.0 < length rows
    pub to : w.1 < length rows
    pub is : apply σ (term rows w.0) ≡ term rows w.1

  Right : ImageList → Type 0
  Right is = (length is ≡ length rows) × ((t u : ℕ) → img is t ≡ some u → Granted (t, u))

  set_right : (is : ImageList) (w : Wish) → Right is → Granted w → Right (set is w.0 (fill rows (img is w.0) w.1))
  unfolding Right fill
  set_right is w r g = (
    length-set is w.0 _ ∙ r.0,
    λ t u e. go t u e (ℕ_discrete t w.0),
  )
    where
      filled : (o : Option ℕ) (u : ℕ) → img is w.0 ≡ o → fill rows o w.1 ≡ some u → Granted (w.0, u)
      filled none u e h = let q : w.1 ≡ u = cc in rw (← q) g
      filled (some v) u e h = r.1 w.0 u (e ∙ h)

      go : (t u : ℕ) → img (set is w.0 (fill rows (img is w.0) w.1)) t ≡ some u → Dec (t ≡ w.0) → Granted (t, u)
      go t u e (yes q) =
          rw q (filled (img is w.0) u refl (back (get_or-set_same is w.0 (fill rows (img is w.0) w.1) none
          (rw r.0 g.from)) ∙ rw q at e))
      go t u e (no q) = r.1 t u (back (get_or-set_other is w.0 t (fill rows (img is w.0) w.1) none q) ∙ e)

  put_right : (ws : List Wish) (is : ImageList) → Right is → Each Granted ws → Right (put rows ws is)
  unfolding put
  put_right [] is r g = r
  put_right (w ∷ ws) is r g = put_right ws _ (set_right is w r (g w (Memᴰ.head refl))) (λ v m. g v (Memᴰ.tail m))

  granted : (a c m : ℕ) → a < m → m < length rows → images_of rows σ a ≡ some c → c < length rows → Granted (a, c)
  unfolding images_of
  granted a c m l h e k =
      let q : number rows (apply σ (term rows a)) ≡ c = cc in
      record { from = omega arith; to = k; is = back (ap (term rows) (back q) ∙ number_found rows good _ (omega arith)) }

  row_parts : (r : Row) (t u : ℕ) → t < length rows → u < length rows → Earlier t r → Fits rows (images_of rows σ) r u
      → Each Granted (parts rows r u)
  unfolding parts Fits Earlier first second
  row_parts (Tag n) t u h k b f = each_nil Granted
  row_parts (Mesg n) t u h k b f = each_nil Granted
  row_parts (Text n) t u h k b f = each_nil Granted
  row_parts (Datum n) t u h k b f = each_nil Granted
  row_parts (Name n) t u h k b f = each_nil Granted
  row_parts (Skey n) t u h k b f = each_nil Granted
  row_parts (Akey n) t u h k b f = each_nil Granted
  row_parts (Pubk a) t u h k b (c, i, p) =
      let m : c < u = rw p at (good.earlier u k) in
      rw p (each_cons Granted (granted a c t b h i (omega arith)) (each_nil Granted))
  row_parts (Inv a) t u h k b (c, i, l, p) =
      let v = inverse_law rows good u k in
      let q : inverse_at rows u ≡ c = term_injective rows good (inverse_at rows u) c v.inside l
      (v.means ∙ (ap inv p ∙ inv-inv _)) in
      rw q (each_cons Granted (granted a c t b h i l) (each_nil Granted))
  row_parts (Ltk a b) t u h k e (c, d, i, j, p) =
      let m : (c < u) × (d < u) = rw p at (good.earlier u k) in
      rw p (each_cons Granted (granted a c t e.0 h i (omega arith))
      (each_cons Granted (granted b d t e.1 h j (omega arith)) (each_nil Granted)))
  row_parts (Pair a b) t u h k e (c, d, i, j, p) =
      let m : (c < u) × (d < u) = rw p at (good.earlier u k) in
      rw p (each_cons Granted (granted a c t e.0 h i (omega arith))
      (each_cons Granted (granted b d t e.1 h j (omega arith)) (each_nil Granted)))
  row_parts (Enc a b) t u h k e (c, d, i, j, p) =
      let m : (c < u) × (d < u) = rw p at (good.earlier u k) in
      rw p (each_cons Granted (granted a c t e.0 h i (omega arith))
      (each_cons Granted (granted b d t e.1 h j (omega arith)) (each_nil Granted)))
  row_parts (Hash a) t u h k b (c, i, p) =
      let m : c < u = rw p at (good.earlier u k) in
      rw p (each_cons Granted (granted a c t b h i (omega arith)) (each_nil Granted))

  parts_granted : (t u : ℕ) → Granted (t, u) → Each Granted (parts rows (row rows t) u)
  parts_granted t u g = row_parts (row rows t) t u g.from g.to (good.earlier t g.from)
      (images_fit rows good σ t u g.from g.to g.is)

  visit_right : (t : ℕ) (o : Option ℕ) (is : ImageList) → img is t ≡ o → Right is → Right (visit rows t o is)
  unfolding visit Right
  visit_right t none is e r = r
  visit_right t (some u) is e r = put_right (parts rows (row rows t) u) is r (parts_granted t u (r.1 t u e))

  descend_right : (t : ℕ) (is : ImageList) → Right is → Right (descend rows t is)
  unfolding descend
  descend_right zero is r = r
  descend_right (suc t) is r = descend_right t _ (visit_right t (img is t) is refl r)

-- The parts of what has an image have one

module _ (rows : List Row) where
  Has : ImageList → ℕ → Type 0
  Has is a = (v : ℕ) × (img is a ≡ some v)

  filled_keeps : (o : Option ℕ) (u : ℕ) {v : ℕ} → o ≡ some v → fill rows o u ≡ some v
  unfolding fill
  filled_keeps none u e = let z : ◌≡◌ {A = ℕ} 0 1 = cc in absurd (omega arith)
  filled_keeps (some w) u e = e

  filled_has : (o : Option ℕ) (u : ℕ) → (v : ℕ) × (fill rows o u ≡ some v)
  unfolding fill
  filled_has none u = (u, refl)
  filled_has (some w) u = (w, refl)

  module _ (is : ImageList) (a u : ℕ) (h : a < length is) where
    abbrev next : ImageList
    next = set is a (fill rows (img is a) u)

    next_keeps : (t v : ℕ) → img is t ≡ some v → img next t ≡ some v
    next_keeps t v e = go (ℕ_discrete t a)
      where
        go : Dec (t ≡ a) → img next t ≡ some v
        go (yes q) = rw (q, get_or-set_same is a (fill rows (img is a) u) none h) (filled_keeps (img is a) u (rw q at e))
        go (no q) = get_or-set_other is a t (fill rows (img is a) u) none q ∙ e

    next_has : Has next a
    unfolding Has
    next_has = let (v, e) = filled_has (img is a) u in (v, get_or-set_same is a (fill rows (img is a) u) none h ∙ e)

  Within : ImageList → Wish → Type 0
  Within is w = w.0 < length is

  put_keeps : (ws : List Wish) (is : ImageList) → Each (Within is) ws → (t v : ℕ) → img is t ≡ some v
      → img (put rows ws is) t ≡ some v
  unfolding put Within
  put_keeps [] is h t v e = e
  put_keeps (w ∷ ws) is h t v e =
      put_keeps ws _ (λ x m. rw length-set (h x (Memᴰ.tail m))) t v
      (next_keeps is w.0 w.1 (h w (Memᴰ.head refl)) t v e)

  put_has : (ws : List Wish) (is : ImageList) → Each (Within is) ws → Each (λ w. Has (put rows ws is) w.0) ws
  unfolding put Within Has
  put_has [] is h = each_nil _
  put_has (w ∷ ws) is h =
      let g : Each (Within (next is w.0 w.1 (h w (Memᴰ.head refl)))) ws = λ x m. rw length-set
      (h x (Memᴰ.tail m)) in
      let (v, e) = next_has is w.0 w.1 (h w (Memᴰ.head refl)) in
      each_cons _ (v, put_keeps ws _ g w.0 v e) (put_has ws _ g)

  -- wishes below m leave the images from m on
  put_above : (ws : List Wish) (is : ImageList) (m : ℕ) → Each (λ w. w.0 < m) ws → (t : ℕ) → m ≤ t
      → img (put rows ws is) t ≡ img is t
  unfolding put
  put_above [] is m h t l = refl
  put_above (w ∷ ws) is m h t l =
      put_above ws _ m (λ x k. h x (Memᴰ.tail k)) t l
      ∙ get_or-set_other is w.0 t (fill rows (img is w.0) w.1) none
      (λ q. let k : w.0 < m = h w (Memᴰ.head refl) in omega arith)

  parts_below : (r : Row) (t u : ℕ) → Earlier t r → Each (λ w. w.0 < t) (parts rows r u)
  unfolding parts Earlier
  parts_below (Tag n) t u b = each_nil _
  parts_below (Mesg n) t u b = each_nil _
  parts_below (Text n) t u b = each_nil _
  parts_below (Datum n) t u b = each_nil _
  parts_below (Name n) t u b = each_nil _
  parts_below (Skey n) t u b = each_nil _
  parts_below (Akey n) t u b = each_nil _
  parts_below (Pubk a) t u b = each_cons _ b (each_nil _)
  parts_below (Inv a) t u b = each_cons _ b (each_nil _)
  parts_below (Ltk a c) t u b = each_cons _ b.0 (each_cons _ b.1 (each_nil _))
  parts_below (Pair a c) t u b = each_cons _ b.0 (each_cons _ b.1 (each_nil _))
  parts_below (Enc a c) t u b = each_cons _ b.0 (each_cons _ b.1 (each_nil _))
  parts_below (Hash a) t u b = each_cons _ b (each_nil _)

  module _ (good : Good rows) where
    -- from m on, the parts of what has an image have one
    Done : ℕ → ImageList → Type 0
    Done m is = (t u : ℕ) → m ≤ t → t < length rows → img is t ≡ some u → Each (λ w. Has is w.0) (parts rows (row rows t) u)

    skip_done : (t : ℕ) (is : ImageList) → img is t ≡ none → Done (suc t) is → Done t is
    unfolding Done
    skip_done t is e d s u k j q = go (ℕ_discrete s t)
      where
        go : Dec (s ≡ t) → Each (λ w. Has is w.0) (parts rows (row rows s) u)
        go (yes z) = absurd (not_there (back e ∙ rw z at q))
        go (no z) = d s u (omega arith) j q

    put_done : (t u : ℕ) (is : ImageList) → t < length rows → length is ≡ length rows → img is t ≡ some u → Done (suc t) is
        → Done t (put rows (parts rows (row rows t) u) is)
    unfolding Done Within Has
    put_done t u is h l e d s v k j q = go (ℕ_discrete s t)
      where
        ws : List Wish
        ws = parts rows (row rows t) u

        below : Each (λ w. w.0 < t) ws
        below = parts_below (row rows t) t u (good.earlier t h)

        within : Each (Within is) ws
        within x m = let b : x.0 < t = below x m in omega arith

        before : img is s ≡ some v
        before = back (put_above ws is t below s k) ∙ q

        go : Dec (s ≡ t) → Each (λ w. Has (put rows ws is) w.0) (parts rows (row rows s) v)
        go (yes z) =
            let f : img is t ≡ some v = rw z at before in
            let y : v ≡ u = cc in
            rw (z, y) (put_has ws is within)
        go (no z) = λ w m. let (x, i) = d s v (omega arith) j before w m in (x, put_keeps ws is within w.0 x i)

    length-put : (ws : List Wish) (is : ImageList) → length (put rows ws is) ≡ length is
    unfolding put
    length-put [] is = refl
    length-put (w ∷ ws) is = length-put ws _ ∙ length-set is w.0 _

    visit_done : (t : ℕ) (o : Option ℕ) (is : ImageList) → t < length rows → length is ≡ length rows → img is t ≡ o
        → Done (suc t) is
        → (length (visit rows t o is) ≡ length rows) × Done t (visit rows t o is)
    unfolding visit
    visit_done t none is h l e d = (l, skip_done t is e d)
    visit_done t (some u) is h l e d = (length-put (parts rows (row rows t) u) is ∙ l, put_done t u is h l e d)

    descend_done : (t : ℕ) (is : ImageList) → t ≤ length rows → length is ≡ length rows → Done t is → Done 0 (descend rows t is)
    unfolding descend
    descend_done zero is h l d = d
    descend_done (suc t) is h l d =
        let (k, f) = visit_done t (img is t) is h l refl d in
        descend_done t _ (omega arith) k f

    visit_keeps : (t : ℕ) (o : Option ℕ) (is : ImageList) → t < length rows → length is ≡ length rows → (a v : ℕ)
        → img is a ≡ some v
        → img (visit rows t o is) a ≡ some v
    unfolding visit Within
    visit_keeps t none is h l a v e = e
    visit_keeps t (some u) is h l a v e =
        put_keeps (parts rows (row rows t) u) is (λ x m. let b : x.0 < t = parts_below (row rows t) t u (good.earlier t h) x
        m in omega arith) a v e

    length-visit : (t : ℕ) (o : Option ℕ) (is : ImageList) → length (visit rows t o is) ≡ length is
    unfolding visit
    length-visit t none is = refl
    length-visit t (some u) is = length-put (parts rows (row rows t) u) is

    descend_keeps : (t : ℕ) (is : ImageList) → t ≤ length rows → length is ≡ length rows → (a v : ℕ) → img is a ≡ some v
        → img (descend rows t is) a ≡ some v
    unfolding descend
    descend_keeps zero is h l a v e = e
    descend_keeps (suc t) is h l a v e =
        descend_keeps t (visit rows t (img is t) is) (omega arith) (length-visit t (img is t) is ∙ l) a v
        (visit_keeps t (img is t) is (omega arith) l a v e)

    asked_has : (asked : List Wish) → Each (λ w. w.0 < length rows) asked → Each (λ w. Has (images rows asked) w.0) asked
    unfolding images Has Within
    asked_has asked h w m =
        let blank = replicate (length rows) none in
        let z : length blank ≡ length rows = length-replicate (length rows) none in
        let (v, e) = put_has asked blank (λ x k. rw z (h x k)) w m in
        (v, descend_keeps (length rows) (put rows asked blank) (omega arith) (length-put asked blank ∙ z) w.0 v e)

    images_done : (asked : List Wish) → Done 0 (images rows asked)
    unfolding images Done
    images_done asked =
        let blank = replicate (length rows) none in
        descend_done (length rows) (put rows asked blank) (omega arith)
        (length-put asked blank ∙ length-replicate (length rows) none) (λ t u k h e. absurd (omega arith))

-- THE IMAGES ARE COHERENT WHERE A SUBSTITUTION SERVES

module _ (rows : List Row) (good : Good rows) (σ : Subst) (is : ImageList) where
  there : (a c : ℕ) → images_of rows σ a ≡ some c → Right rows good σ is → Has rows is a → img is a ≡ some c
  unfolding images_of Right Has
  there a c i r (v, e) =
      let g = r.1 a v e in
      let n : number rows (term rows v) ≡ v = number_term rows good v g.to in
      let z : number rows (apply σ (term rows a)) ≡ c = cc in
      let y : apply σ (term rows a) ≡ term rows v = g.is in
      let x : v ≡ c = cc in
      rw (← x) e

  -- the images that there are, are the substitution's
  fits_there : (r : Row) (t u : ℕ) → t < length rows → u < length rows → Earlier t r → Right rows good σ is
      → Each (λ w. Has rows is w.0) (parts rows r u)
      → Fits rows (images_of rows σ) r u → Fits rows (img is) r u
  unfolding Fits parts
  fits_there (Tag n) t u h k b r p f = f
  fits_there (Mesg n) t u h k b r p f = f
  fits_there (Text n) t u h k b r p f = f
  fits_there (Datum n) t u h k b r p f = f
  fits_there (Name n) t u h k b r p f = f
  fits_there (Skey n) t u h k b r p f = f
  fits_there (Akey n) t u h k b r p f = f
  fits_there (Pubk a) t u h k b r p (c, i, q) = (c, there a c i r (p _ (Memᴰ.head refl)), q)
  fits_there (Inv a) t u h k b r p (c, i, l, q) = (c, there a c i r (p _ (Memᴰ.head refl)), l, q)
  fits_there (Ltk a b) t u h k e r p (c, d, i, j, q) =
      (c, d, there a c i r (p _ (Memᴰ.head refl)), there b d j r (p _ (Memᴰ.tail (Memᴰ.head refl))), q)
  fits_there (Pair a b) t u h k e r p (c, d, i, j, q) =
      (c, d, there a c i r (p _ (Memᴰ.head refl)), there b d j r (p _ (Memᴰ.tail (Memᴰ.head refl))), q)
  fits_there (Enc a b) t u h k e r p (c, d, i, j, q) =
      (c, d, there a c i r (p _ (Memᴰ.head refl)), there b d j r (p _ (Memᴰ.tail (Memᴰ.head refl))), q)
  fits_there (Hash a) t u h k b r p (c, i, q) = (c, there a c i r (p _ (Memᴰ.head refl)), q)

all_none : (n t : ℕ) → img (replicate n none) t ≡ none
all_none zero t = refl
all_none (suc n) zero = refl
all_none (suc n) (suc t) = all_none n t

module _ (rows : List Row) (good : Good rows) (σ : Subst) (asked : List Wish) (granted_all : Each (Granted rows good σ) asked)
  where
    none_right : Right rows good σ (replicate (length rows) none)
    unfolding Right
    none_right = (length-replicate (length rows) none, λ t u e. absurd (not_there (back (all_none (length rows) t) ∙ e)))

    images_right : Right rows good σ (images rows asked)
    unfolding images
    images_right = descend_right rows good σ (length rows) _ (put_right rows good σ asked _ none_right granted_all)

    pub images_coherent : Coherent rows (img (images rows asked))
    unfolding Right Done
    images_coherent =
        record {
          inside = λ t u h e. (images_right.1 t u e).to;
          fits = λ t u h e.
              let g = images_right.1 t u e in
              fits_there rows good σ (images rows asked) (row rows t) t u h g.to (good.earlier t h) images_right
              (images_done rows good asked t u (omega arith) h e) (images_fit rows good σ t u h g.to g.is);
        }

    asked_kept : Each (λ w. img (images rows asked) w.0 ≡ some w.1) asked
    unfolding Has Right
    asked_kept w m =
        let (v, e) = asked_has rows good asked (λ x k. (granted_all x k).from) w m in
        let g = granted_all w m in
        let f = images_right.1 w.0 v e in
        let q : v ≡ w.1 = term_injective rows good v w.1 f.to g.to (back f.is ∙ g.is) in
        rw (← q) e

-- MATCHING IS DECIDED BY THE IMAGES

pub record Matched (rows : List Row) (asked : List Wish) : Type 0 where
  pub coherent : Coherent rows (img (images rows asked))
  pub kept : Each (λ w. img (images rows asked) w.0 ≡ some w.1) asked

module _ (rows : List Row) (good : Good rows) (asked : List Wish)
    (inside : Each (λ w. (w.0 < length rows) × (w.1 < length rows)) asked) where
  pub matched_iff : ((σ : Subst) × Each (Granted rows good σ) asked) ↔ Matched rows asked
  matched_iff = (
    λ (σ, g). record { coherent = images_coherent rows good σ asked g; kept = asked_kept rows good σ asked g },
    λ m. (
      reading rows (img (images rows asked)),
      λ w k.
          let (f, t) = inside w k in
          record {
            from = f;
            to = t;
            is = images_read rows (img (images rows asked)) good m.coherent w.0 w.1 f
                (m.kept w k);
          },
    ),
  )

-- THE COMPUTATION: read the images as a substitution, and see whether it serves

unfoldable pub same_terms : Term → Term → Bool
unfolding same
same_terms t u = elim (same t u) [ yes e ↦ true | no e ↦ false ]

pub same_terms_iff : (t u : Term) → T (same_terms t u) ↔ (t ≡ u)
unfolding same_terms
same_terms_iff t u = go (same t u)
  where
    go : (d : Dec (t ≡ u)) → T (elim d [ yes e ↦ true | no e ↦ false ]) ↔ (t ≡ u)
    go (yes e) = (λ _. e, λ _. tt)
    go (no n) = (λ h. absurd h, λ e. absurd (n e))

unfoldable pub found : List Row → List Wish → Subst
unfolding images reading
found rows asked = reading rows (img (images rows asked))

unfoldable pub grants : List Row → Subst → Wish → Bool
unfolding same_terms apply term
grants rows σ w = same_terms (apply σ (term rows w.0)) (term rows w.1)

unfoldable pub serves : List Row → List Wish → Bool
unfolding found grants all_of number terms_after meaning name_of inv flip atom_same on_atom on_sym on_asym turned image text_of
    sym_of asym_of
serves rows asked = all_of (grants rows (found rows asked)) asked

module _ (rows : List Row) (good : Good rows) (asked : List Wish)
    (inside : Each (λ w. (w.0 < length rows) × (w.1 < length rows)) asked) where
  pub serves_granted : T (serves rows asked) → Each (Granted rows good (found rows asked)) asked
  unfolding serves grants
  serves_granted h w k =
      let (f, t) = inside w k in
      record { from = f; to = t; is = (same_terms_iff _ _).0 (all_each (grants rows (found rows asked)) asked h w k) }

  pub granted_serves : (σ : Subst) → Each (Granted rows good σ) asked → T (serves rows asked)
  unfolding serves found grants
  granted_serves σ g =
      let m = (matched_iff rows good asked inside).0 (σ, g) in
      each_all (grants rows (found rows asked)) asked
      (λ w k. (same_terms_iff _ _).1 (images_read rows (img (images rows asked)) good m.coherent w.0 w.1 (inside w k).0
      (m.kept w k)))
