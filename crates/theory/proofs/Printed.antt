-- The inference system of 000, chapter 9, as it is printed there, derives exactly what the least set holds. 000 leaves the
-- inverse of a message variable undefined; here it is the variable itself, and no sheet asks for it: `Atoms: key_no_variable`.
use Rattle.std.specs.Prelude.{◌≡◌, refl, Bool, not, ◌↔◌, ◌≢◌, ℕ, length}
use Rattle.std.proofs.Common.{ap, sym as back, ⊎_elim}
use mathlib.Core.List.Memᴰ
use mathlib.Core.List.{◌++◌, map, List, [], ◌∷◌, Memᴰ}
use Rattle.std.proofs.Math.Dec.{T}
use Rattle.model.specs.Term.{Atom, Term, tag, mesg, atom, pair, enc, hash, inv, atom_same}
use Rattle.model.specs.Derive.{Derivable, SentBefore, Withheld, DerivableBefore}
use Rattle.model.specs.Lists.{upto}
use Rattle.model.specs.Table.{Row, term}
use Rattle.model.specs.Skeleton.{recv, Node, Skeleton, At, means}
use Rattle.theory.specs.Upto.{in_upto, below_upto}
use Rattle.theory.specs.GoodTable.{Good}
use Rattle.model.proofs.SkeletonLaws.{derivable_mono}
use Rattle.theory.proofs.Reach.{NumberSent, NumberWithheld}
use Rattle.theory.proofs.Realizing.{withheld, sent as sent_numbers, sent_to, sent_from, withheld_to, withheld_from}
use Rattle.theory.specs.ListTests.{keep, keeps, kept}
use Rattle.theory.specs.Deciding.{says_yes}
use Rattle.theory.specs.OnTable.{OnTable, node_inside}

-- sets of messages and of atoms as lists: the same members
pub record Equal {A : Type 0} (l m : List A) : Type 0 where
  pub to : (x : A) → Memᴰ x l → Memᴰ x m
  pub from : (x : A) → Memᴰ x m → Memᴰ x l

-- "The ternary relation T_p : T_a ⊢ t states that message t is penetrator derivable from previously sent messages T_p while
-- avoiding atoms T_a."
pub data Derives : List Term → List Atom → Term → Type 0 where
  -- "no additional penetrator behavior is required to derive t if it has been previously sent"
  sent : {Tp : List Term} {Ta : List Atom} {t : Term} → Memᴰ t Tp → Derives Tp Ta t
  -- (9.1)
  exposed : {Tp S : List Term} {Ta A : List Atom} {t₀ : Atom} {t : Term} → Equal S (atom t₀ ∷ Tp) → Equal A (t₀ ∷ Ta)
      → Derives Tp Ta t → Derives S A t
  -- (9.2)
  by_sep : {Tp S : List Term} {Ta : List Atom} {t₀ t₁ t : Term} → Equal S (pair t₀ t₁ ∷ Tp) → Derives (t₀ ∷ t₁ ∷ Tp) Ta t
      → Derives S Ta t
  -- (9.3)
  by_dec : {Tp S : List Term} {Ta : List Atom} {t₀ t₁ t : Term} → Equal S (enc t₀ t₁ ∷ Tp) → Derives Tp Ta (inv t₁)
      → Derives (t₀ ∷ enc t₀ t₁ ∷ Tp) Ta t
      → Derives S Ta t
  -- "There are three constructive steps."
  by_cat : {Tp : List Term} {Ta : List Atom} {t₀ t₁ : Term} → Derives Tp Ta t₀ → Derives Tp Ta t₁ → Derives Tp Ta (pair t₀ t₁)
  by_enc : {Tp : List Term} {Ta : List Atom} {t₀ t₁ : Term} → Derives Tp Ta t₀ → Derives Tp Ta t₁ → Derives Tp Ta (enc t₀ t₁)
  by_hash : {Tp : List Term} {Ta : List Atom} {t : Term} → Derives Tp Ta t → Derives Tp Ta (hash t)
  -- "There are three rules for indivisible messages."
  by_tag : {Tp : List Term} {Ta : List Atom} {n : ℕ} → Derives Tp Ta (tag n)
  by_base : {Tp : List Term} {Ta : List Atom} {a : Atom} → ¬ Memᴰ a Ta → Derives Tp Ta (atom a)
  variable : {Tp : List Term} {Ta : List Atom} {n : ℕ} → Derives Tp Ta (mesg n)

-- the least set over the same messages and atoms
abbrev pub Least : List Term → List Atom → Term → Type 0
Least Tp Ta t = Derivable (λ u. Memᴰ u Tp) (λ a. Memᴰ a Ta) t

-- The printed rules stay within the least set

-- with other messages sent, each of which is in the set, and other atoms avoided, each of which is in the set or was avoided
least_cut : {Tp S : List Term} {Ta A : List Atom} → ((u : Term) → Memᴰ u S → Least Tp Ta u)
    → ((a : Atom) → ¬ Memᴰ a A → Least Tp Ta (atom a))
    → {t : Term} → Least S A t → Least Tp Ta t
least_cut f g (Derivable.given m) = f _ m
least_cut f g Derivable.a_tag = Derivable.a_tag
least_cut f g Derivable.a_mesg = Derivable.a_mesg
least_cut f g (Derivable.an_atom n) = g _ n
least_cut f g (Derivable.join d e) = Derivable.join (least_cut f g d) (least_cut f g e)
least_cut f g (Derivable.split_left d) = Derivable.split_left (least_cut f g d)
least_cut f g (Derivable.split_right d) = Derivable.split_right (least_cut f g d)
least_cut f g (Derivable.encrypt d e) = Derivable.encrypt (least_cut f g d) (least_cut f g e)
least_cut f g (Derivable.decrypt d e) = Derivable.decrypt (least_cut f g d) (least_cut f g e)
least_cut f g (Derivable.make_hash d) = Derivable.make_hash (least_cut f g d)

equal_refl : {A : Type 0} {l : List A} → Equal l l
equal_refl = record { to = λ x m. m; from = λ x m. m }

-- a member added again
equal_again : {A : Type 0} {x : A} {l : List A} → Memᴰ x l → Equal l (x ∷ l)
equal_again {x} {l} k =
    record { to = λ y m. Memᴰ.tail m; from = λ y m. ⊎_elim (λ e. Memᴰ.cast e k) (λ q. q) (Memᴰ.cases_cons m) }

pub derives_least : {Tp : List Term} {Ta : List Atom} {t : Term} → Derives Tp Ta t → Least Tp Ta t
derives_least (sent m) = Derivable.given m
derives_least (exposed {S} {Ta} {A} {t₀} e f d) =
    least_cut (λ u m. Derivable.given (e.from u (Memᴰ.tail m))) (λ a n. go a n (atom_same a t₀)) (derives_least d)
  where
    go : (a : Atom) → ¬ Memᴰ a Ta → Dec (a ≡ t₀) → Least S A (atom a)
    go a n (yes q) = Derivable.given (Memᴰ.cast (ap atom q) (e.from (atom t₀) (Memᴰ.head refl)))
    go a n (no q) = Derivable.an_atom (λ k. ⊎_elim q n (Memᴰ.cases_cons (f.to a k)))
derives_least (by_sep {Tp} {S} {Ta} {t₀} {t₁} e d) =
    least_cut go (λ a n. Derivable.an_atom n) (derives_least d)
  where
    whole : Least S Ta (pair t₀ t₁)
    whole = Derivable.given (e.from _ (Memᴰ.head refl))

    go : (u : Term) → Memᴰ u (t₀ ∷ t₁ ∷ Tp) → Least S Ta u
    go u (Memᴰ.head q) = rw q (Derivable.split_left whole)
    go u (Memᴰ.tail (Memᴰ.head q)) = rw q (Derivable.split_right whole)
    go u (Memᴰ.tail (Memᴰ.tail m)) = Derivable.given (e.from u (Memᴰ.tail m))
derives_least (by_dec {Tp} {S} {Ta} {t₀} {t₁} e k d) =
    least_cut (go (derives_least k)) (λ a n. Derivable.an_atom n) (derives_least d)
  where
    old : (u : Term) → Memᴰ u Tp → Least S Ta u
    old u m = Derivable.given (e.from u (Memᴰ.tail m))

    whole : Least S Ta (enc t₀ t₁)
    whole = Derivable.given (e.from _ (Memᴰ.head refl))

    go : Least Tp Ta (inv t₁) → (u : Term) → Memᴰ u (t₀ ∷ enc t₀ t₁ ∷ Tp) → Least S Ta u
    go i u (Memᴰ.head q) = rw q (Derivable.decrypt whole (least_cut old (λ a n. Derivable.an_atom n) i))
    go i u (Memᴰ.tail (Memᴰ.head q)) = rw q whole
    go i u (Memᴰ.tail (Memᴰ.tail m)) = old u m
derives_least (by_cat d e) = Derivable.join (derives_least d) (derives_least e)
derives_least (by_enc d e) = Derivable.encrypt (derives_least d) (derives_least e)
derives_least (by_hash d) = Derivable.make_hash (derives_least d)
derives_least by_tag = Derivable.a_tag
derives_least (by_base n) = Derivable.an_atom n
derives_least variable = Derivable.a_mesg

-- The printed rules reach the whole of it

-- "Message t is buildable .. without the use of Inference Rules 9.1, 9.2, and 9.3."
data Buildable (S : List Term) (A : List Atom) : Term → Type 0 where
  given : {t : Term} → Memᴰ t S → Buildable S A t
  join : {t u : Term} → Buildable S A t → Buildable S A u → Buildable S A (pair t u)
  encrypt : {t k : Term} → Buildable S A t → Buildable S A k → Buildable S A (enc t k)
  make_hash : {t : Term} → Buildable S A t → Buildable S A (hash t)
  a_tag : {n : ℕ} → Buildable S A (tag n)
  an_atom : {a : Atom} → ¬ Memᴰ a A → Buildable S A (atom a)
  a_mesg : {n : ℕ} → Buildable S A (mesg n)

abbrev ◌⊆◌ : {A : Type 0} → List A → List A → Type 0
◌⊆◌ {A} l m = (x : A) → Memᴰ x l → Memᴰ x m

builds_derives : {S : List Term} {A : List Atom} {t : Term} → Buildable S A t → Derives S A t
builds_derives (given m) = sent m
builds_derives (join b c) = by_cat (builds_derives b) (builds_derives c)
builds_derives (encrypt b c) = by_enc (builds_derives b) (builds_derives c)
builds_derives (make_hash b) = by_hash (builds_derives b)
builds_derives a_tag = by_tag
builds_derives (an_atom n) = by_base n
builds_derives a_mesg = variable

builds_more : {S R : List Term} {A B : List Atom} → ◌⊆◌ S R → ◌⊆◌ B A → {t : Term} → Buildable S A t → Buildable R B t
builds_more f g (given m) = given (f _ m)
builds_more f g (join b c) = join (builds_more f g b) (builds_more f g c)
builds_more f g (encrypt b c) = encrypt (builds_more f g b) (builds_more f g c)
builds_more f g (make_hash b) = make_hash (builds_more f g b)
builds_more f g a_tag = a_tag
builds_more f g (an_atom n) = an_atom (λ k. n (g _ k))
builds_more f g a_mesg = a_mesg

-- an atom that is avoided is not built
avoided_given : {S : List Term} {A : List Atom} {a : Atom} → Memᴰ a A → Buildable S A (atom a) → Memᴰ (atom a) S
avoided_given m (given k) = k
avoided_given m (an_atom n) = absurd (n m)

-- the atoms other than one
module _ (t₀ : Atom) where
  other : Atom → Bool
  other a = not (says_yes (atom_same a t₀))

  other_not : (a : Atom) → T (other a) → a ≢ t₀
  unfolding other says_yes
  other_not a h = go (atom_same a t₀) h
    where
      go : (d : Dec (a ≡ t₀)) → T (not (says_yes d)) → a ≢ t₀
      go (no n) h = n
      go (yes _) h = elim h [ ]

  not_other : (a : Atom) → a ≢ t₀ → T (other a)
  unfolding other says_yes
  not_other a n = go (atom_same a t₀)
    where
      go : (d : Dec (a ≡ t₀)) → T (not (says_yes d))
      go (yes e) = absurd (n e)
      go (no e) = tt

  equal_others : {A : List Atom} → Memᴰ t₀ A → Equal A (t₀ ∷ keep other A)
  equal_others {A} m = record {
    to = λ a k. go a k (atom_same a t₀);
    from = λ a k. ⊎_elim (λ e. Memᴰ.cast e m)
        (λ q. (kept other A a q).0) (Memᴰ.cases_cons k);
  }
    where
      go : (a : Atom) → Memᴰ a A → Dec (a ≡ t₀) → Memᴰ a (t₀ ∷ keep other A)
      go a k (yes e) = Memᴰ.head e
      go a k (no n) = Memᴰ.tail (keeps other A k (not_other a n))

listed : (a : Atom) (l : List Atom) → Dec (Memᴰ a l)
listed a [] = no Memᴰ.not-nil
listed a (b ∷ l) = go (atom_same a b) (listed a l)
  where
    go : Dec (a ≡ b) → Dec (Memᴰ a l) → Dec (Memᴰ a (b ∷ l))
    go (yes e) d = yes (Memᴰ.head e)
    go (no n) (yes m) = yes (Memᴰ.tail m)
    go (no n) (no k) = no (λ m. ⊎_elim n k (Memᴰ.cases_cons m))

-- all of a list can be built
abbrev Built : List Term → List Atom → List Term → Type 0
Built R B S = (u : Term) → Memᴰ u S → Buildable R B u

built_two : {R Q S : List Term} {B : List Atom} {x y : Term} → Buildable Q B x → Buildable Q B y → ◌⊆◌ R Q → Built R B S
    → Built Q B (x ∷ y ∷ S)
built_two b c l f u (Memᴰ.head q) = rw q b
built_two b c l f u (Memᴰ.tail (Memᴰ.head q)) = rw q c
built_two b c l f u (Memᴰ.tail (Memᴰ.tail m)) = builds_more l (λ a p. p) (f u m)

-- two more messages, given as they are
two_given : {R S : List Term} {B : List Atom} {x y : Term} → Built R B S → Built (x ∷ y ∷ R) B (x ∷ y ∷ S)
two_given f =
    built_two (given (Memᴰ.head refl)) (given (Memᴰ.tail (Memᴰ.head refl)))
    (λ x p. Memᴰ.tail (Memᴰ.tail p)) f

-- messages sent that can be built serve as well, and fewer atoms may be avoided
replace : {S : List Term} {A : List Atom} {t : Term} → Derives S A t → (R : List Term) (B : List Atom) → Built R B S → ◌⊆◌ B A
    → Derives R B t
replace (sent m) R B f g = builds_derives (f _ m)
replace (exposed {Tp} {Ta} {t₀} {t} e h d) R B f g = go (listed t₀ B) (λ C. replace d R C)
  where
    old : Built R B Tp
    old u m = f u (e.from u (Memᴰ.tail m))

    go : Dec (Memᴰ t₀ B) → ((C : List Atom) → Built R C Tp → ◌⊆◌ C Ta → Derives R C t) → Derives R B t
    go (no n) k =
        k B old (λ a m. ⊎_elim (λ q. absurd (n (Memᴰ.cast (back q) m))) (λ q. q) (Memᴰ.cases_cons (h.to a (g a m))))
    go (yes m) k =
        exposed (equal_again (avoided_given m (f (atom t₀) (e.from (atom t₀) (Memᴰ.head refl))))) (equal_others t₀ m)
        (k (keep (other t₀) B) (λ u q. builds_more (λ x p. p) (λ a p. (kept (other t₀) B a p).0) (old u q))
        (λ a p.
        let (q, o) = kept (other t₀) B a p in
        ⊎_elim (λ z. absurd (other_not t₀ a o z)) (λ z. z) (Memᴰ.cases_cons (h.to a (g a q)))))
replace (by_sep {Tp} {Ta} {t₀} {t₁} {t} e d) R B f g =
    go (f (pair t₀ t₁) (e.from _ (Memᴰ.head refl))) (λ Q b. replace d Q B b g)
  where
    old : Built R B Tp
    old u m = f u (e.from u (Memᴰ.tail m))

    go : Buildable R B (pair t₀ t₁) → ((Q : List Term) → Built Q B (t₀ ∷ t₁ ∷ Tp) → Derives Q B t) → Derives R B t
    go (given m) k = by_sep (equal_again m) (k (t₀ ∷ t₁ ∷ R) (two_given old))
    go (join b c) k = k R (built_two b c (λ x p. p) old)
replace (by_dec {Tp} {Ta} {t₀} {t₁} {t} e i d) R B f g =
    go (f (enc t₀ t₁) (e.from _ (Memᴰ.head refl))) (replace i R B old g) (λ Q b. replace d Q B b g)
  where
    old : Built R B Tp
    old u m = f u (e.from u (Memᴰ.tail m))

    go : Buildable R B (enc t₀ t₁) → Derives R B (inv t₁) → ((Q : List Term) → Built Q B (t₀ ∷ enc t₀ t₁ ∷ Tp) → Derives Q B t)
        → Derives R B t
    go (given m) j k = by_dec (equal_again m) j (k (t₀ ∷ enc t₀ t₁ ∷ R) (two_given old))
    go (encrypt b c) j k = k R (built_two b (encrypt b c) (λ x p. p) old)
replace (by_cat d e) R B f g = by_cat (replace d R B f g) (replace e R B f g)
replace (by_enc d e) R B f g = by_enc (replace d R B f g) (replace e R B f g)
replace (by_hash d) R B f g = by_hash (replace d R B f g)
replace by_tag R B f g = by_tag
replace (by_base n) R B f g = by_base (λ k. n (g _ k))
replace variable R B f g = variable

weaken : {S R : List Term} {A : List Atom} {t : Term} → Derives S A t → ◌⊆◌ S R → Derives R A t
weaken {R} {A} d l = replace d R A (λ u m. given (l u m)) (λ a m. m)

-- a message first, which can be built
built_first : {R S : List Term} {B : List Atom} {x : Term} → Buildable R B x → ◌⊆◌ S R → Built R B (x ∷ S)
built_first b l u (Memᴰ.head q) = rw q b
built_first b l u (Memᴰ.tail m) = given (l u m)

-- with two parts beside the rest
wider : {A : Type 0} {S Tp R : List A} {x y z : A} → Equal S (z ∷ Tp) → ◌⊆◌ S R → ◌⊆◌ (x ∷ y ∷ Tp) (x ∷ y ∷ R)
wider e l w (Memᴰ.head q) = Memᴰ.head q
wider e l w (Memᴰ.tail (Memᴰ.head q)) = Memᴰ.tail (Memᴰ.head q)
wider e l w (Memᴰ.tail (Memᴰ.tail m)) = Memᴰ.tail (Memᴰ.tail (l w (e.from w (Memᴰ.tail m))))

under_two : {A : Type 0} {S : List A} {x y : A} (u : A) → ◌⊆◌ (u ∷ S) (u ∷ x ∷ y ∷ S)
under_two u w (Memᴰ.head q) = Memᴰ.head q
under_two u w (Memᴰ.tail m) = Memᴰ.tail (Memᴰ.tail (Memᴰ.tail m))

-- what is derived serves as sent
cut : {Tp : List Term} {A : List Atom} {u t : Term} → Derives Tp A u → (S : List Term) → ◌⊆◌ Tp S → Derives (u ∷ S) A t
    → Derives S A t
cut {A} (sent m) S l d = replace d S A (built_first (given (l _ m)) (λ x p. p)) (λ a p. p)
cut (exposed {Ta} {t₀} e f k) S l d =
    exposed (equal_again (l _ (e.from (atom t₀) (Memᴰ.head refl)))) f
    (cut k S (λ x m. l x (e.from x (Memᴰ.tail m))) (replace d _ Ta (λ u m. given m) (λ a m. f.from a (Memᴰ.tail m))))
cut (by_sep {t₀} {t₁} e k) S l d =
    by_sep (equal_again (l _ (e.from _ (Memᴰ.head refl))))
    (cut k (t₀ ∷ t₁ ∷ S) (wider e l) (weaken d (under_two _)))
cut (by_dec {t₀} {t₁} e i k) S l d =
    by_dec (equal_again (l _ (e.from _ (Memᴰ.head refl)))) (weaken i (λ x m. l x (e.from x (Memᴰ.tail m))))
    (cut k (t₀ ∷ enc t₀ t₁ ∷ S) (wider e l) (weaken d (under_two _)))
cut {A} (by_cat {t₀} {t₁} k i) S l d =
    cut k S l
    (cut i (t₀ ∷ S) (λ x m. Memᴰ.tail (l x m))
    (replace d (t₁ ∷ t₀ ∷ S) A (built_first (join (given (Memᴰ.tail (Memᴰ.head refl))) (given (Memᴰ.head refl)))
    (λ x m. Memᴰ.tail (Memᴰ.tail m))) (λ a p. p)))
cut {A} (by_enc {t₀} {t₁} k i) S l d =
    cut k S l
    (cut i (t₀ ∷ S) (λ x m. Memᴰ.tail (l x m))
    (replace d (t₁ ∷ t₀ ∷ S) A (built_first (encrypt (given (Memᴰ.tail (Memᴰ.head refl))) (given (Memᴰ.head refl)))
    (λ x m. Memᴰ.tail (Memᴰ.tail m))) (λ a p. p)))
cut {A} (by_hash {t} k) S l d =
    cut k S l (replace d (t ∷ S) A (built_first (make_hash (given (Memᴰ.head refl))) (λ x m. Memᴰ.tail m)) (λ a p. p))
cut {A} by_tag S l d = replace d S A (built_first a_tag (λ x m. m)) (λ a p. p)
cut {A} (by_base n) S l d = replace d S A (built_first (an_atom n) (λ x m. m)) (λ a p. p)
cut {A} variable S l d = replace d S A (built_first a_mesg (λ x m. m)) (λ a p. p)

least_derives : {Tp : List Term} {Ta : List Atom} {t : Term} → Least Tp Ta t → Derives Tp Ta t
least_derives (Derivable.given m) = sent m
least_derives Derivable.a_tag = by_tag
least_derives Derivable.a_mesg = variable
least_derives (Derivable.an_atom n) = by_base n
least_derives (Derivable.join d e) = by_cat (least_derives d) (least_derives e)
least_derives {Tp} (Derivable.split_left d) = cut (least_derives d) Tp (λ x m. m) (by_sep equal_refl (sent (Memᴰ.head refl)))
least_derives {Tp} (Derivable.split_right d) =
    cut (least_derives d) Tp (λ x m. m) (by_sep equal_refl (sent (Memᴰ.tail (Memᴰ.head refl))))
least_derives (Derivable.encrypt d e) = by_enc (least_derives d) (least_derives e)
least_derives {Tp} (Derivable.decrypt d e) =
    cut (least_derives d) Tp (λ x m. m) (by_dec equal_refl (least_derives e) (sent (Memᴰ.head refl)))
least_derives (Derivable.make_hash d) = by_hash (least_derives d)

-- THE PRINTED SYSTEM DERIVES THE LEAST SET
pub derives_iff_least : (Tp : List Term) (Ta : List Atom) (t : Term) → Derives Tp Ta t ↔ Least Tp Ta t
derives_iff_least Tp Ta t = (derives_least, least_derives)

-- Before a reception

-- "Definition 9.1 (Outbound predecessors)" and "Definition 9.2 (Avoidance Set)"; the paper's "UO atoms that originate" decides
pub record Context (K : Skeleton Term) (n : Node) : Type 0 where
  pub outpred : List Term
  pub is_outpred : (t : Term) → Memᴰ t outpred ↔ SentBefore K n t
  pub avoid : List Atom
  pub is_avoid : (a : Atom) → Memᴰ a avoid ↔ Withheld K a

-- "Definition 9.3 (Derivable Before)"
pub before_iff_derives : {K : Skeleton Term} {n : Node} (c : Context K n) (t : Term)
    → DerivableBefore K n t ↔ Derives c.outpred c.avoid t
unfolding DerivableBefore
before_iff_derives c t = (
  λ d. least_derives (derivable_mono _ _ _ _ (λ u s. (c.is_outpred u).1 s) (λ a w. (c.is_avoid a).0 w) d),
  λ d. derivable_mono _ _ _ _ (λ u s. (c.is_outpred u).0 s) (λ a w. (c.is_avoid a).1 w) (derives_least d),
)

-- the atoms of a list
atom_in : Term → List Atom
atom_in (tag n) = []
atom_in (mesg n) = []
atom_in (atom a) = a ∷ []
atom_in (pair t u) = []
atom_in (enc t k) = []
atom_in (hash t) = []

atoms_in : List Term → List Atom
atoms_in [] = []
atoms_in (t ∷ l) = atom_in t ++ atoms_in l

is_atom_in : (t : Term) {a : Atom} → Memᴰ a (atom_in t) → atom a ≡ t
unfolding atom_in
is_atom_in (tag n) m = absurd (Memᴰ.not-nil m)
is_atom_in (mesg n) m = absurd (Memᴰ.not-nil m)
is_atom_in (atom b) m = ap atom (Memᴰ.eq_of_singleton m)
is_atom_in (pair t u) m = absurd (Memᴰ.not-nil m)
is_atom_in (enc t k) m = absurd (Memᴰ.not-nil m)
is_atom_in (hash t) m = absurd (Memᴰ.not-nil m)

atoms_in_iff : (l : List Term) (a : Atom) → Memᴰ a (atoms_in l) ↔ Memᴰ (atom a) l
unfolding atoms_in atom_in
atoms_in_iff [] a = (λ m. absurd (Memᴰ.not-nil m), λ m. absurd (Memᴰ.not-nil m))
atoms_in_iff (t ∷ l) a = (
  λ m. ⊎_elim (λ k. Memᴰ.head (is_atom_in t k)) (λ k. Memᴰ.tail ((atoms_in_iff l a).0 k))
      (Memᴰ.append_cases (atom_in t) m),
  λ m. ⊎_elim (λ e. Memᴰ.append_left {s = atom_in t} (atoms_in l) (rw (← e) (Memᴰ.head refl)))
      (λ k. Memᴰ.append_right (atom_in t) ((atoms_in_iff l a).1 k)) (Memᴰ.cases_cons m),
)

-- each reception of a skeleton on a good table has them
module _ (rows : List Row) (good : Good rows) (K : Skeleton ℕ) (ok : OnTable rows K) (n : Node) (u : ℕ) (at : At K n (recv u))
  where
    numbers : List ℕ
    numbers = keep (withheld rows K) (upto (length rows) (λ i. i))

    withheld_terms : List Term
    withheld_terms = map (term rows) numbers

    withheld_iff : (a : Atom) → Memᴰ (atom a) withheld_terms ↔ NumberWithheld rows (withheld rows K) a
    unfolding withheld_terms numbers
    withheld_iff a = (
      λ m.
          let (i, k, e) = Memᴰ.of_map (term rows) numbers m in
          let (l, h) = kept (withheld rows K) (upto (length rows) (λ i. i)) i k in
          record { which = i; inside = below_upto (length rows) i l; held = h; means = e },
      λ w. Memᴰ.cast (back w.means) (Memᴰ.map (term rows) (keeps (withheld rows K) (upto (length rows) (λ i. i))
          (in_upto (length rows) w.which w.inside) w.held)),
    )

    sent_iff : (t : Term) → Memᴰ t (map (term rows) (sent_numbers rows K n)) ↔ NumberSent rows (sent_numbers rows K n) t
    sent_iff t = (
      λ m. let (i, k, e) = Memᴰ.of_map (term rows) (sent_numbers rows K n) m in record { which = i; listed = k; means = e },
      λ s. Memᴰ.cast (back s.means) (Memᴰ.map (term rows) s.listed),
    )

    pub context : Context (means (term rows) K) n
    context =
        let low = ok.positions n (recv u) at in
        let inside = node_inside rows K ok at in
        record {
          outpred = map (term rows) (sent_numbers rows K n);
          is_outpred = λ t. (
            λ m. sent_from rows good K ok n low inside u at t ((sent_iff t).0 m),
            λ s. (sent_iff t).1 (sent_to rows good K ok n low inside u at t s),
          );
          avoid = atoms_in withheld_terms;
          is_avoid = λ a. (
            λ m. withheld_from rows good K ok a ((withheld_iff a).0 ((atoms_in_iff withheld_terms a).0 m)),
            λ w. (atoms_in_iff withheld_terms a).1 ((withheld_iff a).1 (withheld_to rows good K ok a w)),
          );
        }
