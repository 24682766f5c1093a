-- Row by row, each term gets its partner. In the end the partners are the inverses, and a key that is its own partner lacks one.
use mathlib.Core.Path.{◌≡◌, refl, ap, ◌∙◌, sym as back}
use mathlib.Core.Bool.{Bool, true, false, true≢false, ◌||◌, ◌&&◌}
use mathlib.Core.Logic.{◌≢◌, ◌↔◌}
use mathlib.Core.List.{List}
use Prim.Native.Nat.{ℕ, ◌+◌, ◌≤◌, ◌<◌}
use native.Mathlib.Omega.{arith}
use lib.Dec.{eqb}
use lib.ListN.{length, set, length-set}
use lib.Seq.{get_or-set_same, get_or-set_other}
use borrow.Author.Tests.{eq-eqb, eqb-true, eqb-false}
use Rattle.model.specs.Table.{Row, Tag, Mesg, Text, Datum, Name, Skey, Akey, Pubk, Inv, Ltk, Pair, Enc, Hash, row, kind, is_key}
use Rattle.model.specs.Accepting.{Lacking}
use Rattle.tables.proofs.Look.{count_is, row_in, kind_is}
use Rattle.theory.specs.Find.{find, find_le, find_at}
use Rattle.theory.specs.GoodTable.{row_same, IsKey, an_akey, a_pubk, Sorted}
use Rattle.theory.specs.Reach.{inverse_of, inverse_at}
use Rattle.theory.specs.Standing.{Fair}
use Rattle.tables.specs.Layout.{firsts, term_count}
use Rattle.tables.specs.Tables.{byte, the_row, rows_in, Filled}
use Rattle.std.specs.Prelude.{Ok}
use Rattle.keys.specs.Inverted.{Inverted, Paired, all}
use Rattle.keys.specs.Partners.{Own, Partner, of_inverse, of_key, of_other, Partners}
use Rattle.theory.specs.Tests.{both_true}
use Rattle.keys.proofs.Rows.{earlier_bytes}

module _ (rows : List Row) where
  pub no_row_yet : {n : ℕ} {l : List ℕ} → length rows ≤ n → Own n l → Partners rows 0 l
  no_row_yet {n} {l} e own =
      record {
        long = own.long;
        at = λ k h. rw (own.at k (omega arith)) (of_other (λ a q. absurd (omega arith)) (λ j q. absurd (omega arith)));
      }

  -- a row that says nothing of k
  stays : {m k x : ℕ} → ((a : ℕ) → k ≡ m → row rows k ≢ Inv a) → row rows m ≢ Inv k → Partner rows m k x
      → Partner rows (m + 1) k x
  stays here there (of_inverse h e) = of_inverse (omega arith) e
  stays here there (of_key {j} h e) = of_key {j = j} (omega arith) e
  stays {m} {k} here there (of_other f g) = of_other (λ a h. at_k a h (eqb k m) refl) (λ j h. at_j j h (eqb j m) refl)
    where
      at_k : (a : ℕ) → k < m + 1 → (b : Bool) → eqb k m ≡ b → row rows k ≢ Inv a
      at_k a h true q = here a (eqb-true k m q)
      at_k a h false q = f a (omega (arith, eqb-false k m q))

      at_j : (j : ℕ) → j < m + 1 → (b : Bool) → eqb j m ≡ b → row rows j ≢ Inv k
      at_j j h true q = rw (eqb-true j m q) there
      at_j j h false q = g j (omega (arith, eqb-false j m q))

  module _ {m : ℕ} {l : List ℕ} (so_far : Partners rows m l) where
    -- a row that is no inverse
    row_passed : ((a : ℕ) → row rows m ≢ Inv a) → Partners rows (m + 1) l
    row_passed n =
        record { long = so_far.long; at = λ k h. stays (λ a e. rw e (n a)) (n k) (so_far.at k h) }

    -- the inverse of the key a
    row_paired : (a : ℕ) → row rows m ≡ Inv a → m < 200 → a < 200 → Partners rows (m + 1) (set (set l m a) a m)
    row_paired a e i j =
        record { long = simp length-set so_far.long; at = λ k h. go k (eqb k a) refl (eqb k m) refl (so_far.at k h) }
      where
        go : (k : ℕ) (b : Bool) → eqb k a ≡ b → (c : Bool) → eqb k m ≡ c → Partner rows m k (byte l k)
            → Partner rows (m + 1) k (byte (set (set l m a) a m) k)
        go k true p c q h =
            let z : k ≡ a = eqb-true k a p in
            rw (z, get_or-set_same (set l m a) a m 0 (simp length-set (omega (arith, so_far.long))))
            (of_key {j = m} (omega arith) e)
        go k false p true q h =
            let z : k ≡ m = eqb-true k m q in
            rw (get_or-set_other (set l m a) a k m 0 (eqb-false k a p), z, get_or-set_same l m a 0 (omega (arith, so_far.long)))
            (of_inverse (omega arith) e)
        go k false p false q h =
            rw (get_or-set_other (set l m a) a k m 0 (eqb-false k a p), get_or-set_other l m k a 0 (eqb-false k m q))
            (stays (λ b z. absurd (eqb-false k m q z)) (λ z. eqb-false k a p (cc)) h)

-- In the end

key_no_inverse : {r : Row} {a : ℕ} → is_key r ≡ true → r ≢ Inv a
unfolding is_key kind
key_no_inverse {r} k e = true≢false (back k ∙ ap is_key e)

module _ (rows : List Row) (n : ℕ) where
  lacks_at : {i x : ℕ} → i < length rows → length rows ≡ n → is_key (row rows i) ≡ true → Partner rows n i x → x ≡ i → Lacking rows i
  lacks_at h e k (of_inverse l q) s = absurd (key_no_inverse k q)
  lacks_at h e k (of_key l q) s = absurd (key_no_inverse k (rw s at q))
  lacks_at h e k (of_other f g) s = record { a_term = h; a_key = k; no_inverse = λ j l. g j (omega arith) }

  lacks : {i : ℕ} → i < length rows → length rows ≡ n → is_key (row rows i) ≡ true → Partner rows n i i → Lacking rows i
  lacks h e k p = lacks_at h e k p refl

  lacking_own : {i x : ℕ} → length rows ≡ n → Lacking rows i → Partner rows n i x → x ≡ i
  lacking_own e k (of_inverse l q) = absurd (key_no_inverse k.a_key q)
  lacking_own e k (of_key l q) = absurd (k.no_inverse _ (omega arith) q)
  lacking_own e k (of_other f g) = refl

  module _ (fair : Fair rows) where
    -- the row of an inverse is the one that is found
    found : {j k : ℕ} → j < length rows → row rows j ≡ Inv k → find row_same rows (Inv k) ≡ j
    found {j} {k} h e =
        let l = find_le row_same rows (Inv k) (Tag 0) j h e in
        fair.distinct _ j (omega arith) h (find_at row_same rows (Inv k) (Tag 0) (omega arith) ∙ back e)

    inverse_of_key : (k : ℕ) {r : Row} → IsKey r → inverse_of rows k r ≡ find row_same rows (Inv k)
    unfolding inverse_of
    inverse_of_key k an_akey = refl
    inverse_of_key k a_pubk = refl

    sorted_inverse : {j k : ℕ} → j < length rows → row rows j ≡ Inv k → IsKey (row rows k)
    unfolding Sorted
    sorted_inverse {j} h e = rw e at (fair.sorted_args j h)

    -- a term that is neither a key nor an inverse
    inverse_of_other : (k : ℕ) (r : Row) → ¬ (is_key r ≡ true) → ((a : ℕ) → r ≢ Inv a) → inverse_of rows k r ≡ k
    unfolding inverse_of is_key kind
    inverse_of_other k (Tag a) h f = refl
    inverse_of_other k (Mesg a) h f = refl
    inverse_of_other k (Text a) h f = refl
    inverse_of_other k (Datum a) h f = refl
    inverse_of_other k (Name a) h f = refl
    inverse_of_other k (Skey a) h f = refl
    inverse_of_other k (Akey a) h f = absurd (h refl)
    inverse_of_other k (Pubk a) h f = absurd (h refl)
    inverse_of_other k (Inv a) h f = absurd (f a refl)
    inverse_of_other k (Ltk a b) h f = refl
    inverse_of_other k (Pair a b) h f = refl
    inverse_of_other k (Enc a b) h f = refl
    inverse_of_other k (Hash a) h f = refl

    partner_inverse : {k x : ℕ} → k < length rows → length rows ≡ n → ¬ Lacking rows k → Partner rows n k x
        → x ≡ inverse_at rows k
    unfolding inverse_at inverse_of
    partner_inverse h e c (of_inverse l q) = rw q
    partner_inverse {k} h e c (of_key {j} l q) =
        back (inverse_of_key k (sorted_inverse {j = j} (omega arith) q) ∙ found (omega arith) q)
    partner_inverse {k} h e c (of_other f g) =
        back (inverse_of_other k (row rows k) (λ q. c (lacks h e q (of_other f g))) (λ a. f a (omega arith)))

    inverted : {l : List ℕ} → length rows ≡ n → ((i : ℕ) → ¬ Lacking rows i) → Partners rows n l → Inverted rows l
    inverted e c p = record { at = λ i h. partner_inverse h e (c i) (p.at i h) }

-- Each its own

pub own_none : {l : List ℕ} → length l ≡ 200 → Own 0 l
own_none e = record { long = e; at = λ k h. absurd (omega arith) }

pub own_more : {i : ℕ} {l : List ℕ} → i < 200 → Own i l → Own (i + 1) (set l i i)
own_more {i} {l} h own = record { long = simp length-set own.long; at = λ k q. go k q (eqb k i) refl }
  where
    go : (k : ℕ) → k < i + 1 → (b : Bool) → eqb k i ≡ b → byte (set l i i) k ≡ k
    go k q true e = let z : k ≡ i = eqb-true k i e in rw (z, get_or-set_same l i i 0 (omega (arith, own.long)))
    go k q false e = rw (get_or-set_other l i k i 0 (eqb-false k i e)) (own.at k (omega (arith, eqb-false k i e)))

-- By the bytes of a table

pub is_inverse : {k b : ℕ} → k ≡ b → eqb k 8 ≡ true → b ≡ 8
is_inverse {k} e h = rw e at (eqb-true k 8 h)

pub no_inverse : {k b : ℕ} → k ≡ b → eqb k 8 ≡ false → b ≢ 8
no_inverse {k} e h = rw e at (eqb-false k 8 h)

module _ (t : List ℕ) (j : ℕ) (f : Filled t) (h : j < byte t term_count) where
  pub key_earlier : Fair (rows_in t) → byte t j ≡ 8 → byte t (firsts + j) < j
  key_earlier fair e = (earlier_bytes t j f h (fair.earlier_args j (rw (count_is t) h)) (rw e tt)).first

  inverse_row : byte t j ≡ 8 → row (rows_in t) j ≡ Inv (byte t (firsts + j))
  unfolding the_row
  inverse_row e = row_in t j h ∙ rw e

  pub byte_paired : {l : List ℕ} → Fair (rows_in t) → byte t j ≡ 8 → Partners (rows_in t) j l
      → Partners (rows_in t) (j + 1) (set (set l j (byte t (firsts + j))) (byte t (firsts + j)) j)
  byte_paired fair e p =
      row_paired (rows_in t) p (byte t (firsts + j)) (inverse_row e) (omega (arith, f.terms))
      (omega (arith, f.terms, key_earlier fair e))

  pub byte_passed : {l : List ℕ} → byte t j ≢ 8 → Partners (rows_in t) j l → Partners (rows_in t) (j + 1) l
  unfolding kind
  byte_passed n p = row_passed (rows_in t) p (λ a e. n (back (kind_is t j f h) ∙ ap kind e))

  -- the test of a key that is its own partner
  pub lacking_test : {l : List ℕ} → Partners (rows_in t) (byte t term_count) l
      → (((eqb (byte t j) 6 || eqb (byte t j) 7) && eqb (byte l j) j) ≡ true) ↔ Lacking (rows_in t) j
  unfolding is_key
  lacking_test {l} p =
      let i : j < length (rows_in t) = rw (count_is t) h in
      let k : is_key (row (rows_in t) j) ≡ (eqb (byte t j) 6 || eqb (byte t j) 7) = rw (kind_is t j f h) in (
        λ e. let b = both_true _ _ e in lacks _ _ i (count_is t) (k ∙ b.0) (rw (eqb-true (byte l j) j b.1) at (p.at j i)),
        λ c. rw (← k, c.a_key) (eq-eqb (byte l j) j (lacking_own _ _ (count_is t) c (p.at j i))),
      )

pub all_paired : (t : List ℕ) {l : List ℕ} (i : ℕ) → Fair (rows_in t) → byte t term_count ≤ i
    → ((j : ℕ) → j < i → ¬ Lacking (rows_in t) j)
    → Partners (rows_in t) (byte t term_count) l → Paired (rows_in t) l (Ok tt)
all_paired t i fair h none p =
    let each : (j : ℕ) → ¬ Lacking (rows_in t) j = λ j k. none j (omega (arith, k.a_term, count_is t)) k in
    all each (inverted (rows_in t) (byte t term_count) fair (count_is t) each p)
