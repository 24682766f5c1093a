-- The terms of a good table are closed under parts and inverses.
use Rattle.std.specs.Prelude.{◌≡◌, List, ℕ, ◌<◌, length}
use Rattle.std.proofs.Math.Path.{ap}
use Rattle.std.proofs.Common.{◌∙◌, sym as back, arith}
use Rattle.std.proofs.Math.Bool.{true, false}
use Rattle.model.specs.Term.{akey, pubk, text, datum, name, symmetric, asymmetric, Term, tag, mesg, atom, pair, enc, hash, flip, inv}
use Rattle.model.specs.Table.{Row, Inv, row, meaning, term}
use Rattle.model.proofs.Laws.{inv-inv}
use Rattle.theory.specs.GoodTable.{IsKey, an_akey, a_pubk, Good, Earlier}
use Rattle.theory.specs.Numbers.{row_of, term_law, number, number_term, row_is}
use Rattle.theory.specs.Locality.{Closed}

pub record OnSheet (rows : List Row) (t : Term) : Type 0 where
  pub which : ℕ
  pub inside : which < length rows
  pub means : term rows which ≡ t

module _ (rows : List Row) (good : Good rows) where
  -- the row of a term of the sheet is the row that the term must have
  row_at : {t : Term} (s : OnSheet rows t) → row rows s.which ≡ row_of (number rows) t
  row_at s = row_is rows good s.which s.inside ∙ ap (row_of (number rows)) s.means

  module _ {t : Term} (s : OnSheet rows t) (r : Row) (is : row rows s.which ≡ r) where
    earlier_at : Earlier s.which r
    earlier_at = rw is at (good.earlier s.which s.inside)

    means_at : meaning (term rows) r ≡ t
    means_at = rw is at (back (term_law rows good s.which s.inside) ∙ s.means)

  at_place : (i n : ℕ) {t : Term} → i < n → n < length rows → term rows i ≡ t → OnSheet rows t
  at_place i n l h e = record { which = i; inside = omega arith; means = e }

  pub on_pair : {t u : Term} → OnSheet rows (pair t u) → OnSheet rows t × OnSheet rows u
  unfolding row_of meaning Earlier
  on_pair s =
      let e = row_at s in
      let b = earlier_at s _ e in
      let m = means_at s _ e in
      (at_place _ _ b.0 s.inside (cc), at_place _ _ b.1 s.inside (cc))

  pub on_enc : {t k : Term} → OnSheet rows (enc t k) → OnSheet rows t × OnSheet rows k
  unfolding row_of meaning Earlier
  on_enc s =
      let e = row_at s in
      let b = earlier_at s _ e in
      let m = means_at s _ e in
      (at_place _ _ b.0 s.inside (cc), at_place _ _ b.1 s.inside (cc))

  pub on_hash : {t : Term} → OnSheet rows (hash t) → OnSheet rows t
  unfolding row_of meaning Earlier
  on_hash s =
      let e = row_at s in
      let b = earlier_at s _ e in
      let m = means_at s _ e in
      at_place _ _ b s.inside (cc)

  -- a key's inverse is on the sheet by the table's rule, an inverse's key because it stands in the row
  inverse_of_key : {t : Term} (s : OnSheet rows t) → IsKey (row rows s.which) → OnSheet rows (inv t)
  unfolding meaning
  inverse_of_key s k =
      let (j, h, e) = good.inverses s.which s.inside k in
      record { which = j; inside = h; means = term_law rows good j h ∙ rw (e, s.means) }

  key_of_inverse : {t : Term} (s : OnSheet rows t) (a : ℕ) → row rows s.which ≡ Inv a → OnSheet rows (inv t)
  unfolding meaning Earlier
  key_of_inverse s a e = at_place a _ (earlier_at s _ e) s.inside (back (inv-inv _) ∙ ap inv (means_at s _ e))

  pub on_inverse : (t : Term) → OnSheet rows t → OnSheet rows (inv t)
  unfolding inv flip row_of
  on_inverse (tag n) s = s
  on_inverse (mesg n) s = s
  on_inverse (atom (text n)) s = s
  on_inverse (atom (datum n)) s = s
  on_inverse (atom (name n)) s = s
  on_inverse (atom (symmetric k)) s = s
  on_inverse (atom (asymmetric false (akey n))) s = inverse_of_key s (rw (row_at s) an_akey)
  on_inverse (atom (asymmetric false (pubk a))) s = inverse_of_key s (rw (row_at s) a_pubk)
  on_inverse (atom (asymmetric true k)) s = key_of_inverse s _ (row_at s)
  on_inverse (pair t u) s = s
  on_inverse (enc t k) s = s
  on_inverse (hash t) s = s

  pub sheet_closed : Closed (OnSheet rows)
  sheet_closed =
      record {
        pair_left = λ s. (on_pair s).0;
        pair_right = λ s. (on_pair s).1;
        enc_body = λ s. (on_enc s).0;
        enc_key = λ s. (on_enc s).1;
        hash_body = on_hash;
        inverse = λ {t} s. on_inverse t s;
      }

  -- the number of a term of the sheet
  pub number_place : {t : Term} (s : OnSheet rows t) → number rows t ≡ s.which
  number_place s = ap (number rows) (back s.means) ∙ number_term rows good s.which s.inside

  pub term_number : {t : Term} → OnSheet rows t → term rows (number rows t) ≡ t
  term_number s = rw (number_place s) s.means

  pub number_inside : {t : Term} → OnSheet rows t → number rows t < length rows
  number_inside s = rw (number_place s) s.inside

  pub row_at_number : {t : Term} → OnSheet rows t → row rows (number rows t) ≡ row_of (number rows) t
  row_at_number s = rw (number_place s) (row_at s)
