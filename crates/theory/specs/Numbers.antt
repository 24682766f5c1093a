-- A row means its meaning in the whole table, and equal terms have equal numbers.
use Rattle.std.specs.Prelude.{◌≡◌, true, false, ℕ, zero, suc, ◌+◌, ◌≤◌, ◌<◌, length}
use Rattle.std.proofs.Math.Path.{refl, ap, ap₂}
use Rattle.std.proofs.Common.{◌∙◌, sym as back, arith, length-append}
use mathlib.Core.List.{List, [], ◌∷◌, ◌++◌}
use Rattle.std.proofs.Math.ListN.{get_or-append}
use Rattle.std.proofs.Math.Seq.{get_or-append_seam}
use Rattle.model.specs.Table.{Row, Tag, Mesg, Text, Datum, Name, Skey, Akey, Pubk, Inv, Ltk, Pair, Enc, Hash, row, name_of, meaning, nth, terms_after, term}
use Rattle.model.specs.Term.{Asym, skey, ltk, akey, pubk, text, datum, name, symmetric, asymmetric, Term, tag, mesg, atom, pair, enc, hash, flip, inv, same}
use Rattle.theory.specs.GoodTable.{Earlier, IsName, a_name, IsKey, an_akey, a_pubk, Sorted, Good}
use Rattle.theory.specs.Find.{find, find_le, find_at}

-- The law of the meaning: each row's term is its meaning in the whole table

meaning_cong : (f g : ℕ → Term) (m : ℕ) → ((j : ℕ) → j < m → f j ≡ g j) → (r : Row) → Earlier m r → meaning f r ≡ meaning g r
unfolding meaning Earlier
meaning_cong f g m h (Tag n) b = refl
meaning_cong f g m h (Mesg n) b = refl
meaning_cong f g m h (Text n) b = refl
meaning_cong f g m h (Datum n) b = refl
meaning_cong f g m h (Name n) b = refl
meaning_cong f g m h (Skey n) b = refl
meaning_cong f g m h (Akey n) b = refl
meaning_cong f g m h (Pubk a) b = rw (h a b)
meaning_cong f g m h (Inv a) b = rw (h a b)
meaning_cong f g m h (Ltk a b) c = rw (h a c.0, h b c.1)
meaning_cong f g m h (Pair a b) c = rw (h a c.0, h b c.1)
meaning_cong f g m h (Enc a b) c = rw (h a c.0, h b c.1)
meaning_cong f g m h (Hash a) b = rw (h a b)

terms_keep : (rs : List Row) (ts : List Term) (i : ℕ) → i < length ts → nth (terms_after ts rs) i ≡ nth ts i
unfolding terms_after
terms_keep [] ts i h = refl
terms_keep (r ∷ rs) ts i h =
    terms_keep rs (ts ++ (meaning (nth ts) r ∷ [])) i (simp length-append (omega arith)) ∙ get_or-append ts _ _ i h

terms_length : (rs : List Row) (ts : List Term) → length (terms_after ts rs) ≡ length ts + length rs
unfolding terms_after
terms_length [] ts = omega arith
terms_length (r ∷ rs) ts = terms_length rs _ ∙ simp length-append (omega arith)

terms_law : (rs : List Row) (ts : List Term) (i n : ℕ) → n ≡ length ts + i → i < length rs → Earlier n (row rs i)
    → nth (terms_after ts rs) n ≡ meaning (nth (terms_after ts rs)) (row rs i)
unfolding terms_after
terms_law [] ts i n e h b = absurd (omega arith)
terms_law (r ∷ rs) ts zero n e h b =
    let l : n ≡ length ts = omega arith in
    terms_keep rs _ n (simp length-append (omega arith))
    ∙ (rw l (get_or-append_seam ts _ [] (tag 0))
    ∙ meaning_cong _ _ n (λ j k. back (terms_keep (r ∷ rs) ts j (omega arith))) r b)
terms_law (r ∷ rs) ts (suc i) n e h b = terms_law rs _ i n (simp length-append (omega arith)) (omega arith) b

module _ (rows : List Row) (good : Good rows) where
  pub term_law : (i : ℕ) → i < length rows → term rows i ≡ meaning (term rows) (row rows i)
  unfolding term
  term_law i h = terms_law rows [] i i (omega arith) h (good.earlier i h)

  pub law : (i : ℕ) {r : Row} → i < length rows → row rows i ≡ r → term rows i ≡ meaning (term rows) r
  law i h e = term_law i h ∙ ap (meaning (term rows)) e

-- Equal terms have equal numbers

-- the row that a term must have, where `number` says the numbers of its parts
unfoldable pub row_of : (Term → ℕ) → Term → Row
row_of number (tag n) = Tag n
row_of number (mesg n) = Mesg n
row_of number (atom (text n)) = Text n
row_of number (atom (datum n)) = Datum n
row_of number (atom (name n)) = Name n
row_of number (atom (symmetric (skey n))) = Skey n
row_of number (atom (symmetric (ltk a b))) = Ltk (number (atom (name a))) (number (atom (name b)))
row_of number (atom (asymmetric false (akey n))) = Akey n
row_of number (atom (asymmetric false (pubk a))) = Pubk (number (atom (name a)))
row_of number (atom (asymmetric true k)) = Inv (number (atom (asymmetric false k)))
row_of number (pair t u) = Pair (number t) (number u)
row_of number (enc t k) = Enc (number t) (number k)
row_of number (hash t) = Hash (number t)

pub name_shown : (f : ℕ → Term) {r : Row} {t : Term} → IsName r → t ≡ meaning f r → atom (name (name_of t)) ≡ t
unfolding meaning name_of
name_shown f a_name h = rw h

pub key_shown : (f : ℕ → Term) {r : Row} {t : Term} → IsKey r → t ≡ meaning f r → (k : Asym) × (t ≡ atom (asymmetric false k))
unfolding meaning
key_shown f (an_akey {n}) h = (akey n, h)
key_shown f (a_pubk {a}) h = (pubk (name_of (f a)), h)

module _ (number : Term → ℕ) (rows : ℕ → Row) (f : ℕ → Term) (m : ℕ)
    (known : (j : ℕ) → j < m → number (f j) ≡ j) (law : (j : ℕ) → j < m → f j ≡ meaning f (rows j)) where
  row_of_meaning : (r : Row) → Earlier m r → Sorted rows r → row_of number (meaning f r) ≡ r
  unfolding row_of meaning Earlier Sorted inv flip
  row_of_meaning (Tag n) b s = refl
  row_of_meaning (Mesg n) b s = refl
  row_of_meaning (Text n) b s = refl
  row_of_meaning (Datum n) b s = refl
  row_of_meaning (Name n) b s = refl
  row_of_meaning (Skey n) b s = refl
  row_of_meaning (Akey n) b s = refl
  row_of_meaning (Pubk a) b s = ap Pubk (ap number (name_shown f s (law a b)) ∙ known a b)
  row_of_meaning (Inv a) b s =
      let (k, e) = key_shown f s (law a b) in
      ap (λ t. row_of number (inv t)) e ∙ ap Inv (ap number (back e) ∙ known a b)
  row_of_meaning (Ltk a b) c s =
      ap₂ Ltk (ap number (name_shown f s.0 (law a c.0)) ∙ known a c.0)
      (ap number (name_shown f s.1 (law b c.1)) ∙ known b c.1)
  row_of_meaning (Pair a b) c s = ap₂ Pair (known a c.0) (known b c.1)
  row_of_meaning (Enc a b) c s = ap₂ Enc (known a c.0) (known b c.1)
  row_of_meaning (Hash a) b s = ap Hash (known a b)

unfoldable pub number : List Row → Term → ℕ
number rows t = find same (terms_after [] rows) t

module _ (rows : List Row) (good : Good rows) where
  row_of_term : (i : ℕ) → i < length rows → ((j : ℕ) → j < i → number rows (term rows j) ≡ j)
      → row_of (number rows) (term rows i) ≡ row rows i
  row_of_term i h known =
      rw (term_law rows good i h) (row_of_meaning (number rows) (row rows) (term rows) i known
      (λ j k. term_law rows good j (omega arith)) (row rows i) (good.earlier i h) (good.sorted i h))

  number_le : (i : ℕ) → i < length rows → number rows (term rows i) ≤ i
  unfolding number term
  number_le i h = find_le same (terms_after [] rows) _ (tag 0) i (rw terms_length (omega arith)) refl

  term_number : (i : ℕ) → i < length rows → term rows (number rows (term rows i)) ≡ term rows i
  unfolding number term
  term_number i h = find_at same (terms_after [] rows) _ (tag 0) (rw terms_length (omega (arith, number_le i h)))

  pub number_found : (t : Term) → number rows t < length rows → term rows (number rows t) ≡ t
  unfolding number term
  number_found t h = find_at same (terms_after [] rows) t (tag 0) (rw terms_length (omega arith))

  number_step : (i : ℕ) → i < length rows → ((j : ℕ) → j < i → number rows (term rows j) ≡ j) → number rows (term rows i) ≡ i
  number_step i h known =
      let n = number rows (term rows i) in
      let l : n ≤ i = number_le i h in
      let k : n < length rows = omega arith in
      good.distinct n i k h (cc (term_number i h, row_of_term n k (λ j q. known j (omega arith)), row_of_term i h known))

  number_upto : (m i : ℕ) → i < m → i < length rows → number rows (term rows i) ≡ i
  number_upto zero i k h = absurd (omega arith)
  number_upto (suc m) i k h = number_step i h (λ j q. number_upto m j (omega arith) (omega arith))

  pub number_term : (i : ℕ) → i < length rows → number rows (term rows i) ≡ i
  number_term i h = number_upto (suc i) i (omega arith) h

  pub term_injective : (i j : ℕ) → i < length rows → j < length rows → term rows i ≡ term rows j → i ≡ j
  term_injective i j h k e = cc (number_term i h, number_term j k)

  pub row_is : (i : ℕ) → i < length rows → row rows i ≡ row_of (number rows) (term rows i)
  row_is i h = back (row_of_term i h (λ j q. number_term j (omega arith)))
