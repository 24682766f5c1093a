-- First appearance: exactly one answer for each term and strand, and a computation that gives it on a table.
use Rattle.std.specs.Prelude.{◌≡◌, Bool, ◌↔◌, ℕ, suc, ◌+◌, ◌-◌, ◌<◌, T, length}
use Rattle.std.proofs.Math.Path.{refl, ap}
use Rattle.std.proofs.Common.{◌∙◌, sym as back, arith}
use Rattle.std.proofs.Math.Bool.{true, false, cond}
use mathlib.Core.List.{List, [], ◌∷◌}
use Rattle.std.proofs.Math.Decide.{dec_lt}
use Rattle.std.proofs.Math.ListN.{get_elem?}
use Rattle.model.specs.Term.{Term}
use Rattle.model.specs.Carry.{Carries}
use Rattle.model.specs.Table.{Row, term}
use Rattle.model.specs.Skeleton.{Event, send, recv, message, Skeleton, At, trace, means, on_message}
use Rattle.model.specs.Events.{Origin, Taken, Appearance, not_carried, in_send, in_reception, Appears, nowhere, first_sent, first_taken}
use Rattle.theory.specs.Places.{not_there}
use Rattle.theory.specs.GoodTable.{Good}
use Rattle.theory.specs.Happenings.{at_means, at_meant, message_means}
use Rattle.theory.specs.Skeletons.{at_one}
use Rattle.theory.specs.OnTable.{OnTable}
use Rattle.theory.proofs.Carrying.{carries, carries_iff}

-- No second answer

-- the first event of the strand that carries the term: where, and which
record FirstAt (K : Skeleton Term) (t : Term) (s p : ℕ) (e : Event Term) : Type 0 where
  at : At K (record { strand = s; position = p }) e
  carried : Carries t (message e)
  first : (q : ℕ) (d : Event Term) → q < p → At K (record { strand = s; position = q }) d → ¬ Carries t (message d)

record SameFirst (p q : ℕ) (d e : Event Term) : Type 0 where
  place : p ≡ q
  event : d ≡ e

same_first : {K : Skeleton Term} {t : Term} {s p q : ℕ} {d e : Event Term} → FirstAt K t s p d → FirstAt K t s q e
    → SameFirst p q d e
same_first {K} {p} {q} {d} {e} f g = go (dec_lt p q) (dec_lt q p)
  where
    go : Dec (p < q) → Dec (q < p) → SameFirst p q d e
    go (yes h) _ = absurd (g.first p d h f.at f.carried)
    go (no h) (yes k) = absurd (f.first q e k g.at g.carried)
    go (no h) (no k) =
        let z : p ≡ q = omega arith in
        record { place = z; event = at_one K f.at (rw z g.at) }

module _ {K : Skeleton Term} {t : Term} {s p : ℕ} where
  sent_first : (o : Origin K t (record { strand = s; position = p })) → FirstAt K t s p (send o.said)
  unfolding message
  sent_first o = record { at = o.at; carried = o.carries; first = o.first }

  taken_first : (o : Taken K t (record { strand = s; position = p })) → FirstAt K t s p (recv o.heard)
  unfolding message
  taken_first o = record { at = o.at; carried = o.carries; first = o.first }

pub appears_one : {K : Skeleton Term} {t : Term} {s : ℕ} {a b : Appearance K} → Appears K t s a → Appears K t s b → a ≡ b
unfolding message
appears_one (nowhere f) (nowhere g) = refl
appears_one (nowhere f) (first_sent {p} o) = absurd (f p (send o.said) o.at o.carries)
appears_one (nowhere f) (first_taken {p} o) = absurd (f p (recv o.heard) o.at o.carries)
appears_one (first_sent {p} o) (nowhere g) = absurd (g p (send o.said) o.at o.carries)
appears_one (first_taken {p} o) (nowhere g) = absurd (g p (recv o.heard) o.at o.carries)
appears_one (first_sent o) (first_sent u) = ap in_send (same_first (sent_first o) (sent_first u)).place
appears_one (first_taken o) (first_taken u) = ap in_reception (same_first (taken_first o) (taken_first u)).place
appears_one (first_sent o) (first_taken u) =
    let e = (same_first (sent_first o) (taken_first u)).event in
    let z : ◌≡◌ {A = ℕ} 0 1 = cc in
    absurd (omega arith)
appears_one (first_taken o) (first_sent u) =
    let e = (same_first (taken_first o) (sent_first u)).event in
    let z : ◌≡◌ {A = ℕ} 0 1 = cc in
    absurd (omega arith)

-- The computation

module _ (rows : List Row) (K : Skeleton ℕ) (t : ℕ) where
  unfoldable pub seen_as : Event ℕ → ℕ → Appearance (means (term rows) K)
  seen_as (send u) p = in_send p
  seen_as (recv u) p = in_reception p

  -- in these events, which stand from position p on
  unfoldable pub appearance_from : ℕ → List (Event ℕ) → Appearance (means (term rows) K)
  unfolding seen_as carries message
  appearance_from p [] = not_carried
  appearance_from p (e ∷ es) = cond (carries rows t (message e)) (seen_as e p) (appearance_from (suc p) es)

  -- on a strand
  unfoldable pub appearance : ℕ → Appearance (means (term rows) K)
  unfolding appearance_from
  appearance s = appearance_from 0 (trace K s)

-- nothing before p carries the term, and these are the events from p on
record Scanned (rows : List Row) (K : Skeleton ℕ) (t s p : ℕ) (es : List (Event ℕ)) : Type 0 where
  unseen : (q : ℕ) (e : Event Term) → q < p → At (means (term rows) K) (record { strand = s; position = q }) e
      → ¬ Carries (term rows t) (message e)
  rest : (i q : ℕ) → q ≡ p + i → get_elem? (trace K s) q ≡ get_elem? es i

module _ (rows : List Row) (good : Good rows) (K : Skeleton ℕ) (ok : OnTable rows K) (t : ℕ) (inside : t < length rows) (s : ℕ)
  where
    abbrev L : Skeleton Term
    L = means (term rows) K

    abbrev Scan : ℕ → List (Event ℕ) → Type 0
    Scan = Scanned rows K t s

    here : (p : ℕ) (e : Event ℕ) {es : List (Event ℕ)} → Scan p (e ∷ es) → At K (record { strand = s; position = p }) e
    here p e c = record { is = c.rest 0 p (omega arith) }

    carried_here : (p : ℕ) (e : Event ℕ) {es : List (Event ℕ)} → Scan p (e ∷ es)
        → T (carries rows t (message e)) ↔ Carries (term rows t) (term rows (message e))
    carried_here p e c = carries_iff rows good t (message e) inside (ok.messages _ e (here p e c))

    -- one that does not carry it
    scan : (p : ℕ) (e : Event ℕ) {es : List (Event ℕ)} → Scan p (e ∷ es) → ¬ T (carries rows t (message e)) → Scan (suc p) es
    scan p e c n = record { unseen = unseen_next; rest = λ i q z. c.rest (suc i) q (omega arith) }
      where
        unseen_next : (q : ℕ) (d : Event Term) → q < suc p → At L (record { strand = s; position = q }) d
            → ¬ Carries (term rows t) (message d)
        unseen_next q d l a k = go (dec_lt q p)
          where
            go : Dec (q < p) → ⊥
            go (yes h) = c.unseen q d h a k
            go (no h) =
                let z : q ≡ p = omega arith in
                let y : d ≡ on_message (term rows) e = at_one L (rw z at a) (at_means (term rows) K (here p e c)) in
                n ((carried_here p e c).1 (rw (y, message_means (term rows) e) at k))

    seen_appears : (p : ℕ) (e : Event ℕ) {es : List (Event ℕ)} → Scan p (e ∷ es) → T (carries rows t (message e))
        → Appears L (term rows t) s (seen_as rows K t e p)
    unfolding seen_as on_message message
    seen_appears p (send u) c k =
        first_sent (record {
          said = term rows u;
          at = at_means (term rows) K (here p (send u) c);
          carries = (carried_here p (send u) c).0 k;
          first = c.unseen;
        })
    seen_appears p (recv u) c k =
        first_taken (record {
          heard = term rows u;
          at = at_means (term rows) K (here p (recv u) c);
          carries = (carried_here p (recv u) c).0 k;
          first = c.unseen;
        })

    -- at the end nothing carries it
    none_carries : (p : ℕ) → Scan p [] → Appears L (term rows t) s not_carried
    none_carries p c = nowhere λ q e a k. go q e a k (dec_lt q p)
      where
        go : (q : ℕ) (e : Event Term) → At L (record { strand = s; position = q }) e → Carries (term rows t) (message e)
            → Dec (q < p) → ⊥
        go q e a k (yes h) = c.unseen q e h a k
        go q e a k (no h) =
            let (d, b, _) = at_meant (term rows) K a in
            not_there (back (c.rest (q - p) q (omega arith)) ∙ b.is)

    appears_from : (p : ℕ) (es : List (Event ℕ)) → Scan p es → Appears L (term rows t) s (appearance_from rows K t p es)
    unfolding appearance_from
    appears_from p [] c = none_carries p c
    appears_from p (e ∷ es) c = go (carries rows t (message e)) refl (appears_from (suc p) es)
      where
        go : (b : Bool) → carries rows t (message e) ≡ b
            → (Scan (suc p) es → Appears L (term rows t) s (appearance_from rows K t (suc p) es))
            → Appears L (term rows t) s (cond b (seen_as rows K t e p) (appearance_from rows K t (suc p) es))
        go true q f = seen_appears p e c (rw q tt)
        go false q f = f (scan p e c (λ h. rw q at h))

    -- FIRST APPEARANCE IS DECIDED
    pub appears : Appears L (term rows t) s (appearance rows K t s)
    unfolding appearance
    appears =
        appears_from 0 (trace K s) (record {
          unseen = λ q e l. absurd (omega arith);
          rest = λ i q z. ap (get_elem? (trace K s))
              (omega arith);
        })

    pub appears_iff : (a : Appearance L) → Appears L (term rows t) s a ↔ (appearance rows K t s ≡ a)
    appears_iff a = (λ h. appears_one appears h, λ e. rw e at appears)
