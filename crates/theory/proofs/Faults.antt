-- Refusals 10 to 14 decided for a skeleton on a good table.
use Rattle.std.specs.Prelude.{◌≡◌, true, false, ◌⊎◌, ℕ, ◌<◌, T, length}
use Rattle.std.proofs.Math.Path.{refl}
use Rattle.std.proofs.Common.{ap, ◌∙◌, sym as back}
use Rattle.std.proofs.Math.Logic.{inl, inr}
use mathlib.Core.List.{List, Memᴰ}
use Rattle.std.proofs.Math.Decide.{ℕ_discrete}
use Rattle.model.specs.Term.{Term, tag, mesg, atom, pair, enc, hash, text, datum, name, symmetric, asymmetric, skey, ltk, akey, pubk, inv, flip}
use Rattle.model.specs.Carry.{Carries, Occurs}
use Rattle.model.specs.Subst.{Variable, a_mesg, a_text, a_datum, a_name, an_skey, an_akey}
use Rattle.model.specs.Table.{Row, term, terms_after, meaning, name_of}
use Rattle.model.specs.Skeleton.{Event, send, recv, message, Node, Skeleton, At, means, on_message}
use Rattle.model.specs.Events.{Before, Origin, InSomeEvent}
use Rattle.model.specs.Sheet.{Drawing, meant}
use Rattle.model.specs.Accepting.{Cyclic, Carried, OneStrand, Early, Missing, NonRight, UniqRight, Right, NonTurn, UniqTurn, Fault, a_cycle, missing, carried, not_one, early}
use Rattle.theory.specs.GoodTable.{Good}
use Rattle.theory.specs.Rules.{marked, reach}
use Rattle.theory.specs.Skeletons.{at_one}
use Rattle.theory.specs.Precedence.{Edge, edges, before_edge}
use Rattle.theory.specs.Happenings.{Happening, events, event_listed, listed_event, at_means, at_meant, before_means, before_meant, recv_means, message_means}
use Rattle.theory.proofs.Occurring.{occur_rules, occurs_iff, occurs_on}
use Rattle.theory.specs.Deciding.{dec_of, dec_to, dec_not, dec_both, Some, dec_some, All, dec_all, dec_below, Lowest, lowest_of}
use Rattle.theory.specs.OnTable.{OnTable, node_inside, before}
use Rattle.theory.proofs.OnTable.{before_iff}
use Rattle.theory.proofs.Carrying.{carries, carries_iff}
use Rattle.theory.proofs.Origins.{is_origin, origin_of, origin_found}

unfoldable pub variable_test : (t : Term) → Dec (Variable t)
variable_test (tag n) = no (elim [ ])
variable_test (mesg n) = yes a_mesg
variable_test (atom (text n)) = yes a_text
variable_test (atom (datum n)) = yes a_datum
variable_test (atom (name n)) = yes a_name
variable_test (atom (symmetric (skey n))) = yes an_skey
variable_test (atom (symmetric (ltk a b))) = no (elim [ ])
variable_test (atom (asymmetric true k)) = no (elim [ ])
variable_test (atom (asymmetric false (akey n))) = yes an_akey
variable_test (atom (asymmetric false (pubk n))) = no (elim [ ])
variable_test (pair t u) = no (elim [ ])
variable_test (enc t u) = no (elim [ ])
variable_test (hash t) = no (elim [ ])

module _ (rows : List Row) (good : Good rows) (K : Skeleton ℕ) (ok : OnTable rows K) where
  abbrev L : Skeleton Term
  L = means (term rows) K

  -- 10
  unfoldable pub cyclic_test : Dec (Cyclic L)
  unfolding dec_to dec_some dec_of before edges
  cyclic_test =
      dec_to (dec_some (λ (e : Edge). Before K e.0 e.0) (edges K)
      (λ e m. dec_of (before K e.0 e.0) (before_iff rows K ok e.0 e.0 (ok.low e m).0 (ok.nodes e m).0)))
      (λ s. record { node = s.which.0; cycle = before_means (term rows) K s.holds })
      (λ c.
      let b = before_meant (term rows) K c.cycle in
      let (o, m, _) = before_edge K b in
      record { which = (c.node, o); listed = m; holds = b })

  -- an event of the skeleton
  pub event_of : {n : Node} {d : Event Term} → At L n d → (e : Event ℕ) × At K n e × (term rows (message e) ≡ message d)
  event_of a = let (e, b, q) = at_meant (term rows) K a in (e, b, back (message_means (term rows) e) ∙ ap message q)

  module _ (t : ℕ) (h : t < length rows) where
    -- 11
    unfoldable pub carried_test : Dec (Carried L (term rows t))
    unfolding dec_to dec_some dec_of carries events message
    carried_test =
        dec_to (dec_some (λ (x : Happening ℕ). Carries (term rows t) (term rows (message x.1))) (events K)
        (λ x m. dec_of (carries rows t (message x.1))
        (carries_iff rows good t (message x.1) h (ok.messages x.0 x.1 (listed_event K x m)))))
        (λ s. record {
          node = s.which.0;
          event = on_message (term rows) s.which.1;
          at = at_means (term rows) K (listed_event K s.which s.listed);
          carries = rw (message_means (term rows) s.which.1) s.holds;
        })
        (λ c.
        let (e, a, q) = event_of c.at in
        record { which = (c.node, e); listed = event_listed K a; holds = rw q c.carries })

    -- a term of the sheet in some event
    unfoldable pub occurs_test : Dec (InSomeEvent L (term rows t))
    unfolding dec_to dec_some dec_of reach occur_rules events message
    occurs_test =
        dec_to (dec_some (λ (x : Happening ℕ). Occurs (term rows t) (term rows (message x.1))) (events K)
        (λ x m. dec_of (marked (reach (occur_rules rows t) (length rows)) (message x.1))
        (occurs_iff rows good t h (message x.1) (ok.messages x.0 x.1 (listed_event K x m)))))
        (λ s. record {
          node = s.which.0;
          event = on_message (term rows) s.which.1;
          at = at_means (term rows) K (listed_event K s.which s.listed);
          occurs = rw (message_means (term rows) s.which.1) s.holds;
        })
        (λ c.
        let (e, a, q) = event_of c.at in
        record { which = (c.node, e); listed = event_listed K a; holds = rw q c.occurs })

    -- 12
    pub same_event : {n : Node} {d e : Event ℕ} → At K n d → At K n e → T (is_origin rows K t (n, d))
        → T (is_origin rows K t (n, e))
    same_event a b i = rw (at_one K a b) at i

    unfoldable pub origin_test : (x : Happening ℕ) → Memᴰ x (events K) → Dec (Origin L (term rows t) x.0)
    unfolding dec_of is_origin events
    origin_test x m =
        dec_of (is_origin rows K t x) (
          origin_of rows good K ok t h x m,
          λ o.
              let (e, a, i) = origin_found rows good K ok t h x.0 o in
              same_event a (listed_event K x m) i,
        )

    -- the event of an origin
    pub listed_origin : {n : Node} → Origin L (term rows t) n → (e : Event ℕ) × Memᴰ (n, e) (events K)
    listed_origin {n} o = let (e, a, i) = origin_found rows good K ok t h n o in (e, event_listed K a)

    pub record Lone (x : Happening ℕ) : Type 0 where
      pub is : Origin L (term rows t) x.0
      pub others : All (λ (y : Happening ℕ). Origin L (term rows t) y.0 → y.0.strand ≡ x.0.strand) (events K)

    unfoldable pub dec_implied : {P Q : Type 0} → Dec P → Dec Q → Dec (P → Q)
    dec_implied (no n) d = yes (λ p. absurd (n p))
    dec_implied (yes p) (yes q) = yes (λ _. q)
    dec_implied (yes p) (no n) = no (λ f. n (f p))

    unfoldable pub lone_test : (x : Happening ℕ) → Memᴰ x (events K) → Dec (Lone x)
    unfolding dec_to dec_both dec_all dec_implied origin_test ℕ_discrete events
    lone_test x m =
        dec_to (dec_both (origin_test x m) (dec_all (λ (y : Happening ℕ). Origin L (term rows t) y.0 → y.0.strand
        ≡ x.0.strand) (events K) (λ y k. dec_implied (origin_test y k) (ℕ_discrete y.0.strand x.0.strand))))
        (λ p. record { is = p.0; others = p.1 }) (λ l. (l.is, l.others))

    unfoldable pub one_strand_test : Dec (OneStrand L (term rows t))
    unfolding dec_to dec_some lone_test events
    one_strand_test =
        dec_to (dec_some Lone (events K) lone_test)
        (λ s. record {
          strand = s.which.0.strand;
          originates = record { position = s.which.0.position; origin = s.holds.is };
          only = λ r o. let (e, m) = listed_origin o.origin in s.holds.others.each
              (record { strand = r; position = o.position }, e) m o.origin;
        })
        (λ c.
        let (e, m) = listed_origin c.originates.origin in
        record {
          which = (record { strand = c.strand; position = c.originates.position }, e);
          listed = m;
          holds = record {
            is = c.originates.origin;
            others =
                record { each = λ y k o. c.only y.0.strand (record { position = y.0.position; origin = o }) };
          };
        })

    -- 13
    pub data Late (m n : Node) : Event ℕ → Type 0 where
      late : {u : ℕ} → Carries (term rows t) (term rows u) → ¬ Before K m n → Late m n (recv u)

    pub of_late : {m n : Node} {u : ℕ} → Late m n (recv u) → Carries (term rows t) (term rows u) × ¬ Before K m n
    of_late (late c b) = (c, b)

    unfoldable pub late_test : (m n : Node) (e : Event ℕ) → At K n e → Dec (Late m n e)
    unfolding dec_to dec_both dec_not dec_of carries before message
    late_test m n (send u) a = no (elim [ ])
    late_test m n (recv u) a =
        dec_to (dec_both (dec_of (carries rows t u) (carries_iff rows good t u h (ok.messages n (recv u) a)))
        (dec_not (dec_of (before K m n) (before_iff rows K ok m n (ok.positions n (recv u) a)
        (node_inside rows K ok a)))))
        (λ p. late p.0 p.1) of_late

    pub record EarlyAt (x : Happening ℕ) : Type 0 where
      pub is : Origin L (term rows t) x.0
      pub reception : Some (λ (y : Happening ℕ). Late x.0 y.0 y.1) (events K)

    unfoldable pub early_at_test : (x : Happening ℕ) → Memᴰ x (events K) → Dec (EarlyAt x)
    unfolding dec_to dec_both dec_some origin_test late_test events
    early_at_test x m =
        dec_to (dec_both (origin_test x m) (dec_some (λ (y : Happening ℕ). Late x.0 y.0 y.1) (events K)
        (λ y k. late_test x.0 y.0 y.1 (listed_event K y k))))
        (λ p. record { is = p.0; reception = p.1 }) (λ l. (l.is, l.reception))

    pub early_of : {m n : Node} (e : Event ℕ) → Origin L (term rows t) m → At K n e → Late m n e → Early L (term rows t)
    unfolding on_message
    early_of {m} {n} (recv u) o a (late c b) =
        record {
          source = m;
          origin = o;
          node = n;
          heard = term rows u;
          at = at_means (term rows) K a;
          carries = c;
          not_after = λ k. b (before_meant (term rows) K k);
        }
    early_of {m = m} {n = n} (send _) o a x4 = elim x4 [ ]

    pub of_early : (e : Early L (term rows t)) → Some EarlyAt (events K)
    of_early e =
        let (x, m) = listed_origin e.origin in
        let (d, a, q) = at_meant (term rows) K e.at in
        let (u, z, y) = recv_means (term rows) d q in
        let b : At K e.node (recv u) = rw z at a in
        let l : Late e.source e.node (recv u) = late {u = u} (rw y e.carries)
        (λ k. e.not_after (before_means (term rows) K k)) in
        record {
          which = (e.source, x);
          listed = m;
          holds = record {
            is = e.origin;
            reception = record {
              which = (e.node, recv u);
              listed = event_listed K b;
              holds = l;
            };
          };
        }

    unfoldable pub early_test : Dec (Early L (term rows t))
    unfolding dec_to dec_some early_at_test events
    early_test =
        dec_to (dec_some EarlyAt (events K) early_at_test)
        (λ s.
        let y = s.holds.reception in
        early_of y.which.1 s.holds.is (listed_event K y.which y.listed) y.holds) of_early

    -- 14
    pub record Lost (i : ℕ) : Type 0 where
      pub variable : Variable (term rows i)
      pub occurs : Occurs (term rows i) (term rows t)
      pub in_no_event : ¬ InSomeEvent L (term rows i)

  unfoldable pub missing_test : (t : ℕ) (h : t < length rows) → Dec (Missing L (term rows t))
  unfolding dec_to dec_below dec_both dec_of dec_not reach occur_rules occurs_test variable_test term terms_after meaning name_of
      inv flip
  missing_test t h =
      dec_to (dec_below (Lost t h) (length rows) (λ i l. dec_to
      (dec_both (variable_test (term rows i)) (dec_both
      (dec_of (marked (reach (occur_rules rows i) (length rows)) t) (occurs_iff rows good i l t h))
      (dec_not (occurs_test i l)))) (λ p. record { variable = p.0; occurs = p.1.0; in_no_event = p.1.1 })
      (λ m. (m.variable, (m.occurs, m.in_no_event)))))
      (λ b. record {
        part = term rows b.which;
        variable = b.holds.variable;
        occurs = b.holds.occurs;
        in_no_event = b.holds.in_no_event;
      })
      (λ u.
      let s = occurs_on rows good u.occurs (record { which = t; inside = h; means = refl }) in
      record {
        which = s.which;
        inside = s.inside;
        holds = record {
          variable = rw s.means u.variable;
          occurs = rw s.means u.occurs;
          in_no_event = rw s.means
              u.in_no_event;
        };
      })

  -- THE FAULT OF A SKELETON, OR NONE

  abbrev D : Drawing
  D = record { rows = rows; skeleton = K }

  pub data NonFault (a : ℕ) : Type 0 where
    missing_one : Missing L (term rows a) → NonFault a
    carried_one : Carried L (term rows a) → NonFault a

  pub data UniqFault (a : ℕ) : Type 0 where
    not_one_strand : ¬ OneStrand L (term rows a) → UniqFault a
    early_one : OneStrand L (term rows a) → Early L (term rows a) → UniqFault a

  unfoldable pub judge_non : (a : ℕ) → Dec (Missing L (term rows a)) → Dec (Carried L (term rows a)) → NonFault a ⊎ NonRight D a
  unfolding meant
  judge_non a (yes u) d = inl (missing_one u)
  judge_non a (no n) (yes c) = inl (carried_one c)
  judge_non a (no n) (no m) = inr (record { present = n; uncarried = m })

  unfoldable pub judge_uniq : (a : ℕ) → Dec (OneStrand L (term rows a)) → Dec (Early L (term rows a))
      → UniqFault a ⊎ UniqRight D a
  unfolding meant
  judge_uniq a (no n) d = inl (not_one_strand n)
  judge_uniq a (yes o) (yes e) = inl (early_one o e)
  judge_uniq a (yes o) (no n) = inr (record { one_strand = o; in_time = n })

  pub record FaultAt : Type 0 where
    pub number : ℕ
    pub place : ℕ
    pub is : Fault D number place

  unfoldable pub non_fault : {a : ℕ} → NonTurn D a → NonFault a → FaultAt
  unfolding meant
  non_fault {a} t (missing_one u) = record { number = 14; place = a; is = missing t u }
  non_fault {a} t (carried_one c) = record { number = 11; place = a; is = carried t c }

  unfoldable pub uniq_fault : {a : ℕ} → UniqTurn D a → UniqFault a → FaultAt
  unfolding meant
  uniq_fault {a} t (not_one_strand n) = record { number = 12; place = a; is = not_one t n }
  uniq_fault {a} t (early_one o e) = record { number = 13; place = a; is = early t o e }

  unfoldable pub judge_all : Dec (Cyclic L)
      → Lowest NonFault (NonRight D) K.non ⊎ ((a : ℕ) → Memᴰ a K.non → NonRight D a)
      → Lowest UniqFault (UniqRight D) K.uniq ⊎ ((a : ℕ) → Memᴰ a K.uniq → UniqRight D a)
      → FaultAt ⊎ Right D
  unfolding meant non_fault uniq_fault
  judge_all (yes c) f g = inl (record { number = 10; place = 0; is = a_cycle c })
  judge_all (no n) (inl f) g = inl (non_fault (record { acyclic = n; listed = f.listed; lower = f.lower }) f.holds)
  judge_all (no n) (inr f) (inl g) =
      inl (uniq_fault (record { acyclic = n; nons = f; listed = g.listed; lower = g.lower }) g.holds)
  judge_all (no n) (inr f) (inr g) = inr (record { acyclic = n; nons = f; uniqs = g })

  unfoldable pub judge_skeleton : FaultAt ⊎ Right D
  unfolding judge_all cyclic_test lowest_of judge_non judge_uniq missing_test carried_test one_strand_test early_test
  judge_skeleton =
      judge_all cyclic_test
      (lowest_of NonFault (NonRight D) K.non (λ a m. judge_non a (missing_test a (ok.nons a m))
      (carried_test a (ok.nons a m))))
      (lowest_of UniqFault (UniqRight D) K.uniq (λ a m. judge_uniq a (one_strand_test a (ok.uniqs a m))
      (early_test a (ok.uniqs a m))))
