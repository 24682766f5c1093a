-- There is an answer to each question about an accepted sheet.
use Rattle.std.proofs.Math.Path.{◌≡◌, refl}
use Rattle.std.proofs.Common.{◌∙◌, sym as back, true≢false, arith, eqb→eq}
use Rattle.std.specs.Prelude.{Bool, ◌↔◌, ◌⊎◌, ℕ, ◌≤◌, ◌<◌, T, eqb}
use Rattle.std.proofs.Math.Bool.{true, false, not}
use Rattle.std.proofs.Math.Logic.{inl, inr}
use mathlib.Core.List.{List, [], Memᴰ}
use Rattle.std.proofs.Math.Option.{Option, none, some}
use Rattle.std.proofs.Math.Decide.{dec_lt}
use Rattle.std.proofs.Math.Dec.{eqb_refl}
use Rattle.std.proofs.Math.ListN.{length, get_elem?}
use Rattle.model.specs.Term.{Term, same}
use Rattle.model.specs.Carry.{OnlyWithin}
use Rattle.model.specs.Table.{Row, term}
use Rattle.model.specs.Skeleton.{Event, send, recv, message, Node, Skeleton, At, trace, height, means, on_message}
use Rattle.model.specs.Derive.{DerivableBefore, Realized}
use Rattle.model.specs.Lists.{some_of}
use Rattle.model.specs.Sheet.{Sheet, Verdict, Drawing, meant, HasSkeleton}
use Rattle.model.specs.Answers.{Answer, refused, answered, refusal, Asked, no_such, too_short, said, Always, Tells, TheSheet, SaysCounts, HasTerms, Member, SaysWithin, HasReception, HasReceptionAndTerm, SaysDerivable, ReachIs, SaysReach, Sooner, strand, position, FirstOpen, realized, open_at, SaysRealized, yes_realized, first_open}
use Rattle.theory.specs.Within.{Loose, within_iff_not_loose}
use Rattle.theory.specs.GoodTable.{Good}
use Rattle.theory.specs.Rules.{marked, reach}
use Rattle.theory.specs.Carrying.{Marked}
use Rattle.theory.proofs.Carrying.{loose_rules, loose_decided}
use Rattle.theory.specs.Skeletons.{at_one}
use Rattle.theory.specs.ListTests.{some_found, finds_some}
use Rattle.theory.specs.Happenings.{at_means, at_meant, recv_means}
use Rattle.theory.proofs.Realizing.{reached_before, before_decided}
use Rattle.theory.specs.Precedence.{a_strand}
use Rattle.theory.specs.Deciding.{less, dec_to, dec_both, dec_some, dec_all, First, first_of}
use Rattle.theory.specs.Judgement.{Sound}
use Rattle.theory.specs.Places.{inside_list}
use Rattle.theory.specs.NoSecond.{one_drawing}
use Rattle.theory.specs.OnTable.{OnTable, node_inside}
use Rattle.theory.specs.RisingLists.{passing, passing_iff, passing_rises}

-- The order of refusals leaves an answer

pub record Meets {X : Type 0} (Subject : Sheet → X → Type 0) (s : Sheet) : Type 0 where
  pub what : X
  pub is : Subject s what

pub record Told {X A : Type 0} (Says : X → A → List ℕ → Type 0) (x : X) : Type 0 where
  pub answer : A
  pub after : List ℕ
  pub is : Says x answer after

module _ {X A : Type 0} (Subject : Sheet → X → Type 0) (Room : X → Type 0) (Says : X → A → List ℕ → Type 0) (lent : List ℕ) where
  pub record Had (v : Verdict) : Type 0 where
    pub answer : Answer A
    pub after : List ℕ
    pub is : Asked Subject Room Says lent v answer after

  module _ (s : Sheet) (room : (x : X) → Subject s x → Dec (Room x)) (says : (x : X) → Subject s x → Room x → Told Says x) where
    unfoldable pub had_room : (x : X) (h : Subject s x) → Dec (Room x) → Had (Verdict.accepted s)
    had_room x h (no n) = record { answer = refused (refusal 16); after = lent; is = too_short h n }
    had_room x h (yes r) = let t = says x h r in record { answer = answered t.answer; after = t.after; is = said h r t.is }

    unfoldable pub had : Dec (Meets Subject s) → Had (Verdict.accepted s)
    unfolding had_room
    had (no n) = record { answer = refused (refusal 15); after = lent; is = no_such (λ x h. n (record { what = x; is = h })) }
    had (yes m) = had_room m.what m.is (room m.what m.is)

-- The counts

unfoldable pub sheet_had : (s : Sheet) → Sound s → Had TheSheet Always SaysCounts [] (Verdict.accepted s)
unfolding had
sheet_had s sound =
    had TheSheet Always SaysCounts [] s (λ x h. yes tt)
    (λ x h _. record {
      answer = record { terms = length x.rows; skeletons = length x.skeletons };
      after = [];
      is = record { terms = refl; skeletons = refl; kept = refl };
    })
    (yes (record { what = s; is = record { same = refl } }))

-- yes or no, from a test
pub told_by : (b : Bool) {P : Type 0} → T b ↔ P → Tells b P
told_by true h = (λ e. h.0 tt, λ p. refl)
told_by false h = (λ e. absurd (true≢false (back e)), λ p. absurd (h.1 p))

-- Carried only within

loose_more : {S S' : Term → Type 0} → ((u : Term) → S' u → S u) → {t u : Term} → Loose S t u → Loose S' t u
loose_more f Loose.here = Loose.here
loose_more f (Loose.left n l) = Loose.left (λ s. n (f _ s)) (loose_more f l)
loose_more f (Loose.right n l) = Loose.right (λ s. n (f _ s)) (loose_more f l)
loose_more f (Loose.body n l) = Loose.body (λ s. n (f _ s)) (loose_more f l)

module _ (t t' : ℕ) (S : List ℕ) where
  unfoldable pub is_lent : ℕ → Bool
  unfolding some_of
  is_lent i = some_of (eqb i) S

  unfoldable pub within_test : List Row → Bool
  unfolding reach loose_rules is_lent
  within_test rows = not (marked (reach (loose_rules is_lent rows t) (length rows)) t')

  module _ (rows : List Row) (good : Good rows) (h : t < length rows) (h' : t' < length rows)
      (all : (i : ℕ) → Memᴰ i S → i < length rows) where
    member_marked : (u : Term) → Member t t' S rows u → Marked rows is_lent u
    unfolding is_lent
    member_marked u m =
        record {
          which = m.number;
          inside = all m.number m.lent;
          holds = finds_some (eqb m.number) S m.lent
              (eqb_refl m.number);
          means = m.means;
        }

    marked_member : (u : Term) → Marked rows is_lent u → Member t t' S rows u
    unfolding is_lent
    marked_member u m =
        let (j, l, e) = some_found (eqb m.which) S m.holds in
        record { number = j; lent = l; means = rw (eqb→eq m.which j e) at m.means }

    member_test : (u : Term) → Dec (Member t t' S rows u)
    member_test u =
        dec_to (dec_some (λ i. term rows i ≡ u) S (λ i m. same (term rows i) u))
        (λ s. record { number = s.which; lent = s.listed; means = s.holds })
        (λ m. record { which = m.number; listed = m.lent; holds = m.means })

    not_iff : (b : Bool) {P : Type 0} → T b ↔ P → T (not b) ↔ (¬ P)
    not_iff true h = (λ x p. x, λ n. n (h.0 tt))
    not_iff false h = (λ _ p. h.1 p, λ n. tt)

    pub within_iff : T (within_test rows) ↔ OnlyWithin (Member t t' S rows) (term rows t) (term rows t')
    unfolding within_test
    within_iff =
        let d = not_iff (marked (reach (loose_rules is_lent rows t) (length rows)) t')
        (loose_decided rows good is_lent t h t' h') in
        let w = within_iff_not_loose (Member t t' S rows) member_test (term rows t) (term rows t') in
        (λ x. w.1 (λ l. d.0 x (loose_more marked_member l)), λ o. d.1 (λ l. w.0 o (loose_more member_marked l)))

  unfoldable pub meets_terms : (s : Sheet) → Dec (Meets (HasTerms t t' S) s)
  unfolding dec_to dec_both dec_all less
  meets_terms s =
      dec_to (dec_both (less t (length s.rows)) (dec_both (less t' (length s.rows))
      (dec_all (λ i. i < length s.rows) S (λ i m. less i (length s.rows)))))
      (λ p. record { what = s.rows; is = record { rows_of = refl; first = p.0; second = p.1.0; all = p.1.1.each } })
      (λ m. let e = m.is.rows_of in (
        rw e m.is.first,
        (rw e m.is.second, record { each = λ i k. rw e (m.is.all i k) }),
      ))

  unfoldable pub within_had : (s : Sheet) → Sound s → Had (HasTerms t t' S) Always (SaysWithin t t' S) S (Verdict.accepted s)
  unfolding had meets_terms within_test
  within_had s sound =
      had (HasTerms t t' S) Always (SaysWithin t t' S) S s (λ x h. yes tt)
      (λ rows h _.
      let good : Good rows = rw h.rows_of at sound.good in
      record {
        answer = within_test rows;
        after = S;
        is = record { tells = told_by (within_test rows) (within_iff rows good h.first h.second h.all); kept = refl };
      })
      (meets_terms s)

-- What is there

pub no_such_one : {A : Type 0} {x : A} {o : Option A} → o ≡ none → ¬ (o ≡ some x)
no_such_one e f = let q = back e ∙ f in let z : ◌≡◌ {A = ℕ} 0 1 = cc in omega arith

module _ (k : ℕ) (s : Sheet) where
  unfoldable pub skeleton_there : (o : Option (Skeleton ℕ)) → get_elem? s.skeletons k ≡ o → Dec (Meets (HasSkeleton k) s)
  skeleton_there none e = no (λ m. no_such_one e m.is.skeleton)
  skeleton_there (some K) e =
      yes (record { what = record { rows = s.rows; skeleton = K }; is = record { rows = refl; skeleton = e } })

  unfoldable pub meets_skeleton : Dec (Meets (HasSkeleton k) s)
  unfolding skeleton_there
  meets_skeleton = skeleton_there (get_elem? s.skeletons k) refl

  module _ (n : Node) where
    pub not_that : (D : Drawing) → HasSkeleton k s D → ((u : ℕ) → ¬ At D.skeleton n (recv u)) → ¬ Meets (HasReception k n) s
    not_that D h f m =
        let e : m.what ≡ D = one_drawing k s m.what D m.is.drawing h in
        f m.is.message (rw e at m.is.at)

    pub sent_there : {K : Skeleton ℕ} {t : ℕ} → At K n (send t) → (u : ℕ) → ¬ At K n (recv u)
    sent_there {K} a u b = let q = at_one K a b in let z : ◌≡◌ {A = ℕ} 0 1 = cc in omega arith

    unfoldable pub reception_there : (D : Drawing) → HasSkeleton k s D → (o : Option (Event ℕ))
        → get_elem? (trace D.skeleton n.strand) n.position ≡ o
        → Dec (Meets (HasReception k n) s)
    reception_there D h none e = no (not_that D h (λ u a. no_such_one e a.is))
    reception_there D h (some (send t)) e = no (not_that D h (sent_there (record { is = e })))
    reception_there D h (some (recv t)) e =
        yes (record { what = D; is = record { drawing = h; message = t; at = record { is = e } } })

    unfoldable pub in_skeleton : Dec (Meets (HasSkeleton k) s) → Dec (Meets (HasReception k n) s)
    unfolding reception_there
    in_skeleton (no f) = no (λ m. f (record { what = m.what; is = m.is.drawing }))
    in_skeleton (yes m) = reception_there m.what m.is (get_elem? (trace m.what.skeleton n.strand) n.position) refl

    unfoldable pub meets_reception : Dec (Meets (HasReception k n) s)
    unfolding in_skeleton meets_skeleton
    meets_reception = in_skeleton meets_skeleton

    unfoldable pub meets_both : (t : ℕ) → Dec (Meets (HasReceptionAndTerm k n t) s)
    unfolding dec_to dec_both meets_reception less
    meets_both t =
        dec_to (dec_both meets_reception (less t (length s.rows)))
        (λ p. record { what = p.0.what; is = record { reception = p.0.is; a_term = rw p.0.is.drawing.rows at p.1 } })
        (λ m. (record { what = m.what; is = m.is.reception }, rw m.is.reception.drawing.rows m.is.a_term))

-- Derivable before, and reach

module _ (k : ℕ) (n : Node) (s : Sheet) (sound : Sound s) (D : Drawing) (h : HasReception k n s D) where
  pub reached_iff : (i : ℕ) → i < length D.rows
      → T (marked (reached_before D.rows D.skeleton n) i) ↔ DerivableBefore (meant D) n (term D.rows i)
  unfolding meant
  reached_iff i l =
      let good : Good D.rows = rw h.drawing.rows at sound.good in
      let ok = sound.drawings k D h.drawing in
      before_decided D.rows good D.skeleton ok n (ok.positions n _ h.at)
      (node_inside D.rows D.skeleton ok h.at) h.message h.at i l

module _ (k : ℕ) (n : Node) (t : ℕ) (s : Sheet) (sound : Sound s) where
  unfoldable pub derivable_had : Had (HasReceptionAndTerm k n t) Always (SaysDerivable k n t) [] (Verdict.accepted s)
  unfolding had meets_both reached_before
  derivable_had =
      had (HasReceptionAndTerm k n t) Always (SaysDerivable k n t) [] s (λ x h. yes tt)
      (λ D h _. record {
        answer = marked (reached_before D.rows D.skeleton n) t;
        after = [];
        is = record {
          tells = told_by (marked (reached_before D.rows D.skeleton n) t)
              (reached_iff k n s sound D h.reception t h.a_term);
          kept = refl;
        };
      })
      (meets_both k s n t)

module _ (k : ℕ) (n : Node) (s : Sheet) (sound : Sound s) where
  unfoldable pub reached_numbers : Drawing → List ℕ
  unfolding passing reached_before
  reached_numbers D = passing (marked (reached_before D.rows D.skeleton n)) (length D.rows)

  pub reach_is : (D : Drawing) → HasReception k n s D → ReachIs k n D (length (reached_numbers D))
  unfolding reached_numbers
  reach_is D h =
      let test = marked (reached_before D.rows D.skeleton n) in
      record {
        terms = reached_numbers D;
        rising = passing_rises test (length D.rows);
        members = λ i. (
          λ m. let (l, x) = (passing_iff test (length D.rows) i).0 m in (l, (reached_iff k n s sound D h i l).0 x),
          λ p. (passing_iff test (length D.rows) i).1 (p.0, (reached_iff k n s sound D h i p.0).1 p.1),
        );
        size = refl;
      }

  unfoldable pub reach_had : Had (HasReception k n) Always (SaysReach k n) [] (Verdict.accepted s)
  unfolding had meets_reception reached_numbers
  reach_had =
      had (HasReception k n) Always (SaysReach k n) [] s (λ x h. yes tt)
      (λ D h _. record { answer = length (reached_numbers D); after = []; is = record { reach = reach_is D h; kept = refl } })
      (meets_reception k s n)

-- Realized

module _ (rows : List Row) (good : Good rows) (K : Skeleton ℕ) (ok : OnTable rows K) where
  abbrev L : Skeleton Term
  L = means (term rows) K

  pub record OpenAt (n : Node) : Type 0 where
    pub message : Term
    pub at : At L n (recv message)
    pub unrealized : ¬ DerivableBefore L n message

  pub record ClosedAt (n : Node) : Type 0 where
    pub realized : (t : Term) → At L n (recv t) → DerivableBefore L n t

  pub reception_iff : {n : Node} {u : ℕ} → At K n (recv u)
      → T (marked (reached_before rows K n) u) ↔ DerivableBefore L n (term rows u)
  unfolding message
  reception_iff {n} {u} a = before_decided rows good K ok n (ok.positions n (recv u) a) (node_inside rows K ok a) u a u
      (ok.messages n (recv u) a)

  pub only_reception : {n : Node} {u : ℕ} {t : Term} → At K n (recv u) → At L n (recv t) → term rows u ≡ t
  only_reception {n} {u} a b =
      let (e, c, q) = at_meant (term rows) K b in
      let (w, z, y) = recv_means (term rows) e q in
      let d : At K n (recv w) = rw z at c in
      let x = at_one K a d in
      let v : u ≡ w = cc in
      rw v y

  pub no_reception : {n : Node} → ((u : ℕ) → ¬ At K n (recv u)) → ClosedAt n
  no_reception {n} f =
      record {
        realized = λ t b.
            let (e, c, q) = at_meant (term rows) K b in
            let (w, z, y) = recv_means (term rows) e q in
            absurd (f w (rw z at c));
      }

  unfoldable pub open_or : {n : Node} {u : ℕ} → At K n (recv u) → (b : Bool) → T b ↔ DerivableBefore L n (term rows u)
      → OpenAt n ⊎ ClosedAt n
  unfolding on_message
  open_or {n} {u} a true h = inr (record { realized = λ t b. rw (only_reception a b) at (h.0 tt) })
  open_or {n} {u} a false h = inl (record { message = term rows u; at = at_means (term rows) K a; unrealized = λ d. h.1 d })

  unfoldable pub at_node : (n : Node) (o : Option (Event ℕ)) → get_elem? (trace K n.strand) n.position ≡ o
      → OpenAt n ⊎ ClosedAt n
  unfolding open_or reached_before
  at_node n none e = inr (no_reception (λ u a. no_such_one e a.is))
  at_node n (some (send t)) e =
      inr (no_reception (λ u a. let q = at_one K (record { is = e }) a in let z : ◌≡◌ {A = ℕ} 0 1 = cc in omega arith))
  at_node n (some (recv t)) e =
      open_or (record { is = e }) (marked (reached_before rows K n) t) (reception_iff (record { is = e }))

  abbrev node : ℕ → ℕ → Node
  node s p = record { strand = s; position = p }

  -- the first open place of a strand
  pub record OpenOn (s : ℕ) : Type 0 where
    pub place : ℕ
    pub opens : OpenAt (node s place)
    pub earlier : (p : ℕ) → p < place → ClosedAt (node s p)

  pub record ClosedOn (s : ℕ) : Type 0 where
    pub each : (p : ℕ) → ClosedAt (node s p)

  pub beyond : (s p : ℕ) → height K s ≤ p → ClosedAt (node s p)
  beyond s p h = no_reception (λ u a. omega (arith, inside_list (trace K s) p a.is))

  unfoldable pub strand_from : (s : ℕ)
      → First (λ p. OpenAt (node s p)) (λ p. ClosedAt (node s p)) (height K s) ⊎ ((p : ℕ) → p < height K s → ClosedAt (node s p))
      → OpenOn s ⊎ ClosedOn s
  strand_from s (inl f) = inl (record { place = f.which; opens = f.holds; earlier = f.before })
  strand_from s (inr g) = inr (record { each = λ p. every_place p (dec_lt p (height K s)) })
    where
      every_place : (p : ℕ) → Dec (p < height K s) → ClosedAt (node s p)
      every_place p (yes l) = g p l
      every_place p (no l) = beyond s p (omega arith)

  unfoldable pub on_strand : (s : ℕ) → OpenOn s ⊎ ClosedOn s
  unfolding strand_from first_of at_node
  on_strand s =
      strand_from s (first_of (λ p. OpenAt (node s p)) (λ p. ClosedAt (node s p)) (height K s)
      (λ p l. at_node (node s p) (get_elem? (trace K s) p) refl))

  abbrev D : Drawing
  D = record { rows = rows; skeleton = K }

  pub first_is : (f : First OpenOn ClosedOn (length K.strands)) → FirstOpen L (node f.which f.holds.place)
  first_is f =
      let o = f.holds.opens in
      record { message = o.message; at = o.at; unrealized = o.unrealized; first = λ m t h a. (go m h).realized t a }
    where
      go : (m : Node) → Sooner m (node f.which f.holds.place) → ClosedAt m
      go m (strand l) = (f.before m.strand l).each m.position
      go m (position e l) = let q : node f.which m.position ≡ m = λ i.
          record { strand = back e i; position = m.position } in rw q at (f.holds.earlier m.position l)

  pub all_closed : ((s : ℕ) → s < length K.strands → ClosedOn s) → Realized L
  unfolding Realized
  all_closed g n t a = go (dec_lt n.strand (length K.strands))
    where
      go : Dec (n.strand < length K.strands) → DerivableBefore L n t
      go (yes l) = ((g n.strand l).each n.position).realized t a
      go (no l) =
          let c = no_reception {n = n} (λ u b. l (a_strand K n.strand
          (omega (arith, inside_list (trace K n.strand) n.position b.is)))) in
          c.realized t a

  unfoldable pub said_realized : First OpenOn ClosedOn (length K.strands) ⊎ ((s : ℕ) → s < length K.strands → ClosedOn s)
      → Told SaysRealized D
  unfolding meant
  said_realized (inl f) =
      record { answer = open_at (node f.which f.holds.place); after = []; is = first_open (first_is f) }
  said_realized (inr g) = record { answer = realized; after = []; is = yes_realized (all_closed g) }

  unfoldable pub told_realized : Told SaysRealized D
  unfolding said_realized first_of on_strand
  told_realized = said_realized (first_of OpenOn ClosedOn (length K.strands) (λ s l. on_strand s))

module _ (k : ℕ) (s : Sheet) (sound : Sound s) where
  unfoldable pub realized_had : Had (HasSkeleton k) Always SaysRealized [] (Verdict.accepted s)
  unfolding had meets_skeleton told_realized
  realized_had =
      had (HasSkeleton k) Always SaysRealized [] s (λ x h. yes tt)
      (λ D h _. told_realized D.rows (rw h.rows at sound.good) D.skeleton (sound.drawings k D h))
      (meets_skeleton k s)
