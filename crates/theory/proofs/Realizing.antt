-- What is derivable before a reception, and what is realized: decided on a sheet's numbers.
use Rattle.std.proofs.Math.Path.{◌≡◌, ap}
use Rattle.std.specs.Prelude.{refl, Bool, ◌&&◌, ◌||◌, ◌↔◌, ◌⊎◌, ℕ, ◌*◌, ◌<◌, eqb, length}
use Rattle.std.proofs.Common.{◌∙◌, inl, inr, eqb→eq}
use Rattle.std.proofs.Math.Bool.{not}
use Rattle.std.proofs.Math.Logic.{⊎_map}
use Rattle.std.proofs.Math.Logic.Iff
use mathlib.Core.List.Memᴰ
use mathlib.Core.List.{List, map, Memᴰ}
use native.Mathlib.Omega.{arith}
use Rattle.std.proofs.Math.Dec.{T, eqb_refl}
use Rattle.model.specs.Term.{Atom, Term}
use Rattle.model.specs.Table.{Row, term}
use Rattle.model.specs.Skeleton.{Event, send, recv, message, Node, Skeleton, At, means, on_message}
use Rattle.model.specs.Events.{Before}
use Rattle.model.specs.Derive.{SentBefore, Withheld, DerivableBefore, Realized}
use Rattle.model.specs.Lists.{some_of}
use Rattle.theory.specs.Tests.{both, pair_up, or_cases, or_left, or_right, not_not_iff}
use Rattle.theory.specs.Each.{Each}
use Rattle.model.proofs.SkeletonLaws.{derivable_mono}
use Rattle.theory.specs.GoodTable.{Good}
use Rattle.theory.specs.Numbers.{term_injective}
use Rattle.theory.specs.Rules.{marked, reach}
use Rattle.theory.proofs.Reach.{NumberSent, NumberWithheld, table_rules, derivable_decided}
use Rattle.theory.specs.Skeletons.{at_one}
use Rattle.theory.specs.Precedence.{code, Low, Leads, stop, step, edges, to_rules, before_edge, edge_leads}
use Rattle.theory.proofs.Precedence.{leads_decided}
use Rattle.theory.specs.Happenings.{Happening, events, event_listed, listed_event, at_means, at_meant, before_means, before_meant, send_means, recv_means}
use Rattle.theory.specs.ListTests.{some_found, finds_some, all_of, all_each, each_all, keep, keeps, kept}
use Rattle.theory.specs.OnTable.{OnTable, node_inside}
use Rattle.theory.proofs.Origins.{is_send, originates, origin_to, origin_iff, send_at}

-- The tests

module _ (rows : List Row) (K : Skeleton ℕ) where
  unfoldable pub withheld : ℕ → Bool
  unfolding originates some_of
  withheld t = some_of (eqb t) K.non || (some_of (eqb t) K.uniq && originates rows K t)

  unfoldable pub sent_before : Node → Happening ℕ → Bool
  unfolding is_send reach to_rules edges code
  sent_before n x = is_send x.1 && marked (reach (to_rules (edges K) n) (length K.strands * 16)) (code x.0)

  unfoldable pub sent : Node → List ℕ
  unfolding sent_before keep events message
  sent n = map (λ x. message x.1) (keep (sent_before n) (events K))

  unfoldable pub reached_before : Node → List Bool
  unfolding reach table_rules withheld sent
  reached_before n = reach (table_rules rows withheld (sent n)) (length rows)

  -- a reception whose message is not reached; the first is where the skeleton is open
  unfoldable pub is_open : Happening ℕ → Bool
  unfolding is_send reached_before message
  is_open x = not (is_send x.1) && not (marked (reached_before x.0) (message x.1))

  unfoldable pub realized : Bool
  unfolding is_open all_of events
  realized = all_of (λ x. not (is_open x)) (events K)

-- The tests say what they should

module _ (rows : List Row) (good : Good rows) (K : Skeleton ℕ) (ok : OnTable rows K) where
  abbrev pub L : Skeleton Term
  L = means (term rows) K

  -- Membership among the assumptions
  listed_iff : (l : List ℕ) → Each (λ t. t < length rows) l → (i : ℕ) → i < length rows
      → T (some_of (eqb i) l) ↔ Memᴰ (term rows i) (map (term rows) l)
  listed_iff l h i k = (
    λ q. let (x, m, e) = some_found (eqb i) l q in rw (eqb→eq i x e) (Memᴰ.map (term rows) m),
    λ m. let (j, d, e) = Memᴰ.of_map (term rows) l m in finds_some (eqb i) l d
        (rw (term_injective rows good j i (h j d) k e) (eqb_refl i)),
  )

  -- What was sent before
  leads_before : {m n : Node} → Leads (edges K) m n → ¬ (m ≡ n) → Before K m n
  leads_before stop d = absurd (d refl)
  leads_before (step e l) d = edge_leads K e l

  module _ (n : Node) (n_low : Low n) (n_inside : code n < length K.strands * 16) (u : ℕ) (n_is : At K n (recv u)) where
    before_iff : (m : Node) → Low m
        → T (marked (reach (to_rules (edges K) n) (length K.strands * 16)) (code m)) ↔ Leads (edges K) m n
    before_iff m h = leads_decided (edges K) ok.low n n_low (length K.strands * 16) (λ e k. (ok.nodes e k).0) n_inside m h

    pub sent_to : (t : Term) → SentBefore L n t → NumberSent rows (sent rows K n) t
    unfolding sent sent_before is_send message
    sent_to t s =
        let m = s.sender in
        let (e, a, q) = at_meant (term rows) K s.at in
        let (w, z, y) = send_means (term rows) e q in
        let b : At K m (send w) = rw z at a in
        let (o, f, l) = before_edge K (before_meant (term rows) K s.before) in
        let h : T (marked (reach (to_rules (edges K) n) (length K.strands * 16)) (code m)) = (before_iff m
        (ok.positions m _ b)).1 (step f l) in
        record {
          which = w;
          listed = Memᴰ.map (λ x. message x.1)
              (keeps (sent_before rows K n) (events K) (event_listed K b) h);
          means = y;
        }

    not_sent : {m : Node} (e : Event ℕ) → At K m e → T (is_send e) → ¬ (m ≡ n)
    unfolding is_send
    not_sent (send w) a h q =
        let x : At K n (send w) = rw q at a in
        let y : send w ≡ recv u = at_one K x n_is in
        let z : ◌≡◌ {A = ℕ} 0 1 = cc in
        omega arith
    not_sent {m = m} (recv _) a h q = elim h [ ]

    pub sent_from : (t : Term) → NumberSent rows (sent rows K n) t → SentBefore L n t
    unfolding sent sent_before
    sent_from t s =
        let (x, m, e) = Memᴰ.of_map (λ x. message x.1) (keep (sent_before rows K n) (events K)) s.listed in
        let k = kept (sent_before rows K n) (events K) x m in
        let (i, r) = both (is_send x.1) _ k.1 in
        let a : At K x.0 x.1 = listed_event K x k.0 in
        let l = (before_iff x.0 (ok.positions _ _ a)).0 r in
        let w : term rows (message x.1) ≡ t = ap (term rows) e ∙ s.means in
        record {
          sender = x.0;
          at = rw w at (send_at rows good K ok x.1 a i);
          before = before_means (term rows) K (leads_before l (not_sent x.1 a i));
        }

  -- What is withheld
  module _ (i : ℕ) where
    abbrev is_non : Bool
    is_non = some_of (eqb i) K.non

    abbrev is_uniq : Bool
    is_uniq = some_of (eqb i) K.uniq

    withheld_non : Memᴰ i K.non → T (withheld rows K i)
    unfolding withheld
    withheld_non l = or_left is_non (is_uniq && originates rows K i) (finds_some (eqb i) K.non l (eqb_refl i))

    withheld_uniq : Memᴰ i K.uniq → T (originates rows K i) → T (withheld rows K i)
    unfolding withheld
    withheld_uniq l o =
        or_right is_non (is_uniq && originates rows K i) (pair_up is_uniq (originates rows K i)
        (finds_some (eqb i) K.uniq l (eqb_refl i)) o)

    withheld_cases : T (withheld rows K i) → T is_non ⊎ (T is_uniq × T (originates rows K i))
    unfolding withheld
    withheld_cases h = ⊎_map (λ k. k) (both is_uniq (originates rows K i)) (or_cases is_non (is_uniq && originates rows K i) h)

  pub withheld_to : (a : Atom) → Withheld L a → NumberWithheld rows (withheld rows K) a
  unfolding Withheld means
  withheld_to a (inl m) =
      let (i, l, e) = Memᴰ.of_map (term rows) K.non m in
      record { which = i; inside = ok.nons i l; held = withheld_non i l; means = e }
  withheld_to a (inr g) =
      let (i, l, e) = Memᴰ.of_map (term rows) K.uniq g.listed in
      let h = ok.uniqs i l in
      record {
        which = i;
        inside = h;
        held = withheld_uniq i l (origin_to rows good K ok i h g.node (rw (← e) at g.origin));
        means = e;
      }

  pub withheld_from : (a : Atom) → NumberWithheld rows (withheld rows K) a → Withheld L a
  unfolding Withheld means
  withheld_from a w =
      let i = w.which in
      ⊎_map
      (λ h. rw w.means at ((listed_iff K.non ok.nons i w.inside).0 h))
      (λ h.
      let (n, o) = (origin_iff rows good K ok i w.inside).0 h.1 in
      record {
        listed = rw w.means at ((listed_iff K.uniq ok.uniqs i w.inside).0 h.0);
        node = n;
        origin = rw w.means at o;
      })
      (withheld_cases i w.held)

  -- THE QUESTION IS DECIDED
  module _ (n : Node) (n_low : Low n) (n_inside : code n < length K.strands * 16) (u : ℕ) (n_is : At K n (recv u)) where
    sent_inside : (i : ℕ) → Memᴰ i (sent rows K n) → i < length rows
    unfolding sent
    sent_inside i m =
        let (x, l, e) = Memᴰ.of_map (λ x. message x.1) (keep (sent_before rows K n) (events K)) m in
        rw e at (ok.messages x.0 x.1 (listed_event K x (kept (sent_before rows K n) (events K) x l).0))

    pub before_decided : (i : ℕ) → i < length rows → T (marked (reached_before rows K n) i) ↔ DerivableBefore L n (term rows i)
    unfolding DerivableBefore reached_before
    before_decided i h =
        Iff.trans (derivable_decided rows good (withheld rows K) (sent rows K n) sent_inside i h) (
          derivable_mono (NumberSent rows (sent rows K n)) (SentBefore L n) (NumberWithheld rows (withheld rows K)) (Withheld L)
              (sent_from n n_low n_inside u n_is) withheld_to,
          derivable_mono (SentBefore L n) (NumberSent rows (sent rows K n)) (Withheld L) (NumberWithheld rows (withheld rows K))
              (sent_to n n_low n_inside u n_is) withheld_from,
        )

  pub reception : {n : Node} {u : ℕ} → At K n (recv u)
      → T (marked (reached_before rows K n) u) ↔ DerivableBefore L n (term rows u)
  unfolding message
  reception {n} {u} a = before_decided n (ok.positions n (recv u) a) (node_inside rows K ok a) u a u (ok.messages n (recv u) a)

  not_open : (n : Node) (e : Event ℕ) → Realized L → At K n e → T (not (is_open rows K (n, e)))
  unfolding is_open is_send message Realized on_message
  not_open n (send t) r a = tt
  not_open n (recv t) r a =
      (not_not_iff (marked (reached_before rows K n) t)).1 ((reception a).1 (r n (term rows t) (at_means (term rows) K a)))

  opened : (n : Node) (t : ℕ) → T (not (is_open rows K (n, recv t))) → T (marked (reached_before rows K n) t)
  unfolding is_open is_send message
  opened n t h = (not_not_iff (marked (reached_before rows K n) t)).0 h

  pub realized_iff : T (realized rows K) ↔ Realized L
  unfolding realized Realized
  realized_iff = (
    λ h n t a.
        let (e, b, q) = at_meant (term rows) K a in
        let (u, z, y) = recv_means (term rows) e q in
        let c : At K n (recv u) = rw z at b in
        rw y at ((reception c).0 (opened n u (all_each (λ x. not (is_open rows K x)) (events K) h (n, recv u)
        (event_listed K c)))),
    λ r. each_all (λ x. not (is_open rows K x)) (events K) λ x m. not_open x.0 x.1 r (listed_event K x m),
  )
