-- Origins decided on a sheet's numbers.
use Rattle.std.specs.Prelude.{Bool, true, false, ◌&&◌, ◌↔◌, ℕ, ◌<◌, T, ltb, length}
use Rattle.std.proofs.Math.Bool.{not}
use mathlib.Core.List.{List, Memᴰ}
use Rattle.std.proofs.Math.Dec.{eqb, eqb_refl, T_not, not_T}
use Rattle.std.proofs.Common.{eqb→eq, ltb→lt, lt→ltb}
use Rattle.model.specs.Term.{Term}
use Rattle.model.specs.Carry.{Carries}
use Rattle.model.specs.Table.{Row, term}
use Rattle.model.specs.Skeleton.{Event, send, recv, message, Node, Skeleton, At, means, on_message}
use Rattle.model.specs.Events.{Origin}
use Rattle.model.specs.Lists.{some_of}
use Rattle.theory.specs.Tests.{both, pair_up}
use Rattle.theory.specs.GoodTable.{Good}
use Rattle.theory.proofs.Carrying.{carries, carries_iff}
use Rattle.theory.specs.Happenings.{Happening, events, event_listed, listed_event, at_means, at_meant, message_means, send_means}
use Rattle.theory.specs.ListTests.{some_found, finds_some}
use Rattle.theory.specs.OnTable.{OnTable}

-- The tests

unfoldable pub is_send : {M : Type 0} → Event M → Bool
is_send (send t) = true
is_send (recv t) = false

module _ (rows : List Row) (K : Skeleton ℕ) where
  -- an event that stands earlier on the strand and carries the term
  unfoldable pub earlier_carrier : ℕ → Node → Happening ℕ → Bool
  unfolding carries message
  earlier_carrier t n x =
      eqb x.0.strand n.strand && (ltb x.0.position n.position && carries rows t (message x.1))

  unfoldable pub is_origin : ℕ → Happening ℕ → Bool
  unfolding is_send carries message earlier_carrier some_of events
  is_origin t x = is_send x.1 && (carries rows t (message x.1) && not (some_of (earlier_carrier t x.0) (events K)))

  unfoldable pub originates : ℕ → Bool
  unfolding is_origin some_of events
  originates t = some_of (is_origin t) (events K)

-- They say what they should

module _ (rows : List Row) (good : Good rows) (K : Skeleton ℕ) (ok : OnTable rows K) where
  abbrev pub L : Skeleton Term
  L = means (term rows) K

  pub send_at : {n : Node} (e : Event ℕ) → At K n e → T (is_send e) → At L n (send (term rows (message e)))
  unfolding on_message message is_send
  send_at (send t) a h = at_means (term rows) K a
  send_at {n = n} (recv _) a h = elim h [ ]

  module _ (t : ℕ) (h : t < length rows) where
    carried : {n : Node} {e : Event ℕ} → At K n e
        → T (carries rows t (message e)) ↔ Carries (term rows t) (term rows (message e))
    carried a = carries_iff rows good t _ h (ok.messages _ _ a)

    -- an event of the strand, before the node, that carries the term
    earlier_iff : (n : Node) {p : ℕ} {e : Event ℕ} → At K (record { strand = n.strand; position = p }) e → p < n.position
        → Carries (term rows t) (term rows (message e))
        → T (some_of (earlier_carrier rows K t n) (events K))
    unfolding earlier_carrier
    earlier_iff n {p} {e} a l c =
        finds_some (earlier_carrier rows K t n) (events K) (event_listed K a)
        (pair_up (eqb n.strand n.strand) (ltb p n.position && carries rows t (message e)) (eqb_refl n.strand)
        (pair_up (ltb p n.position) (carries rows t (message e)) (lt→ltb p n.position l) ((carried a).1 c)))

    pub origin_of : (x : Happening ℕ) → Memᴰ x (events K) → T (is_origin rows K t x) → Origin L (term rows t) x.0
    unfolding is_origin
    origin_of x m o =
        let a : At K x.0 x.1 = listed_event K x m in
        let (s, r) = both (is_send x.1) _ o in
        let (c, f) = both (carries rows t (message x.1)) _ r in
        record {
          said = term rows (message x.1);
          at = send_at x.1 a s;
          carries = (carried a).0 c;
          first = λ p e l b k.
              let (d, y, q) = at_meant (term rows) K b in
              let z : Carries (term rows t) (term rows (message d)) = rw (← q, message_means) at k in
              T_not (some_of (earlier_carrier rows K t x.0) (events K)) f (earlier_iff x.0 y l z);
        }

    none_earlier : (n : Node) → Origin L (term rows t) n → ¬ T (some_of (earlier_carrier rows K t n) (events K))
    unfolding earlier_carrier
    none_earlier n o h =
        let (x, m, q) = some_found (earlier_carrier rows K t n) (events K) h in
        let (s, r) = both (eqb x.0.strand n.strand) _ q in
        let (l, c) = both (ltb x.0.position n.position) _ r in
        let a : At K x.0 x.1 = listed_event K x m in
        let b : At K (record { strand = n.strand; position = x.0.position }) x.1 =
        record { is = rw (eqb→eq x.0.strand n.strand s) at a.is } in
        o.first x.0.position (on_message (term rows) x.1) (ltb→lt x.0.position n.position l)
        (at_means (term rows) K b) (rw message_means ((carried a).0 c))

    pub origin_found : (n : Node) → Origin L (term rows t) n → (e : Event ℕ) × At K n e × T (is_origin rows K t (n, e))
    unfolding is_origin is_send message
    origin_found n o =
        let (e, a, q) = at_meant (term rows) K o.at in
        let (w, z, y) = send_means (term rows) e q in
        let b : At K n (send w) = rw z at a in
        let c : Carries (term rows t) (term rows w) = rw (← y) at o.carries in
        let f = some_of (earlier_carrier rows K t n) (events K) in
        (send w, b, pair_up (carries rows t w) (not f) ((carried b).1 c) (not_T f (none_earlier n o)))

    pub origin_to : (n : Node) → Origin L (term rows t) n → T (originates rows K t)
    unfolding originates
    origin_to n o = let (e, a, h) = origin_found n o in finds_some (is_origin rows K t) (events K) (event_listed K a) h

    pub origin_iff : T (originates rows K t) ↔ ((n : Node) × Origin L (term rows t) n)
    unfolding originates
    origin_iff =
        (λ q. let (x, m, o) = some_found (is_origin rows K t) (events K) q in (x.0, origin_of x m o), λ (n, o). origin_to n o)
