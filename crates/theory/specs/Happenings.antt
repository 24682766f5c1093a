-- A skeleton's events in a list, and what the numbers of a sheet's skeleton mean.
use Rattle.std.specs.Prelude.{◌≡◌, refl, get_or}
use mathlib.Core.List.Memᴰ
use mathlib.Core.List.{List, [], ◌∷◌, ◌++◌, map, Memᴰ}
use Rattle.std.proofs.Math.Option.{some}
use Prim.Native.Nat.{ℕ, zero, suc, ◌+◌}
use native.Mathlib.Omega.{arith}
use Rattle.std.proofs.Math.ListN.{get_elem?, get_or-map}
use Rattle.std.proofs.lemmas.List.{length-map}
use Rattle.model.specs.Skeleton.{on_message, means, Event, Node, Skeleton, trace, height, At, send, message, recv}
use Rattle.model.specs.Events.{Before, next, listed, chain}
use Rattle.theory.specs.Each.{Each, each_nil, each_cons, each_append}
use Rattle.theory.specs.Places.{not_there}

-- The events of a skeleton

abbrev pub Happening : Type 0 → Type 0
Happening M = Node × Event M

module _ {M : Type 0} where
  unfoldable pub trace_events : ℕ → ℕ → List (Event M) → List (Happening M)
  trace_events s p [] = []
  trace_events s p (e ∷ es) = (record { strand = s; position = p }, e) ∷ trace_events s (suc p) es

  unfoldable pub events_from : ℕ → List (List (Event M)) → List (Happening M)
  unfolding trace_events
  events_from s [] = []
  events_from s (t ∷ ts) = trace_events s 0 t ++ events_from (suc s) ts

  unfoldable pub events : Skeleton M → List (Happening M)
  unfolding events_from
  events K = events_from 0 K.strands

  in_trace : (es : List (Event M)) (s p i q : ℕ) {e : Event M} → q ≡ p + i → get_elem? es i ≡ some e
      → Memᴰ (record { strand = s; position = q }, e) (trace_events s p es)
  unfolding trace_events
  in_trace [] s p i q z h = absurd (not_there h)
  in_trace (d ∷ es) s p zero q {e} z h =
      let y : q ≡ p = omega arith in
      let x : e ≡ d = cc in
      Memᴰ.head (λ i. (record { strand = s; position = y i }, x i))
  in_trace (d ∷ es) s p (suc i) q z h = Memᴰ.tail (in_trace es s (suc p) i q (omega arith) h)

  each_trace : (P : Happening M → Type 0) (es : List (Event M)) (s p : ℕ)
      → ((i q : ℕ) (e : Event M) → q ≡ p + i → get_elem? es i ≡ some e → P (record { strand = s; position = q }, e)) → Each P
      (trace_events s p es)
  unfolding trace_events
  each_trace P [] s p f = each_nil P
  each_trace P (d ∷ es) s p f = each_cons P (f 0 p d (omega arith) refl)
      (each_trace P es s (suc p) (λ i q e z h. f (suc i) q e (omega arith) h))

  in_events : (ts : List (List (Event M))) (s i j q : ℕ) {e : Event M} → q ≡ s + i → get_elem? (get_or ts i []) j ≡ some e
      → Memᴰ (record { strand = q; position = j }, e) (events_from s ts)
  unfolding events_from
  in_events [] s i j q z h = absurd (not_there h)
  in_events (t ∷ ts) s zero j q {e} z h =
      let y : q ≡ s = omega arith in
      Memᴰ.append_left (events_from (suc s) ts) (Memᴰ.cast (λ i. (record { strand = y i; position = j }, e))
      (in_trace t s 0 j j (omega arith) h))
  in_events (t ∷ ts) s (suc i) j q z h = Memᴰ.append_right (trace_events s 0 t) (in_events ts (suc s) i j q (omega arith) h)

  each_event : (P : Happening M → Type 0) (ts : List (List (Event M))) (s : ℕ)
      → ((i j q : ℕ) (e : Event M) → q ≡ s + i → get_elem? (get_or ts i []) j ≡ some e → P (record { strand = q; position = j }, e))
      → Each P (events_from s ts)
  unfolding events_from
  each_event P [] s f = each_nil P
  each_event P (t ∷ ts) s f =
      each_append P (trace_events s 0 t) (each_trace P t s 0
      (λ i q e z h. let y : q ≡ i = omega arith in rw y (f 0 i s e (omega arith) h)))
      (each_event P ts (suc s) (λ i j q e z h. f (suc i) j q e (omega arith) h))

  -- the list has the events, each at its node
  pub event_listed : (K : Skeleton M) {n : Node} {e : Event M} → At K n e → Memᴰ (n, e) (events K)
  unfolding events
  event_listed K {n} a = in_events K.strands 0 n.strand n.position n.strand (omega arith) a.is

  pub listed_event : (K : Skeleton M) → Each (λ x. At K x.0 x.1) (events K)
  unfolding events
  listed_event K = each_event _ K.strands 0 (λ i j q e z h. let y : q ≡ i = omega arith in record { is = rw y h })

-- What a sheet's skeleton means

module _ {A B : Type 0} (f : A → B) where
  at_map : (l : List A) (i : ℕ) {x : A} → get_elem? l i ≡ some x → get_elem? (map f l) i ≡ some (f x)
  at_map [] i h = absurd (not_there h)
  at_map (y ∷ l) zero h = cc
  at_map (y ∷ l) (suc i) h = at_map l i h

  at_map_back : (l : List A) (i : ℕ) {y : B} → get_elem? (map f l) i ≡ some y → (x : A) × (get_elem? l i ≡ some x) × (f x ≡ y)
  at_map_back [] i h = absurd (not_there h)
  at_map_back (x ∷ l) zero h = (x, refl, cc)
  at_map_back (x ∷ l) (suc i) h = at_map_back l i h

module _ {M N : Type 0} (f : M → N) (K : Skeleton M) where
  trace_means : (s : ℕ) → trace (means f K) s ≡ map (on_message f) (trace K s)
  unfolding means
  trace_means s = get_or-map (map (on_message f)) K.strands s []

  pub at_means : {n : Node} {e : Event M} → At K n e → At (means f K) n (on_message f e)
  at_means {n} a =
      record { is = rw (trace_means n.strand) (at_map (on_message f) (trace K n.strand) n.position a.is) }

  pub at_meant : {n : Node} {d : Event N} → At (means f K) n d → (e : Event M) × At K n e × (on_message f e ≡ d)
  at_meant {n} a =
      let (e, h, q) = at_map_back (on_message f) (trace K n.strand) n.position (rw (trace_means n.strand) at a.is) in
      (e, record { is = h }, q)

  height_means : (s : ℕ) → height (means f K) s ≡ height K s
  height_means s = rw trace_means (length-map (trace K s) (on_message f))

  pub before_means : {m n : Node} → Before K m n → Before (means f K) m n
  unfolding means
  before_means (next {s} h) = next (rw (← height_means s) at h)
  before_means (listed m) = listed m
  before_means (chain p q) = chain (before_means p) (before_means q)

  pub before_meant : {m n : Node} → Before (means f K) m n → Before K m n
  unfolding means
  before_meant (next {s} h) = next (rw (height_means s) at h)
  before_meant (listed m) = listed m
  before_meant (chain p q) = chain (before_meant p) (before_meant q)

-- what an event's message means, and which event it comes from

pub message_means : {M N : Type 0} (f : M → N) (e : Event M) → message (on_message f e) ≡ f (message e)
unfolding message on_message
message_means f (send t) = refl
message_means f (recv t) = refl

pub send_means : {M N : Type 0} (f : M → N) (e : Event M) {t : N} → on_message f e ≡ send t → (u : M) × (e ≡ send u) × (f u ≡ t)
unfolding on_message
send_means f (send u) q = (u, refl, cc)
send_means f (recv u) q = let z : ◌≡◌ {A = ℕ} 0 1 = cc in absurd (omega arith)

pub recv_means : {M N : Type 0} (f : M → N) (e : Event M) {t : N} → on_message f e ≡ recv t → (u : M) × (e ≡ recv u) × (f u ≡ t)
unfolding on_message
recv_means f (recv u) q = (u, refl, cc)
recv_means f (send u) q = let z : ◌≡◌ {A = ℕ} 0 1 = cc in absurd (omega arith)
