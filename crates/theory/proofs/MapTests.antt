-- The map rules and the list of maps, decided.
use Rattle.std.specs.Prelude.{◌≡◌, true, false, ◌&&◌, ◌||◌, ◌↔◌, T}
use Rattle.std.proofs.Math.Path.{refl, ap}
use Rattle.std.proofs.Common.{◌∙◌, sym as back, ltb→lt}
use Rattle.std.proofs.Math.Bool.{Bool, not}
use mathlib.Core.List.Memᴰ
use mathlib.Core.List.{List, [], ◌∷◌, ◌++◌, map, Memᴰ}
use Rattle.std.proofs.Math.Option.{Option, none, some}
use Prim.Native.Nat.{ℕ, zero, suc, ◌+◌, ◌*◌, ◌<◌}
use native.Mathlib.Omega.{arith}
use Rattle.std.proofs.Math.Decide.{ℕ_discrete}
use Rattle.std.proofs.Math.Dec.{ltb, lt→ltb}
use Rattle.std.proofs.Math.ListN.{length, get_or, get_elem?, length-map}
use Rattle.model.specs.Term.{Term}
use Rattle.model.specs.Subst.{Subst, apply}
use Rattle.model.specs.Table.{Row, term}
use Rattle.model.specs.Lists.{every, some_of}
use Rattle.model.specs.Skeleton.{Event, send, recv, message, Node, Skeleton, trace, At, means, on_message}
use Rattle.model.specs.Events.{Before, chain, Origin}
use Rattle.model.specs.Maps.{move, SameDirection, both_send, both_receive, Rule2, Rule3, Rule4, Rule5, Rule6}
use Rattle.theory.specs.Tests.{both, pair_up, implied, implies}
use Rattle.theory.specs.Each.{Each, each_nil, each_cons, each_append}
use Rattle.theory.specs.GoodTable.{Good}
use Rattle.theory.specs.Precedence.{code, Low, Edge, Leads, stop, step, edges, before_edge, edge_leads}
use Rattle.theory.specs.Happenings.{Happening, events, event_listed, listed_event, at_means, at_meant, before_means, before_meant, message_means}
use Rattle.theory.specs.ListTests.{some_found, finds_some, all_of, all_each, each_all, keep, keeps, kept, every_true, true_every}
use Rattle.theory.specs.Matching.{Wish, Granted, same_terms, same_terms_iff, found, serves, serves_granted, granted_serves}
use Rattle.theory.specs.MapLaws.{Rule1, IsMap, AtomsOccur, atoms_agree}
use Rattle.theory.specs.OnTable.{OnTable, same_node, before, same_node_true, same_node_refl}
use Rattle.theory.proofs.OnTable.{before_iff}
use Rattle.theory.proofs.Origins.{is_origin, origin_of, origin_found}

-- The tests

unfoldable pub aligned : Event ℕ → Option (Event ℕ) → Bool
aligned (send t) none = false
aligned (send t) (some (send u)) = true
aligned (send t) (some (recv u)) = false
aligned (recv t) none = false
aligned (recv t) (some (send u)) = false
aligned (recv t) (some (recv u)) = true

unfoldable pub answer : Option (Event ℕ) → ℕ
unfolding message
answer none = 0
answer (some e) = message e

abbrev event_at : Skeleton ℕ → Node → Option (Event ℕ)
event_at K n = get_elem? (trace K n.strand) n.position

-- Rules 1 to 3

module _ (rows : List Row) where
  aligned_means : (e : Event ℕ) (o : Option (Event ℕ)) → T (aligned e o)
      → (d : Event ℕ) × (o ≡ some d) × SameDirection (on_message (term rows) e) (on_message (term rows) d)
  unfolding aligned on_message
  aligned_means (send t) (some (send u)) h = (send u, refl, both_send)
  aligned_means (recv t) (some (recv u)) h = (recv u, refl, both_receive)
  aligned_means _ _ h = elim h [ ]

  means_aligned : (e d : Event ℕ) → SameDirection (on_message (term rows) e) (on_message (term rows) d) → T (aligned e (some d))
  unfolding aligned on_message
  means_aligned (send t) (send u) s = tt
  means_aligned (recv t) (recv u) s = tt
  means_aligned (send t) (recv u) s = elim s [ ]
  means_aligned (recv t) (send u) s = elim s [ ]

module _ (rows : List Row) (A B : Skeleton ℕ) (f : ℕ → ℕ) where
  unfoldable pub test₁ : Bool
  unfolding every
  test₁ = every (length A.strands) (λ s. ltb (f s) (length B.strands))

  unfoldable pub meets : Happening ℕ → Bool
  unfolding aligned
  meets x = aligned x.1 (event_at B (move f x.0))

  unfoldable pub test₂ : Bool
  unfolding all_of meets events
  test₂ = all_of meets (events A)

  unfoldable pub wish : Happening ℕ → Wish
  unfolding answer message
  wish x = (message x.1, answer (event_at B (move f x.0)))

  unfoldable pub asked : List Wish
  unfolding wish events
  asked = map wish (events A)

-- Rules 4 to 6

module _ (rows : List Row) (A B : Skeleton ℕ) (f : ℕ → ℕ) where
  unfoldable pub moved : Edge → Bool
  unfolding before
  moved e = before B (move f e.0) (move f e.1)

  unfoldable pub test₄ : Bool
  unfolding all_of moved edges
  test₄ = all_of moved (edges A)

  module _ (σ : Subst) where
    unfoldable pub image_in : List ℕ → ℕ → Bool
    unfolding some_of same_terms apply term
    image_in l t = some_of (λ j. same_terms (apply σ (term rows t)) (term rows j)) l

    unfoldable pub test₅ : Bool
    unfolding all_of image_in
    test₅ = all_of (image_in B.non) A.non

    -- an origin of t goes to an origin of j
    unfoldable pub origin_kept : ℕ → ℕ → Happening ℕ → Bool
    unfolding is_origin some_of same_node events
    origin_kept t j x =
        not (is_origin rows A t x) || some_of (λ y. same_node y.0 (move f x.0) && is_origin rows B j y) (events B)

    unfoldable pub uniq_kept : ℕ → ℕ → Bool
    unfolding same_terms apply term all_of origin_kept events
    uniq_kept t j = same_terms (apply σ (term rows t)) (term rows j) && all_of (origin_kept t j) (events A)

    unfoldable pub test₆ : Bool
    unfolding all_of some_of uniq_kept
    test₆ = all_of (λ t. some_of (uniq_kept t) B.uniq) A.uniq

-- the whole test
unfoldable pub map_test : List Row → Skeleton ℕ → Skeleton ℕ → (ℕ → ℕ) → Bool
unfolding test₁ test₂ serves found asked test₄ test₅ test₆
map_test rows A B f =
    let σ = found rows (asked rows A B f) in
    test₁ rows A B f && (test₂ rows A B f && (serves rows (asked rows A B f)
    && (test₄ rows A B f && (test₅ rows A B f σ && test₆ rows A B f σ))))

module _ (rows : List Row) (good : Good rows) (A B : Skeleton ℕ) (okA : OnTable rows A) (okB : OnTable rows B) (f : ℕ → ℕ) where
  abbrev A' : Skeleton Term
  A' = means (term rows) A

  abbrev B' : Skeleton Term
  B' = means (term rows) B

  pub rule₂_iff : T (test₂ rows A B f) ↔ Rule2 A' B' f
  unfolding test₂ meets Rule2
  rule₂_iff = (
    λ t n e a.
        let (e₀, a₀, q) = at_meant (term rows) A a in
        let (d, z, s) = aligned_means rows e₀ (event_at B (move f n))
        (all_each (meets rows A B f) (events A) t (n, e₀) (event_listed A a₀)) in
        (on_message (term rows) d, at_means (term rows) B (record { is = z }), rw q at s),
    λ r. each_all (meets rows A B f) (events A) λ x m.
        let a = listed_event A x m in
        let (d, b, s) = r x.0 _ (at_means (term rows) A a) in
        let (d₀, b₀, q) = at_meant (term rows) B b in
        rw b₀.is (means_aligned rows x.1 d₀ (rw (← q) at s)),
  )

  -- the wishes of rule 3
  module _ (directions : Rule2 A' B' f) where
    met : (x : Happening ℕ) → Memᴰ x (events A) → (d : Event ℕ) × At B (move f x.0) d
    unfolding Rule2
    met x m =
        let (d, b, s) = directions x.0 _ (at_means (term rows) A (listed_event A x m)) in
        let (d₀, b₀, q) = at_meant (term rows) B b in
        (d₀, b₀)

    pub wishes_inside : Each (λ w. (w.0 < length rows) × (w.1 < length rows)) (asked rows A B f)
    unfolding asked wish answer
    wishes_inside w m =
        let (x, k, e) = Memᴰ.of_map (wish rows A B f) (events A) m in
        let (d, b) = met x k in
        rw (← e, b.is) (okA.messages x.0 x.1 (listed_event A x k), okB.messages (move f x.0) d b)

    pub granted_rule₃ : (σ : Subst) → Each (Granted rows good σ) (asked rows A B f) → Rule3 A' B' f σ
    unfolding Rule3 asked wish answer
    granted_rule₃ σ g n e d a b =
        let (e₀, a₀, q) = at_meant (term rows) A a in
        let (d₀, b₀, p) = at_meant (term rows) B b in
        let h = g (wish rows A B f (n, e₀)) (Memᴰ.map (wish rows A B f) (event_listed A a₀)) in
        let y : apply σ (term rows (message e₀)) ≡ term rows (message d₀) = rw b₀.is at h.is in
        rw (← q, ← p, message_means (term rows) e₀, message_means (term rows) d₀) y

    pub rule₃_granted : (σ : Subst) → Rule3 A' B' f σ → Each (Granted rows good σ) (asked rows A B f)
    unfolding Rule3 asked wish answer
    rule₃_granted σ r w m =
        let (x, k, e) = Memᴰ.of_map (wish rows A B f) (events A) m in
        let (d, b) = met x k in
        let a = listed_event A x k in
        let y : apply σ (term rows (message x.1)) ≡ term rows (message d) =
        rw (message_means (term rows) x.1, message_means (term rows) d)
        at (r x.0 _ _ (at_means (term rows) A a) (at_means (term rows) B b)) in
        rw (← e, b.is) (record { from = okA.messages x.0 x.1 a; to = okB.messages (move f x.0) d b; is = y })

  pub rule₁_iff : T (test₁ rows A B f) ↔ Rule1 A' B' f
  unfolding test₁ Rule1 means
  rule₁_iff = (
    λ t s h. rw length-map (ltb→lt _ _ (every_true (length A.strands) (λ s. ltb (f s) (length B.strands)) t s
        (rw length-map at h))),
    λ r. true_every (length A.strands) (λ s. ltb (f s) (length B.strands)) λ s h. lt→ltb _ _
        (rw length-map at (r s (rw length-map h))),
  )

  module _ (strands : Rule1 A' B' f) where
    moved_iff : Each (λ e. T (moved rows A B f e) ↔ Before B (move f e.0) (move f e.1)) (edges A)
    unfolding moved Low code Rule1 means
    moved_iff e m =
        let l : e.1.position < 16 = (okA.low e m).1 in
        let c : e.1.strand * 16 + e.1.position < length A.strands * 16 = (okA.nodes e m).1 in
        let k : e.1.strand < length A.strands = omega arith in
        let s : f e.1.strand < length B.strands = rw length-map at (strands e.1.strand (rw length-map k)) in
        before_iff rows B okB (move f e.0) (move f e.1) l (omega arith)

    moved_chain : Each (λ e. Before B (move f e.0) (move f e.1)) (edges A) → {m o n : Node} → Memᴰ (m, o) (edges A)
        → Leads (edges A) o n
        → Before B (move f m) (move f n)
    moved_chain g e stop = g _ e
    moved_chain g e (step d l) = chain (g _ e) (moved_chain g d l)

    pub rule₄_iff : T (test₄ rows A B f) ↔ Rule4 A' B' f
    unfolding test₄ Rule4
    rule₄_iff = (
      λ t m n b.
          let (o, e, l) = before_edge A (before_meant (term rows) A b) in
          before_means (term rows) B (moved_chain (λ d k. (moved_iff d k).0 (all_each (moved rows A B f) (edges A) t d k)) e l),
      λ r. each_all (moved rows A B f) (edges A) λ e k. (moved_iff e k).1
          (before_meant (term rows) B (r _ _ (before_means (term rows) A (edge_leads A k stop)))),
    )

  module _ (σ : Subst) where
    image_iff : (l : List ℕ) (t : ℕ) → T (image_in rows A B f σ l t) ↔ Memᴰ (apply σ (term rows t)) (map (term rows) l)
    unfolding image_in
    image_iff l t = (
      λ h. let (j, m, q) = some_found (λ j. same_terms (apply σ (term rows t)) (term rows j)) l h in
          rw ((same_terms_iff (apply σ (term rows t)) (term rows j)).0 q) (Memᴰ.map (term rows) m),
      λ m. let (j, k, q) = Memᴰ.of_map (term rows) l m in finds_some (λ j. same_terms (apply σ (term rows t)) (term rows j)) l k
          ((same_terms_iff _ _).1 (back q)),
    )

    pub rule₅_iff : T (test₅ rows A B f σ) ↔ Rule5 A' B' f σ
    unfolding test₅ Rule5 means
    rule₅_iff = (
      λ h t m.
          let (i, k, q) = Memᴰ.of_map (term rows) A.non m in
          rw q at ((image_iff B.non i).0 (all_each (image_in rows A B f σ B.non) A.non h i k)),
      λ r. each_all (image_in rows A B f σ B.non) A.non λ i k. (image_iff B.non i).1
          (r (term rows i) (Memᴰ.map (term rows) k)),
    )

    -- rule 6, for a pair of unique terms
    KeepsOrigins : Term → Term → Type 0
    KeepsOrigins t u = (n : Node) → Origin A' t n → Origin B' u (move f n)

    origins_kept : (t j : ℕ) → t < length rows → j < length rows
        → T (all_of (origin_kept rows A B f σ t j) (events A)) ↔ KeepsOrigins (term rows t) (term rows j)
    unfolding origin_kept KeepsOrigins
    origins_kept t j h k = (
      λ q n o.
          let (e, a, i) = origin_found rows good A okA t h n o in
          let g = implied (is_origin rows A t (n, e)) _ (all_each (origin_kept rows A B f σ t j) (events A) q (n, e)
          (event_listed A a)) i in
          let (y, m, r) = some_found (λ y. same_node y.0 (move f n) && is_origin rows B j y) (events B) g in
          let (s, v) = both (same_node y.0 (move f n)) _ r in
          rw (same_node_true y.0 (move f n) s) at (origin_of rows good B okB j k y m v),
      λ r. each_all (origin_kept rows A B f σ t j) (events A) λ x m. implies (is_origin rows A t x) _ λ i.
          let (d, b, v) = origin_found rows good B okB j k (move f x.0) (r x.0 (origin_of rows good A okA t h x m i)) in
          finds_some (λ y. same_node y.0 (move f x.0) && is_origin rows B j y) (events B) (event_listed B b)
          (pair_up (same_node (move f x.0) (move f x.0)) _ (same_node_refl (move f x.0)) v),
    )

    pub rule₆_iff : T (test₆ rows A B f σ) ↔ Rule6 A' B' f σ
    unfolding test₆ Rule6 uniq_kept means KeepsOrigins
    rule₆_iff = (
      λ h t m.
          let (i, k, q) = Memᴰ.of_map (term rows) A.uniq m in
          let (j, l, r) = some_found (uniq_kept rows A B f σ i) B.uniq
          (all_each (λ t. some_of (uniq_kept rows A B f σ t) B.uniq) A.uniq h i k) in
          let (s, v) = both (same_terms (apply σ (term rows i)) (term rows j)) _ r in
          let z : apply σ t ≡ term rows j = ap (apply σ) (back q) ∙ (same_terms_iff (apply σ (term rows i)) (term rows j)).0 s in
          let g : KeepsOrigins t (term rows j) = rw q at ((origins_kept i j (okA.uniqs i k) (okB.uniqs j l)).0 v) in
          rw z (Memᴰ.map (term rows) l, g),
      λ r. each_all (λ t. some_of (uniq_kept rows A B f σ t) B.uniq) A.uniq λ i k.
          let (m, g) = r (term rows i) (Memᴰ.map (term rows) k) in
          let (j, l, q) = Memᴰ.of_map (term rows) B.uniq m in
          finds_some (uniq_kept rows A B f σ i) B.uniq l
          (pair_up (same_terms (apply σ (term rows i)) (term rows j)) _ ((same_terms_iff _ _).1 (back q))
          ((origins_kept i j (okA.uniqs i k) (okB.uniqs j l)).1 (rw (← q) at g))),
    )

  -- THE MAP RULES ARE DECIDED

  module _ (occur : AtomsOccur A') where
    abbrev the : Subst
    the = found rows (asked rows A B f)

    test_map : T (map_test rows A B f) → IsMap A' B' f the
    unfolding map_test
    test_map h =
        let (t₁, h₁) = both (test₁ rows A B f) _ h in
        let (t₂, h₂) = both (test₂ rows A B f) _ h₁ in
        let (t₃, h₃) = both (serves rows (asked rows A B f)) _ h₂ in
        let (t₄, h₄) = both (test₄ rows A B f) _ h₃ in
        let (t₅, t₆) = both (test₅ rows A B f the) _ h₄ in
        let r₁ = rule₁_iff.0 t₁ in
        let r₂ = rule₂_iff.0 t₂ in
        record {
          strands = r₁;
          directions = r₂;
          messages = granted_rule₃ r₂ the (serves_granted rows good (asked rows A B f) (wishes_inside r₂) t₃);
          order = (rule₄_iff r₁).0 t₄;
          non = (rule₅_iff the).0 t₅;
          uniq = (rule₆_iff the).0 t₆;
        }

    map_tests : (σ : Subst) → IsMap A' B' f σ → T (map_test rows A B f)
    unfolding map_test Rule5 Rule6
    map_tests σ m =
        let r₂ = m.directions in
        let t₃ = granted_serves rows good (asked rows A B f) (wishes_inside r₂) σ (rule₃_granted r₂ σ m.messages) in
        let r₃ : Rule3 A' B' f the = granted_rule₃ r₂ the (serves_granted rows good (asked rows A B f) (wishes_inside r₂) t₃) in
        let agree = atoms_agree A' B' f the σ r₂ r₃ m.messages in
        let non : Rule5 A' B' f the = λ t k. rw (agree t (occur.non t k)) (m.non t k) in
        let uniq : Rule6 A' B' f the = λ t k. rw (agree t (occur.uniq t k)) (m.uniq t k) in
        pair_up (test₁ rows A B f) _ (rule₁_iff.1 m.strands)
        (pair_up (test₂ rows A B f) _ (rule₂_iff.1 r₂)
        (pair_up (serves rows (asked rows A B f)) _ t₃
        (pair_up (test₄ rows A B f) _ ((rule₄_iff m.strands).1 m.order)
        (pair_up (test₅ rows A B f the) (test₆ rows A B f the) ((rule₅_iff the).1 non) ((rule₆_iff the).1 uniq)))))

    pub map_iff : T (map_test rows A B f) ↔ ((σ : Subst) × IsMap A' B' f σ)
    map_iff = (λ h. (the, test_map h), λ (σ, m). map_tests σ m)

-- The maps, in dictionary order

unfoldable pub each_first : ℕ → List (List ℕ) → List (List ℕ)
each_first zero ls = []
each_first (suc b) ls = each_first b ls ++ map (λ l. b ∷ l) ls

unfoldable pub candidates : ℕ → ℕ → List (List ℕ)
unfolding each_first
candidates zero b = [] ∷ []
candidates (suc n) b = each_first b (candidates n b)

unfoldable pub maps : List Row → Skeleton ℕ → Skeleton ℕ → List (List ℕ)
unfolding keep candidates map_test
maps rows A B = keep (λ l. map_test rows A B (λ s. get_or l s 0)) (candidates (length A.strands) (length B.strands))

-- what the list holds
in_each_first : (b x : ℕ) (ls : List (List ℕ)) {l : List ℕ} → x < b → Memᴰ l ls → Memᴰ (x ∷ l) (each_first b ls)
unfolding each_first
in_each_first zero x ls h m = absurd (omega arith)
in_each_first (suc b) x ls {l} h m = go (ℕ_discrete x b) (λ k. in_each_first b x ls k m)
  where
    go : Dec (x ≡ b) → (x < b → Memᴰ (x ∷ l) (each_first b ls)) → Memᴰ (x ∷ l) (each_first b ls ++ map (λ l. b ∷ l) ls)
    go (yes e) f = Memᴰ.append_right (each_first b ls) (Memᴰ.cast (ap (λ y. y ∷ l) e) (Memᴰ.map (λ l. b ∷ l) m))
    go (no e) f = Memᴰ.append_left (map (λ l. b ∷ l) ls) (f (omega arith))

in_candidates : (n b : ℕ) (l : List ℕ) → length l ≡ n → ((s : ℕ) → s < n → get_or l s 0 < b) → Memᴰ l (candidates n b)
unfolding candidates
in_candidates zero b [] e h = Memᴰ.head refl
in_candidates zero b (x ∷ l) e h = absurd (omega arith)
in_candidates (suc n) b [] e h = absurd (omega arith)
in_candidates (suc n) b (x ∷ l) e h =
    in_each_first b x (candidates n b) (h 0 (omega arith)) (in_candidates n b l (omega arith) (λ s k. h (suc s) (omega arith)))

each_first_length : (n b : ℕ) (ls : List (List ℕ)) → Each (λ l. length l ≡ n) ls → Each (λ l. length l ≡ suc n) (each_first b ls)
unfolding each_first
each_first_length n zero ls f = each_nil _
each_first_length n (suc b) ls f =
    each_append _ (each_first b ls) (each_first_length n b ls f)
    (λ x m. let (l, k, e) = Memᴰ.of_map (λ l. b ∷ l) ls m in rw (← e) (ap suc (f l k)))

candidates_length : (n b : ℕ) → Each (λ l. length l ≡ n) (candidates n b)
unfolding candidates
candidates_length zero b = each_cons _ refl (each_nil _)
candidates_length (suc n) b = each_first_length n b (candidates n b) (candidates_length n b)

small_of : (g : ℕ → Term) (A B : Skeleton ℕ) (f : ℕ → ℕ) → Rule1 (means g A) (means g B) f → (s : ℕ) → s < length A.strands
    → f s < length B.strands
unfolding Rule1 means
small_of g A B f r s h = rw length-map at (r s (rw length-map h))

-- THE LIST HOLDS THE MAPS
module _ (rows : List Row) (good : Good rows) (A B : Skeleton ℕ) (okA : OnTable rows A) (okB : OnTable rows B)
    (occur : AtomsOccur (means (term rows) A)) where
  pub record IsListed (l : List ℕ) : Type 0 where
    pub full : length l ≡ length A.strands
    pub σ : Subst
    pub is_map : IsMap (means (term rows) A) (means (term rows) B) (λ s. get_or l s 0) σ

  pub listed_iff : (l : List ℕ) → Memᴰ l (maps rows A B) ↔ IsListed l
  unfolding maps
  listed_iff l = (
    λ m.
        let k = kept test all l m in
        let (σ, i) = (map_iff rows good A B okA okB (λ s. get_or l s 0) occur).0 k.1 in
        record { full = candidates_length (length A.strands) (length B.strands) l k.0; σ = σ; is_map = i },
    λ i. keeps test all (in_candidates _ _ l i.full (small i))
        ((map_iff rows good A B okA okB (λ s. get_or l s 0) occur).1 (i.σ, i.is_map)),
  )
    where
      test : List ℕ → Bool
      test l = map_test rows A B (λ s. get_or l s 0)

      all : List (List ℕ)
      all = candidates (length A.strands) (length B.strands)

      small : IsListed l → (s : ℕ) → s < length A.strands → get_or l s 0 < length B.strands
      small i s h = small_of (term rows) A B (λ s. get_or l s 0) i.is_map.strands s h
