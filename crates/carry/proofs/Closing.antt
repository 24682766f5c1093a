-- What occurs in members of a set, and what they carry, by one pass from the last row of a good table to the first.
-- Assumes nothing.
use mathlib.Core.Path.{◌≡◌, refl, sym}
use mathlib.Core.Bool.{Bool, true, false, ◌||◌, ◌&&◌, or-false}
use mathlib.Core.List.{List}
use mathlib.Core.Logic.{◌⊎◌, inl, inr, ⊎_elim}
use Prim.Native.Nat.{ℕ, ◌+◌, ◌≤◌, ◌<◌}
use native.Mathlib.Omega.{arith}
use native.Mathlib.Decide.{ℕ_discrete}
use lib.Dec.{T, eqb, eqb→eq, eqb_refl}
use lib.ListN.{length}
use Rattle.terms.specs.declared.TermSet.{TermSet}
use Rattle.terms.specs.Set.{mem, Added}
use Rattle.terms.proofs.Words.{member_none}
use Rattle.model.specs.Carry.{Occurs, Carries}
use Rattle.model.specs.Term.{Term}
use Rattle.model.specs.Table.{Row, row, kind, first, second, term}
use Rattle.tables.proofs.Look.{count_is, row_in}
use Rattle.theory.specs.Tests.{both, pair_up, or_cases, or_left, or_right}
use Rattle.theory.specs.Parts.{occurs_after}
use Rattle.theory.specs.GoodTable.{Good}
use Rattle.theory.specs.Numbers.{number, number_term}
use Rattle.theory.specs.OnSheet.{OnSheet}
use Rattle.tables.specs.Tables.{byte, row_at, rows_in, Encoded, Filled}
use Rattle.carry.specs.declared.Way.{Way}
use Rattle.carry.specs.Next.{has_first, has_second, is_part, is_carried, parts_next}
use Rattle.carry.specs.Sets.{Visited, Shows, EndsBy, InMember, CarriedIn}
use Rattle.carry.specs.Ways.{to_first, to_second, argument, Below}
use Rattle.terms.proofs.Listed.{empty}
use Rattle.carry.proofs.Shown.{is_T}
use Rattle.carry.proofs.Rows.{inside_in}
use Rattle.carry.proofs.Parts.{part_occurs, has_occurring, part_carried, has_carried, carries_after}

-- what the set has once the terms from i on were visited: terms with P, and with a term its arguments with `part`
pub record Closing (part : Row → ℕ → Bool) (P : ℕ → Type 0) (rows : List Row) (start : TermSet) (i : ℕ) (s : TermSet)
    : Type 0 where
  pub only : (k : ℕ) → T (mem s k) → (k < length rows) × P k
  pub takes : (j : ℕ) → i ≤ j → j < length rows → T (mem start j) → T (mem s j)
  pub closed : (j k : ℕ) → i ≤ j → j < length rows → T (mem s j) → T (part (row rows j) k) → T (mem s k)

-- what a way reaches from members of a set
abbrev pub reached_on : Way → List Row → TermSet → Term → Type 0
reached_on Way.Parts = InMember
reached_on Way.Carried = CarriedIn

-- members of the start have P, and P goes to the arguments with `part`, which come earlier
pub record Descends (part : Row → ℕ → Bool) (P : ℕ → Type 0) (rows : List Row) (start : TermSet) : Type 0 where
  pub begins : (j : ℕ) → j < length rows → T (mem start j) → P j
  pub below : (j k : ℕ) → j < length rows → T (part (row rows j) k) → k < j
  pub goes : (j k : ℕ) → j < length rows → T (part (row rows j) k) → P j → P k

closing_none : (part : Row → ℕ → Bool) (P : ℕ → Type 0) (rows : List Row) (start : TermSet) (n : ℕ)
    → EndsBy (length rows) n start → Closing part P rows start n empty
closing_none part P rows start n ends =
    record {
      only = λ k h. absurd (rw (member_none k) at h);
      takes = λ j l h m. absurd (rw (ends.none j l h) at m);
      closed = λ j k l h m. absurd (rw (member_none j) at m);
    }

-- One visit, of the term j
module _ (part : Row → ℕ → Bool) (P : ℕ → Type 0) (rows : List Row) (start : TermSet) (descends : Descends part P rows start)
    (i j : ℕ) (falls : i ≡ j + 1) (inside : j < length rows) (s r : TermSet) (so_far : Closing part P rows start i s)
    (made : (k : ℕ) → mem r k ≡ parts_next part (mem start) (mem s) j (row rows j) k) where
  Found : Type 0
  Found = T (mem start j || mem s j)

  Comes : ℕ → Type 0
  Comes k = (k ≡ j) ⊎ T (part (row rows j) k)

  new : (k : ℕ) → T (mem r k) → T (mem s k) ⊎ (Found × Comes k)
  unfolding parts_next Found Comes
  new k h =
      let so = mem start j || mem s j in
      let p = part (row rows j) k in
      let added : T (eqb k j || p) → (k ≡ j) ⊎ T p = λ a. ⊎_elim (λ e. inl (eqb→eq k j e)) inr (or_cases (eqb k j) p a) in
      ⊎_elim inl (λ m. let w = both so (eqb k j || p) m in inr (w.0, added w.1))
      (or_cases (mem s k) (so && (eqb k j || p)) (rw (made k) at h))

  kept : (k : ℕ) → T (mem s k) → T (mem r k)
  unfolding parts_next
  kept k h = rw (made k) (or_left (mem s k) _ h)

  added : (k : ℕ) → Found → Comes k → T (mem r k)
  unfolding parts_next Found Comes
  added k f a =
      let p = part (row rows j) k in
      let b = ⊎_elim (λ e. or_left (eqb k j) p (rw e (eqb_refl j))) (λ q. or_right (eqb k j) p q) a in
      rw (made k) (or_right (mem s k) _ (pair_up (mem start j || mem s j) (eqb k j || p) f b))

  has_P : Found → P j
  unfolding Found
  has_P f = ⊎_elim (descends.begins j inside) (λ h. (so_far.only j h).1) (or_cases (mem start j) (mem s j) f)

  only_next : (k : ℕ) → T (mem r k) → (k < length rows) × P k
  unfolding Comes
  only_next k h =
      ⊎_elim (so_far.only k)
      (λ w. ⊎_elim (λ e. rw e (inside, has_P w.0))
      (λ q. (omega (arith, descends.below j k inside q), descends.goes j k inside q (has_P w.0))) w.1) (new k h)

  -- a term above j is not added now
  above : (k : ℕ) → j < k → T (mem r k) → T (mem s k)
  unfolding Comes
  above k l h =
      ⊎_elim (λ m. m) (λ w. ⊎_elim (λ e. absurd (omega arith)) (λ q. absurd (omega (arith, descends.below j k inside q)))
      w.1) (new k h)

  found : T (mem r j) → Found
  unfolding Found
  found h = ⊎_elim (λ m. or_right (mem start j) (mem s j) m) (λ w. w.0) (new j h)

  takes_next : (m : ℕ) → m < length rows → Dec (m ≡ j) → j ≤ m → T (mem start m) → T (mem r m)
  unfolding Found Comes
  takes_next m h (yes e) l q = rw e (added j (or_left (mem start j) (mem s j) (rw e at q)) (inl refl))
  takes_next m h (no n) l q = kept m (so_far.takes m (omega arith) h q)

  closed_next : (m k : ℕ) → m < length rows → Dec (m ≡ j) → j ≤ m → T (mem r m) → T (part (row rows m) k) → T (mem r k)
  unfolding Comes
  closed_next m k h (yes e) l q p = added k (found (rw e at q)) (inr (rw e at p))
  closed_next m k h (no n) l q p = kept k (so_far.closed m k (omega arith) h (above m (omega arith) q) p)

  closing_falls : Closing part P rows start j r
  closing_falls =
      record {
        only = only_next;
        takes = λ m l h. takes_next m h (ℕ_discrete m j) l;
        closed = λ m k l h. closed_next m k h (ℕ_discrete m j) l;
      }

-- All terms were visited, on one of the two ways down
module _ (way : Way) (rows : List Row) (good : Good rows) (start : TermSet) where
  -- what the way reaches
  abbrev pub On : ℕ → Type 0
  On k = reached_on way rows start (term rows k)

  descends : Descends (argument way) On rows start
  descends = go way
    where
      go : (w : Way) → Descends (argument w) (λ k. reached_on w rows start (term rows k)) rows start
      go Way.Parts =
          record {
            begins = λ j l h. record { which = j; inside = l; member = (is_T (mem start j)).1 h; occurs = Occurs.here };
            below = λ j k l h. (part_occurs rows good j k l (row rows j) refl h).below;
            goes = λ j k l h m.
                let p = part_occurs rows good j k l (row rows j) refl h in
                record { which = m.which; inside = m.inside; member = m.member; occurs = occurs_after p.occurs m.occurs };
          }
      go Way.Carried =
          record {
            begins = λ j l h. record { which = j; inside = l; member = (is_T (mem start j)).1 h; carries = Carries.here };
            below = λ j k l h. (part_carried rows good j k l (row rows j) refl h).below;
            goes = λ j k l h m.
                let p = part_carried rows good j k l (row rows j) refl h in
                let c = carries_after p.carries m.carries in
                record { which = m.which; inside = m.inside; member = m.member; carries = c };
          }

  -- a member is in the set, by the number of its term
  there : {s : TermSet} → Closing (argument way) On rows start 0 s → (n : ℕ) → n < length rows → mem start n ≡ true
      → T (mem s (number rows (term rows n)))
  there done n h m = rw (number_term rows good n h) (done.takes n (omega arith) h ((is_T (mem start n)).0 m))

  on : (n : ℕ) → n < length rows → OnSheet rows (term rows n)
  on n h = record { which = n; inside = h; means = refl }

  -- the set has what the way reaches
  has_reached : {s : TermSet} → Closing (argument way) On rows start 0 s → (k : ℕ) → On k → T (mem s (number rows (term rows k)))
  has_reached {s} done k = go way refl
    where
      go : (w : Way) → w ≡ way → reached_on w rows start (term rows k) → T (mem s (number rows (term rows k)))
      go Way.Parts e m =
          has_occurring rows good s (λ j k l. rw (← e) at (done.closed j k (omega arith) l)) m.occurs (on m.which m.inside)
          (there done m.which m.inside m.member)
      go Way.Carried e m =
          has_carried rows good s (λ j k l. rw (← e) at (done.closed j k (omega arith) l)) m.carries (on m.which m.inside)
          (there done m.which m.inside m.member)

  shown : {s : TermSet} → Closing (argument way) On rows start 0 s → Shows (length rows) On s
  shown {s = s} done =
      record {
        at = λ k. (
          λ e. done.only k ((is_T (mem s k)).0 e),
          λ w. (is_T (mem s k)).1 (rw (number_term rows good k w.0) at (has_reached done k w.1)),
        );
      }

  ends : {s : TermSet} → Closing (argument way) On rows start 0 s → Below way rows start s
  ends {s} done = go way (shown done)
    where
      go : (w : Way) → Shows (length rows) (λ k. reached_on w rows start (term rows k)) s → Below w rows start s
      go Way.Parts shows = record { shows = shows }
      go Way.Carried shows = record { shows = shows }

-- The same, of a table's bytes

-- no term is as late as the count
pub ends_last : (n : ℕ) (start : TermSet) → EndsBy n n start
ends_last n start = record { none = λ k l h. absurd (omega arith) }

-- what the set has once the terms from i on were visited
abbrev pub Gone : Way → List ℕ → TermSet → ℕ → TermSet → Type 0
Gone way table start =
    Closing (argument way) (λ k. reached_on way (rows_in table) start (term (rows_in table) k)) (rows_in table) start

module _ (way : Way) {table : List ℕ} (start : TermSet) (filled : Filled table) (good : Good (rows_in table)) where
  pub gone_none : {top : ℕ} → EndsBy (byte table 600) top start → Gone way table start top empty
  gone_none {top} ends = closing_none (argument way) _ (rows_in table) start top (rw (count_is table) ends)

  pub gone_on : {i : ℕ} (j : ℕ) {s : TermSet} (r : TermSet) → i ≡ j + 1 → j < byte table 600
      → Gone way table start i s
      → Visited (argument way) start j (row_at table j) s r
      → Gone way table start j r
  gone_on {i} j {s} r falls below so_far visited =
      closing_falls (argument way) _ (rows_in table) start (descends way (rows_in table) good start) i j falls
      (inside_in table below) s r so_far (rw (row_in table j below) visited.at)

  pub gone_all : {s : TermSet} → Gone way table start 0 s → Below way (rows_in table) start s
  gone_all = ends way (rows_in table) good start

-- One visit of a term by its bytes

-- where the term is not found, nothing is added
pub visit_none : (part : Row → ℕ → Bool) (start s : TermSet) (i : ℕ) (q : Row) → (mem start i || mem s i) ≡ false
    → Visited part start i q s s
unfolding parts_next
visit_none part start s i q off = record { at = λ k. rw off (sym (or-false (mem s k))) }

-- three additions are one
spread : (known same one two : Bool) → (((known || same) || one) || two) ≡ (known || (same || (one || two)))
spread true same one two = refl
spread false true one two = refl
spread false false one two = refl

-- the arguments on a way are the first, where it goes to it, and the second
argument_is : (way : Way) (q : Row) (k : ℕ)
    → argument way q k ≡ (to_first way (kind q) && eqb k (first q) || to_second way (kind q) && eqb k (second q))
unfolding is_part is_carried has_first has_second
argument_is Way.Parts q k = refl
argument_is Way.Carried q k = refl

pub visit_adds : (way : Way) {table : List ℕ} {i : ℕ} (start : TermSet) {s x y z : TermSet} → Encoded table i
    → (mem start i || mem s i) ≡ true
    → Added i true s.words x.words
    → Added (byte table (200 + i)) (to_first way (byte table i)) x.words y.words
    → Added (byte table (400 + i)) (to_second way (byte table i)) y.words z.words
    → Visited (argument way) start i (row_at table i) s z
unfolding parts_next
visit_adds way {table} {i} start {s} e found itself one two =
    record {
      at = λ k. rw (argument_is way (row_at table i) k, two.at k, one.at k, itself.at k, found, e.kind_is, e.first_is, e.second_is)
          (spread (mem s k) (eqb k i) (to_first way (byte table i) && eqb k (byte table (200 + i)))
          (to_second way (byte table i) && eqb k (byte table (400 + i))));
    }
