-- Laws of refusals 9 to 14: when each is given, "exactly then", and which comes first: "After EN: 8, 9, then skeleton by
-- skeleton: 10; NO atoms by rising term number, 14 or 11; UO atoms likewise, 12 then 13."
use Rattle.std.specs.Prelude.{◌≡◌, refl, true, ◌↔◌, ◌≢◌, ◌⊎◌, ℕ, ◌<◌, ◌≤◌, length}
use Rattle.std.proofs.Common.{inl, inr, ⊎_elim, arith}
use mathlib.Core.List.{List, Memᴰ}
use Rattle.model.specs.Term.{Term}
use Rattle.model.specs.Carry.{Carries, Occurs}
use Rattle.model.specs.Subst.{Variable}
use Rattle.model.specs.Table.{Row, Inv, is_key, row, term}
use Rattle.model.specs.Skeleton.{Event, recv, message, Node, Skeleton, At}
use Rattle.model.specs.Events.{Before, Origin, InSomeEvent}
use Rattle.model.specs.Sheet.{Sheet, Refusal, Verdict, refused, accepted, Drawing, meant, HasSkeleton}
use Rattle.model.specs.Accepting.{Lacking, Cyclic, Carried, OneStrand, Early, Missing, NonRight, UniqRight, Right, Fault, a_cycle, missing, carried, not_one, early, Accepting, lacks, faulty, right}
use Rattle.model.specs.Reading.{Reading, Read, start, read}
use Rattle.model.specs.Judging.{HasVerdict, unread, judged}
use Rattle.model.proofs.Samples.{node, given_as}

-- WHEN EACH IS GIVEN, in the paper's words

-- "9: key without inverse"
pub lacking_iff : (rows : List Row) (i : ℕ)
    → Lacking rows i ↔ ((i < length rows) × (is_key (row rows i) ≡ true) × ((j : ℕ) → j < length rows → row rows j ≢ Inv i))
lacking_iff rows i =
    (λ l. (l.a_term, l.a_key, l.no_inverse), λ (a, b, c). record { a_term = a; a_key = b; no_inverse = c })

module _ (K : Skeleton Term) where
  -- "10: precedence has a cycle"
  pub cyclic_iff : Cyclic K ↔ ((n : Node) × Before K n n)
  cyclic_iff = (λ c. (c.node, c.cycle), λ (n, b). record { node = n; cycle = b })

  -- "11: non-originating atom carried", by a send or a reception
  pub carried_iff : (t : Term) → Carried K t ↔ ((n : Node) × (e : Event Term) × At K n e × Carries t (message e))
  carried_iff t =
      (λ c. (c.node, c.event, c.at, c.carries), λ (n, e, a, p). record { node = n; event = e; at = a; carries = p })

  -- "12: unique atom without exactly one originating strand"
  pub one_strand_iff : (t : Term) → OneStrand K t
      ↔ ((s p : ℕ) × Origin K t (node s p) × ((r q : ℕ) → Origin K t (node r q) → r ≡ s))
  one_strand_iff t = (
    λ o. (o.strand, o.originates.position, o.originates.origin, λ r q g. o.only r (record { position = q; origin = g })),
    λ (s, p, o, f).
        record { strand = s; originates = record { position = p; origin = o }; only = λ r g. f r g.position g.origin },
  )

  -- "13: reception carries it, not after its origin"
  pub early_iff : (t : Term) → Early K t
      ↔ ((m n : Node) × (u : Term) × Origin K t m × At K n (recv u) × Carries t u × (¬ Before K m n))
  early_iff t = (
    λ e. (e.source, e.node, e.heard, e.origin, e.at, e.carries, e.not_after),
    λ (m, n, u, o, a, c, b).
        record { source = m; origin = o; node = n; heard = u; at = a; carries = c; not_after = b },
  )

  -- "14: variable of a non-originating atom in no event"
  pub missing_iff : (t : Term) → Missing K t ↔ ((x : Term) × Variable x × Occurs x t × (¬ InSomeEvent K x))
  missing_iff t = (
    λ m. (m.part, m.variable, m.occurs, m.in_no_event),
    λ (x, v, o, n). record { part = x; variable = v; occurs = o; in_no_event = n },
  )

-- OF ONE SKELETON

module _ (D : Drawing) where
  abbrev pub of : ℕ → Term
  of a = term D.rows a

  -- an NO atom with nothing wrong: its variables are there and it is carried nowhere; a UO atom likewise
  abbrev pub NonFine : ℕ → Type 0
  NonFine a = (¬ Missing (meant D) (of a)) × (¬ Carried (meant D) (of a))

  abbrev pub UniqFine : ℕ → Type 0
  UniqFine a = OneStrand (meant D) (of a) × (¬ Early (meant D) (of a))

  non_fine : (a : ℕ) → NonRight D a → NonFine a
  non_fine a h = (h.present, h.uncarried)

  fine_non : (a : ℕ) → NonFine a → NonRight D a
  fine_non a h = record { present = h.0; uncarried = h.1 }

  uniq_fine : (a : ℕ) → UniqRight D a → UniqFine a
  uniq_fine a h = (h.one_strand, h.in_time)

  fine_uniq : (a : ℕ) → UniqFine a → UniqRight D a
  fine_uniq a h = record { one_strand = h.0; in_time = h.1 }

  abbrev pub NonsFine : Type 0
  NonsFine = (b : ℕ) → Memᴰ b D.skeleton.non → NonFine b

  abbrev pub LowerNonsFine : ℕ → Type 0
  LowerNonsFine a = (b : ℕ) → Memᴰ b D.skeleton.non → b < a → NonFine b

  abbrev pub LowerUniqsFine : ℕ → Type 0
  LowerUniqsFine a = (b : ℕ) → Memᴰ b D.skeleton.uniq → b < a → UniqFine b

  -- a skeleton that no refusal is due for
  pub right_iff : Right D
      ↔ ((¬ Cyclic (meant D)) × NonsFine × ((a : ℕ) → Memᴰ a D.skeleton.uniq → UniqFine a))
  right_iff = (
    λ r. (r.acyclic, λ a m. non_fine a (r.nons a m), λ a m. uniq_fine a (r.uniqs a m)),
    λ (c, n, u). record { acyclic = c; nons = λ a m. fine_non a (n a m); uniqs = λ a m. fine_uniq a (u a m) },
  )

  -- each is given
  pub cycle_is_10 : Cyclic (meant D) → Fault D 10 0
  cycle_is_10 c = a_cycle c

  module _ (acyclic : ¬ Cyclic (meant D)) (a : ℕ) where
    pub missing_is_14 : Memᴰ a D.skeleton.non → LowerNonsFine a → Missing (meant D) (of a) → Fault D 14 a
    missing_is_14 m f h =
        missing (record { acyclic = acyclic; listed = m; lower = λ b k l. fine_non b (f b k l) }) h

    pub carried_is_11 : Memᴰ a D.skeleton.non → LowerNonsFine a → Carried (meant D) (of a) → Fault D 11 a
    carried_is_11 m f h =
        carried (record { acyclic = acyclic; listed = m; lower = λ b k l. fine_non b (f b k l) }) h

    pub strands_is_12 : NonsFine → Memᴰ a D.skeleton.uniq → LowerUniqsFine a → ¬ OneStrand (meant D) (of a)
        → Fault D 12 a
    strands_is_12 n m f h =
        not_one
        (record {
          acyclic = acyclic;
          nons = λ b k. fine_non b (n b k);
          listed = m;
          lower = λ b k l. fine_uniq b (f b k l);
        })
        h

    pub early_is_13 : NonsFine → Memᴰ a D.skeleton.uniq → LowerUniqsFine a → OneStrand (meant D) (of a)
        → Early (meant D) (of a)
        → Fault D 13 a
    early_is_13 n m f o h =
        early
        (record {
          acyclic = acyclic;
          nons = λ b k. fine_non b (n b k);
          listed = m;
          lower = λ b k l. fine_uniq b (f b k l);
        })
        o h

  -- and only then
  pub ten_only_for_a_cycle : {n p : ℕ} → Fault D n p → n ≡ 10 → Cyclic (meant D) × (p ≡ 0)
  ten_only_for_a_cycle (a_cycle c) e = (c, refl)
  ten_only_for_a_cycle (missing t h) e = absurd (omega arith)
  ten_only_for_a_cycle (carried t h) e = absurd (omega arith)
  ten_only_for_a_cycle (not_one t h) e = absurd (omega arith)
  ten_only_for_a_cycle (early t o h) e = absurd (omega arith)

  pub eleven_only_if_carried : {n a : ℕ} → Fault D n a → n ≡ 11 → Memᴰ a D.skeleton.non × Carried (meant D) (of a)
  eleven_only_if_carried (a_cycle c) e = absurd (omega arith)
  eleven_only_if_carried (missing t h) e = absurd (omega arith)
  eleven_only_if_carried (carried t h) e = (t.listed, h)
  eleven_only_if_carried (not_one t h) e = absurd (omega arith)
  eleven_only_if_carried (early t o h) e = absurd (omega arith)

  pub twelve_only_for_strands : {n a : ℕ} → Fault D n a → n ≡ 12
      → Memᴰ a D.skeleton.uniq × (¬ OneStrand (meant D) (of a))
  twelve_only_for_strands (a_cycle c) e = absurd (omega arith)
  twelve_only_for_strands (missing t h) e = absurd (omega arith)
  twelve_only_for_strands (carried t h) e = absurd (omega arith)
  twelve_only_for_strands (not_one t h) e = (t.listed, h)
  twelve_only_for_strands (early t o h) e = absurd (omega arith)

  -- "12 then 13": of an atom that originates on one strand
  pub thirteen_only_if_early : {n a : ℕ} → Fault D n a → n ≡ 13
      → Memᴰ a D.skeleton.uniq × OneStrand (meant D) (of a) × Early (meant D) (of a)
  thirteen_only_if_early (a_cycle c) e = absurd (omega arith)
  thirteen_only_if_early (missing t h) e = absurd (omega arith)
  thirteen_only_if_early (carried t h) e = absurd (omega arith)
  thirteen_only_if_early (not_one t h) e = absurd (omega arith)
  thirteen_only_if_early (early t o h) e = (t.listed, o, h)

  pub fourteen_only_if_missing : {n a : ℕ} → Fault D n a → n ≡ 14 → Memᴰ a D.skeleton.non × Missing (meant D) (of a)
  fourteen_only_if_missing (a_cycle c) e = absurd (omega arith)
  fourteen_only_if_missing (missing t h) e = (t.listed, h)
  fourteen_only_if_missing (carried t h) e = absurd (omega arith)
  fourteen_only_if_missing (not_one t h) e = absurd (omega arith)
  fourteen_only_if_missing (early t o h) e = absurd (omega arith)

  pub no_other_number : {n p : ℕ} → Fault D n p → (10 ≤ n) × (n ≤ 14)
  no_other_number (a_cycle c) = (omega arith, omega arith)
  no_other_number (missing t h) = (omega arith, omega arith)
  no_other_number (carried t h) = (omega arith, omega arith)
  no_other_number (not_one t h) = (omega arith, omega arith)
  no_other_number (early t o h) = (omega arith, omega arith)

  -- WHICH COMES FIRST

  -- "10; NO atoms ..": where there is a cycle, no atom is named
  pub cycle_before_atoms : {n p : ℕ} → Fault D n p → Cyclic (meant D) → (n ≡ 10) × (p ≡ 0)
  cycle_before_atoms (a_cycle c) k = (refl, refl)
  cycle_before_atoms (missing t h) k = absurd (t.acyclic k)
  cycle_before_atoms (carried t h) k = absurd (t.acyclic k)
  cycle_before_atoms (not_one t h) k = absurd (t.acyclic k)
  cycle_before_atoms (early t o h) k = absurd (t.acyclic k)

  -- "NO atoms by rising term number, 14 or 11": nothing is wrong with a lower one, neither 14 nor 11
  pub lowest_non_named : {n a : ℕ} → Fault D n a → (n ≡ 11) ⊎ (n ≡ 14) → LowerNonsFine a
  lowest_non_named (a_cycle c) (inl e) = absurd (omega arith)
  lowest_non_named (a_cycle c) (inr e) = absurd (omega arith)
  lowest_non_named (missing t h) e = λ b m l. non_fine b (t.lower b m l)
  lowest_non_named (carried t h) e = λ b m l. non_fine b (t.lower b m l)
  lowest_non_named (not_one t h) (inl e) = absurd (omega arith)
  lowest_non_named (not_one t h) (inr e) = absurd (omega arith)
  lowest_non_named (early t o h) (inl e) = absurd (omega arith)
  lowest_non_named (early t o h) (inr e) = absurd (omega arith)

  -- "NO atoms ..; UO atoms": where a UO atom is named, nothing is wrong with any NO atom
  pub nons_before_uniqs : {n a : ℕ} → Fault D n a → (n ≡ 12) ⊎ (n ≡ 13) → NonsFine
  nons_before_uniqs (a_cycle c) (inl e) = absurd (omega arith)
  nons_before_uniqs (a_cycle c) (inr e) = absurd (omega arith)
  nons_before_uniqs (missing t h) (inl e) = absurd (omega arith)
  nons_before_uniqs (missing t h) (inr e) = absurd (omega arith)
  nons_before_uniqs (carried t h) (inl e) = absurd (omega arith)
  nons_before_uniqs (carried t h) (inr e) = absurd (omega arith)
  nons_before_uniqs (not_one t h) e = λ b m. non_fine b (t.nons b m)
  nons_before_uniqs (early t o h) e = λ b m. non_fine b (t.nons b m)

  -- "UO atoms likewise": nothing is wrong with a lower one, neither 12 nor 13
  pub lowest_uniq_named : {n a : ℕ} → Fault D n a → (n ≡ 12) ⊎ (n ≡ 13) → LowerUniqsFine a
  lowest_uniq_named (a_cycle c) (inl e) = absurd (omega arith)
  lowest_uniq_named (a_cycle c) (inr e) = absurd (omega arith)
  lowest_uniq_named (missing t h) (inl e) = absurd (omega arith)
  lowest_uniq_named (missing t h) (inr e) = absurd (omega arith)
  lowest_uniq_named (carried t h) (inl e) = absurd (omega arith)
  lowest_uniq_named (carried t h) (inr e) = absurd (omega arith)
  lowest_uniq_named (not_one t h) e = λ b m l. uniq_fine b (t.lower b m l)
  lowest_uniq_named (early t o h) e = λ b m l. uniq_fine b (t.lower b m l)

-- OF A SHEET THAT IS READ

module _ (s : Sheet) where
  -- "9 .. lowest such term", before any skeleton is judged
  pub nine_first : {v : Verdict} → Accepting s v → (i : ℕ) → Lacking s.rows i
      → (j : ℕ) × (v ≡ refused (given_as 9 j 0)) × Lacking s.rows j × ((k : ℕ) → k < j → ¬ Lacking s.rows k)
  nine_first (lacks {i = j} l f) i h = (j, refl, l, f)
  nine_first (faulty n h g f) i l = absurd (n i l)
  nine_first (right n g) i l = absurd (n i l)

  pub nine_given : (i : ℕ) → Lacking s.rows i → ((j : ℕ) → j < i → ¬ Lacking s.rows j)
      → Accepting s (refused (given_as 9 i 0))
  nine_given i l f = lacks l f

  abbrev pub NoneLacks : Type 0
  NoneLacks = (i : ℕ) → ¬ Lacking s.rows i

  abbrev pub RightBefore : ℕ → Type 0
  RightBefore k = (j : ℕ) (E : Drawing) → j < k → HasSkeleton j s E → Right E

  -- "then skeleton by skeleton": the first that is not right, with its number
  pub first_skeleton_named : {v : Verdict} → Accepting s v → (r : Refusal) → v ≡ refused r
      → (r ≡ given_as 9 r.place 0)
      ⊎ ((D : Drawing) × HasSkeleton r.skeleton s D × Fault D r.number r.place × RightBefore r.skeleton)
  first_skeleton_named (lacks {i} l f) r e =
      let z : ◌≡◌ {A = Refusal} (given_as 9 i 0) r = cc in
      inl (rw (← z) refl)
  first_skeleton_named (faulty {k} {number} {place} {D} n h g f) r e =
      let z : ◌≡◌ {A = Refusal} (given_as number place k) r = cc in
      inr (D, rw (← z) h, rw (← z) f, rw (← z) g)
  first_skeleton_named (right n g) r e = let z : ◌≡◌ {A = ℕ} 0 1 = cc in absurd (omega arith)

  pub fault_given : (k number place : ℕ) (D : Drawing) → NoneLacks → HasSkeleton k s D → RightBefore k → Fault D number place
      → Accepting s (refused (given_as number place k))
  fault_given k number place D n h g f = faulty n h g f

  -- a sheet is accepted as it is, when nothing is wrong with it, and only then
  pub accepted_iff : Accepting s (accepted s) ↔ (NoneLacks × ((k : ℕ) (D : Drawing) → HasSkeleton k s D → Right D))
  accepted_iff = (λ a. go a refl, λ (n, g). right n g)
    where
      go : {v : Verdict} → Accepting s v → v ≡ accepted s → NoneLacks × ((k : ℕ) (D : Drawing) → HasSkeleton k s D → Right D)
      go (lacks l f) e = let z : ◌≡◌ {A = ℕ} 0 1 = cc in absurd (omega arith)
      go (faulty n h g f) e = let z : ◌≡◌ {A = ℕ} 0 1 = cc in absurd (omega arith)
      go (right n g) e = (n, g)

-- OF ANY BYTES: what is refused while it is read is refused so, and what is read is judged as it is read
pub verdict_iff : (bytes : List ℕ) (v : Verdict) → HasVerdict bytes v
    ↔ (((r : Refusal) × Read start 0 bytes (Reading.faulty r) × (v ≡ refused r))
    ⊎ ((s : Sheet) × Read start 0 bytes (read s) × Accepting s v))
verdict_iff bytes v = (there, ⊎_elim (λ (r, h, e). rw e (unread h)) (λ (s, h, a). judged h a))
  where
    there : {w : Verdict} → HasVerdict bytes w
        → ((r : Refusal) × Read start 0 bytes (Reading.faulty r) × (w ≡ refused r))
        ⊎ ((s : Sheet) × Read start 0 bytes (read s) × Accepting s w)
    there (unread {r} h) = inl (r, h, refl)
    there (judged {s} h a) = inr (s, h, a)
