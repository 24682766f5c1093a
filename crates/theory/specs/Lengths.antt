-- "The longest good sheet has 2,581 bytes": a good sheet has at most that many, and the place of a refusal is at most that.
-- `cases/Limits: longest_good` shows one of that length.
use Rattle.std.specs.Prelude.{◌≡◌, refl, ℕ, ◌+◌, ◌*◌, ◌≤◌, length}
use Rattle.std.proofs.Common.{ap, ◌∙◌, arith, length-append}
use mathlib.Core.List.{List, [], ◌∷◌, ◌++◌, map, Memᴰ}
use Rattle.std.proofs.Math.Option.{Option, none, some}
use Rattle.model.specs.Lists.{reversed}
use Rattle.model.specs.Table.{Row}
use Rattle.model.specs.Skeleton.{Skeleton}
use Rattle.model.specs.Sheet.{Sheet, Refusal, Verdict, refused, accepted, Drawing, HasSkeleton}
use Rattle.model.specs.Reading.{Mark, BS, TM, SK, ST, OR, NO, UO, EN, Record, end, term, strand, order, non, uniq, size, State, start, after, Reading, faulty as faulty_reading, fault, Read, at_end, beyond, at_fault, next}
use Rattle.model.specs.Accepting.{Fault, a_cycle, missing, carried, not_one, early, Accepting, lacks, faulty}
use Rattle.model.specs.Accepting as Acc
use Rattle.model.specs.Judging.{HasVerdict, unread, judged}
use Rattle.theory.specs.Each.{Each}
use Rattle.theory.specs.Places.{in_list, in_reversed}
use Rattle.theory.specs.Records.{was_read}
use Rattle.theory.specs.RecordBytes.{encode, length-encode}
use Rattle.theory.specs.Standing.{Drawn, atom_inside, Kept, kept_after, start_kept}
use Rattle.theory.specs.Encoding.{skeleton_records, all_skeletons, records_of, encode_all, encoding, so_far, heading, closing, one_more, encode_one, encode-append, length-reversed, WithinLimits, Encoded, read_encoded}

-- the bytes of some records
abbrev bytes : List Record → ℕ
bytes l = length (encode_all l)

bytes_append : (l m : List Record) → bytes (l ++ m) ≡ bytes l + bytes m
bytes_append l m = ap length (encode-append l m) ∙ length-append (encode_all l) (encode_all m)

-- records of at most k bytes each
bytes_each : {A : Type 0} (k : ℕ) (f : A → Record) (l : List A) → Each (λ x. size (f x) ≤ k) l → bytes (map f l) ≤ k * length l
unfolding encode_all
bytes_each k f [] h = omega arith
bytes_each k f (x ∷ l) h =
    let e : length (encode (f x) ++ encode_all (map f l)) ≡ size (f x) + bytes (map f l) =
    length-append (encode (f x)) (encode_all (map f l)) ∙ ap (λ n. n + bytes (map f l)) (length-encode (f x)) in
    let r = bytes_each k f l (λ y m. h y (Memᴰ.tail m)) in
    let s = h x (Memᴰ.head refl) in
    rw e (omega arith)

skeleton_bytes : (rows : List Row) (K : Skeleton ℕ) → Drawn rows K → bytes (skeleton_records K) ≤ 788
unfolding skeleton_records encode_all encode size
skeleton_bytes rows K d =
    let S : List Record = map strand K.strands in
    let E : List Record = map (λ e. order e.0 e.1) K.order in
    let N : List Record = map non K.non in
    let U : List Record = map uniq K.uniq in
    let s = bytes_each 35 strand K.strands (λ t m. omega (arith, (d.traces t m).low)) in
    let e = bytes_each 6 (λ e. order e.0 e.1) K.order (λ e m. omega arith) in
    let n = bytes_each 3 non K.non (λ t m. omega arith) in
    let u = bytes_each 3 uniq K.uniq (λ t m. omega arith) in
    omega (
      arith,
      bytes_append S (E ++ (N ++ U)),
      bytes_append E (N ++ U),
      bytes_append N U,
      d.few_strands,
      d.few_orders,
      d.few_nons,
      d.few_uniqs,
    )

skeletons_bytes : (rows : List Row) (Ks : List (Skeleton ℕ)) → Each (Drawn rows) Ks → bytes (all_skeletons Ks) ≤ 788 * length Ks
unfolding all_skeletons encode_all
skeletons_bytes rows [] d = omega arith
skeletons_bytes rows (K ∷ Ks) d =
    let a = skeleton_bytes rows K (d K (Memᴰ.head refl)) in
    let b = skeletons_bytes rows Ks (λ L m. d L (Memᴰ.tail m)) in
    omega (arith, bytes_append (skeleton_records K) (all_skeletons Ks))

heading_bytes : (l : Option Mark) → bytes (heading l) ≤ 3
unfolding heading encode_all encode
heading_bytes none = omega arith
heading_bytes (some m) = omega arith

closing_bytes : (l : Option Mark) → bytes (closing l) ≤ 2
unfolding closing encode_all encode
closing_bytes none = omega arith
closing_bytes (some BS) = omega arith
closing_bytes (some TM) = omega arith
closing_bytes (some SK) = omega arith
closing_bytes (some ST) = omega arith
closing_bytes (some OR) = omega arith
closing_bytes (some NO) = omega arith
closing_bytes (some UO) = omega arith
closing_bytes (some EN) = omega arith

-- 3 + 200 · 5 + 2 · 788 + 2
so_far_bytes : (s : State) → Kept s → bytes (so_far s) ≤ 2581
unfolding so_far size
so_far_bytes s k =
    let Ks : List (Skeleton ℕ) = reversed s.drawn in
    let R : List Record = map term s.rows in
    let h = heading_bytes s.last in
    let c = closing_bytes s.last in
    let r = bytes_each 5 term s.rows (λ x m. omega arith) in
    let d = skeletons_bytes s.rows Ks (λ K m. k.drawings K (in_reversed s.drawn m)) in
    omega (
      arith,
      length-reversed s.drawn,
      k.few_skeletons,
      k.table.few,
      bytes_append (heading s.last)
          (R ++ (all_skeletons Ks ++ closing s.last)),
      bytes_append R (all_skeletons Ks ++ closing s.last),
      bytes_append
          (all_skeletons Ks) (closing s.last),
    )

faulty_place : {n p : ℕ} {r : Refusal} → fault n p ≡ faulty_reading r → p ≡ r.place
faulty_place {n} {p} {r} e =
    let z : ◌≡◌ {A = Refusal} (record { number = n; place = p; skeleton = 0 }) r = cc in
    ap (λ x. x.place) z

-- reading is always at the end of what was read
place_low : {s : State} {p : ℕ} {l : List ℕ} {out : Reading} → Kept s → p ≡ bytes (so_far s) → Read s p l out
    → (r : Refusal) → out ≡ faulty_reading r → r.place ≤ 2581
place_low h e (at_end g) r q = let z : ◌≡◌ {A = ℕ} 0 1 = cc in absurd (omega arith)
place_low {s} h e (beyond g) r q = rw (← faulty_place q) (omega (arith, so_far_bytes s h))
place_low {s} h e (at_fault g f) r q = rw (← faulty_place q) (omega (arith, so_far_bytes s h))
place_low {s} {p} {l} h e (next {r = m} g f k) r q =
    let a = (was_read s l f).allowed in
    let b : bytes (so_far (after s m)) ≡ bytes (so_far s) + size m =
    ap bytes (one_more s h m a)
    ∙ (ap length (encode_one (so_far s) m) ∙ (length-append (encode_all (so_far s)) (encode m)
    ∙ ap (λ n. bytes (so_far s) + n) (length-encode m))) in
    place_low (kept_after s h m a) (omega arith) k r q

-- PLACES ARE LOW
pub read_places : {bytes : List ℕ} {r : Refusal} → Read start 0 bytes (faulty_reading r) → r.place ≤ 2581
unfolding start so_far heading closing encode_all reversed all_skeletons
read_places {r} h = place_low start_kept refl h r refl

-- The places of 9 to 14 are term numbers

fault_place : (s : Sheet) → WithinLimits s → (k : ℕ) (D : Drawing) → HasSkeleton k s D → {n a : ℕ} → Fault D n a → a ≤ 200
fault_place s w k D h f = go f
  where
    d : Drawn s.rows D.skeleton
    d = w.drawings D.skeleton (in_list s.skeletons k h.skeleton)

    non_low : (a : ℕ) → Memᴰ a D.skeleton.non → a ≤ 200
    non_low a m = omega (arith, atom_inside s.rows a (d.nons a m), w.table.few)

    uniq_low : (a : ℕ) → Memᴰ a D.skeleton.uniq → a ≤ 200
    uniq_low a m = omega (arith, atom_inside s.rows a (d.uniqs a m), w.table.few)

    go : {n a : ℕ} → Fault D n a → a ≤ 200
    go (a_cycle c) = omega arith
    go (missing {a} t u) = non_low a t.listed
    go (carried {a} t u) = non_low a t.listed
    go (not_one {a} t u) = uniq_low a t.listed
    go (early {a} t o u) = uniq_low a t.listed

accepting_place : {s : Sheet} → WithinLimits s → {v : Verdict} → Accepting s v → (r : Refusal) → v ≡ refused r → r.place ≤ 200
accepting_place w (lacks {i} h f) r e =
    let z : ◌≡◌ {A = Refusal} (record { number = 9; place = i; skeleton = 0 }) r = cc in
    rw (← z) (omega (arith, h.a_term, w.table.few))
accepting_place {s} w (faulty {k} {number} {place} {D} n h g x) r e =
    let z : ◌≡◌ {A = Refusal} (record { number = number; place = place; skeleton = k }) r = cc in
    rw (← z) (fault_place s w k D h x)
accepting_place w (Acc.right n g) r e = let z : ◌≡◌ {A = ℕ} 0 1 = cc in absurd (omega arith)

verdict_low : {bytes : List ℕ} {v : Verdict} → HasVerdict bytes v → (r : Refusal) → v ≡ refused r → r.place ≤ 2581
verdict_low (unread {r = q} h) r e = let z : q ≡ r = cc in rw (← z) (read_places h)
verdict_low (judged h a) r e = omega (arith, accepting_place (read_encoded h).within a r e)

pub verdict_places : {bytes : List ℕ} {r : Refusal} → HasVerdict bytes (refused r) → r.place ≤ 2581
verdict_places {r} h = verdict_low h r refl

-- NO GOOD SHEET IS LONGER

sheet_bytes : (s : Sheet) → WithinLimits s → bytes (records_of s) ≤ 2581
unfolding records_of encode_all encode size
sheet_bytes s w =
    let R : List Record = map term s.rows in
    let S : List Record = all_skeletons s.skeletons in
    let r = bytes_each 5 term s.rows (λ x m. omega arith) in
    let d = skeletons_bytes s.rows s.skeletons w.drawings in
    omega (arith, w.few, w.table.few, bytes_append R (S ++ (end ∷ [])), bytes_append S (end ∷ []))

pub read_length : {bytes : List ℕ} {s : Sheet} → Encoded bytes s → length bytes ≤ 2581
unfolding encoding
read_length {s} e = rw e.is (sheet_bytes s e.within)

pub good_length : {bytes : List ℕ} {s : Sheet} → HasVerdict bytes (accepted s) → length bytes ≤ 2581
good_length (judged h a) = read_length (read_encoded h)
