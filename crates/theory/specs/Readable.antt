-- READING ACCEPTS EXACTLY THE ENCODINGS of sheets within the limits.
use Rattle.std.specs.Prelude.{◌≡◌, refl, false, ◌↔◌, ℕ, ◌+◌, ◌≤◌, ◌<◌, length, drop}
use Rattle.std.proofs.Common.{ap, subst, ◌∙◌, sym as back, arith, drop_at}
use mathlib.Core.List.Memᴰ
use mathlib.Core.List.{List, [], ◌∷◌, ◌++◌, map, append-nil, append_assoc}
use Rattle.std.proofs.Math.Option.{Option, none, some}
use Rattle.std.proofs.Math.Dec.{T, not_T}
use Rattle.std.proofs.Math.ListN.{length-append, get_or-append}
use Rattle.std.proofs.Math.Seq.{append_snoc, get_or-append_seam}
use Rattle.model.specs.Limits.{most_skeletons, most_strands, most_orders, most_nons, most_uniqs}
use Rattle.model.specs.Lists.{reversed}
use Rattle.model.specs.Table.{Row, Tag, row}
use Rattle.model.specs.Skeleton.{Event, Node, Skeleton}
use Rattle.model.specs.Sheet.{Sheet}
use Rattle.model.specs.Reading.{Mark, BS, TM, SK, ST, OR, NO, UO, EN, may_follow, Record, edition, begin, end, term, strand, order, non, uniq, size, State, start, blank, in_work, on_sheet, event_at, an_atom, redrawn, with_strand, with_order, with_non, with_uniq, after, Reading, read, sheet_of, is_end, ended, Read, at_end, next}
use Rattle.theory.specs.Each.{Each}
use Rattle.theory.specs.Places.{stands}
use Rattle.theory.specs.GoodTable.{Earlier, true_earlier, true_sorted, on_sheet_iff}
use Rattle.theory.specs.Records.{RightRow, RightTrace, Right, mark_of, may, Allowed}
use Rattle.theory.specs.RecordBytes.{encode, length-encode, reads_record}
use Rattle.theory.specs.Standing.{Fair, sorted_along, Joins, Drawn, HasStrand}
use Rattle.theory.specs.Outcome.{read_one}
use Rattle.theory.specs.Encoding.{skeleton_records, all_skeletons, records_of, encode_all, encoding, WithinLimits, Encoded, read_encoded}

-- Records that may come one after another

data Steps : State → List Record → State → Type 0 where
  stop : {s : State} → Steps s [] s
  step : {s e : State} {r : Record} {rs : List Record} → Allowed s r → Steps (after s r) rs e → Steps s (r ∷ rs) e

steps_append : {a b c : State} {l m : List Record} → Steps a l b → Steps b m c → Steps a (l ++ m) c
steps_append stop t = t
steps_append (step h s) t = step h (steps_append s t)

not_ended : (l : Option Mark) (m : Mark) → T (may l m) → is_end l ≡ false
unfolding may may_follow is_end
not_ended none m h = refl
not_ended (some BS) m h = refl
not_ended (some TM) m h = refl
not_ended (some SK) m h = refl
not_ended (some ST) m h = refl
not_ended (some OR) m h = refl
not_ended (some NO) m h = refl
not_ended (some UO) m h = refl
not_ended (some EN) m h = absurd h

-- they are read from their bytes
steps_read : {s e : State} {rs : List Record} (out : Reading) (more : List ℕ) → Steps s rs e → ((q : ℕ) → Read e q more out)
    → (p : ℕ)
    → Read s p (encode_all rs ++ more) out
unfolding encode_all ended
steps_read out more stop f p = f p
steps_read {s} out more (step {r} {rs} h t) f p =
    let rest : List ℕ = encode_all rs ++ more in
    let k : Read (after s r) (p + size r) rest out = steps_read out more t f (p + size r) in
    let d : drop (size r) (encode r ++ rest) ≡ rest = drop_at (encode r) rest (size r) (length-encode r) in
    rw (append_assoc (encode r) (encode_all rs) more)
    (next {place = p} {out = out} (not_ended s.last (mark_of r) h.next) (reads_record s rest r h) (rw d k))

-- the last mark after some records of one kind
then_last : {A : Type 0} → Option Mark → Mark → List A → Option Mark
then_last l m [] = l
then_last l m (x ∷ xs) = some m

then_same : {A : Type 0} (m : Mark) (xs : List A) → then_last (some m) m xs ≡ some m
unfolding then_last
then_same m [] = refl
then_same m (x ∷ xs) = refl

then_some : {A : Type 0} (l : Option Mark) (m : Mark) (xs : List A) → 1 ≤ length xs → then_last l m xs ≡ some m
unfolding then_last
then_some l m [] h = absurd (omega arith)
then_some l m (x ∷ xs) h = refl

may_then : {A : Type 0} (l : Option Mark) (m k : Mark) (xs : List A) → T (may l k) → T (may (some m) k)
    → T (may (then_last l m xs) k)
unfolding then_last
may_then l m k [] h g = h
may_then l m k (x ∷ xs) h g = g

abbrev state : Option Mark → List Row → List (Skeleton ℕ) → State
state l rows drawn = record { last = l; rows = rows; drawn = drawn }

-- The terms

module _ (done : List Row) (r : Row) (todo : List Row) (fair : Fair (done ++ (r ∷ todo))) where
  abbrev whole : List Row
  whole = done ++ (r ∷ todo)

  inside : length done < length whole
  inside = rw length-append (omega arith)

  is_r : row whole (length done) ≡ r
  is_r = get_or-append_seam done r todo (Tag 0)

  old : (j : ℕ) → j < length done → row whole j ≡ row done j
  old j h = get_or-append done (r ∷ todo) (Tag 0) j h

  earlier_r : Earlier (length done) r
  earlier_r = rw is_r at (fair.earlier_args (length done) inside)

  new_r : ¬ T (on_sheet done r)
  new_r h =
      let s = stands (Tag 0) ((on_sheet_iff done r).0 h) in
      let l : s.place < length whole = omega (arith, s.inside, inside) in
      let e : s.place ≡ length done = fair.distinct s.place (length done) l inside
      (old s.place s.inside ∙ (s.is ∙ back is_r)) in
      omega (arith, s.inside)

  right_row : RightRow done r
  right_row =
      record {
        room = omega (arith, fair.few, inside);
        earlier_args = true_earlier (length done) r earlier_r;
        sorted_args = true_sorted (row done) r (sorted_along (row whole) (row done) (length done) old r earlier_r
            (rw is_r at (fair.sorted_args (length done) inside)));
        new = not_T (on_sheet done r) new_r;
      }

terms_steps : (done todo : List Row) (l : Option Mark) → T (may l TM) → Fair (done ++ todo)
    → Steps (state l done []) (map term todo) (state (then_last l TM todo) (done ++ todo) [])
unfolding then_last Right mark_of after may
terms_steps done [] l h fair = rw (append-nil done) stop
terms_steps done (r ∷ todo) l h fair =
    let e : (done ++ (r ∷ [])) ++ todo ≡ done ++ (r ∷ todo) = append_snoc done r todo in
    let k : Steps (state (some TM) (done ++ (r ∷ [])) []) (map term todo)
    (state (then_last (some TM) TM todo) ((done ++ (r ∷ [])) ++ todo) []) =
    terms_steps (done ++ (r ∷ [])) todo (some TM) tt (rw e fair) in
    step (record { next = h; right = right_row done r todo fair }) (rw (then_same TM todo, e) at k)

-- Records of one kind in a skeleton, where `of` draws those that are done

module _ {A : Type 0} (rows : List Row) (Ks : List (Skeleton ℕ)) (m : Mark) (says : A → Record) (of : List A → Skeleton ℕ)
    (most : ℕ)
    (P : A → Type 0) (again : T (may (some m) m))
    (allowed : (done : List A) (x : A) (l : Option Mark) → T (may l m) → length done < most → P x → Allowed
    (state l rows (of done ∷ Ks)) (says x))
    (goes : (done : List A) (x : A) (l : Option Mark) → after (state l rows (of done ∷ Ks)) (says x) ≡ state (some m) rows
    (of (done ++ (x ∷ [])) ∷ Ks)) where
  segment : (done todo : List A) (l : Option Mark) → T (may l m) → length (done ++ todo) ≤ most → Each P todo
      → Steps (state l rows (of done ∷ Ks)) (map says todo) (state (then_last l m todo) rows (of (done ++ todo) ∷ Ks))
  unfolding then_last
  segment done [] l h few f = rw (append-nil done) stop
  segment done (x ∷ todo) l h few f =
      let e : (done ++ (x ∷ [])) ++ todo ≡ done ++ (x ∷ todo) = append_snoc done x todo in
      let k = segment (done ++ (x ∷ [])) todo (some m) again (rw e few) (λ y q. f y (Memᴰ.tail q)) in
      let n : Steps (state (some m) rows (of (done ++ (x ∷ [])) ∷ Ks)) (map says todo)
      (state (some m) rows (of (done ++ (x ∷ todo)) ∷ Ks)) =
      rw (then_same m todo, e) at k in
      step {e = state (some m) rows (of (done ++ (x ∷ todo)) ∷ Ks)} {r = says x} {rs = map says todo}
      (allowed done x l h (omega (arith, length-append done (x ∷ todo))) (f x (Memᴰ.head refl))) (rw (goes done x l) n)

-- One skeleton

module _ (rows : List Row) (Ks : List (Skeleton ℕ)) (K : Skeleton ℕ) (drawn : Drawn rows K) where
  abbrev with_strands : List (List (Event ℕ)) → Skeleton ℕ
  with_strands l = record { strands = l; order = []; non = []; uniq = [] }

  abbrev with_orders : List (Node × Node) → Skeleton ℕ
  with_orders l = record { strands = K.strands; order = l; non = []; uniq = [] }

  abbrev with_nons : List ℕ → Skeleton ℕ
  with_nons l = record { strands = K.strands; order = K.order; non = l; uniq = [] }

  abbrev with_uniqs : List ℕ → Skeleton ℕ
  with_uniqs l = record { strands = K.strands; order = K.order; non = K.non; uniq = l }

  strands_steps : (l : Option Mark) → T (may l ST)
      → Steps (state l rows (blank ∷ Ks)) (map strand K.strands)
      (state (then_last l ST K.strands) rows (with_strands K.strands ∷ Ks))
  unfolding blank Right mark_of after redrawn with_strand in_work may
  strands_steps l h =
      segment rows Ks ST strand with_strands most_strands (RightTrace (length rows)) tt
      (λ done t l h room f. record { next = h; right = record { room = room; right = f } }) (λ done t l. refl)
      [] K.strands l h drawn.few_strands drawn.traces

  orders_steps : (l : Option Mark) → T (may l OR)
      → Steps (state l rows (with_strands K.strands ∷ Ks)) (map (λ e. order e.0 e.1) K.order)
      (state (then_last l OR K.order) rows (with_orders K.order ∷ Ks))
  unfolding Right mark_of after redrawn with_order in_work may event_at
  orders_steps l h =
      segment rows Ks OR (λ e. order e.0 e.1) with_orders most_orders (Joins K) tt
      (λ done e l h room j. record { next = h; right = record { room = room; from = j.from; to = j.to } }) (λ done e l. refl)
      [] K.order l h drawn.few_orders drawn.orders

  nons_steps : (l : Option Mark) → T (may l NO)
      → Steps (state l rows (with_orders K.order ∷ Ks)) (map non K.non)
      (state (then_last l NO K.non) rows (with_nons K.non ∷ Ks))
  unfolding Right mark_of after redrawn with_non in_work may
  nons_steps l h =
      segment rows Ks NO non with_nons most_nons (λ t. T (an_atom rows t)) tt
      (λ done t l h room f. record { next = h; right = record { room = room; atom = f } }) (λ done t l. refl)
      [] K.non l h drawn.few_nons drawn.nons

  uniqs_steps : (l : Option Mark) → T (may l UO)
      → Steps (state l rows (with_nons K.non ∷ Ks)) (map uniq K.uniq) (state (then_last l UO K.uniq) rows (K ∷ Ks))
  unfolding Right mark_of after redrawn with_uniq in_work may
  uniqs_steps l h =
      segment rows Ks UO uniq with_uniqs most_uniqs (λ t. T (an_atom rows t)) tt
      (λ done t l h room f. record { next = h; right = record { room = room; atom = f } }) (λ done t l. refl)
      [] K.uniq l h drawn.few_uniqs drawn.uniqs

  -- the records that may come after it
  record After (l : Option Mark) : Type 0 where
    another : T (may l SK)
    the_end : T (may l EN)

  record Through (l : Option Mark) : Type 0 where
    last : Option Mark
    after_it : After last
    steps : Steps (state l rows Ks) (skeleton_records K) (state last rows (K ∷ Ks))

  skeleton_steps : HasStrand K → length Ks < most_skeletons → (l : Option Mark) → T (may l SK) → Through l
  unfolding skeleton_records may Right mark_of after
  skeleton_steps s room l h =
      let l₂ : Option Mark = then_last (some ST) OR K.order in
      let l₃ : Option Mark = then_last l₂ NO K.non in
      let l₄ : Option Mark = then_last l₃ UO K.uniq in
      let m₁ : then_last (some SK) ST K.strands ≡ some ST = then_some (some SK) ST K.strands s.one in
      let st : Steps (state (some SK) rows (blank ∷ Ks)) (map strand K.strands)
      (state (some ST) rows (with_strands K.strands ∷ Ks)) =
      rw m₁ at (strands_steps (some SK) tt) in
      let n₂ : T (may l₂ NO) = may_then (some ST) OR NO K.order tt tt in
      let u₂ : T (may l₂ UO) = may_then (some ST) OR UO K.order tt tt in
      let s₂ : T (may l₂ SK) = may_then (some ST) OR SK K.order tt tt in
      let e₂ : T (may l₂ EN) = may_then (some ST) OR EN K.order tt tt in
      let u₃ : T (may l₃ UO) = may_then l₂ NO UO K.non u₂ tt in
      let s₃ : T (may l₃ SK) = may_then l₂ NO SK K.non s₂ tt in
      let e₃ : T (may l₃ EN) = may_then l₂ NO EN K.non e₂ tt in
      record {
        last = l₄;
        after_it = record { another = may_then l₃ UO SK K.uniq s₃ tt; the_end = may_then l₃ UO EN K.uniq e₃ tt };
        steps = step {r = begin} (record { next = h; right = room })
            (steps_append st (steps_append (orders_steps (some ST) tt) (steps_append (nons_steps l₂ n₂) (uniqs_steps l₃ u₃))));
      }

-- The whole sheet

-- each skeleton is drawn before the others
onto : List (Skeleton ℕ) → List (Skeleton ℕ) → List (Skeleton ℕ)
onto [] Ks = Ks
onto (K ∷ L) Ks = onto L (K ∷ Ks)

reversed-onto : (L Ks : List (Skeleton ℕ)) → reversed (onto L Ks) ≡ reversed Ks ++ L
unfolding onto reversed
reversed-onto [] Ks = back (append-nil (reversed Ks))
reversed-onto (K ∷ L) Ks = reversed-onto L (K ∷ Ks) ∙ append_snoc (reversed Ks) K L

record AllThrough (rows : List Row) (l : Option Mark) (L Ks : List (Skeleton ℕ)) : Type 0 where
  last : Option Mark
  the_end : T (may last EN)
  steps : Steps (state l rows Ks) (all_skeletons L) (state last rows (onto L Ks))

module _ (rows : List Row) where
  all_steps : (L Ks : List (Skeleton ℕ)) → Each (Drawn rows) L → Each HasStrand L → length L + length Ks ≤ most_skeletons
      → (l : Option Mark) → T (may l SK) → T (may l EN) → AllThrough rows l L Ks
  unfolding all_skeletons onto
  all_steps [] Ks d s few l h g = record { last = l; the_end = g; steps = stop }
  all_steps (K ∷ L) Ks d s few l h g =
      let t = skeleton_steps rows Ks K (d K (Memᴰ.head refl)) (s K (Memᴰ.head refl)) (omega arith) l h in
      let r = all_steps L (K ∷ Ks) (λ x m. d x (Memᴰ.tail m)) (λ x m. s x (Memᴰ.tail m)) (omega arith) t.last
      t.after_it.another t.after_it.the_end in
      record { last = r.last; the_end = r.the_end; steps = steps_append t.steps r.steps }

  -- where there is a skeleton
  some_steps : (L : List (Skeleton ℕ)) → 1 ≤ length L → Each (Drawn rows) L → Each HasStrand L → length L ≤ most_skeletons
      → (l : Option Mark) → T (may l SK) → AllThrough rows l L []
  unfolding all_skeletons onto
  some_steps [] one d s few l h = absurd (omega arith)
  some_steps (K ∷ L) one d s few l h =
      let t = skeleton_steps rows [] K (d K (Memᴰ.head refl)) (s K (Memᴰ.head refl)) (omega arith) l h in
      let r = all_steps L (K ∷ []) (λ x m. d x (Memᴰ.tail m)) (λ x m. s x (Memᴰ.tail m)) (omega arith) t.last
      t.after_it.another t.after_it.the_end in
      record { last = r.last; the_end = r.the_end; steps = steps_append t.steps r.steps }

sheet_steps : (s : Sheet) → WithinLimits s → Steps start (records_of s) (state (some EN) s.rows (onto s.skeletons []))
unfolding records_of start may Right mark_of after
sheet_steps s w =
    let l : Option Mark = then_last (some BS) TM s.rows in
    let t = terms_steps [] s.rows (some BS) tt w.table in
    let k : T (may l SK) = may_then (some BS) TM SK s.rows tt tt in
    let r = some_steps s.rows s.skeletons w.one w.drawings w.strands w.few l k in
    step {r = edition} (record { next = tt; right = tt })
    (steps_append t (steps_append r.steps (step {r = end} (record { next = r.the_end; right = tt }) stop)))

sheet_is : (s : Sheet) → sheet_of (state (some EN) s.rows (onto s.skeletons [])) ≡ s
unfolding sheet_of reversed
sheet_is s = ap (λ l. record { rows = s.rows; skeletons = l }) (reversed-onto s.skeletons [])

pub within_read : (s : Sheet) → WithinLimits s → Read start 0 (encoding s) (read s)
unfolding encoding ended is_end
within_read s w =
    let e : State = state (some EN) s.rows (onto s.skeletons []) in
    let f : (q : ℕ) → Read e q [] (read s) = λ q. subst (λ t. Read e q [] (read t)) (sheet_is s) (at_end refl) in
    rw (append-nil (encode_all (records_of s))) at (steps_read (read s) [] (sheet_steps s w) f 0)

encoded_read : {bytes : List ℕ} {s : Sheet} → Encoded bytes s → Read start 0 bytes (read s)
encoded_read {s} e = rw e.is (within_read s e.within)

pub read_iff_encoded : (bytes : List ℕ) (s : Sheet) → Read start 0 bytes (read s) ↔ Encoded bytes s
read_iff_encoded bytes s = (read_encoded, encoded_read)

-- no two sheets have one encoding
pub encoding_one : (s t : Sheet) → WithinLimits s → WithinLimits t → encoding s ≡ encoding t → s ≡ t
encoding_one s t v w e =
    let r : Read start 0 (encoding s) (read t) = rw e (within_read t w) in
    let z = read_one (within_read s v) r in
    let y : s ≡ t = cc in
    y
