-- The encoding of a sheet, and that a sheet which was read stands there in its encoding, within the limits.
use Rattle.std.specs.Prelude.{◌≡◌, true, ◌⊎◌, ℕ, ◌≤◌, length}
use Rattle.std.proofs.Math.Path.{refl, ap, sym as back}
use Rattle.std.proofs.Common.{◌∙◌, true≢false, inl, inr, arith, length-append}
use mathlib.Core.List.{List, [], ◌∷◌, ◌++◌, map, append-nil, append_assoc}
use Rattle.std.proofs.Math.Option.{Option, none, some}
use Rattle.std.proofs.Math.ListN.{drop}
use Rattle.model.specs.Limits.{most_skeletons}
use Rattle.model.specs.Lists.{reversed}
use Rattle.model.specs.Table.{Row}
use Rattle.model.specs.Skeleton.{Event, Node, Skeleton}
use Rattle.model.specs.Sheet.{Sheet}
use Rattle.model.specs.Reading.{Mark, BS, TM, SK, ST, OR, NO, UO, EN, Record, edition, begin, end, term, strand, order, non, uniq, size, State, start, blank, in_work, redrawn, with_strand, with_order, with_non, with_uniq, after, Reading, read, sheet_of, ended, is_end, Read, at_end, beyond, at_fault, next}
use Rattle.theory.specs.Each.{Each, each_cons}
use Rattle.theory.specs.Places.{in_reversed}
use Rattle.theory.specs.Records.{Allowed, mark_of, was_read}
use Rattle.theory.specs.RecordBytes.{encode, record_bytes}
use Rattle.theory.specs.Standing.{Fair, Drawn, HasStrand, rank, Between, may_BS, may_TM, may_SK, may_ST, may_OR, may_NO, may_UO, may_EN, InOrder, Kept, kept_after, start_kept}

-- "Order: BS, the TMs (any number down to none), one or two skeletons, EN. A skeleton is SK, one or more ST, then OR, NO and UO
-- records in that order"

unfoldable pub skeleton_records : Skeleton ℕ → List Record
skeleton_records K =
    begin ∷ (map strand K.strands ++ (map (λ e. order e.0 e.1) K.order ++ (map non K.non ++ map uniq K.uniq)))

unfoldable pub all_skeletons : List (Skeleton ℕ) → List Record
unfolding skeleton_records
all_skeletons [] = []
all_skeletons (K ∷ Ks) = skeleton_records K ++ all_skeletons Ks

unfoldable pub records_of : Sheet → List Record
unfolding all_skeletons
records_of s = edition ∷ (map term s.rows ++ (all_skeletons s.skeletons ++ (end ∷ [])))

unfoldable pub encode_all : List Record → List ℕ
unfolding encode
encode_all [] = []
encode_all (r ∷ rs) = encode r ++ encode_all rs

unfoldable pub encoding : Sheet → List ℕ
unfolding encode_all records_of
encoding s = encode_all (records_of s)

pub record WithinLimits (s : Sheet) : Type 0 where
  pub table : Fair s.rows
  pub one : 1 ≤ length s.skeletons
  pub few : length s.skeletons ≤ most_skeletons
  pub drawings : Each (Drawn s.rows) s.skeletons
  pub strands : Each HasStrand s.skeletons

-- The records that are read so far

unfoldable pub heading : Option Mark → List Record
heading none = []
heading (some m) = edition ∷ []

unfoldable pub closing : Option Mark → List Record
closing none = []
closing (some BS) = []
closing (some TM) = []
closing (some SK) = []
closing (some ST) = []
closing (some OR) = []
closing (some NO) = []
closing (some UO) = []
closing (some EN) = end ∷ []

unfoldable pub so_far : State → List Record
so_far s = heading s.last ++ (map term s.rows ++ (all_skeletons (reversed s.drawn) ++ closing s.last))

no_heading : (l : Option Mark) → rank l ≤ 0 → heading l ≡ []
unfolding heading rank
no_heading none h = refl
no_heading (some BS) h = absurd (omega arith)
no_heading (some TM) h = absurd (omega arith)
no_heading (some SK) h = absurd (omega arith)
no_heading (some ST) h = absurd (omega arith)
no_heading (some OR) h = absurd (omega arith)
no_heading (some NO) h = absurd (omega arith)
no_heading (some UO) h = absurd (omega arith)
no_heading (some EN) h = absurd (omega arith)

a_heading : (l : Option Mark) → 1 ≤ rank l → heading l ≡ edition ∷ []
unfolding heading rank
a_heading none h = absurd (omega arith)
a_heading (some m) h = refl

no_closing : (l : Option Mark) → rank l ≤ 7 → closing l ≡ []
unfolding closing rank
no_closing none h = refl
no_closing (some BS) h = refl
no_closing (some TM) h = refl
no_closing (some SK) h = refl
no_closing (some ST) h = refl
no_closing (some OR) h = refl
no_closing (some NO) h = refl
no_closing (some UO) h = refl
no_closing (some EN) h = absurd (omega arith)

map-append : {A B : Type 0} (f : A → B) (l m : List A) → map f (l ++ m) ≡ map f l ++ map f m
map-append f [] m = refl
map-append f (x ∷ l) m = ap (λ k. f x ∷ k) (map-append f l m)

all_append : (l m : List (Skeleton ℕ)) → all_skeletons (l ++ m) ≡ all_skeletons l ++ all_skeletons m
unfolding all_skeletons
all_append [] m = refl
all_append (K ∷ l) m = ap (λ k. skeleton_records K ++ k) (all_append l m) ∙ back (append_assoc (skeleton_records K) _ _)

-- the last skeleton comes last
all_last : (L : Skeleton ℕ) (Ks : List (Skeleton ℕ))
    → all_skeletons (reversed (L ∷ Ks)) ≡ all_skeletons (reversed Ks) ++ skeleton_records L
unfolding reversed all_skeletons
all_last L Ks =
    all_append (reversed Ks) (L ∷ []) ∙ ap (λ l. all_skeletons (reversed Ks) ++ l) (append-nil (skeleton_records L))

snoc_last : (M Y : List Record) (r : Record) {X : List Record} → X ≡ Y ++ (r ∷ [])
    → edition ∷ (M ++ X) ≡ (edition ∷ (M ++ Y)) ++ (r ∷ [])
snoc_last M Y r e = ap (λ l. edition ∷ l) (ap (λ l. M ++ l) e ∙ back (append_assoc M Y (r ∷ [])))

-- A record that comes next is one more of them

module _ (s : State) (kept : Kept s) where
  abbrev o : InOrder s
  o = kept.in_order

  abbrev K : Skeleton ℕ
  K = in_work s

  -- where something has begun and nothing has ended
  under_way : 1 ≤ rank s.last → rank s.last ≤ 7
      → so_far s ≡ edition ∷ (map term s.rows ++ all_skeletons (reversed s.drawn))
  unfolding so_far
  under_way h k = rw (a_heading s.last h, no_closing s.last k, append-nil (all_skeletons (reversed s.drawn))) refl

  more_edition : Allowed s edition → so_far (after s edition) ≡ so_far s ++ (edition ∷ [])
  unfolding so_far after mark_of rank heading closing reversed all_skeletons
  more_edition a =
      let k = may_BS s.last a.next in
      rw (no_heading s.last k, no_closing s.last (omega arith), o.no_rows (omega arith), o.no_drawing (omega arith)) refl

  more_term : (r : Row) → Allowed s (term r) → so_far (after s (term r)) ≡ so_far s ++ (term r ∷ [])
  unfolding so_far after mark_of rank heading closing reversed all_skeletons
  more_term r a =
      let k = may_TM s.last a.next in
      let e : s.drawn ≡ [] = o.no_drawing k.to in
      rw (a_heading s.last k.from, no_closing s.last (omega (arith, k.to)), e)
      (ap (λ l. edition ∷ l)
      (append-nil (map term (s.rows ++ (r ∷ []))) ∙ (map-append term s.rows (r ∷ []) ∙ ap (λ l. l ++ (term r ∷ []))
      (back (append-nil (map term s.rows))))))

  begun_between : Between 1 2 (rank s.last) ⊎ Between 4 7 (rank s.last) → Between 1 7 (rank s.last)
  begun_between (inl h) = record { from = h.from; to = omega (arith, h.to) }
  begun_between (inr h) = record { from = omega (arith, h.from); to = h.to }

  more_begin : Allowed s begin → so_far (after s begin) ≡ so_far s ++ (begin ∷ [])
  unfolding so_far after mark_of heading closing blank skeleton_records
  more_begin a =
      let k = begun_between (may_SK s.last a.next) in
      rw (under_way k.from k.to)
      (snoc_last (map term s.rows) (all_skeletons (reversed s.drawn)) begin
      (append-nil (all_skeletons (reversed (blank ∷ s.drawn))) ∙ all_last blank s.drawn))

  -- the skeleton in work is drawn anew
  more_drawn : (m : Mark) (L : Skeleton ℕ) (r : Record) → rank (some m) ≤ 7 → 3 ≤ rank s.last → rank s.last ≤ 7
      → skeleton_records L ≡ skeleton_records K ++ (r ∷ [])
      → so_far (redrawn m s L) ≡ so_far s ++ (r ∷ [])
  unfolding so_far redrawn heading
  more_drawn m L r h l k e =
      let b : all_skeletons (reversed s.drawn) ≡ all_skeletons (reversed (drop 1 s.drawn)) ++ skeleton_records K =
      ap (λ d. all_skeletons (reversed d)) (o.begun l) ∙ all_last K (drop 1 s.drawn) in
      let D : List Record = all_skeletons (reversed (drop 1 s.drawn)) in
      rw (under_way (omega arith) k, no_closing (some m) h, b)
      (snoc_last (map term s.rows) (D ++ skeleton_records K) r
      (append-nil (all_skeletons (reversed (L ∷ drop 1 s.drawn)))
      ∙ (all_last L (drop 1 s.drawn) ∙ (ap (λ l. D ++ l) e ∙ back (append_assoc D (skeleton_records K) (r ∷ []))))))

  more_strand : (t : List (Event ℕ)) → Allowed s (strand t) → so_far (after s (strand t)) ≡ so_far s ++ (strand t ∷ [])
  unfolding after mark_of with_strand rank skeleton_records
  more_strand t a =
      let k = may_ST s.last a.next in
      more_drawn ST (with_strand K t) (strand t) (omega arith) k.from (omega (arith, k.to))
      (rw (
        o.no_order k.to,
        o.no_non (omega (arith, k.to)),
        o.no_uniq (omega (arith, k.to)),
        map-append strand
            K.strands (t ∷ []),
      )
      (ap (λ l. begin ∷ l) (append-nil (map strand K.strands ++ (strand t ∷ [])) ∙ ap (λ l. l ++ (strand t ∷ []))
      (back (append-nil (map strand K.strands))))))

  more_order : (m n : Node) → Allowed s (order m n) → so_far (after s (order m n)) ≡ so_far s ++ (order m n ∷ [])
  unfolding after mark_of with_order rank skeleton_records
  more_order m n a =
      let k = may_OR s.last a.next in
      let S : List Record = map strand K.strands in
      let E : List Record = map (λ e. order e.0 e.1) K.order in
      more_drawn OR (with_order K m n) (order m n) (omega arith) (omega (arith, k.from)) (omega (arith, k.to))
      (rw (o.no_non k.to, o.no_uniq (omega (arith, k.to)), map-append (λ e. order e.0 e.1) K.order ((m, n) ∷ []))
      (ap (λ l. begin ∷ l)
      (ap (λ l. S ++ l) (append-nil (E ++ (order m n ∷ [])))
      ∙ (back (append_assoc S E (order m n ∷ [])) ∙ ap (λ l. (S ++ l) ++ (order m n ∷ [])) (back (append-nil E))))))

  more_non : (t : ℕ) → Allowed s (non t) → so_far (after s (non t)) ≡ so_far s ++ (non t ∷ [])
  unfolding after mark_of with_non rank skeleton_records
  more_non t a =
      let k = may_NO s.last a.next in
      let S : List Record = map strand K.strands in
      let E : List Record = map (λ e. order e.0 e.1) K.order in
      let N : List Record = map non K.non in
      more_drawn NO (with_non K t) (non t) (omega arith) (omega (arith, k.from)) (omega (arith, k.to))
      (rw (o.no_uniq k.to, map-append non K.non (t ∷ []), append-nil (N ++ (non t ∷ [])), append-nil N)
      (ap (λ l. begin ∷ l) (ap (λ l. S ++ l) (back (append_assoc E N (non t ∷ []))) ∙ back
      (append_assoc S (E ++ N) (non t ∷ [])))))

  more_uniq : (t : ℕ) → Allowed s (uniq t) → so_far (after s (uniq t)) ≡ so_far s ++ (uniq t ∷ [])
  unfolding after mark_of with_uniq rank skeleton_records
  more_uniq t a =
      let k = may_UO s.last a.next in
      let S : List Record = map strand K.strands in
      let E : List Record = map (λ e. order e.0 e.1) K.order in
      let N : List Record = map non K.non in
      let U : List Record = map uniq K.uniq in
      more_drawn UO (with_uniq K t) (uniq t) (omega arith) (omega (arith, k.from)) k.to
      (rw (map-append uniq K.uniq (t ∷ []))
      (ap (λ l. begin ∷ l)
      (ap (λ l. S ++ (E ++ l)) (back (append_assoc N U (uniq t ∷ [])))
      ∙ (ap (λ l. S ++ l) (back (append_assoc E (N ++ U) (uniq t ∷ []))) ∙ back (append_assoc S (E ++ (N ++ U)) (uniq t ∷ []))))))

  more_end : Allowed s end → so_far (after s end) ≡ so_far s ++ (end ∷ [])
  unfolding so_far after mark_of heading closing
  more_end a =
      let k = may_EN s.last a.next in
      let M : List Record = map term s.rows in
      rw (under_way (omega (arith, k.from)) k.to) (ap (λ l. edition ∷ l)
      (back (append_assoc M (all_skeletons (reversed s.drawn)) (end ∷ []))))

  pub one_more : (r : Record) → Allowed s r → so_far (after s r) ≡ so_far s ++ (r ∷ [])
  one_more edition a = more_edition a
  one_more (term r) a = more_term r a
  one_more begin a = more_begin a
  one_more (strand t) a = more_strand t a
  one_more (order m n) a = more_order m n a
  one_more (non t) a = more_non t a
  one_more (uniq t) a = more_uniq t a
  one_more end a = more_end a

-- A sheet that was read stands there in its encoding, within the limits

pub encode-append : (l m : List Record) → encode_all (l ++ m) ≡ encode_all l ++ encode_all m
unfolding encode_all
encode-append [] m = refl
encode-append (r ∷ l) m = ap (λ k. encode r ++ k) (encode-append l m) ∙ back (append_assoc (encode r) _ _)

pub encode_one : (l : List Record) (r : Record) → encode_all (l ++ (r ∷ [])) ≡ encode_all l ++ encode r
unfolding encode_all
encode_one l r = encode-append l (r ∷ []) ∙ ap (λ k. encode_all l ++ k) (append-nil (encode r))

-- where reading ended, with the bytes that were read on the way
record ReadTo (s : State) (l : List ℕ) (t : Sheet) : Type 0 where
  state : State
  kept : Kept state
  ends : ended state ≡ true
  is : sheet_of state ≡ t
  bytes : encode_all (so_far s) ++ l ≡ encode_all (so_far state)

read_to : {s : State} {p : ℕ} {l : List ℕ} {out : Reading} → Kept s → Read s p l out → (t : Sheet) → out ≡ read t → ReadTo s l t
read_to {s} h (at_end e) t q =
    let z : sheet_of s ≡ t = cc in
    record { state = s; kept = h; ends = e; is = z; bytes = append-nil (encode_all (so_far s)) }
read_to h (beyond e) t q = let z : ◌≡◌ {A = ℕ} 0 1 = cc in absurd (omega arith)
read_to h (at_fault e f) t q = let z : ◌≡◌ {A = ℕ} 0 1 = cc in absurd (omega arith)
read_to {s} {l} h (next {r} e f k) t q =
    let a = (was_read s l f).allowed in
    let n = read_to (kept_after s h r a) k t q in
    let m : encode_all (so_far (after s r)) ≡ encode_all (so_far s) ++ encode r =
    ap encode_all (one_more s h r a) ∙ encode_one (so_far s) r in
    record {
      state = n.state;
      kept = n.kept;
      ends = n.ends;
      is = n.is;
      bytes = ap (λ x. encode_all (so_far s) ++ x) (record_bytes s l f)
          ∙ (back (append_assoc (encode_all (so_far s)) (encode r) (drop (size r) l))
          ∙ (ap (λ x. x ++ drop (size r) l) (back m) ∙ n.bytes));
    }

ended_last : (l : Option Mark) → is_end l ≡ true → l ≡ some EN
unfolding is_end
ended_last none e = absurd (true≢false (back e))
ended_last (some BS) e = absurd (true≢false (back e))
ended_last (some TM) e = absurd (true≢false (back e))
ended_last (some SK) e = absurd (true≢false (back e))
ended_last (some ST) e = absurd (true≢false (back e))
ended_last (some OR) e = absurd (true≢false (back e))
ended_last (some NO) e = absurd (true≢false (back e))
ended_last (some UO) e = absurd (true≢false (back e))
ended_last (some EN) e = refl

all_read : (s : State) → ended s ≡ true → so_far s ≡ records_of (sheet_of s)
unfolding so_far records_of sheet_of ended heading closing
all_read s e = rw (ended_last s.last e) refl

pub length-reversed : {A : Type 0} (l : List A) → length (reversed l) ≡ length l
unfolding reversed
length-reversed [] = refl
length-reversed (x ∷ l) = simp length-append (omega (arith, length-reversed l))

kept_within : (s : State) → Kept s → ended s ≡ true → WithinLimits (sheet_of s)
unfolding sheet_of ended rank
kept_within s h e =
    let o = h.in_order in
    let l : 4 ≤ rank s.last = rw (ended_last s.last e) (omega arith) in
    let b : s.drawn ≡ in_work s ∷ drop 1 s.drawn = o.begun (omega arith) in
    let strands : Each HasStrand s.drawn = rw b (each_cons _ (o.a_strand l) o.others) in
    record {
      table = h.table;
      one = rw length-reversed (omega (arith, ap length b));
      few = rw length-reversed h.few_skeletons;
      drawings = λ K m. h.drawings K (in_reversed s.drawn m);
      strands = λ K m. strands K (in_reversed s.drawn m);
    }

pub record Encoded (bytes : List ℕ) (s : Sheet) : Type 0 where
  pub within : WithinLimits s
  pub is : bytes ≡ encoding s

pub read_encoded : {bytes : List ℕ} {s : Sheet} → Read start 0 bytes (read s) → Encoded bytes s
unfolding encoding start so_far heading closing encode_all reversed all_skeletons
read_encoded {s} r =
    let n = read_to start_kept r s refl in
    record {
      within = rw n.is at (kept_within n.state n.kept n.ends);
      is = n.bytes ∙ ap encode_all (all_read n.state n.ends ∙ ap records_of n.is);
    }
