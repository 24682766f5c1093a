-- What the steps have put is the report. Assumes nothing.
use Rattle.std.specs.Prelude.{Result, Ok, Err}
use mathlib.Core.Path.{◌≡◌, refl, ap, ◌∙◌, sym as back}
use mathlib.Core.List.{List, [], ◌∷◌, ◌++◌, append_assoc, Memᴰ}
use mathlib.Core.Option.{some}
use Prim.Native.Nat.{ℕ, zero, suc, ◌+◌, ◌*◌, ◌≤◌, ◌<◌}
use native.Mathlib.Omega.{arith}
use lib.ListN.{length, drop, get_elem?, length-map}
use Rattle.model.specs.Skeleton.{means}
use Rattle.model.specs.Sheet.{Sheet, Refusal, Verdict, Drawing, meant, HasSkeleton}
use Rattle.model.specs.Judging.{HasVerdict, judged}
use Rattle.model.specs.Maps.{TheMaps}
use Rattle.model.specs.Says.{refusal_of, counts_of, sheet_says, list_says}
use Rattle.model.specs.declared.Refusal as Declared
use Rattle.model.specs.declared.Counts.{Counts as CodeCounts}
use Rattle.model.specs.Answers.{Answer, answered, refused, Asked, bad_sheet, no_such, too_short, said, Always, over, end_to_end, Gives, Counts, TheSheet, SaysCounts, AskSheet, Openness, SaysRealized, AskRealized, HasSkeletons, ListRoom, SaysList, AskList}
use Rattle.model.specs.Lines.{sheet_line, maps_line}
use Rattle.theory.specs.Encoding.{WithinLimits, read_encoded}
use Rattle.theory.specs.Upto.{length-upto}
use Rattle.theory.specs.NoSecond.{maps_one}
use Rattle.theory.proofs.Verdicts.{verdict_one, accepting_same}
use Rattle.tables.specs.Layout.{block, strand_count}
use Rattle.tables.specs.Tables.{byte, sheet_in, skeleton_at, strands_at, trace_at}
use Rattle.accept.specs.Held.{Held}
use Rattle.judge.specs.Small.{SmallList}
use Rattle.accept.proofs.Lies.{skeleton_lies}
use Rattle.lines.specs.Written.{Put, Line, told_line}
use Rattle.lines.proofs.Puts.{put_after}
use Rattle.model.specs.Report.{ListText, listed, no_room, Reports}
use Rattle.bench.specs.Report.{Reported}
use Rattle.bench.specs.Steps.{StrandsOf, lines_upto, SkeletonTold, ListSaid, ListTold, AnswersSaid, AnswersTold}
use Rattle.bench.proofs.MapLines.{maps_room, lines_all}

-- one verdict
same_sheet : {bytes : List ℕ} {s t : Sheet} → HasVerdict bytes (Verdict.accepted s) → HasVerdict bytes (Verdict.accepted t)
    → s ≡ t
same_sheet {s} {t} h k = let e = verdict_one h k in let z : s ≡ t = cc in z

not_both : {bytes : List ℕ} {s : Sheet} {r : Refusal} → HasVerdict bytes (Verdict.accepted s)
    → HasVerdict bytes (Verdict.refused r) → ⊥
not_both h k = let e = verdict_one h k in let z : ◌≡◌ {A = ℕ} 0 1 = cc in omega arith

-- an answer that is none is a refusal
pub refused_then : {A : Type 0} (a : Result A Declared.Refusal) → ((x : A) → a ≡ Ok x → ⊥) → (r : Declared.Refusal) × (a ≡ Err r)
refused_then (Ok x) f = absurd (f x refl)
refused_then (Err r) f = (r, refl)

-- How many strands

pub strands_none : {bytes : List ℕ} {r : Refusal} → HasVerdict bytes (Verdict.refused r) → StrandsOf bytes 0
strands_none h = record { is = λ s D k _. absurd (not_both k h) }

pub strands_held : {bytes t inverses : List ℕ} {n : ℕ} → Held bytes t inverses → n ≡ byte t (block 0 + strand_count)
    → StrandsOf bytes n
unfolding skeleton_at strands_at
strands_held {bytes} {t} {n} h e = record { is = is }
  where
    is : (s : Sheet) (D : Drawing) → HasVerdict bytes (Verdict.accepted s) → HasSkeleton 0 s D
        → n ≡ length D.skeleton.strands
    is s D k d =
        let z : s ≡ sheet_in t = same_sheet k h.verdict in
        let l = (skeleton_lies t 0 D (rw z at d)).is in
        let counted = length-upto (byte t (block 0 + strand_count)) (trace_at t (block 0)) in
        e ∙ (back counted ∙ ap (λ E. length E.skeleton.strands) l)

-- A good sheet has one skeleton or two, and each of them gets an answer

record GoodSheet (bytes : List ℕ) (c : Counts) : Type 0 where
  s : Sheet
  verdict : HasVerdict bytes (Verdict.accepted s)
  count : c.skeletons ≡ length s.skeletons
  one : 1 ≤ length s.skeletons
  few : length s.skeletons ≤ 2

within_limits : {bytes : List ℕ} {s : Sheet} → HasVerdict bytes (Verdict.accepted s) → WithinLimits s
within_limits (judged h a) = rw (accepting_same a) at (read_encoded h).within

good_sheet : {bytes : List ℕ} {c : Counts} → Gives bytes AskSheet (answered c) [] → GoodSheet bytes c
unfolding AskSheet
good_sheet {bytes} {c} g = go g.judged g.is
  where
    go : {v : Verdict} → HasVerdict bytes v → Asked TheSheet Always SaysCounts [] v (answered c) [] → GoodSheet bytes c
    go h (said {s} p _ q) =
        let w = within_limits h in
        record { s = s; verdict = h; count = rw p.same q.skeletons; one = w.one; few = w.few }

at_place : {A : Type 0} (l : List A) (i : ℕ) → i < length l → (x : A) × (get_elem? l i ≡ some x)
at_place [] i h = absurd (omega arith)
at_place (x ∷ l) zero h = (x, refl)
at_place (x ∷ l) (suc i) h = at_place l i (omega arith)

module _ {bytes : List ℕ} {c : Counts} (good : GoodSheet bytes c) where
  drawn : {s : Sheet} (k : ℕ) → HasVerdict bytes (Verdict.accepted s) → k < c.skeletons → (D : Drawing) × HasSkeleton k s D
  drawn {s} k h l =
      let e : good.s ≡ s = same_sheet good.verdict h in
      let n : c.skeletons ≡ length s.skeletons = rw e at good.count in
      let (K, f) = at_place s.skeletons k (omega arith) in
      (record { rows = s.rows; skeleton = K }, record { rows = refl; skeleton = f })

  skeleton_told : {k : ℕ} {a : Answer Openness} → k < c.skeletons → Gives bytes (AskRealized k) a []
      → (o : Openness) × (a ≡ answered o)
  unfolding AskRealized
  skeleton_told {k} l g = go g.judged g.is
    where
      go : {v : Verdict} {a : Answer Openness} {after : List ℕ} → HasVerdict bytes v
          → Asked (HasSkeleton k) Always SaysRealized [] v a after
          → (o : Openness) × (a ≡ answered o)
      go h bad_sheet = absurd (not_both good.verdict h)
      go h (no_such f) = let (D, d) = drawn k h l in absurd (f D d)
      go h (too_short d r) = absurd (r tt)
      go h (said {a = o} d _ q) = (o, refl)

-- The list

module _ {bytes : List ℕ} {n : ℕ} (each : StrandsOf bytes n) where
  pub list_room : (lent : List ℕ) {count : ℕ} {space : List ℕ} → Gives bytes (AskList 0 1 lent) (answered count) space
      → count * n ≤ length lent
  unfolding AskList
  list_room lent {count} g = go g.judged g.is
    where
      go : {v : Verdict} {after : List ℕ} → HasVerdict bytes v
          → Asked (HasSkeletons 0 1) (ListRoom 0 1 lent) (SaysList 0 1 lent) lent v (answered count) after
          → count * n ≤ length lent
      go h (said {s} {x} p room q) =
          let f : length room.maps ≡ count = ap length (maps_one room.all q.all) ∙ q.counted in
          rw (each.is s x.0 h p.from, ← f) room.fits

  -- every map has a number for each strand of its source
  map_length : {s : Sheet} {x : Drawing × Drawing} {maps : List (List ℕ)} → HasVerdict bytes (Verdict.accepted s)
      → HasSkeletons 0 1 s x
      → TheMaps (meant x.0) (meant x.1) maps
      → (m : List ℕ) → Memᴰ m maps → length m ≡ n
  unfolding meant means
  map_length {s} {x} h p all m i =
      (((all.members m).0 i).kept.strands (omega arith)).full
      ∙ (length-map x.0.skeleton.strands _ ∙ back (each.is s x.0 h p.from))

module _ {bytes lent : List ℕ} {c : Counts} (good : GoodSheet bytes c) (two : c.skeletons ≡ 2) where
  list_text : {text : List ℕ} → ListSaid bytes lent text → ListText bytes lent text
  unfolding AskList over
  list_text (ListSaid.refusal g) = go g.judged g.is
    where
      go : {v : Verdict} {r : Refusal} {after : List ℕ} → HasVerdict bytes v
          → Asked (HasSkeletons 0 1) (ListRoom 0 1 lent) (SaysList 0 1 lent) lent v (refused r) after
          → ListText bytes lent (maps_line 0 1 (refused r))
      go h bad_sheet = absurd (not_both good.verdict h)
      go h (no_such f) =
          let (D, d) = drawn good 0 h (omega arith) in
          let (E, e) = drawn good 1 h (omega arith) in
          absurd (f (D, E) (record { from = d; to = e }))
      go h (too_short p r) = no_room h p r
  list_text (ListSaid.maps {n} g each) = go g.judged g.is
    where
      go : {v : Verdict} {count : ℕ} {after : List ℕ} → HasVerdict bytes v
          → Asked (HasSkeletons 0 1) (ListRoom 0 1 lent) (SaysList 0 1 lent) lent v (answered count) after
          → ListText bytes lent (maps_line 0 1 (answered count) ++ lines_upto count n after)
      go h (said p room q) =
          let l = lines_all n q.maps (drop (length (end_to_end q.maps)) lent) (map_length each h p q.all) in
          rw (← q.written, ← q.counted, l) (listed h p room q.all)

-- The report

pub reports : {bytes lent : List ℕ} {c : Counts} {text : List ℕ} → Gives bytes AskSheet (answered c) []
    → AnswersSaid bytes lent c.skeletons text
    → Reports bytes lent (sheet_line (answered c) ++ text)
unfolding told_line
reports g (AnswersSaid.one l a) =
    let good = good_sheet g in
    let (o, e) = skeleton_told good (omega (arith, good.count, good.one)) a in
    rw e (Reports.one g (omega (arith, good.count, good.one)) (rw e at a))
reports {c} g (AnswersSaid.two l a b t) =
    let good = good_sheet g in
    let n : c.skeletons ≡ 2 = omega (arith, good.count, good.few) in
    let (o, e) = skeleton_told good (omega arith) a in
    let (p, f) = skeleton_told good (omega arith) b in
    let both = Reports.two {o = o} {p = p} g n (rw e at a) (rw f at b) (list_text good n t) in
    rw (e, f) (simp append_assoc (simp append_assoc at both))

-- From the steps

module _ {bytes lent : List ℕ} {a : Result ℕ Declared.Refusal} {space before : List ℕ} {at : ℕ} {after : List ℕ} {r : ℕ} where
  pub list_refused : (q : Declared.Refusal) → a ≡ Err q → Gives bytes (AskList 0 1 lent) (list_says a) space
      → Line 72 before at (maps_line 0 1 (list_says a)) after r
      → ListTold bytes lent before at after r
  unfolding list_says
  list_refused q e g l =
      record { text = maps_line 0 1 (refused (refusal_of q)); said = ListSaid.refusal (rw e at g); put = rw e at l.put }

  pub list_listed : {mid : List ℕ} {next n : ℕ} (count : ℕ) → a ≡ Ok count
      → Gives bytes (AskList 0 1 lent) (list_says a) space
      → Line 72 before at (maps_line 0 1 (list_says a)) mid next
      → StrandsOf bytes n
      → Put mid next (lines_upto count n space) after r
      → ListTold bytes lent before at after r
  unfolding list_says
  list_listed {n} count e g l each p =
      record {
        text = maps_line 0 1 (answered count) ++ lines_upto count n space;
        said = ListSaid.maps (rw e at g) each;
        put = put_after (rw e at l.put) p;
      }

pub maps_fit : {bytes : List ℕ} (lent : List ℕ) {a : Result ℕ Declared.Refusal} {n : ℕ} {space : List ℕ} (count : ℕ)
    → a ≡ Ok count
    → Gives bytes (AskList 0 1 lent) (list_says a) space → SmallList a → StrandsOf bytes n → length lent ≡ 49152
    → (count * n ≤ 49152) × (count * (4 * n + 1) ≤ 243264)
unfolding list_says
maps_fit lent {n} count e g small each l =
    let room : count * n ≤ length lent = list_room each lent (rw e at g) in
    let few : count ≤ 46656 = rw e at small in
    (omega arith, maps_room count n few (omega arith))

module _ {bytes lent : List ℕ} {skeletons : ℕ} {before : List ℕ} {at : ℕ} {after : List ℕ} {r : ℕ} where
  pub answers_one : skeletons < 2 → SkeletonTold bytes 0 before at after r
      → AnswersTold bytes lent skeletons before at after r
  answers_one h t = record { text = told_line 0 t.answer; said = AnswersSaid.one h t.gives; put = t.line.put }

  pub answers_two : {l₁ : List ℕ} {r₁ : ℕ} {l₂ : List ℕ} {r₂ : ℕ} → 2 ≤ skeletons
      → SkeletonTold bytes 0 before at l₁ r₁
      → SkeletonTold bytes 1 l₁ r₁ l₂ r₂
      → ListTold bytes lent l₂ r₂ after r
      → AnswersTold bytes lent skeletons before at after r
  answers_two h t u l =
      record {
        text = told_line 0 t.answer ++ told_line 1 u.answer ++ l.text;
        said = AnswersSaid.two h t.gives u.gives l.said;
        put = put_after (put_after t.line.put u.line.put) l.put;
      }

module _ {bytes lent : List ℕ} {a : Result CodeCounts Declared.Refusal} {before after : List ℕ} {r : ℕ} where
  pub reported_bad : (q : Declared.Refusal) → length lent ≡ 49152 → a ≡ Err q
      → Gives bytes AskSheet (sheet_says a) []
      → Line 72 before 0 (sheet_line (sheet_says a)) after r
      → Reported bytes lent before after r
  unfolding sheet_says
  reported_bad q n e g l =
      record { lends = n; text = sheet_line (refused (refusal_of q)); reports = Reports.bad (rw e at g); put = rw e at l.put }

  pub reported_good : {mid : List ℕ} {next : ℕ} (c : CodeCounts) → length lent ≡ 49152 → a ≡ Ok c
      → Gives bytes AskSheet (sheet_says a) []
      → Line 72 before 0 (sheet_line (sheet_says a)) mid next
      → AnswersTold bytes lent c.skeletons mid next after r
      → Reported bytes lent before after r
  unfolding sheet_says counts_of
  reported_good c n e g l t =
      record {
        lends = n;
        text = sheet_line (answered (counts_of c)) ++ t.text;
        reports = reports (rw e at g) t.said;
        put = put_after (rw e at l.put) t.put;
      }
