-- What the program writes follows from the bytes that it has read: no second text satisfies what the report promises.
use Rattle.std.specs.Prelude.{◌≡◌, refl, List, [], ◌++◌, ℕ, length}
use Rattle.std.proofs.Common.{ap, ap₂, ◌∙◌, sym as back, arith}
use Rattle.model.specs.Sheet.{Sheet, Refusal, Verdict, Drawing}
use Rattle.model.specs.Judging.{HasVerdict}
use Rattle.model.specs.Answers.{answered, refused, Gives, Counts, AskSheet, Openness, AskRealized, HasSkeletons, ListRoom}
use Rattle.model.specs.Lines.{sheet_line, skeleton_line, maps_line}
use Rattle.theory.proofs.Verdicts.{verdict_one}
use Rattle.theory.specs.NoSecond.{one_drawing, maps_one}
use Rattle.theory.proofs.Pinned.{pinned}
use Rattle.model.specs.Report.{map_lines, ListText, listed, no_room, Reports, bad, one, two, Output}
use Rattle.bench.specs.Report.{Reported}

module _ {bytes : List ℕ} where
  same_counts : {c d : Counts} → Gives bytes AskSheet (answered c) [] → Gives bytes AskSheet (answered d) [] → c ≡ d
  same_counts {c} {d} g h =
      let e = ((pinned bytes).sheet.no_second _ _ [] [] g h).answer in
      let z : c ≡ d = cc in z

  same_refusal : {r q : Refusal} → Gives bytes AskSheet (refused r) [] → Gives bytes AskSheet (refused q) [] → r ≡ q
  same_refusal {r} {q} g h =
      let e = ((pinned bytes).sheet.no_second _ _ [] [] g h).answer in
      let z : r ≡ q = cc in z

  not_both : {r : Refusal} {c : Counts} → Gives bytes AskSheet (refused r) [] → Gives bytes AskSheet (answered c) [] → ⊥
  not_both g h =
      let e = ((pinned bytes).sheet.no_second _ _ [] [] g h).answer in
      let z : ◌≡◌ {A = ℕ} 0 1 = cc in omega arith

  same_openness : (k : ℕ) {o p : Openness} → Gives bytes (AskRealized k) (answered o) []
      → Gives bytes (AskRealized k) (answered p) []
      → o ≡ p
  same_openness k {o} {p} g h =
      let e = (((pinned bytes).realized k).no_second _ _ [] [] g h).answer in
      let z : o ≡ p = cc in z

  same_pair : {s t : Sheet} {x y : Drawing × Drawing} → HasVerdict bytes (Verdict.accepted s)
      → HasVerdict bytes (Verdict.accepted t)
      → HasSkeletons 0 1 s x
      → HasSkeletons 0 1 t y
      → x ≡ y
  same_pair {s} {t} {x} {y} h k p q =
      let v = verdict_one k h in
      let z : t ≡ s = cc in
      let e = one_drawing 0 s x.0 y.0 p.from (rw z at q.from) in
      let f = one_drawing 1 s x.1 y.1 p.to (rw z at q.to) in
      λ i. (e i, f i)

same_room : {l m : List ℕ} {x y : Drawing × Drawing} → length l ≡ length m → x ≡ y → ListRoom 0 1 l x → ListRoom 0 1 m y
same_room {m} {x} n e r =
    let room : ListRoom 0 1 m x = record { maps = r.maps; all = r.all; fits = rw n at r.fits } in
    rw e at room

module _ {bytes lent lent' : List ℕ} (same : length lent ≡ length lent') where
  list_text_one : {t u : List ℕ} → ListText bytes lent t → ListText bytes lent' u → t ≡ u
  list_text_one (listed h p r m) (listed k q s n) =
      let e = same_pair k h q p in
      ap (λ maps. maps_line 0 1 (answered (length maps)) ++ map_lines maps) (maps_one m (rw e at n))
  list_text_one (listed h p r m) (no_room k q s) = absurd (s (same_room same (same_pair h k p q) r))
  list_text_one (no_room h p r) (listed k q s n) = absurd (r (same_room (back same) (same_pair k h q p) s))
  list_text_one (no_room h p r) (no_room k q s) = refl

  pub reports_one : {t u : List ℕ} → Reports bytes lent t → Reports bytes lent' u → t ≡ u
  reports_one (bad g) (bad h) = ap (λ r. sheet_line (refused r)) (same_refusal g h)
  reports_one (bad g) (one h n a) = absurd (not_both g h)
  reports_one (bad g) (two h n a b l) = absurd (not_both g h)
  reports_one (one g n a) (bad h) = absurd (not_both h g)
  reports_one (one g n a) (one h m b) =
      ap₂ (λ c o. sheet_line (answered c) ++ skeleton_line 0 o) (same_counts g h) (same_openness 0 a b)
  reports_one (one g n a) (two h m b c l) = let e = ap (λ c. c.skeletons) (same_counts g h) in absurd (omega arith)
  reports_one (two g n a b l) (bad h) = absurd (not_both h g)
  reports_one (two g n a b l) (one h m d) = let e = ap (λ c. c.skeletons) (same_counts g h) in absurd (omega arith)
  reports_one (two g n a b l) (two h m d e k) =
      ap₂ ◌++◌
      (ap₂ ◌++◌
      (ap₂ (λ c o. sheet_line (answered c) ++ skeleton_line 0 o) (same_counts g h) (same_openness 0 a d))
      (ap (skeleton_line 1) (same_openness 1 b e)))
      (list_text_one l k)

-- whatever the space and the buffer held
pub reported_one : {bytes lent lent' before before' after after' : List ℕ} {r r' : ℕ} (p : Reported bytes lent before after r)
    (q : Reported bytes lent' before' after' r')
    → p.text ≡ q.text
reported_one p q = reports_one (p.lends ∙ back q.lends) p.reports q.reports

-- an input gives one text
pub output_one : {input text text' : List ℕ} → Output input text → Output input text' → text ≡ text'
output_one p q = reports_one (p.lends ∙ back q.lends) p.reports q.reports
