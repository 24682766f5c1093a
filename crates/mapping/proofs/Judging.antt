-- The answers of the rules' tests give the first broken rule, or a map. Assumes nothing.
use mathlib.Core.Path.{◌≡◌, refl, ◌∙◌}
use mathlib.Core.Bool.{Bool, true, false}
use mathlib.Core.List.{List}
use Prim.Native.Nat.{ℕ, suc, ◌≤◌}
use native.Mathlib.Omega.{arith}
use lib.ListN.{length, length-map}
use Rattle.std.specs.Prelude.{Result, Ok, Err}
use Rattle.model.specs.Term.{Term}
use Rattle.model.specs.Subst.{Subst}
use Rattle.model.specs.Table.{Row, term}
use Rattle.model.specs.Skeleton.{Skeleton, means}
use Rattle.model.specs.Maps.{Kept, Upto, FirstBroken}
use Rattle.model.specs.declared.Rule.{Rule}
use Rattle.theory.specs.Tests.{was_no}
use Rattle.theory.specs.Substituting.{plain}
use Rattle.theory.specs.NoSecond.{upto_less}
use Rattle.tables.specs.Tables.{rows_in, skeleton_at}
use Rattle.matching.specs.Matches.{Matches, Takes}
use Rattle.maps.specs.Rules.{KeptTo1, KeptTo2, Tells1, Tells2, Tells4, Tells5, Tells6}
use Rattle.maps.specs.Atoms.{Matched, Judges5, Judges6}
use Rattle.mapping.specs.declared.prepared.Prepared.{Prepared}
use Rattle.mapping.specs.Judged.{Asked, IsPrepared, JudgedAs}

-- the rules up to k hold, and the next does not
first : (A B : Skeleton Term) (map : List ℕ) (k : ℕ) → suc k ≤ 6 → {σ : Subst} → Kept A B map k σ → ¬ Upto A B map (suc k)
    → FirstBroken A B map (suc k)
first A B map k l {σ} kept n =
    record { rule = l; hold = λ j h. upto_less A B map j k (omega arith) (record { σ = σ; kept = kept }); breaks = n }

module _ (rows : List Row) (A B : Skeleton ℕ) (map images : List ℕ) where
  abbrev A' : Skeleton Term
  A' = means (term rows) A

  abbrev B' : Skeleton Term
  B' = means (term rows) B

  abbrev Judged : Result (Unit {0}) Rule → Type 0
  Judged = JudgedAs rows A B map images

  pub breaks_1 : {r : Bool} → Tells1 rows A B map r → r ≡ false → Judged (Err Rule.Strands)
  breaks_1 test e =
      JudgedAs.broken {rule = Rule.Strands} (first A' B' map 0 (omega arith) {σ = plain} (record {
        strands = λ h. absurd (omega arith);
        directions = λ h. absurd (omega arith);
        messages = λ h. absurd (omega arith);
        order = λ h. absurd (omega arith);
        non = λ h. absurd (omega arith);
        uniq = λ h. absurd (omega arith);
      }) (λ u. was_no test e (u.kept.strands (omega arith))))

  pub breaks_2 : {r : Bool} → KeptTo1 rows A B map → Tells2 rows A B map r → r ≡ false → Judged (Err Rule.Events)
  breaks_2 one test e =
      JudgedAs.broken {rule = Rule.Events} (first A' B' map 1 (omega arith) {σ = plain} (record {
        strands = λ h. one;
        directions = λ h. absurd (omega arith);
        messages = λ h. absurd (omega arith);
        order = λ h. absurd (omega arith);
        non = λ h. absurd (omega arith);
        uniq = λ h. absurd (omega arith);
      }) (λ u. was_no test e (u.kept.directions (omega arith))))

  pub breaks_3 : {r : Bool} → KeptTo2 rows A B map → Matches rows A B map images r → r ≡ false → Judged (Err Rule.Messages)
  breaks_3 two test e =
      JudgedAs.broken {rule = Rule.Messages} (first A' B' map 2 (omega arith) {σ = plain} (record {
        strands = λ h. two.strands;
        directions = λ h. two.directions;
        messages = λ h. absurd (omega arith);
        order = λ h. absurd (omega arith);
        non = λ h. absurd (omega arith);
        uniq = λ h. absurd (omega arith);
      }) (λ u. was_no test.holds e (u.σ, u.kept.messages (omega arith))))

  -- the rules up to 3 hold, with the substitution that rule 3's test finds
  pub record KeptTo3 : Type 0 where
    pub nodes : KeptTo2 rows A B map
    pub matches : Matches rows A B map images true

  pub kept_to_3 : {r : Bool} → KeptTo2 rows A B map → Matches rows A B map images r → r ≡ true → KeptTo3
  kept_to_3 two test e = record { nodes = two; matches = rw e at test }

  module _ (three : KeptTo3) where
    abbrev found : Subst
    found = (three.matches.holds.0 refl).0

    abbrev takes : Takes rows A B map found
    takes = (three.matches.holds.0 refl).1

    pub breaks_4 : {r : Bool} → Tells4 rows A B map r → r ≡ false → Judged (Err Rule.Order)
    breaks_4 test e =
        JudgedAs.broken {rule = Rule.Order} (first A' B' map 3 (omega arith) {σ = found} (record {
          strands = λ h. three.nodes.strands;
          directions = λ h. three.nodes.directions;
          messages = λ h. takes;
          order = λ h. absurd (omega arith);
          non = λ h. absurd (omega arith);
          uniq = λ h. absurd (omega arith);
        }) (λ u. was_no test e (u.kept.order (omega arith))))

    module _ {s₄ : Bool} (four : Tells4 rows A B map s₄) (r₄ : s₄ ≡ true) where
      pub breaks_5 : {r : Bool} → Tells5 rows A B map r → r ≡ false → Judged (Err Rule.Nons)
      breaks_5 test e =
          JudgedAs.broken {rule = Rule.Nons} (first A' B' map 4 (omega arith) {σ = found} (record {
            strands = λ h. three.nodes.strands;
            directions = λ h. three.nodes.directions;
            messages = λ h. takes;
            order = λ h. four.0 r₄;
            non = λ h. absurd (omega arith);
            uniq = λ h. absurd (omega arith);
          }) (λ u. was_no (test u.σ (u.kept.messages (omega arith))) e (u.kept.non (omega arith))))

      module _ {s₅ : Bool} (five : Tells5 rows A B map s₅) (r₅ : s₅ ≡ true) where
        pub breaks_6 : {r : Bool} → Tells6 rows A B map r → r ≡ false → Judged (Err Rule.Uniqs)
        breaks_6 test e =
            JudgedAs.broken {rule = Rule.Uniqs} (first A' B' map 5 (omega arith) {σ = found} (record {
              strands = λ h. three.nodes.strands;
              directions = λ h. three.nodes.directions;
              messages = λ h. takes;
              order = λ h. four.0 r₄;
              non = λ h. (five found takes).0 r₅;
              uniq = λ h. absurd (omega arith);
            }) (λ u. was_no (test u.σ (u.kept.messages (omega arith))) e (u.kept.uniq (omega arith))))

        pub all_hold : {r : Bool} → Tells6 rows A B map r → r ≡ true → Judged (Ok tt)
        all_hold test e =
            JudgedAs.holds {σ = found} (record {
              strands = λ h. three.nodes.strands;
              directions = λ h. three.nodes.directions;
              messages = λ h. takes;
              order = λ h. four.0 r₄;
              non = λ h. (five found takes).0 r₅;
              uniq = λ h. (test found takes).0 e;
            }) three.matches

pub kept_to_2 : (rows : List Row) (A B : Skeleton ℕ) (map : List ℕ) {r : Bool} → KeptTo1 rows A B map → Tells2 rows A B map r → r ≡ true
    → KeptTo2 rows A B map
kept_to_2 rows A B map one test e = record { strands = one; directions = test.0 e }

-- as many bytes as source strands, by their numbers
pub full : (rows : List Row) (A B : Skeleton ℕ) (map : List ℕ) → KeptTo1 rows A B map → length map ≡ length A.strands
unfolding means
full rows A B map r = r.full ∙ length-map A.strands _

-- what the tests of rules 5 and 6 are about
matched : {t inverses map images : List ℕ} {a b : ℕ} → Asked t inverses a b
    → KeptTo3 (rows_in t) (skeleton_at t a) (skeleton_at t b) map images
    → Matched (rows_in t) (skeleton_at t a) (skeleton_at t b) map images
matched asked three =
    record {
      source_on = asked.source.on_table;
      target_on = asked.target.on_table;
      source = asked.source_right;
      target = asked.target_right;
      nons = asked.nons;
      uniqs = asked.uniqs;
      matches = three.matches;
    }

-- what the tests of rules 5 and 6 tell, once rule 3 holds
module _ (p : Prepared) (is : IsPrepared p) (map images : List ℕ) where
  abbrev rows : List Row
  rows = rows_in p.sides.table.now

  abbrev A : Skeleton ℕ
  A = skeleton_at p.sides.table.now p.sides.source

  abbrev B : Skeleton ℕ
  B = skeleton_at p.sides.table.now p.sides.target

  pub nons_tell : {r : Bool} → Judges5 rows images p.from.now.nons p.to.now.nons r → KeptTo3 rows A B map images → Tells5 rows A B map r
  nons_tell test three = test.tells _ _ _ (matched is.asked three) is.source_atoms.nons is.target_atoms.nons

  pub uniqs_tell : {r : Bool} → Judges6 rows images map p.from.now.uniqs p.to.now.uniqs p.from.now.origins p.to.now.origins r
      → KeptTo3 rows A B map images
      → Tells6 rows A B map r
  uniqs_tell test three =
      test.tells _ _ (matched is.asked three) is.source_atoms.uniqs is.target_atoms.uniqs is.source_atoms.origins
      is.target_atoms.origins
