-- From what the code finds to what is asked, at an accepted sheet in its table. Assumes nothing.
use mathlib.Core.Path.{◌≡◌, ◌∙◌}
use mathlib.Core.List.{List}
use Prim.Native.Nat.{ℕ, ◌<◌, ◌≤◌}
use native.Mathlib.Omega.{arith}
use lib.ListN.{length}
use Rattle.std.specs.Prelude.{Ok, Err}
use Rattle.model.specs.Sheet.{Verdict, Drawing, meant, HasSkeleton}
use Rattle.model.specs.Answers.{Answer, Mapping, is_map, breaks, refused, answered, refusal, no_such, too_short, said}
use Rattle.model.specs.Answers.{HasSkeletons, ImageRoom, yes_map, no_map, AskMap}
use Rattle.model.specs.Says.{rule_number}
use Rattle.model.specs.declared.Rule.{Rule}
use Rattle.tables.proofs.Look.{count_is}
use Rattle.tables.specs.Layout.{block, term_count}
use Rattle.tables.specs.Tables.{byte, rows_in, skeleton_in, sheet_in}
use Rattle.tables.specs.Drawn.{drawing}
use Rattle.accept.specs.Held.{Stored}
use Rattle.accept.proofs.Lies.{skeleton_lies, is_drawn, is_right, or_ordered}
use Rattle.matching.specs.declared.sides.Sides.{Sides}
use Rattle.mapping.specs.declared.prepared.Prepared.{Prepared}
use Rattle.mapping.specs.Judged.{Asked, IsPrepared, SidesOf, PreparedFor, JudgedAs}
use Rattle.mapping.specs.Listed.{AtomsListed}
use Rattle.mapping.specs.Written.{Written}
use Rattle.mapping.proofs.Writing.{images_written}

-- the sheet has the skeleton k
abbrev pub Has : List ℕ → ℕ → Type 0
Has t k = HasSkeleton k (sheet_in t) (drawing t (block k))

module _ {t inverses : List ℕ} (stored : Stored t inverses) (listed : AtomsListed t) {source target : ℕ} (from : Has t source) (to : Has t target) where
  pub is_asked : Asked t inverses (block source) (block target)
  is_asked =
      let h = (skeleton_lies t source _ from).inside in
      let k = (skeleton_lies t target _ to).inside in
      let drawn = is_drawn t stored.filled stored.sound target k in
      record {
        source = is_drawn t stored.filled stored.sound source h;
        target = drawn;
        source_right = is_right t stored.filled stored.sound source h;
        target_right = is_right t stored.filled stored.sound target k;
        ordered = or_ordered t (block target) drawn.block drawn.on_table;
        inverted = stored.inverted;
        inverses_long = stored.inverses_long;
        nons = listed.nons source h;
        uniqs = listed.uniqs source h;
      }

-- what the judgement of the maps between two skeletons of the sheet asks
pub sides_asked : {t inverses : List ℕ} → Stored t inverses → AtomsListed t → {source target : ℕ} {s : Sides} → SidesOf t source target s
    → Asked s.table.now inverses s.source s.target
sides_asked stored listed q = rw (q.table, q.from, q.to) (is_asked stored listed q.there.from q.there.to)

pub prepared_for : {t : List ℕ} {source target : ℕ} {s : Sides} {p : Prepared} → SidesOf t source target s → IsPrepared p
    → p.sides.table.now ≡ s.table.now
    → p.sides.source ≡ s.source
    → p.sides.target ≡ s.target
    → PreparedFor t source target p
prepared_for q is e f g =
    record { prepared = is; table = e ∙ q.table; from = f ∙ q.from; to = g ∙ q.to; there = q.there }

-- the answers
module _ (t : List ℕ) (source target : ℕ) (map lent : List ℕ) where
  abbrev Ask : Answer Mapping → List ℕ → Type 0
  Ask = AskMap source target map lent (Verdict.accepted (sheet_in t))

  abbrev pair : Drawing × Drawing
  pair = (drawing t (block source), drawing t (block target))

  pub lacks_one : ((x : Drawing × Drawing) → ¬ HasSkeletons source target (sheet_in t) x) → Ask (refused (refusal 15)) lent
  unfolding AskMap
  lacks_one none = no_such none

  module _ (there : HasSkeletons source target (sheet_in t) pair) where
    pub short_room : length lent < byte t term_count → Ask (refused (refusal 16)) lent
    unfolding AskMap ImageRoom
    short_room l = too_short there (λ r. omega (arith, count_is t, r, l))

    module _ (room : byte t term_count ≤ length lent) where
      enough : ImageRoom source target map lent pair
      unfolding ImageRoom
      enough = omega (arith, count_is t, room)

      pub rule_broken : {images : List ℕ} {rule : Rule} → JudgedAs (rows_in t) (skeleton_in t source) (skeleton_in t target) map images (Err rule)
          → Ask (answered (breaks (rule_number rule))) lent
      unfolding AskMap meant
      rule_broken (JudgedAs.broken x) = said there enough (no_map x)

      pub is_a_map : {images after : List ℕ} → JudgedAs (rows_in t) (skeleton_in t source) (skeleton_in t target) map images (Ok tt)
          → Written (rows_in t) images lent after
          → Ask (answered is_map) after
      unfolding AskMap meant
      is_a_map (JudgedAs.holds {σ} k m) w =
          rw w.is (said there enough (yes_map k (images_written m (k.messages (omega arith)) w)))
