-- From what each atom is due to the skeleton's first fault. Assumes nothing.
use mathlib.Core.Path.{◌≡◌, sym, ◌∙◌}
use mathlib.Core.List.Memᴰ
use mathlib.Core.List.{List, Memᴰ}
use mathlib.Core.Logic.Iff
use mathlib.Core.Logic.{◌↔◌}
use mathlib.Core.Bool.{Bool, true, false, true≢false}
use Prim.Native.Nat.{ℕ, ◌+◌, ◌<◌, ◌≤◌}
use native.Mathlib.Omega.{arith}
use Rattle.std.specs.Prelude.{Result, Ok, Err}
use Rattle.terms.specs.declared.Term.{Term}
use Rattle.terms.specs.declared.TermSet.{TermSet}
use Rattle.terms.specs.Set.{mem, IsSetOf}
use Rattle.model.specs.declared.Reason.{Reason}
use Rattle.model.specs.Sheet.{Drawing, meant}
use Rattle.model.specs.Says.{number_of}
use Rattle.model.specs.Accepting.{Cyclic, NonRight, UniqRight, NonTurn, UniqTurn}
use Rattle.model.specs.Accepting as Accepting
use Rattle.model.specs.Table.{term}
use Rattle.model.specs.Lists.{upto}
use Rattle.theory.specs.Happenings.{before_means, before_meant}
use Rattle.tables.specs.Layout.{non_count, uniq_count}
use Rattle.tables.specs.Tables.{byte, rows_in, atoms_at, skeleton_at}
use Rattle.tables.specs.Drawn.{drawing, Drawn}
use Rattle.order.specs.Precedence.{Shows, Ordered}
use Rattle.order.specs.Matrix.{Looped}
use Rattle.order.proofs.Drawn.{cycle_looped, before_low}
use Rattle.rules.specs.declared.Fault.{Fault}
use Rattle.rules.specs.Judged.{NonAs, UniqAs, UniqsTurn, NonsAs, UniqsAs, JudgedAs, FineBelow, FirstAs, none, one}

-- Judged likewise

module _ (n : ℕ) (has : ℕ → Bool) (J : Term → Result (Unit {0}) Reason → Type 0) where
  -- what is judged likewise has the same first fault
  module _ (K : Term → Result (Unit {0}) Reason → Type 0) (says : (t : Term) (r : Result (Unit {0}) Reason) → t.0 < n → J t r → K t r) where
    fine_as : {i : ℕ} → (i ≤ n) → FineBelow n has J i → FineBelow n has K i
    fine_as low w = record { fine = λ t l h. says t (Ok tt) (omega arith) (w.fine t l h) }

    pub first_as : {r : Result (Unit {0}) Fault} → FirstAs n has J r → FirstAs n has K r
    first_as (none w) = none (fine_as (omega arith) w)
    first_as (one {f} t e l h due w) = one t e l h (says t (Err f.reason) l due) (fine_as (omega arith) w)

-- One atom

module _ {D : Drawing} {a : ℕ} where
  non_right : NonAs D a (Ok tt) → NonRight D a
  non_right (NonAs.fine right) = right

  uniq_right : UniqAs D a (Ok tt) → UniqRight D a
  uniq_right (UniqAs.fine right) = right

  non_fault : {r : Reason} → NonAs D a (Err r) → NonTurn D a → Accepting.Fault D (number_of r) a
  non_fault (NonAs.missing m) turn = Accepting.Fault.missing turn m
  non_fault (NonAs.carried m) turn = Accepting.Fault.carried turn m

  uniq_fault : {r : Reason} → UniqAs D a (Err r) → UniqTurn D a → Accepting.Fault D (number_of r) a
  uniq_fault (UniqAs.not_one m) turn = Accepting.Fault.not_one turn m
  uniq_fault (UniqAs.early o m) turn = Accepting.Fault.early turn o m

-- All atoms of a list, by the first of their set that is not fine

module _ {D : Drawing} {n : ℕ} {s : TermSet} where
  module _ (of : IsSetOf D.skeleton.non s) (low : (a : ℕ) → Memᴰ a D.skeleton.non → a < n) (acyclic : ¬ Cyclic (meant D)) where
    nons_below : {i : ℕ} → FineBelow n (mem s) (λ t x. NonAs D t.0 x) i → (a : ℕ) → Memᴰ a D.skeleton.non → a < i → NonRight D a
    nons_below w a m l = non_right (w.fine (record { 0 = a }) l ((of.at a).1 m))

    pub nons_judged : {r : Result (Unit {0}) Fault} → FirstAs n (mem s) (λ t x. NonAs D t.0 x) r → NonsAs D r
    nons_judged (none w) = NonsAs.right (λ a m. nons_below w a m (low a m))
    nons_judged (one {f} t e l h due w) =
        let turn : NonTurn D t.0 = record { acyclic = acyclic; listed = (of.at t.0).0 h; lower = nons_below w } in
        NonsAs.faulty (rw e (non_fault due turn))

  module _ (of : IsSetOf D.skeleton.uniq s) (low : (a : ℕ) → Memᴰ a D.skeleton.uniq → a < n) (turn : UniqsTurn D) where
    uniqs_below : {i : ℕ} → FineBelow n (mem s) (λ t x. UniqAs D t.0 x) i → (a : ℕ) → Memᴰ a D.skeleton.uniq → a < i
        → UniqRight D a
    uniqs_below w a m l = uniq_right (w.fine (record { 0 = a }) l ((of.at a).1 m))

    pub uniqs_judged : {r : Result (Unit {0}) Fault} → FirstAs n (mem s) (λ t x. UniqAs D t.0 x) r → UniqsAs D r
    uniqs_judged (none w) = UniqsAs.right (λ a m. uniqs_below w a m (low a m))
    uniqs_judged (one {f} t e l h due w) =
        let its : UniqTurn D t.0 =
        record { acyclic = turn.acyclic; nons = turn.nons; listed = (of.at t.0).0 h; lower = uniqs_below w } in
        UniqsAs.faulty (rw e (uniq_fault due its))

-- There are none

module _ (t : List ℕ) (b : ℕ) where
  pub nons_none : byte t (b + non_count) ≡ 0 → NonsAs (drawing t b) (Ok tt)
  unfolding skeleton_at atoms_at upto
  nons_none e = NonsAs.right (λ a m. absurd (Memᴰ.not-nil (rw e at m)))

  pub uniqs_none : byte t (b + uniq_count) ≡ 0 → UniqsAs (drawing t b) (Ok tt)
  unfolding skeleton_at atoms_at upto
  uniqs_none e = UniqsAs.right (λ a m. absurd (Memᴰ.not-nil (rw e at m)))

-- The whole skeleton

module _ {D : Drawing} where
  pub nons_right : NonsAs D (Ok tt) → ¬ Cyclic (meant D) → UniqsTurn D
  nons_right (NonsAs.right f) acyclic = record { acyclic = acyclic; nons = f }

  pub nons_fault : {f : Fault} → NonsAs D (Err f) → JudgedAs D (Err f)
  nons_fault (NonsAs.faulty w) = JudgedAs.faulty w

  pub all_judged : {r : Result (Unit {0}) Fault} → UniqsTurn D → UniqsAs D r → JudgedAs D r
  all_judged turn (UniqsAs.right f) = JudgedAs.right (record { acyclic = turn.acyclic; nons = turn.nons; uniqs = f })
  all_judged turn (UniqsAs.faulty w) = JudgedAs.faulty w

-- precedence has a cycle where the matrix has one
module _ {t : List ℕ} {b : ℕ} {m : List ℕ} (ready : Drawn t b) (ordered : Ordered t b) (shows : Shows (skeleton_at t b) m) where
  cycle_iff : Looped m ↔ Cyclic (meant (drawing t b))
  unfolding meant
  cycle_iff =
      Iff.trans (cycle_looped shows (before_low t b ready.block ordered)) (
        λ c. record { node = c.node; cycle = before_means (term (rows_in t)) (skeleton_at t b) c.cycle },
        λ c. record { node = c.node; cycle = before_meant (term (rows_in t)) (skeleton_at t b) c.cycle },
      )

  pub a_cycle : {r : Bool} → (r ≡ true) ↔ Looped m → r ≡ true
      → JudgedAs (drawing t b) (Err (record { reason = Reason.Cycle; place = 0 }))
  a_cycle w e = JudgedAs.faulty (Accepting.Fault.a_cycle (cycle_iff.0 (w.0 e)))

  pub no_cycle : {r : Bool} → (r ≡ true) ↔ Looped m → r ≡ false → ¬ Cyclic (meant (drawing t b))
  no_cycle w e c = true≢false (sym (w.1 (cycle_iff.1 c)) ∙ e)
