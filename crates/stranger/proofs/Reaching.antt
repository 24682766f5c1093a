-- A closed set is what the stranger reaches: by the rules on numbers, and so of all that is derivable over all terms.
use mathlib.Core.Path.{◌≡◌, refl, sym, ◌∙◌}
use mathlib.Core.Bool.{Bool, true, or-true}
use mathlib.Core.List.Memᴰ
use mathlib.Core.List.{List, [], Memᴰ}
use mathlib.Core.Logic.{◌↔◌, ⊎_elim}
use Prim.Native.Nat.{ℕ, ◌<◌, zero-le}
use native.Mathlib.Omega.{arith}
use lib.Dec.{T, ltb}
use lib.ListN.{length}
use borrow.Author.Tests.{lt-ltb, ltb-true}
use Rattle.terms.specs.declared.TermSet.{TermSet}
use Rattle.terms.specs.Set.{mem}
use Rattle.model.specs.Term.{Term, atom}
use Rattle.model.specs.Table.{Row, row, term}
use Rattle.model.specs.Derive.{Derivable}
use Rattle.model.proofs.SkeletonLaws.{derivable_mono}
use Rattle.tables.proofs.Look.{count_is}
use Rattle.theory.specs.Each.{Each, each_nil, each_cons, each_append}
use Rattle.theory.specs.GoodTable.{Good}
use Rattle.theory.specs.Reach.{inverse_at}
use Rattle.theory.proofs.Reach.{row_rules, sent_rules, table_rules, NumberSent, NumberWithheld, reached_iff_derivable}
use Rattle.theory.specs.RowRules.{of_row, each_row}
use Rattle.theory.specs.Rules.{Rule, ◌⊢◌, Reached, by}
use Rattle.tables.specs.Layout.{term_count}
use Rattle.tables.specs.Tables.{byte, rows_in, Filled}
use Rattle.keys.specs.Inverted.{Inverted}
use Rattle.theory.specs.Tests.{both_true}
use Rattle.stranger.specs.Reaches.{Named, Reaches}
use Rattle.stranger.specs.Moves.{free, starts, Starts, moves_at, Moves}
use Rattle.stranger.specs.Steps.{Has, Ready, Closure}
use Rattle.stranger.proofs.Passing.{passing, all_pass, is_passing, sent_each, is_sent}
use Rattle.stranger.proofs.Steps.{or_cases}
use Rattle.stranger.proofs.Tables.{given_rule, each_cond, row_rules_at, moves_below}

-- The sets name the terms that lists of numbers name

true_T : (b : Bool) → b ≡ true → T b
true_T b e = rw e tt

T_true : (b : Bool) → T b → b ≡ true
T_true true h = refl
T_true mathlib.Core.Bool.false h = elim h [ ]

module _ (rows : List Row) (sent withheld : TermSet) {n : ℕ} (e : length rows ≡ n) where
  to_numbers : {x : Term} → Derivable (Named rows sent) (λ a. Named rows withheld (atom a)) x
      → Derivable (NumberSent rows (passing (mem sent) n)) (NumberWithheld rows (mem withheld)) x
  to_numbers =
      derivable_mono _ _ _ _
      (λ x h. record {
        which = h.which;
        listed = is_passing (mem sent) n h.which (omega (arith, h.inside)) h.member;
        means = h.means;
      })
      (λ a h. record { which = h.which; inside = h.inside; member = T_true _ h.held; means = h.means })

  from_numbers : {x : Term} → Derivable (NumberSent rows (passing (mem sent) n)) (NumberWithheld rows (mem withheld)) x
      → Derivable (Named rows sent) (λ a. Named rows withheld (atom a)) x
  from_numbers =
      derivable_mono _ _ _ _
      (λ x h. let p = all_pass (mem sent) n h.which h.listed in record {
        which = h.which;
        inside = omega (arith, p.below);
        member = p.passed;
        means = h.means;
      })
      (λ a h. record { which = h.which; inside = h.inside; held = true_T _ h.member; means = h.means })

-- The rules of a table

module _ {t v : List ℕ} (filled : Filled t) (good : Good (rows_in t)) (inverted : Inverted (rows_in t) v)
    (sent withheld : TermSet) where
  abbrev n : ℕ
  n = byte t term_count

  abbrev sents : List ℕ
  sents = passing (mem sent) n

  abbrev of_row_at : ℕ → Row → List Rule
  of_row_at = row_rules (mem withheld) (inverse_at (rows_in t))

  abbrev rules : List Rule
  rules = table_rules (rows_in t) (mem withheld) sents

  inside : {i : ℕ} → i < n → i < length (rows_in t)
  inside h = rw (count_is t) h

  -- what holds of what is sent, of what is free and of each term's moves holds of all
  all_rules : (P : Rule → Type 0) → ((i : ℕ) → i < n → mem sent i ≡ true → P (◌⊢◌ [] i))
      → ((i : ℕ) → i < n → free (byte t i) (mem withheld i) ≡ true → P (◌⊢◌ [] i))
      → ((i : ℕ) → i < n → Each P (moves_at t v i))
      → Each P rules
  unfolding table_rules given_rule
  all_rules P f g m =
      each_append P (sent_rules sents)
      (sent_each P sents (λ i h. let p = all_pass (mem sent) n i h in f i p.below p.passed))
      (each_row of_row_at P (rows_in t) 0
      (λ i p e h.
      let z : p ≡ i = omega arith in
      let l : i < n = omega (arith, count_is t) in
      rw (z, row_rules_at filled good {v = v} (mem withheld) i inverted l)
      (each_append P (given_rule i (byte t i) (mem withheld i))
      (each_cond P _ (λ e. each_cons P (g i l e) (each_nil P)) (λ e. each_nil P)) (m i l))))

  -- a rule of a term's row is a rule
  of_term : {q : Rule} (i : ℕ) → i < n → Memᴰ q (of_row_at i (row (rows_in t) i)) → Memᴰ q rules
  unfolding table_rules
  of_term i h m = Memᴰ.append_right (sent_rules sents) (of_row of_row_at (rows_in t) 0 i i (omega arith) (inside h) m)

  sent_reached : (k : ℕ) → k < n → mem sent k ≡ true → Reached rules k
  unfolding table_rules
  sent_reached k h e = by (Memᴰ.append_left _ (is_sent sents (is_passing (mem sent) n k h e))) (each_nil (Reached rules))

  free_reached : (k : ℕ) → k < n → free (byte t k) (mem withheld k) ≡ true → Reached rules k
  unfolding given_rule
  free_reached k h e =
      by {r = ◌⊢◌ [] k}
      (of_term k h (rw (row_rules_at filled good {v = v} (mem withheld) k inverted h, e) (Memᴰ.head refl)))
      (each_nil (Reached rules))

  move_listed : (q : Rule) → Moves t v q → Memᴰ q rules
  move_listed q x =
      of_term x.of x.to
      (rw (row_rules_at filled good {v = v} (mem withheld) x.of inverted x.to)
      (Memᴰ.append_right (given_rule x.of (byte t x.of) (mem withheld x.of)) x.in_list))

  reached_below : {k : ℕ} → Reached rules k → k < n
  reached_below (by {r = q} m f) = all_rules (λ q. q.gives < n) (λ i h _. h) (λ i h _. h) (moves_below filled good v) q m

  decided : (i : ℕ) → i < length (rows_in t)
      → Reached rules i
      ↔ Derivable (NumberSent (rows_in t) sents) (NumberWithheld (rows_in t) (mem withheld)) (term (rows_in t) i)
  decided = reached_iff_derivable (rows_in t) good (mem withheld) sents (λ i m. inside (all_pass (mem sent) n i m).below)

  -- A closed set

  module _ {s : List ℕ} {r : TermSet} (begun : Starts t sent withheld n s) (closed : Closure (Moves t v) s r.words) where
    started : (i : ℕ) → i < n → starts t sent withheld i ≡ true → Has r.words i
    started i h e = closed.grown.grows i (begun.at i ∙ rw (lt-ltb i n h, e))

    reached_had : {k : ℕ} → Reached rules k → Has r.words k
    reached_had (by {r = q} m f) =
        all_rules (λ q. Ready r.words q → Has r.words q.gives)
        (λ i h e _. started i h (rw e))
        (λ i h e _. started i h (rw e (or-true (mem sent i))))
        (λ i h p m. closed.closed p (record { of = i; from = zero-le; to = h; in_list = m }))
        q m (λ j k. reached_had (f j k))

    start_reached : (k : ℕ) → Has s k → Reached rules k
    start_reached k h =
        let (l, e) = both_true (ltb k n) (starts t sent withheld k) (sym (begun.at k) ∙ h) in
        let low : k < n = ltb-true k n l in
        ⊎_elim (sent_reached k low) (free_reached k low) (or_cases (mem sent k) (free (byte t k) (mem withheld k)) e)

    had_reached : (k : ℕ) → Has r.words k → Reached rules k
    had_reached = closed.grown.only rules move_listed start_reached

    -- THE CLOSED SET IS THE REACH
    pub reaches : Reaches (rows_in t) sent withheld r
    reaches =
        record {
          at = λ i. (
            λ h. let k = had_reached i h in
                let l = inside (reached_below k) in
                (l, from_numbers (rows_in t) sent withheld (count_is t) ((decided i l).0 k)),
            λ p. reached_had ((decided i p.0).1 (to_numbers (rows_in t) sent withheld (count_is t) p.1)),
          );
        }
