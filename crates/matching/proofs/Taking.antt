-- Map rule 3 says that the wishes of the map are granted, and the pass decides it.
use mathlib.Core.Path.{◌≡◌, refl, ap, ◌∙◌, sym as back}
use mathlib.Core.Bool.{Bool, true, false, true≢false}
use mathlib.Core.List.{List, Memᴰ}
use mathlib.Core.Option.{none, some}
use Prim.Native.Nat.{ℕ, ◌+◌, ◌≤◌, ◌<◌}
use native.Mathlib.Omega.{arith}
use native.Mathlib.Decide.{ℕ_discrete}
use lib.ListN.{length, get_or}
use Rattle.model.specs.Term.{Term}
use Rattle.model.specs.Carry.{Occurs, here}
use Rattle.model.specs.Subst.{Subst, apply}
use Rattle.model.specs.Table.{Row, term}
use Rattle.model.specs.Skeleton.{Event, send, recv, message, Node, Skeleton, At, means, on_message}
use Rattle.model.specs.Events.{InSomeEvent}
use Rattle.model.specs.Maps.{move, Rule3}
use Rattle.tables.proofs.Look.{count_is}
use Rattle.theory.specs.Each.{Each}
use Rattle.theory.specs.Places.{not_there}
use Rattle.theory.specs.Parts.{occurs_after}
use Rattle.theory.specs.Substituting.{agree}
use Rattle.theory.specs.Happenings.{at_means, at_meant}
use Rattle.theory.specs.Matching.{Wish, Granted}
use Rattle.tables.specs.Layout.{strand_count, heights, term_count}
use Rattle.tables.specs.Tables.{byte, rows_in, skeleton_at}
use Rattle.tables.proofs.Nodes.{at_stands, said_at}
use Rattle.matching.specs.Matches.{Laid, Takes, Matches}
use Rattle.tables.specs.Drawn.{Drawn}
use Rattle.matching.specs.Pass.{and_then, demands, pass, part_wishes, wishes, Ends}
use Rattle.matching.proofs.Nodes.{said, event_at, source_low, target_low, in_wishes, each_wish}
use Rattle.matching.proofs.Occurrences.{part_occurs, goes_down}
use Rattle.matching.proofs.Decided.{Blank, Posed, outcome, asked_low, args_low, only, has_outcome}
use Rattle.matching.proofs.Decided.{found, found_takes, found_grants}

message_means : (f : ℕ → Term) (e : Event ℕ) → message (on_message f e) ≡ f (message e)
unfolding message on_message
message_means f (send t) = refl
message_means f (recv t) = refl

module _ {t : List ℕ} {a b : ℕ} (A : Drawn t a) (B : Drawn t b)
    {map : List ℕ} (laid : Laid t a b map) where
  abbrev rows : List Row
  rows = rows_in t

  abbrev asked : List Wish
  asked = wishes t a b map

  abbrev to : ℕ → ℕ
  to s = get_or map s 0

  abbrev A' : Skeleton Term
  A' = means (term rows) (skeleton_at t a)

  abbrev B' : Skeleton Term
  B' = means (term rows) (skeleton_at t b)

  -- where an event of a skeleton lies, and what it says
  record Found (c : ℕ) (n : Node) (e : Event Term) : Type 0 where
    strand : n.strand < byte t (c + strand_count)
    position : n.position < byte t (c + heights + n.strand)
    says : message e ≡ term rows (said t c n.strand n.position)

  find : (c : ℕ) (n : Node) (e : Event Term) → At (means (term rows) (skeleton_at t c)) n e → Found c n e
  find c n e h =
      let (d, i, q) = at_meant (term rows) (skeleton_at t c) h in
      let l = (at_stands t c i).there in
      let says = ap message (back q) ∙ (message_means (term rows) d ∙ ap (term rows) (said_at t c i)) in
      record { strand = l.strand; position = l.position; says = says }

  grants_takes : (σ : Subst) → Each (Granted rows A.good σ) asked → Takes rows (skeleton_at t a) (skeleton_at t b) map σ
  unfolding Rule3
  grants_takes σ g n e d x y =
      let f = find a n e x in
      let h = find b (move to n) d y in
      let l : n.strand < length map = rw laid.full f.strand in
      let w = g _ (in_wishes A B laid n.strand l n.position f.position) in
      ap (apply σ) f.says ∙ (w.is ∙ back h.says)

  takes_grants : (σ : Subst) → Takes rows (skeleton_at t a) (skeleton_at t b) map σ → Each (Granted rows A.good σ) asked
  unfolding Rule3
  takes_grants σ r =
      each_wish A B laid (Granted rows A.good σ) λ s p h k.
      let (e, x, q) = event_at t a s p (rw (← laid.full) h) k in
      let (d, y, z) = event_at t b (to s) p (laid.inside s h) (omega (arith, laid.high s h)) in
      let n : Node = record { strand = s; position = p } in
      let i = r n _ _ (at_means (term rows) (skeleton_at t a) x) (at_means (term rows) (skeleton_at t b) y) in
      record {
        from = source_low A B laid s h p k;
        to = target_low A B laid s h p k;
        is = rw (message_means (term rows) e, message_means (term rows) d, q, z) at i;
      }

  inside : Each (λ w. (w.0 < length rows) × (w.1 < length rows)) asked
  inside =
      each_wish A B laid _ λ s p h k.
      (source_low A B laid s h p k, target_low A B laid s h p k)

  few : length rows ≤ 200
  few = rw (count_is t) A.filled.terms

  -- A term that occurs in a source event, by a wish for what it occurs in

  record Source (i : ℕ) : Type 0 where
    wish : Wish
    listed : Memᴰ wish asked
    occurs : Occurs (term rows i) (term rows wish.0)

  source : (i : ℕ) → InSomeEvent A' (term rows i) → Source i
  source i g =
      let f = find a g.node g.event g.at in
      let l : g.node.strand < length map = rw laid.full f.strand in
      record {
        wish = (said t a g.node.strand g.node.position, said t b (to g.node.strand) g.node.position);
        listed = in_wishes A B laid g.node.strand l g.node.position f.position;
        occurs = rw f.says at g.occurs;
      }

  sources : Each (λ w. InSomeEvent A' (term rows w.0)) asked
  sources =
      each_wish A B laid _ λ s p h k.
      let (e, x, q) = event_at t a s p (rw (← laid.full) h) k in
      record {
        node = record { strand = s; position = p };
        event = on_message (term rows) e;
        at = at_means (term rows) (skeleton_at t a) x;
        occurs = rw (message_means (term rows) e, q) here;
      }

  in_args : (p u : ℕ) → p < length rows → InSomeEvent A' (term rows p)
      → Each (λ w. w.0 < length rows → InSomeEvent A' (term rows w.0)) (part_wishes rows p u)
  in_args p u h g w m k =
      let o = part_occurs rows A.good p u h w m k in
      record { node = g.node; event = g.event; at = g.at; occurs = occurs_after o g.occurs }

  module _ {l : List ℕ} (blank : Blank l) where
    abbrev posed : Posed rows asked l
    posed = record { good = A.good; few = few; inside = inside; blank = blank }

    module _ {m : List ℕ} (e : outcome posed ≡ some m) where
      has_image : (i : ℕ) → i < length rows → InSomeEvent A' (term rows i) → byte m i < length rows
      has_image i h g =
          let s = source i g in
          goes_down rows A.good (λ p. byte m p < length rows) (byte m) (args_low posed e) i h
          s.wish.0 (inside s.wish s.listed).0 s.occurs (asked_low posed e s.wish s.listed)

      same : (τ : Subst) → Takes rows (skeleton_at t a) (skeleton_at t b) map τ → (i : ℕ) → i < length rows
          → InSomeEvent A' (term rows i) → term rows (byte m i) ≡ apply τ (term rows i)
      same τ k i h g =
          let s = source i g in
          let mine = found_grants posed e s.wish s.listed in
          let other = takes_grants τ k s.wish s.listed in
          back (found_takes posed e i h (has_image i h g)) ∙ agree (found posed e) τ s.occurs (mine.is ∙ back other.is)

      nowhere : (i : ℕ) → i < length rows → ¬ InSomeEvent A' (term rows i) → byte m i ≡ 255
      nowhere i h n = go (ℕ_discrete (byte m i) 255)
        where
          go : Dec (byte m i ≡ 255) → byte m i ≡ 255
          go (yes z) = z
          go (no z) = absurd (n (only posed e (λ p. InSomeEvent A' (term rows p)) sources in_args i h z))

      taken : Matches rows (skeleton_at t a) (skeleton_at t b) map m true
      taken =
          record {
            holds = (λ _. (found posed e, grants_takes (found posed e) (found_grants posed e)), λ _. refl);
            inside = λ _. has_image;
            image = λ _. same;
            elsewhere = λ _. nowhere;
          }

    refused : {m : List ℕ} → outcome posed ≡ none → Matches rows (skeleton_at t a) (skeleton_at t b) map m false
    refused e =
        record {
          holds = (
            λ z. absurd (true≢false (back z)),
            λ (σ, k). let (x, q) = has_outcome posed σ (takes_grants σ k) in absurd (not_there (back e ∙ q)),
          );
          inside = λ z. absurd (true≢false (back z));
          image = λ z. absurd (true≢false (back z));
          elsewhere = λ z. absurd (true≢false (back z));
        }

    -- THE OUTCOME OF THE PASS IS MAP RULE 3
    pub decided : {m : List ℕ} {r : Bool} → Ends (and_then (demands asked l) (pass rows (byte t term_count))) m r
        → Matches rows (skeleton_at t a) (skeleton_at t b) map m r
    decided {r = true} e = taken (rw (count_is t) e.gives)
    decided {r = false} e = refused (rw (count_is t) e.gives)
