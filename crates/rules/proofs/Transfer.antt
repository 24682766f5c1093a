-- From sets of numbers to the skeleton rules: what is carried, what is missing, where a term originates. Assumes nothing.
use mathlib.Core.Path.{◌≡◌, refl, ap, ◌∙◌, sym as back}
use mathlib.Core.Bool.{true, false, true≢false}
use mathlib.Core.Logic.{◌↔◌}
use mathlib.Core.List.{List}
use Prim.Native.Nat.{ℕ, ◌<◌}
use lib.Dec.{eqb}
use lib.ListN.{length}
use borrow.Author.Tests.{eqb-true, eq-eqb}
use Rattle.terms.specs.declared.TermSet.{TermSet}
use Rattle.terms.specs.Set.{mem}
use Rattle.model.specs.Term.{Term}
use Rattle.model.specs.Carry.{Carries, Occurs}
use Rattle.model.specs.Table.{Row, term}
use Rattle.model.specs.Skeleton.{Event, send, message, on_message, Node, Skeleton, At, means}
use Rattle.model.specs.Events.{Origin, InSomeEvent}
use Rattle.model.specs.Accepting.{Carried, Missing}
use Rattle.theory.specs.Tests.{bool_false}
use Rattle.theory.specs.GoodTable.{Good}
use Rattle.theory.specs.Happenings.{at_means, at_meant}
use Rattle.theory.specs.OnSheet.{OnSheet}
use Rattle.theory.proofs.Occurring.{occurs_on}
use Rattle.theory.specs.OnTable.{OnTable}
use Rattle.theory.specs.Happenings.{send_means, message_means}
use Rattle.carry.specs.Sets.{IsCarriers, IsCarried, IsParts, IsVariables, InMember}
use Rattle.origin.specs.Marked.{FirstSent, IsMessages}

module _ (rows : List Row) (good : Good rows) (K : Skeleton ℕ) (ok : OnTable rows K) where
  abbrev L : Skeleton Term
  L = means (term rows) K

  abbrev says : (e : Event ℕ) → message (on_message (term rows) e) ≡ term rows (message e)
  says = message_means (term rows)

  -- an event of the drawing, by its number
  pub record EventOf (n : Node) (d : Event Term) : Type 0 where
    pub event : Event ℕ
    pub at : At K n event
    pub says_it : term rows (message event) ≡ message d

  pub event_of : {n : Node} {d : Event Term} → At L n d → EventOf n d
  event_of a =
      let (e, b, q) = at_meant (term rows) K a in
      record { event = e; at = b; says_it = back (says e) ∙ ap message q }

  -- 11: some message carries the atom
  module _ (t : ℕ) (inside : t < length rows) (C M : TermSet) (carried : IsCarried rows M C) (messages : IsMessages K M) where
    pub carried_iff : (mem C t ≡ true) ↔ Carried L (term rows t)
    carried_iff = (there, back_again)
      where
        there : mem C t ≡ true → Carried L (term rows t)
        there h =
            let w = ((carried.shows.at t).0 h).1 in
            let (n, e, a, q) = messages.only w.which w.member in
            let c : Carries (term rows t) (term rows w.which) = w.carries in
            record { node = n; event = on_message (term rows) e; at = at_means (term rows) K a; carries = rw (says e, q) c }

        back_again : Carried L (term rows t) → mem C t ≡ true
        back_again c =
            let e = event_of c.at in
            let m : ℕ = message e.event in
            let l : m < length rows = ok.messages _ _ e.at in
            (carried.shows.at t).1 (
              inside,
              record {
                which = m;
                inside = l;
                member = messages.has _ _ e.at;
                carries = rw e.says_it c.carries;
              },
            )

  -- what occurs in some event occurs in some message
  module _ (M : TermSet) (messages : IsMessages K M) where
    pub in_some_event : (u : Term) → InMember rows M u ↔ InSomeEvent L u
    in_some_event u = (there, back_again)
      where
        there : InMember rows M u → InSomeEvent L u
        there i =
            let (n, e, a, q) = messages.only i.which i.member in
            record {
              node = n;
              event = on_message (term rows) e;
              at = at_means (term rows) K a;
              occurs = rw (says e, q) i.occurs;
            }

        back_again : InSomeEvent L u → InMember rows M u
        back_again i =
            let e = event_of i.at in
            record {
              which = message e.event;
              inside = ok.messages _ _ e.at;
              member = messages.has _ _ e.at;
              occurs = rw e.says_it i.occurs;
            }

    -- 14: a variable of the atom is in no event
    module _ (t : ℕ) (t_inside : t < length rows) (one P X H : TermSet) (alone : (k : ℕ) → mem one k ≡ eqb k t)
        (parts : IsParts rows one P) (variables : IsVariables rows X) (heard : IsParts rows M H) where
      pub record Lost : Type 0 where
        pub which : ℕ
        pub part : mem P which ≡ true
        pub variable : mem X which ≡ true
        pub unheard : mem H which ≡ false

      in_atom : (u : Term) → InMember rows one u → Occurs u (term rows t)
      in_atom u i = let e : i.which ≡ t = eqb-true i.which t (back (alone i.which) ∙ i.member) in rw e at i.occurs

      pub lost_iff : Lost ↔ Missing L (term rows t)
      lost_iff = (there, back_again)
        where
          there : Lost → Missing L (term rows t)
          there l =
              let (h, i) = (parts.shows.at l.which).0 l.part in
              record {
                part = term rows l.which;
                variable = ((variables.shows.at l.which).0 l.variable).1;
                occurs = in_atom (term rows l.which) i;
                in_no_event = λ e.
                    let m : InMember rows M (term rows l.which) = (in_some_event (term rows l.which)).1 e in
                    true≢false (back ((heard.shows.at l.which).1 (h, m)) ∙ l.unheard);
              }

          back_again : Missing L (term rows t) → Lost
          back_again m =
              let s : OnSheet rows m.part =
              occurs_on rows good m.occurs (record { which = t; inside = t_inside; means = refl }) in
              let e : term rows s.which ≡ m.part = s.means in
              record {
                which = s.which;
                part = (parts.shows.at s.which).1 (
                  s.inside,
                  record {
                    which = t;
                    inside = t_inside;
                    member = alone t ∙ eq-eqb t t refl;
                    occurs = rw e m.occurs;
                  },
                );
                variable = (variables.shows.at s.which).1 (s.inside, rw e m.variable);
                unheard = bool_false (mem H s.which) (λ h.
                    m.in_no_event ((in_some_event m.part).0 (rw e at ((heard.shows.at s.which).0 h).1)));
              }

  -- where the term originates
  module _ (t : ℕ) (C : TermSet) (carriers : IsCarriers rows t C) where
    marked : {n : Node} {e : Event ℕ} → At K n e → (mem C (message e) ≡ true) ↔ Carries (term rows t) (term rows (message e))
    marked {n} {e} a =
        (λ h. ((carriers.shows.at (message e)).0 h).1, λ c. (carriers.shows.at (message e)).1 (ok.messages _ _ a, c))

    unmarked : {n : Node} {e : Event ℕ} → At K n e → mem C (message e) ≡ false → ¬ Carries (term rows t) (term rows (message e))
    unmarked a f c = true≢false (back ((marked a).1 c) ∙ f)

    pub origin_iff : (n : Node) → FirstSent K (mem C) n ↔ Origin L (term rows t) n
    unfolding message on_message
    origin_iff n = (there, back_again)
      where
        there : FirstSent K (mem C) n → Origin L (term rows t) n
        there f =
            record {
              said = term rows f.said;
              at = at_means (term rows) K f.at;
              carries = (marked f.at).0 f.marked;
              first = λ p e l a c.
                  let d = event_of a in
                  unmarked d.at (f.first p d.event l d.at) (rw d.says_it c);
            }

        back_again : Origin L (term rows t) n → FirstSent K (mem C) n
        back_again o =
            let (e, a, q) = at_meant (term rows) K o.at in
            let (u, z, y) = send_means (term rows) e q in
            let b : At K n (send u) = rw z at a in
            record {
              said = u;
              at = b;
              marked = (marked b).1 (rw y o.carries);
              first = λ p d l x.
                  bool_false (mem C (message d)) (λ h.
                  o.first p (on_message (term rows) d) l (at_means (term rows) K x) (rw (says d) ((marked x).0 h)));
            }
