-- "Repeated OR, NO and UO records are harmless": of each list only its members count, not how often and where they stand in it.
use Rattle.std.specs.Prelude.{◌≡◌, ◌↔◌, ℕ}
use Rattle.std.proofs.Common.{ap, sym as back, ⊎_elim}
use Rattle.std.proofs.Math.Logic.{⊎_map}
use mathlib.Core.List.Memᴰ
use mathlib.Core.List.{List, [], ◌∷◌, ◌++◌, map, Memᴰ}
use Rattle.model.specs.Term.{Atom, Term, atom}
use Rattle.model.specs.Subst.{Subst}
use Rattle.model.specs.Table.{Row, term}
use Rattle.model.specs.Skeleton.{Event, Node, Skeleton, At, on_message, means}
use Rattle.model.specs.Events.{Before, next, listed, chain, Origin, InSomeEvent}
use Rattle.model.specs.Derive.{SentBefore, Withheld, DerivableBefore, Realized}
use Rattle.model.specs.Sheet.{Drawing, meant}
use Rattle.model.specs.Accepting.{Cyclic, Carried, OriginatesOn, OneStrand, Early, Missing, NonRight, UniqRight, Right, NonTurn, UniqTurn, Fault, a_cycle, missing, carried, not_one, early}
use Rattle.model.specs.Maps.{Rule2, Rule3, Rule4, Rule5, Rule6, Kept}
use Rattle.model.proofs.SkeletonLaws.{derivable_mono}

pub record SameMembers {A : Type 0} (l m : List A) : Type 0 where
  pub there : (x : A) → Memᴰ x l → Memᴰ x m
  pub and_back : (x : A) → Memᴰ x m → Memᴰ x l

-- the same strands, and lists with the same members
pub record Repeats {M : Type 0} (K L : Skeleton M) : Type 0 where
  pub strands : K.strands ≡ L.strands
  pub order : SameMembers K.order L.order
  pub non : SameMembers K.non L.non
  pub uniq : SameMembers K.uniq L.uniq

-- a record once more is one case of it
pub repeated : {A : Type 0} (l : List A) {x : A} → Memᴰ x l → SameMembers l (l ++ (x ∷ []))
repeated l {x} again =
    record {
      there = λ y m. Memᴰ.append_left (x ∷ []) m;
      and_back = λ y m. ⊎_elim (λ k. k) (λ k. Memᴰ.cast (Memᴰ.eq_of_singleton k) again) (Memᴰ.append_cases l m);
    }

turned : {A : Type 0} {l m : List A} → SameMembers l m → SameMembers m l
turned s = record { there = s.and_back; and_back = s.there }

turn : {M : Type 0} {K L : Skeleton M} → Repeats K L → Repeats L K
turn r = record { strands = back r.strands; order = turned r.order; non = turned r.non; uniq = turned r.uniq }

on_members : {A B : Type 0} (f : A → B) {l m : List A} → SameMembers l m → (y : B) → Memᴰ y (map f l)
    → Memᴰ y (map f m)
on_members f {l} s y k = let (x, h, e) = Memᴰ.of_map f l k in Memᴰ.cast (back e) (Memᴰ.map f (s.there x h))

-- with terms in place of their numbers
pub repeats_meant : {M N : Type 0} (f : M → N) {K L : Skeleton M} → Repeats K L → Repeats (means f K) (means f L)
unfolding means
repeats_meant f r =
    record {
      strands = ap (map (map (on_message f))) r.strands;
      order = r.order;
      non = record { there = on_members f r.non; and_back = on_members f (turned r.non) };
      uniq = record { there = on_members f r.uniq; and_back = on_members f (turned r.uniq) };
    }

-- From one to the other

module _ (K L : Skeleton Term) (r : Repeats K L) where
  at_there : {n : Node} {e : Event Term} → At K n e → At L n e
  at_there h = record { is = rw (← r.strands) h.is }

  before_there : {m n : Node} → Before K m n → Before L m n
  before_there (next h) = next (rw r.strands at h)
  before_there (listed m) = listed (r.order.there _ m)
  before_there (chain p q) = chain (before_there p) (before_there q)

  in_event_there : {t : Term} → InSomeEvent K t → InSomeEvent L t
  in_event_there h = record { node = h.node; event = h.event; at = at_there h.at; occurs = h.occurs }

module _ (K L : Skeleton Term) (r : Repeats K L) where
  origin_there : {t : Term} {n : Node} → Origin K t n → Origin L t n
  origin_there o =
      record {
        said = o.said;
        at = at_there K L r o.at;
        carries = o.carries;
        first = λ p e l h. o.first p e l (at_there L K (turn r) h);
      }

  withheld_there : (a : Atom) → Withheld K a → Withheld L a
  unfolding Withheld
  withheld_there a =
      ⊎_map (r.non.there (atom a))
      (λ g. record { listed = r.uniq.there (atom a) g.listed; node = g.node; origin = origin_there g.origin })

  sent_there : (n : Node) (t : Term) → SentBefore K n t → SentBefore L n t
  sent_there n t h = record { sender = h.sender; at = at_there K L r h.at; before = before_there K L r h.before }

-- the rules of skeletons
module _ (K L : Skeleton Term) (r : Repeats K L) where
  derivable_there : (n : Node) (t : Term) → DerivableBefore K n t → DerivableBefore L n t
  unfolding DerivableBefore
  derivable_there n t =
      derivable_mono (SentBefore K n) (SentBefore L n) (Withheld K) (Withheld L) (sent_there K L r n)
      (withheld_there L K (turn r))

  realized_there : Realized K → Realized L
  unfolding Realized
  realized_there h n t a = derivable_there n t (h n t (at_there L K (turn r) a))

  cyclic_there : Cyclic K → Cyclic L
  cyclic_there c = record { node = c.node; cycle = before_there K L r c.cycle }

  carried_there : {t : Term} → Carried K t → Carried L t
  carried_there c = record { node = c.node; event = c.event; at = at_there K L r c.at; carries = c.carries }

  originates_there : {t : Term} {i : ℕ} → OriginatesOn K t i → OriginatesOn L t i
  originates_there o = record { position = o.position; origin = origin_there K L r o.origin }

  early_there : {t : Term} → Early K t → Early L t
  early_there e =
      record {
        source = e.source;
        origin = origin_there K L r e.origin;
        node = e.node;
        heard = e.heard;
        at = at_there K L r e.at;
        carries = e.carries;
        not_after = λ b. e.not_after (before_there L K (turn r) b);
      }

  missing_there : {t : Term} → Missing K t → Missing L t
  missing_there m =
      record {
        part = m.part;
        variable = m.variable;
        occurs = m.occurs;
        in_no_event = λ h. m.in_no_event (in_event_there L K (turn r) h);
      }

module _ (K L : Skeleton Term) (r : Repeats K L) where
  one_strand_there : {t : Term} → OneStrand K t → OneStrand L t
  one_strand_there o =
      record {
        strand = o.strand;
        originates = originates_there K L r o.originates;
        only = λ i h. o.only i (originates_there L K (turn r) h);
      }

-- the rules of strand maps
module _ (K L : Skeleton Term) (r : Repeats K L) (bytes : List ℕ) (k : ℕ) (σ : Subst) where
  source_there : (B : Skeleton Term) → Kept K B bytes k σ → Kept L B bytes k σ
  unfolding Rule2 Rule3 Rule4 Rule5 Rule6
  source_there B h =
      record {
        strands = λ l. record { full = rw (← r.strands) (h.strands l).full; inside = (h.strands l).inside };
        directions = λ l n e a. h.directions l n e (at_there L K (turn r) a);
        messages = λ l n e d a b. h.messages l n e d (at_there L K (turn r) a) b;
        order = λ l m n b. h.order l m n (before_there L K (turn r) b);
        non = λ l t m. h.non l t (r.non.and_back t m);
        uniq = λ l t m.
            let u = h.uniq l t (r.uniq.and_back t m) in
            (u.0, λ n o. u.1 n (origin_there L K (turn r) o));
      }

  target_there : (A : Skeleton Term) → Kept A K bytes k σ → Kept A L bytes k σ
  unfolding Rule2 Rule3 Rule4 Rule5 Rule6
  target_there A h =
      record {
        strands = λ l. record { full = (h.strands l).full; inside = λ i b. rw (← r.strands) ((h.strands l).inside i b) };
        directions = λ l n e a.
            let (d, b, same) = h.directions l n e a in
            (d, at_there K L r b, same);
        messages = λ l n e d a b. h.messages l n e d a (at_there L K (turn r) b);
        order = λ l m n b. before_there K L r (h.order l m n b);
        non = λ l t m. r.non.there _ (h.non l t m);
        uniq = λ l t m.
            let u = h.uniq l t m in
            (r.uniq.there _ u.0, λ n o. origin_there K L r (u.1 n o));
      }

-- THE SKELETONS AGREE in all that a question asks of one

pub record Agrees (K L : Skeleton Term) : Type 0 where
  pub before : (m n : Node) → Before K m n ↔ Before L m n
  pub withheld : (a : Atom) → Withheld K a ↔ Withheld L a
  pub derivable : (n : Node) (t : Term) → DerivableBefore K n t ↔ DerivableBefore L n t
  pub realized : Realized K ↔ Realized L
  pub in_event : (t : Term) → InSomeEvent K t ↔ InSomeEvent L t
  pub as_source : (B : Skeleton Term) (bytes : List ℕ) (k : ℕ) (σ : Subst) → Kept K B bytes k σ ↔ Kept L B bytes k σ
  pub as_target : (A : Skeleton Term) (bytes : List ℕ) (k : ℕ) (σ : Subst) → Kept A K bytes k σ ↔ Kept A L bytes k σ

pub repeats_harmless : (K L : Skeleton Term) → Repeats K L → Agrees K L
repeats_harmless K L r =
    record {
      before = λ m n. (before_there K L r, before_there L K (turn r));
      withheld = λ a. (withheld_there K L r a, withheld_there L K (turn r) a);
      derivable = λ n t. (derivable_there K L r n t, derivable_there L K (turn r) n t);
      realized = (realized_there K L r, realized_there L K (turn r));
      in_event = λ t. (in_event_there K L r, in_event_there L K (turn r));
      as_source = λ B bytes k σ. (source_there K L r bytes k σ B, source_there L K (turn r) bytes k σ B);
      as_target = λ A bytes k σ. (target_there K L r bytes k σ A, target_there L K (turn r) bytes k σ A);
    }

-- THEY ARE RIGHT OR AT FAULT ALIKE, with the same number and place

abbrev drawing : List Row → Skeleton ℕ → Drawing
drawing rows K = record { rows = rows; skeleton = K }

module _ (rows : List Row) (K L : Skeleton ℕ) (r : Repeats K L) where
  abbrev D : Drawing
  D = drawing rows K

  abbrev E : Drawing
  E = drawing rows L

  there : Repeats (meant D) (meant E)
  unfolding meant
  there = repeats_meant (term rows) r

  non_right_there : (a : ℕ) → NonRight D a → NonRight E a
  non_right_there a h =
      record {
        present = λ m. h.present (missing_there (meant E) (meant D) (turn there) m);
        uncarried = λ c. h.uncarried (carried_there (meant E) (meant D) (turn there) c);
      }

  uniq_right_there : (a : ℕ) → UniqRight D a → UniqRight E a
  uniq_right_there a h =
      record {
        one_strand = one_strand_there (meant D) (meant E) there h.one_strand;
        in_time = λ e. h.in_time (early_there (meant E) (meant D) (turn there) e);
      }

  acyclic_there : ¬ Cyclic (meant D) → ¬ Cyclic (meant E)
  acyclic_there h c = h (cyclic_there (meant E) (meant D) (turn there) c)

  right_there : Right D → Right E
  right_there h =
      record {
        acyclic = acyclic_there h.acyclic;
        nons = λ a m. non_right_there a (h.nons a (r.non.and_back a m));
        uniqs = λ a m. uniq_right_there a (h.uniqs a (r.uniq.and_back a m));
      }

  non_turn_there : (a : ℕ) → NonTurn D a → NonTurn E a
  non_turn_there a h =
      record {
        acyclic = acyclic_there h.acyclic;
        listed = r.non.there a h.listed;
        lower = λ b m l. non_right_there b (h.lower b (r.non.and_back b m) l);
      }

  uniq_turn_there : (a : ℕ) → UniqTurn D a → UniqTurn E a
  uniq_turn_there a h =
      record {
        acyclic = acyclic_there h.acyclic;
        nons = λ b m. non_right_there b (h.nons b (r.non.and_back b m));
        listed = r.uniq.there a h.listed;
        lower = λ b m l. uniq_right_there b (h.lower b (r.uniq.and_back b m) l);
      }

  fault_there : {number place : ℕ} → Fault D number place → Fault E number place
  fault_there (a_cycle c) = a_cycle (cyclic_there (meant D) (meant E) there c)
  fault_there (missing {a} t m) = missing (non_turn_there a t) (missing_there (meant D) (meant E) there m)
  fault_there (carried {a} t c) = carried (non_turn_there a t) (carried_there (meant D) (meant E) there c)
  fault_there (not_one {a} t n) =
      not_one (uniq_turn_there a t) (λ o. n (one_strand_there (meant E) (meant D) (turn there) o))
  fault_there (early {a} t o e) =
      early (uniq_turn_there a t) (one_strand_there (meant D) (meant E) there o) (early_there (meant D) (meant E) there e)

pub record JudgedAlike (D E : Drawing) : Type 0 where
  pub right : Right D ↔ Right E
  pub fault : (number place : ℕ) → Fault D number place ↔ Fault E number place

pub repeats_judged : (rows : List Row) (K L : Skeleton ℕ) → Repeats K L → JudgedAlike (drawing rows K) (drawing rows L)
repeats_judged rows K L r =
    record {
      right = (right_there rows K L r, right_there rows L K (turn r));
      fault = λ number place. (fault_there rows K L r, fault_there rows L K (turn r));
    }
