-- Laws of strand maps: the six rules make a map, the first broken rule by its number, the images, and the list in its order.
use Rattle.std.specs.Prelude.{◌≡◌, refl, ◌↔◌, ℕ, ◌≤◌, ◌<◌, length, get_or}
use mathlib.Core.List.{List, [], ◌∷◌, Memᴰ}
use Rattle.std.proofs.Common.{arith}
use Rattle.model.specs.Term.{Term}
use Rattle.model.specs.Subst.{Subst, apply, Variable}
use Rattle.model.specs.Table.{Row, term}
use Rattle.model.specs.Skeleton.{Event, send, recv, message, Node, Skeleton, At}
use Rattle.model.specs.Events.{Before, Origin, InSomeEvent}
use Rattle.model.specs.Rising.{Rising, more, InDictionary, first, later, shorter}
use Rattle.model.specs.Maps.{move, SameDirection, both_send, both_receive, Rule2, Rule3, Rule4, Rule5, Rule6, to, OneByteEach, Upto, IsStrandMap, FirstBroken, SourceVariable, Images, TheMaps}

-- "equal directions"
pub directions_equal : (t u : Term) → SameDirection (send t) (send u) × SameDirection (recv t) (recv u)
directions_equal t u = (both_send, both_receive)

pub directions_differ : (t u : Term) → (¬ SameDirection (send t) (recv u)) × (¬ SameDirection (recv t) (send u))
directions_differ t u = (elim [ ], elim [ ])

module _ (A B : Skeleton Term) (bytes : List ℕ) where
  abbrev pub goes : Node → Node
  goes n = move (to A B bytes) n

  -- whatever satisfies the six rules is a map (SkeletonLaws has the other direction, rule by rule)
  pub rules_make_a_map : (σ : Subst)
      → (length bytes ≡ length A.strands)
      → ((s : ℕ) → s < length bytes → get_or bytes s 0 < length B.strands)
      → ((n : Node) (e : Event Term) → At A n e → (d : Event Term) × At B (goes n) d × SameDirection e d)
      → ((n : Node) (e d : Event Term) → At A n e → At B (goes n) d → apply σ (message e) ≡ message d)
      → ((m n : Node) → Before A m n → Before B (goes m) (goes n))
      → ((t : Term) → Memᴰ t A.non → Memᴰ (apply σ t) B.non)
      → ((t : Term) → Memᴰ t A.uniq
      → Memᴰ (apply σ t) B.uniq × ((n : Node) → Origin A t n → Origin B (apply σ t) (goes n)))
      → IsStrandMap A B bytes
  unfolding Rule2 Rule3 Rule4 Rule5 Rule6
  rules_make_a_map σ full inside two three four five six =
      record {
        σ = σ;
        kept = record {
          strands = λ _. record { full = full; inside = inside };
          directions = λ _. two;
          messages = λ _. three;
          order = λ _. four;
          non = λ _. five;
          uniq = λ _. six;
        };
      }

  -- "No gives the first broken rule": by its number, where all before it hold
  abbrev pub f : ℕ → ℕ
  f = to A B bytes

  -- rules are kept below a number
  kept_below : (k : ℕ) (σ : Subst) → (2 ≤ k → OneByteEach A B bytes) → (3 ≤ k → Rule2 A B f) → (4 ≤ k → Rule3 A B f σ)
      → (5 ≤ k → Rule4 A B f)
      → (6 ≤ k → Rule5 A B f σ)
      → k ≤ 6
      → (j : ℕ) → j < k → Upto A B bytes j
  kept_below k σ one two three four five l j h =
      record {
        σ = σ;
        kept = record {
          strands = λ x. one (omega arith);
          directions = λ x. two (omega arith);
          messages = λ x. three (omega arith);
          order = λ x. four (omega arith);
          non = λ x. five (omega arith);
          uniq = λ x. absurd (omega arith);
        };
      }

  pub breaks_1 : Subst → ¬ OneByteEach A B bytes → FirstBroken A B bytes 1
  breaks_1 σ n =
      record {
        rule = omega arith;
        hold = kept_below 1 σ (λ l. absurd (omega arith)) (λ l. absurd (omega arith)) (λ l. absurd (omega arith))
            (λ l. absurd (omega arith)) (λ l. absurd (omega arith)) (omega arith);
        breaks = λ u. n (u.kept.strands (omega arith));
      }

  module _ (one : OneByteEach A B bytes) where
    pub breaks_2 : Subst → ¬ Rule2 A B f → FirstBroken A B bytes 2
    breaks_2 σ n =
        record {
          rule = omega arith;
          hold = kept_below 2 σ (λ l. one) (λ l. absurd (omega arith)) (λ l. absurd (omega arith)) (λ l. absurd (omega arith))
              (λ l. absurd (omega arith)) (omega arith);
          breaks = λ u. n (u.kept.directions (omega arith));
        }

    module _ (two : Rule2 A B f) where
      pub breaks_3 : Subst → ((σ : Subst) → ¬ Rule3 A B f σ) → FirstBroken A B bytes 3
      breaks_3 σ n =
          record {
            rule = omega arith;
            hold = kept_below 3 σ (λ l. one) (λ l. two) (λ l. absurd (omega arith)) (λ l. absurd (omega arith))
                (λ l. absurd (omega arith)) (omega arith);
            breaks = λ u. n u.σ (u.kept.messages (omega arith));
          }

      module _ (σ : Subst) (three : Rule3 A B f σ) where
        pub breaks_4 : ¬ Rule4 A B f → FirstBroken A B bytes 4
        breaks_4 n =
            record {
              rule = omega arith;
              hold = kept_below 4 σ (λ l. one) (λ l. two) (λ l. three) (λ l. absurd (omega arith)) (λ l. absurd (omega arith))
                  (omega arith);
              breaks = λ u. n (u.kept.order (omega arith));
            }

        module _ (four : Rule4 A B f) where
          pub breaks_5 : ((τ : Subst) → Rule3 A B f τ → ¬ Rule5 A B f τ) → FirstBroken A B bytes 5
          breaks_5 n =
              record {
                rule = omega arith;
                hold = kept_below 5 σ (λ l. one) (λ l. two) (λ l. three) (λ l. four) (λ l. absurd (omega arith)) (omega arith);
                breaks = λ u. n u.σ (u.kept.messages (omega arith)) (u.kept.non (omega arith));
              }

          pub breaks_6 : Rule5 A B f σ → ((τ : Subst) → Rule3 A B f τ → Rule5 A B f τ → ¬ Rule6 A B f τ) → FirstBroken A B bytes 6
          breaks_6 five n =
              record {
                rule = omega arith;
                hold = kept_below 6 σ (λ l. one) (λ l. two) (λ l. three) (λ l. four) (λ l. five) (omega arith);
                breaks = λ u.
                    n u.σ (u.kept.messages (omega arith)) (u.kept.non (omega arith)) (u.kept.uniq (omega arith));
              }

  -- and what breaks a rule is no map
  pub broken_is_no_map : (k : ℕ) → FirstBroken A B bytes k → (¬ IsStrandMap A B bytes) × (k ≤ 6)
  broken_is_no_map k b = (
    λ m.
        b.breaks
        (record {
          σ = m.σ;
          kept = record {
            strands = λ l. m.kept.strands (omega arith);
            directions = λ l. m.kept.directions (omega arith);
            messages = λ l. m.kept.messages (omega arith);
            order = λ l. m.kept.order (omega arith);
            non = λ l. m.kept.non (omega arith);
            uniq = λ l. m.kept.uniq (omega arith);
          };
        }),
    b.rule,
  )

  -- it is the rule that breaks, and not one after it
  pub rule_is_broken : (k : ℕ) → FirstBroken A B bytes k → ¬ Upto A B bytes k
  rule_is_broken k b = b.breaks

  pub earlier_rules_hold : (k : ℕ) → FirstBroken A B bytes k → (j : ℕ) → j < k → Upto A B bytes j
  earlier_rules_hold k b = b.hold

-- "the image of a source variable (one that occurs in a source event), 255 elsewhere": one byte per term
pub source_variable_iff : (A : Skeleton Term) (t : Term) → SourceVariable A t ↔ (Variable t × InSomeEvent A t)
source_variable_iff A t = (λ v. (v.variable, v.occurs), λ (v, o). record { variable = v; occurs = o })

module _ (rows : List Row) (A : Skeleton Term) (σ : Subst) (images : List ℕ) where
  -- the number of the image on the sheet
  pub image_of_a_variable : Images rows A σ images → (i : ℕ) → i < length rows → SourceVariable A (term rows i)
      → (get_or images i 255 < length rows) × (term rows (get_or images i 255) ≡ apply σ (term rows i))
  image_of_a_variable m i l v = (m.inside i l v, m.image i l v)

  pub elsewhere_255 : Images rows A σ images → (i : ℕ) → i < length rows → ¬ SourceVariable A (term rows i)
      → get_or images i 255 ≡ 255
  elsewhere_255 m i l v = m.elsewhere i l v

  pub a_byte_per_term : Images rows A σ images → length images ≡ length rows
  a_byte_per_term m = m.full

-- THE LIST

module _ (A B : Skeleton Term) (maps : List (List ℕ)) (all : TheMaps A B maps) where
  pub listed_iff_map : (bytes : List ℕ) → Memᴰ bytes maps ↔ IsStrandMap A B bytes
  listed_iff_map = all.members

  pub listed_in_order : Rising InDictionary maps
  listed_in_order = all.rising

pub rising_iff : {X : Type 0} (before : X → X → Type 0) (x : X) (l : List X)
    → Rising before (x ∷ l) ↔ (((y : X) → Memᴰ y l → before x y) × Rising before l)
rising_iff {X} before x l = (λ r. go r, λ (h, r). more h r)
  where
    go : Rising before (x ∷ l) → ((y : X) → Memᴰ y l → before x y) × Rising before l
    go (more h r) = (h, r)

-- "P10 ..: 00, 01, 10, 11": the first source strand varies slowest
pub dictionary_order : InDictionary (0 ∷ 0 ∷ []) (0 ∷ 1 ∷ []) × InDictionary (0 ∷ 1 ∷ []) (1 ∷ 0 ∷ [])
    × InDictionary (1 ∷ 0 ∷ []) (1 ∷ 1 ∷ [])
    × InDictionary [] (0 ∷ [])
dictionary_order =
    let l : ◌<◌ 0 1 = omega arith in
    (later (first l), first l, later (first l), shorter)

-- strictly: nothing stands before itself, so no map is listed twice
pub never_before_itself : (l : List ℕ) → ¬ InDictionary l l
never_before_itself l d = go d refl
  where
    go : {l m : List ℕ} → InDictionary l m → l ≡ m → ⊥
    go (first {x} {y} h) e = let z : x ≡ y = cc in omega arith
    go (later {l} {m} d) e = let z : l ≡ m = cc in go d z
    go (shorter {y}) e = let z : ◌≡◌ {A = ℕ} 0 1 = cc in omega arith

pub never_both_ways : (l m : List ℕ) → InDictionary l m → ¬ InDictionary m l
never_both_ways l m d e = go d e refl refl
  where
    go : {l m j k : List ℕ} → InDictionary l m → InDictionary j k → l ≡ k → m ≡ j → ⊥
    go (first {x} {y} h) (first {x = u} {y = v} g) e f = let a : x ≡ v = cc in let b : y ≡ u = cc in omega arith
    go (first {x} {y} h) (later {x = u} g) e f = let a : x ≡ u = cc in let b : y ≡ u = cc in omega arith
    go (first h) shorter e f = let z : ◌≡◌ {A = ℕ} 0 1 = cc in omega arith
    go (later {x} d) (first {x = u} {y = v} g) e f = let a : x ≡ v = cc in let b : x ≡ u = cc in omega arith
    go (later {l} {m} d) (later {l = j} {m = k} g) e f = let a : l ≡ k = cc in let b : m ≡ j = cc in go d g a b
    go (later d) shorter e f = let z : ◌≡◌ {A = ℕ} 0 1 = cc in omega arith
    go shorter (first g) e f = let z : ◌≡◌ {A = ℕ} 0 1 = cc in omega arith
    go shorter (later g) e f = let z : ◌≡◌ {A = ℕ} 0 1 = cc in omega arith
    go shorter shorter e f = let z : ◌≡◌ {A = ℕ} 0 1 = cc in omega arith
