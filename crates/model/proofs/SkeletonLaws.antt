-- Laws of skeletons and strand maps: what is withheld, what a map keeps; two variables, and two strands, may share an image.
use Rattle.std.specs.Prelude.{◌≡◌, refl, false, ℕ, zero, suc, ◌<◌, length, get_or}
use Rattle.std.proofs.Math.Logic.{inl, inr}
use mathlib.Core.List.Memᴰ
use mathlib.Core.List.{List, [], ◌∷◌, Memᴰ}
use Rattle.std.proofs.Math.Option.{none, some}
use Rattle.std.proofs.Common.{arith}
use Rattle.std.proofs.Math.ListN.{get_elem?}
use Rattle.model.specs.Term.{Atom, text, skey, akey, Term, mesg, atom}
use Rattle.model.specs.Subst.{Subst, apply, on_atom}
use Rattle.model.specs.Derive.{Derivable, given, an_atom, Withheld}
use Rattle.model.specs.Skeleton.{Event, send, recv, message, Node, Skeleton, height, At}
use Rattle.model.specs.Events.{Before, next, listed, chain, Origin}
use Rattle.model.specs.Maps.{move, SameDirection, both_send, both_receive, Rule2, Rule3, Rule4, Rule5, Rule6, to, IsStrandMap}
use Rattle.model.proofs.Laws.{least, derivable_closed}

-- more sent and less withheld derives more
module _ (sent sent' : Term → Type 0) (withheld withheld' : Atom → Type 0) (more : (t : Term) → sent t → sent' t)
    (less : (a : Atom) → withheld' a → withheld a) where
  pub derivable_mono : {t : Term} → Derivable sent withheld t → Derivable sent' withheld' t
  derivable_mono =
      let c = derivable_closed sent' withheld' in
      least sent withheld (Derivable sent' withheld')
      (record {
        has_sent = λ t h. given (more t h);
        has_tag = c.has_tag;
        has_mesg = c.has_mesg;
        has_atom = λ a h. an_atom (λ k. h (less a k));
        joins = c.joins;
        splits_left = c.splits_left;
        splits_right = c.splits_right;
        encrypts = c.encrypts;
        decrypts = c.decrypts;
        hashes = c.hashes;
      })

-- "Withheld: all NO atoms, and UO atoms that originate."

module _ (K : Skeleton Term) (a : Atom) where
  pub non_withheld : Memᴰ (atom a) K.non → Withheld K a
  unfolding Withheld
  non_withheld m = inl m

  pub uniq_withheld : Memᴰ (atom a) K.uniq → (n : Node) → Origin K (atom a) n → Withheld K a
  unfolding Withheld
  uniq_withheld m n o = inr (record { listed = m; node = n; origin = o })

  pub no_other_withheld : ¬ Memᴰ (atom a) K.non → ((n : Node) → Memᴰ (atom a) K.uniq → ¬ Origin K (atom a) n)
      → ¬ Withheld K a
  unfolding Withheld
  no_other_withheld h g (inl m) = h m
  no_other_withheld h g (inr o) = g o.node o.listed o.origin

-- "Letting two variables never share an image" is a slip: two strands that send two texts map onto one that sends a third

pub two_texts : Skeleton Term
two_texts =
    record { strands = (send (atom (text 0)) ∷ []) ∷ (send (atom (text 1)) ∷ []) ∷ []; order = []; non = []; uniq = [] }

pub one_text : Skeleton Term
one_text = record { strands = (send (atom (text 2)) ∷ []) ∷ []; order = []; non = []; uniq = [] }

all_to_one : Subst
all_to_one =
    record {
      to_mesg = mesg;
      to_text = λ n. 2;
      to_datum = λ n. n;
      to_name = λ n. n;
      to_sym = skey;
      to_asym = λ n. (false, akey n);
    }

-- what is at a node of the two strands
data OneOfTwo : Node → Event Term → Type 0 where
  on_first : OneOfTwo (record { strand = 0; position = 0 }) (send (atom (text 0)))
  on_second : OneOfTwo (record { strand = 1; position = 0 }) (send (atom (text 1)))

no_event : {A : Type 0} {x : A} → none ≡ some x → ⊥
no_event e = let z : ◌≡◌ {A = ℕ} 0 1 = cc in omega arith

one_of_two : (n : Node) (e : Event Term) → At two_texts n e → OneOfTwo n e
unfolding two_texts
one_of_two n e a = go n.strand n.position e a.is
  where
    go : (s p : ℕ) (e : Event Term) → get_elem? (get_or two_texts.strands s []) p ≡ some e
        → OneOfTwo (record { strand = s; position = p }) e
    go zero zero e h = let z : send (atom (text 0)) ≡ e = cc in rw z at on_first
    go zero (suc p) e h = absurd (no_event h)
    go (suc zero) zero e h = let z : send (atom (text 1)) ≡ e = cc in rw z at on_second
    go (suc zero) (suc p) e h = absurd (no_event h)
    go (suc (suc s)) p e h = absurd (no_event h)

short : (s : ℕ) → height two_texts s < 2
unfolding two_texts
short zero = omega arith
short (suc zero) = omega arith
short (suc (suc s)) = omega arith

unordered : (m n : Node) → ¬ Before two_texts m n
unfolding two_texts
unordered m n (next {s = s} h) = omega (arith, short s)
unordered m n (listed k) = Memᴰ.not-nil k
unordered m n (chain {n = o} p q) = unordered m o p

at_one : At one_text (record { strand = 0; position = 0 }) (send (atom (text 2)))
unfolding one_text
at_one = record { is = refl }

pub images_shared : IsStrandMap two_texts one_text (0 ∷ 0 ∷ [])
unfolding two_texts one_text all_to_one Rule2 Rule3 Rule4 Rule5 Rule6 apply on_atom message
images_shared =
    record {
      σ = all_to_one;
      kept = record {
        strands = λ k. record { full = refl; inside = inside };
        directions = λ k n e a. directions n e (one_of_two n e a);
        messages = λ k n e d a b. messages n e d (one_of_two n e a) b.is;
        order = λ k m n b. absurd (unordered m n b);
        non = λ k t m. absurd (Memᴰ.not-nil m);
        uniq = λ k t m. absurd (Memᴰ.not-nil m);
      };
    }
  where
    inside : (s : ℕ) → s < 2 → get_or (0 ∷ 0 ∷ []) s 0 < 1
    inside zero h = omega arith
    inside (suc zero) h = omega arith
    inside (suc (suc s)) h = absurd (omega arith)

    directions : (n : Node) (e : Event Term) → OneOfTwo n e
        → (d : Event Term) × At one_text (move (λ s. get_or (0 ∷ 0 ∷ []) s 0) n) d × SameDirection e d
    directions n e on_first = (send (atom (text 2)), at_one, both_send)
    directions n e on_second = (send (atom (text 2)), at_one, both_send)

    messages : (n : Node) (e d : Event Term) → OneOfTwo n e
        → get_elem? (get_or one_text.strands (get_or (0 ∷ 0 ∷ []) n.strand 0) []) n.position ≡ some d
        → apply all_to_one (message e) ≡ message d
    messages n e d on_first h = let z : send (atom (text 2)) ≡ d = cc in rw (← z) refl
    messages n e d on_second h = let z : send (atom (text 2)) ≡ d = cc in rw (← z) refl

-- What a strand map keeps, rule by rule

module _ (A B : Skeleton Term) (bytes : List ℕ) (m : IsStrandMap A B bytes) where
  abbrev goes : Node → Node
  goes n = move (to A B bytes) n

  -- "(1) one byte per source strand, each a target strand"
  pub map_strands : (length bytes ≡ length A.strands) × ((s : ℕ) → s < length bytes → get_or bytes s 0 < length B.strands)
  map_strands = let h = m.kept.strands (omega arith) in (h.full, h.inside)

  -- "(2) target height at least the source's, equal directions at equal positions"
  pub map_sends : (n : Node) (t : Term) → At A n (send t) → (u : Term) × At B (goes n) (send u)
  unfolding Rule2
  map_sends n t a = go (m.kept.directions (omega arith) n (send t) a)
    where
      go : (d : Event Term) × At B (goes n) d × SameDirection (send t) d → (u : Term) × At B (goes n) (send u)
      go (send u, b, both_send) = (u, b)
      go (recv u, b, x) = elim x [ ]

  pub map_receptions : (n : Node) (t : Term) → At A n (recv t) → (u : Term) × At B (goes n) (recv u)
  unfolding Rule2
  map_receptions n t a = go (m.kept.directions (omega arith) n (recv t) a)
    where
      go : (d : Event Term) × At B (goes n) d × SameDirection (recv t) d → (u : Term) × At B (goes n) (recv u)
      go (recv u, b, both_receive) = (u, b)
      go (send u, b, x) = elim x [ ]

  -- "(3) some sort-keeping substitution takes each source message to the message at the mapped node"
  pub map_messages : (n : Node) (e d : Event Term) → At A n e → At B (goes n) d → apply m.σ (message e) ≡ message d
  unfolding Rule3
  map_messages = m.kept.messages (omega arith)

  -- "(4) precedence is kept"
  pub map_order : (n o : Node) → Before A n o → Before B (goes n) (goes o)
  unfolding Rule4
  map_order = m.kept.order (omega arith)

  -- "(5) images of NO atoms are NO atoms"
  pub map_nons : (t : Term) → Memᴰ t A.non → Memᴰ (apply m.σ t) B.non
  unfolding Rule5
  map_nons = m.kept.non (omega arith)

  -- "(6) images of UO atoms are UO atoms, with origin mapped to origin"
  pub map_uniqs : (t : Term) → Memᴰ t A.uniq → Memᴰ (apply m.σ t) B.uniq
  unfolding Rule6
  map_uniqs t u = (m.kept.uniq (omega arith) t u).0

  pub map_origins : (t : Term) → Memᴰ t A.uniq → (n : Node) → Origin A t n → Origin B (apply m.σ t) (goes n)
  unfolding Rule6
  map_origins t u = (m.kept.uniq (omega arith) t u).1
