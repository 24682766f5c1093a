-- "The longest good sheet has 2,581 bytes": one of that length, at each limit at once. No good sheet is longer:
-- `theory/Lengths: good_length`. Reading it is computed; that its skeletons are right is proved.
use Rattle.std.specs.Prelude.{◌≡◌, refl, not, ℕ, zero, suc, ◌+◌, ◌*◌, ◌<◌, T, length, get_or}
use Rattle.std.proofs.Common.{ap, sym as back, arith}
use mathlib.Core.List.Memᴰ
use mathlib.Core.List.{List, [], ◌∷◌, ◌++◌, replicate, Memᴰ}
use Rattle.std.proofs.Math.Option.{some}
use Rattle.std.proofs.Math.ListN.{get_elem?}
use Rattle.model.specs.Lists.{upto}
use Rattle.model.specs.Term.{Atom, text, Term, tag, atom, hash, inv, flip}
use Rattle.model.specs.Carry.{Carries, Inside, Occurs}
use Rattle.model.specs.Table.{Row, Tag, Text, Hash, row, is_key, name_of, meaning, terms_after, term}
use Rattle.model.specs.Skeleton.{Event, send, recv, message, Node, Skeleton, At, on_message, means}
use Rattle.model.specs.Events.{Before, next, listed, chain}
use Rattle.model.specs.Sheet.{Sheet, accepted, Drawing, meant, HasSkeleton}
use Rattle.model.specs.Reading.{start, read, Read}
use Rattle.model.specs.Accepting.{Lacking, Cyclic, NonRight, UniqRight, Right, right}
use Rattle.model.specs.Judging.{HasVerdict, judged}
use Rattle.model.specs.Answers.{said, Gives, answered, AskSheet}
use Rattle.model.proofs.Laws.{atom_carries, hash_carries}
use Rattle.theory.specs.Places.{in_list, listed_at}
use Rattle.theory.specs.ListTests.{all_of, all_each}
use Rattle.theory.specs.Happenings.{at_means, at_meant}
use Rattle.theory.specs.Outcome.{reads, reads_read}
use Rattle.cases.specs.Hex.{hex}
use Rattle.cases.specs.Limits.{times, tags}

-- The bytes

-- the text 0 is sent on one strand, then the hash 2 of the text 1, then the tag 3; the other strands receive the tag
unfoldable skeleton_bytes : List ℕ
unfolding hex times
skeleton_bytes =
    hex "534b / 5354 10 0000 0002"
    ++ (times 14 (hex "0003")
    ++ (times 5 (hex "5354 10" ++ times 16 (hex "0103"))
    ++ (times 64 (hex "4f52 00000100") ++ (times 32 (hex "4e4f 01") ++ times 32 (hex "554f 00")))))

unfoldable pub longest : List ℕ
unfolding hex tags skeleton_bytes
longest =
    hex "4253 01 / 544d 020000 / 544d 020100 / 544d 0c0100"
    ++ (tags 197 ++ (skeleton_bytes ++ (skeleton_bytes ++ hex "454e")))

pub longest_length : length longest ≡ 2581
unfolding longest
longest_length = refl

-- The sheet

unfoldable rows : List Row
unfolding upto
rows = Text 0 ∷ Text 1 ∷ Hash 1 ∷ upto 197 Tag

abbrev node : ℕ → ℕ → Node
node s p = record { strand = s; position = p }

unfoldable full : Skeleton ℕ
full =
    record {
      strands = (send 0 ∷ send 2 ∷ replicate 14 (send 3)) ∷ replicate 5 (replicate 16 (recv 3));
      order = replicate 64 (node 0 0, node 1 0);
      non = replicate 32 1;
      uniq = replicate 32 0;
    }

unfoldable sheet : Sheet
sheet = record { rows = rows; skeletons = full ∷ full ∷ [] }

below : (n : ℕ) → n < suc n
below n = omega arith

is_read : Read start 0 longest (read sheet)
unfolding longest rows full sheet reads start
is_read = reads_read (suc (length longest)) start 0 longest (below (length longest))

-- The terms

term_0 : term rows 0 ≡ atom (text 0)
unfolding rows term terms_after meaning name_of inv flip
term_0 = refl

term_1 : term rows 1 ≡ atom (text 1)
unfolding rows term terms_after meaning name_of inv flip
term_1 = refl

term_2 : term rows 2 ≡ hash (atom (text 1))
unfolding rows term terms_after meaning name_of inv flip
term_2 = refl

term_3 : term rows 3 ≡ tag 0
unfolding rows term terms_after meaning name_of inv flip
term_3 = refl

no_keys : T (all_of (λ r. not (is_key r)) rows)
unfolding rows all_of is_key
no_keys = tt

no_lack : (i : ℕ) → ¬ Lacking rows i
no_lack i l =
    let t : T (not (is_key (row rows i))) =
    all_each (λ r. not (is_key r)) rows no_keys (row rows i) (listed_at rows i (Tag 0) l.a_term) in
    rw l.a_key at t

-- What is at a node

data Happens : Node → Event ℕ → Type 0 where
  sends_text : Happens (node 0 0) (send 0)
  sends_hash : Happens (node 0 1) (send 2)
  sends_tag : {p : ℕ} → Happens (node 0 p) (send 3)
  receives_tag : {s p : ℕ} → Happens (node (suc s) p) (recv 3)

-- where all the strands are copies of x
all_same : {A : Type 0} (x : A) (l : List (List A)) (s p : ℕ) {e : A} → ((t : List A) → Memᴰ t l → Memᴰ e t → e ≡ x)
    → get_elem? (get_or l s []) p ≡ some e
    → e ≡ x
all_same x [] s p {e} f h = absurd (no_event h)
  where
    no_event : {A : Type 0} {y : A} → get_elem? {A = A} [] p ≡ some y → ⊥
    no_event q = let z : ◌≡◌ {A = ℕ} 0 1 = cc in omega arith
all_same x (t ∷ l) zero p f h = f t (Memᴰ.head refl) (in_list t p h)
all_same x (t ∷ l) (suc s) p f h = all_same x l s p (λ u m. f u (Memᴰ.tail m)) h

happens : (n : Node) (e : Event ℕ) → At full n e → Happens n e
unfolding full
happens n e a = go n.strand n.position a.is
  where
    go : (s p : ℕ) → get_elem? (get_or full.strands s []) p ≡ some e → Happens (node s p) e
    go zero zero h = let z : send 0 ≡ e = cc in rw z at sends_text
    go zero (suc zero) h = let z : send 2 ≡ e = cc in rw z at sends_hash
    go zero (suc (suc p)) h = rw (Memᴰ.eq_of_replicate 14 (in_list (replicate 14 (send 3)) p h)) sends_tag
    go (suc s) p h =
        rw (all_same (recv 3) (replicate 5 (replicate 16 (recv 3))) s p {e = e}
        (λ t m k. Memᴰ.eq_of_replicate 16 (rw (Memᴰ.eq_of_replicate 5 m) at k)) h) receives_tag

-- Only the first event carries an atom

abbrev L : Skeleton Term
L = means (term rows) full

record First (a : Atom) (n : Node) (d : Event Term) : Type 0 where
  is : a ≡ text 0
  node : n ≡ record { strand = 0; position = 0 }
  sent : (heard : Term) → ¬ (d ≡ recv heard)

no_atom_in_tag : {a : Atom} {n : ℕ} → Carries (atom a) (tag n) → ⊥
no_atom_in_tag = elim [ ]

no_atom_in_hash : {a : Atom} {t : Term} → Carries (atom a) (hash t) → ⊥
no_atom_in_hash c = let e = hash_carries c in let z : ◌≡◌ {A = ℕ} 0 1 = cc in omega arith

only_first : {n : Node} {e : Event ℕ} → Happens n e → (a : Atom) → Carries (atom a) (message (on_message (term rows) e))
    → First a n (on_message (term rows) e)
unfolding on_message message
only_first sends_text a c =
    let e : atom a ≡ atom (text 0) = atom_carries (rw term_0 at c) in
    record { is = cc; node = refl; sent = λ t q. let z : ◌≡◌ {A = ℕ} 0 1 = cc in omega arith }
only_first sends_hash a c = absurd (no_atom_in_hash (rw term_2 at c))
only_first sends_tag a c = absurd (no_atom_in_tag (rw term_3 at c))
only_first receives_tag a c = absurd (no_atom_in_tag (rw term_3 at c))

carrying : {n : Node} {d : Event Term} → At L n d → (a : Atom) → Carries (atom a) (message d) → First a n d
carrying {n} {d} h a c =
    let (e, b, q) = at_meant (term rows) full h in
    rw q at (only_first (happens n e b) a (rw (← q) at c))

-- The rules

abbrev D : Drawing
D = record { rows = rows; skeleton = full }

rises : {m n : Node} → Before L m n → 16 * m.strand + m.position < 16 * n.strand + n.position
unfolding means full
rises (next h) = omega arith
rises (listed {m} {n} k) =
    let e = Memᴰ.eq_of_replicate 64 k in
    let x : m ≡ node 0 0 = ap (λ p. p.0) e in
    let y : n ≡ node 1 0 = ap (λ p. p.1) e in
    rw (x, y) (omega arith)
rises (chain p q) = omega (arith, rises p, rises q)

acyclic : ¬ Cyclic L
acyclic c = omega (arith, rises c.cycle)

text_occurs : {t : Term} {n : ℕ} → Occurs t (atom (text n)) → t ≡ atom (text n)
text_occurs Occurs.here = refl
text_occurs (Occurs.inside i o) = absurd (inside_text i)
  where
    inside_text : {a : Atom} {n : ℕ} → Inside a (text n) → ⊥
    inside_text = elim [ ]

non_right : NonRight D 1
unfolding meant full on_message message
non_right =
    record {
      present = λ m.
          let e : m.part ≡ atom (text 1) = text_occurs (rw term_1 at m.occurs) in
          m.in_no_event (record {
            node = node 0 1;
            event = send (term rows 2);
            at = at_means (term rows) full {n = node 0 1} {e = send 2} (record { is = refl });
            occurs = rw (e, term_2) (Occurs.hashed Occurs.here);
          });
      uncarried = λ c.
          let f = carrying c.at (text 1) (rw term_1 at c.carries) in
          let z : ◌≡◌ {A = ℕ} 1 0 = cc f.is in
          omega arith;
    }

uniq_right : UniqRight D 0
unfolding meant full on_message message
uniq_right =
    record {
      one_strand = record {
        strand = 0;
        originates = record {
          position = 0;
          origin = record {
            said = term rows 0;
            at = at_means (term rows) full {n = node 0 0} {e = send 0} (record { is = refl });
            carries = Carries.here;
            first = λ p e l. absurd (omega arith);
          };
        };
        only = λ s o. ap (λ n. n.strand) (carrying o.origin.at (text 0) (rw term_0 at o.origin.carries)).node;
      };
      in_time = λ e. (carrying e.at (text 0) (rw term_0 at e.carries)).sent e.heard refl;
    }

is_right : Right D
unfolding meant full
is_right =
    record {
      acyclic = acyclic;
      nons = λ a m. rw (Memᴰ.eq_of_replicate 32 m) non_right;
      uniqs = λ a m. rw (Memᴰ.eq_of_replicate 32 m) uniq_right;
    }

both_right : (k : ℕ) (E : Drawing) → HasSkeleton k sheet E → Right E
unfolding sheet
both_right k E h =
    let e : E.skeleton ≡ full = Memᴰ.eq_of_replicate 2 (in_list (full ∷ full ∷ []) k h.skeleton) in
    let d : D ≡ E = λ i. record { rows = h.rows i; skeleton = back e i } in
    rw d at is_right

is_good : HasVerdict longest (accepted sheet)
unfolding sheet
is_good = judged is_read (right no_lack both_right)

-- THE CLAIM
pub longest_good : Gives longest AskSheet (answered (record { terms = 200; skeletons = 2 })) []
unfolding AskSheet sheet rows
longest_good =
    record {
      verdict = accepted sheet;
      judged = is_good;
      is = said (record { same = refl }) tt (record { terms = refl; skeletons = refl; kept = refl });
    }
