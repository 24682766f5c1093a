-- Laws of the bench's text: whole texts, from the sheet's bytes to the last line, for a bad sheet, one skeleton, two skeletons
-- and no room; and nothing but these four forms.
use Rattle.std.specs.Prelude.{◌≡◌, refl, false, ◌↔◌, ◌⊎◌, ℕ, zero, suc, ◌*◌, ◌<◌, ◌≤◌, length, get_or, take}
use Rattle.std.proofs.Common.{ap, sym as back, true≢false, inl, inr, ⊎_elim, arith}
use mathlib.Core.List.Memᴰ
use mathlib.Core.List.{List, [], ◌∷◌, ◌++◌, replicate, Memᴰ}
use Rattle.std.proofs.Math.Option.{none, some}
use Rattle.std.proofs.Math.ListN.{get_elem?}
use Rattle.std.proofs.lemmas.List.{length-replicate}
use Rattle.model.specs.Term.{text, skey, akey, Term, tag, mesg, atom, hash}
use Rattle.model.specs.Carry.{Occurs}
use Rattle.model.specs.Subst.{Subst, apply, on_atom}
use Rattle.model.specs.Table.{Row, Tag, Text, Hash, is_key, meaning, terms_after, term}
use Rattle.model.specs.Skeleton.{Event, send, recv, message, Node, Skeleton, height, At, on_message, means}
use Rattle.model.specs.Sheet.{Sheet, Refusal, Verdict, Drawing, meant, HasSkeleton}
use Rattle.model.specs.Reading.{start, read_record, after, size, ended, sheet_of, Read, at_end, at_fault, next, read}
use Rattle.model.specs.Events.{Before}
use Rattle.model.specs.Accepting.{Lacking, Carried, Missing, Right, right}
use Rattle.model.specs.Judging.{HasVerdict, unread, judged}
use Rattle.model.specs.Derive.{SentBefore, Withheld, DerivableBefore, Realized}
use Rattle.model.specs.Rising.{none, more}
use Rattle.model.specs.Maps.{SameDirection, both_receive, IsStrandMap, TheMaps}
use Rattle.model.specs.Answers.{refused, answered, bad_sheet, said, Gives, Counts, AskSheet, Openness, realized, open_at, FirstOpen, Sooner, yes_realized, first_open, AskRealized, HasSkeletons, ListRoom}
use Rattle.model.specs.Lines.{ascii, sheet_line, skeleton_line, maps_line}
use Rattle.model.specs.Report.{map_lines, ListText, no_room, Reports, bad, one, two, Output}
use Rattle.model.proofs.Laws.{hash_carries}
use Rattle.model.proofs.MessageLaws.{occurs_in_atom, inside_nothing}
use Rattle.model.proofs.EventLaws.{precedence_least}
use Rattle.model.proofs.DeriveLaws.{Built, built_only, before_closed}
use Rattle.model.proofs.SkeletonLaws.{non_withheld, map_strands, map_receptions}
use Rattle.model.proofs.StrandMapLaws.{rules_make_a_map}
use Rattle.model.proofs.Samples.{node, skeleton, given_as, TM_of}

-- A BAD SHEET: "a bad sheet gives only `sheet refused N place P skeleton K`"

-- whatever is lent to the list
pub text_of_a_bad_sheet : (lent : List ℕ) → Reports [] lent (ascii "sheet refused 1 place 0 skeleton 0\n")
unfolding sheet_line ascii AskSheet start ended read_record
text_of_a_bad_sheet lent =
    bad {r = given_as 1 0 0}
    (record { verdict = Verdict.refused (given_as 1 0 0); judged = unread (at_fault refl refl); is = bad_sheet })

-- ONE SKELETON: "no maps line for one skeleton". A tag is received

abbrev lone : Skeleton ℕ
lone = skeleton ((recv 0 ∷ []) ∷ []) [] [] []

unfoldable lone_sheet : Sheet
lone_sheet = record { rows = Tag 0 ∷ []; skeletons = lone ∷ [] }

unfoldable pub lone_bytes : List ℕ
lone_bytes =
    (0x42 ∷ 0x53 ∷ 1 ∷ []) ++ TM_of 0 0 0 ++ (0x53 ∷ 0x4b ∷ []) ++ (0x53 ∷ 0x54 ∷ 1 ∷ 1 ∷ 0 ∷ []) ++ (0x45 ∷ 0x4e ∷ [])

lone_read : Read start 0 lone_bytes (read lone_sheet)
unfolding lone_bytes lone_sheet start ended read_record after size sheet_of
lone_read = next refl refl (next refl refl (next refl refl (next refl refl (next refl refl (at_end refl)))))

no_event : {A : Type 0} {x : A} → none ≡ some x → ⊥
no_event e = let z : ◌≡◌ {A = ℕ} 0 1 = cc in omega arith

abbrev drawn : List Row → Skeleton ℕ → Drawing
drawn rows K = record { rows = rows; skeleton = K }

abbrev D₀ : Drawing
D₀ = drawn (Tag 0 ∷ []) lone

-- what is at a node: the reception
lone_at : (n : Node) (e : Event Term) → At (meant D₀) n e → (n ≡ node 0 0) × (e ≡ recv (tag 0))
unfolding meant means on_message term terms_after meaning
lone_at n e a = go n.strand n.position a.is
  where
    go : (s p : ℕ) → get_elem? (get_or ((recv (tag 0) ∷ []) ∷ []) s []) p ≡ some e → (node s p ≡ node 0 0) × (e ≡ recv (tag 0))
    go zero zero h = let z : recv (tag 0) ≡ e = cc in (refl, back z)
    go zero (suc p) h = absurd (no_event h)
    go (suc s) p h = absurd (no_event h)

-- no two events on one strand
lone_short : (s : ℕ) → height (meant D₀) s < 2
unfolding meant means on_message
lone_short zero = omega arith
lone_short (suc s) = omega arith

no_order : (K : Skeleton Term) → ((s : ℕ) → height K s < 2) → ((m n : Node) → ¬ Memᴰ (m, n) K.order) → (m n : Node)
    → ¬ Before K m n
no_order K short empty m n b =
    precedence_least K (λ m n. ⊥) (λ s p h. omega (arith, short s)) (λ m n h. empty m n h) (λ m n o p q. p) b

lone_right : Right D₀
unfolding meant means
lone_right =
    record {
      acyclic = λ c. no_order (meant D₀) lone_short (λ m n k. Memᴰ.not-nil k) c.node c.node c.cycle;
      nons = λ a m. absurd (Memᴰ.not-nil m);
      uniqs = λ a m. absurd (Memᴰ.not-nil m);
    }

lone_has : (k : ℕ) (E : Drawing) → HasSkeleton k lone_sheet E → E ≡ D₀
unfolding lone_sheet
lone_has zero E h =
    let e = h.skeleton in
    let z : lone ≡ E.skeleton = cc in
    λ i. record { rows = back h.rows i; skeleton = back z i }
lone_has (suc k) E h = absurd (no_event h.skeleton)

lone_good : HasVerdict lone_bytes (Verdict.accepted lone_sheet)
unfolding lone_sheet is_key
lone_good = judged lone_read (right no_key (λ k E h. rw (lone_has k E h) lone_right))
  where
    no_key : (i : ℕ) → ¬ Lacking (Tag 0 ∷ []) i
    no_key zero l = true≢false (back l.a_key)
    no_key (suc i) l = omega (arith, l.a_term)

lone_realized : Realized (meant D₀)
unfolding Realized
lone_realized n t a =
    let (e, f) = lone_at n (recv t) a in
    let z : t ≡ tag 0 = cc in
    rw z ((before_closed (meant D₀) n).has_tag 0)

lone_counts : Gives lone_bytes AskSheet (answered (record { terms = 1; skeletons = 1 })) []
unfolding AskSheet lone_sheet
lone_counts =
    record {
      verdict = Verdict.accepted lone_sheet;
      judged = lone_good;
      is = said {x = lone_sheet} (record { same = refl }) tt (record { terms = refl; skeletons = refl; kept = refl });
    }

lone_answer : Gives lone_bytes (AskRealized 0) (answered realized) []
unfolding AskRealized lone_sheet
lone_answer =
    record {
      verdict = Verdict.accepted lone_sheet;
      judged = lone_good;
      is = said {x = D₀} (record { rows = refl; skeleton = refl }) tt (yes_realized lone_realized);
    }

pub text_of_one_skeleton : (lent : List ℕ)
    → Reports lone_bytes lent (ascii "sheet good terms 1 skeletons 1\nskeleton 0 realized\n")
unfolding sheet_line skeleton_line ascii
text_of_one_skeleton lent = one lone_counts refl lone_answer

-- TWO SKELETONS. The hash of a non-originating text is received; in the second skeleton it was sent before, on another strand

abbrev view : Skeleton ℕ
view = skeleton ((recv 1 ∷ []) ∷ []) [] (0 ∷ []) []

abbrev shape : Skeleton ℕ
shape = skeleton ((recv 1 ∷ []) ∷ (send 1 ∷ []) ∷ []) ((node 1 0, node 0 0) ∷ []) (0 ∷ []) []

abbrev rows : List Row
rows = Text 0 ∷ Hash 0 ∷ []

unfoldable pair_sheet : Sheet
pair_sheet = record { rows = rows; skeletons = view ∷ shape ∷ [] }

unfoldable pub pair_bytes : List ℕ
pair_bytes =
    (0x42 ∷ 0x53 ∷ 1 ∷ []) ++ TM_of 2 0 0 ++ TM_of 12 0 0
    ++ (0x53 ∷ 0x4b ∷ []) ++ (0x53 ∷ 0x54 ∷ 1 ∷ 1 ∷ 1 ∷ []) ++ (0x4e ∷ 0x4f ∷ 0 ∷ [])
    ++ (0x53 ∷ 0x4b ∷ []) ++ (0x53 ∷ 0x54 ∷ 1 ∷ 1 ∷ 1 ∷ []) ++ (0x53 ∷ 0x54 ∷ 1 ∷ 0 ∷ 1 ∷ [])
    ++ (0x4f ∷ 0x52 ∷ 1 ∷ 0 ∷ 0 ∷ 0 ∷ []) ++ (0x4e ∷ 0x4f ∷ 0 ∷ []) ++ (0x45 ∷ 0x4e ∷ [])

pair_read : Read start 0 pair_bytes (read pair_sheet)
unfolding pair_bytes pair_sheet start ended read_record after size sheet_of
pair_read =
    next refl refl (next refl refl (next refl refl (next refl refl (next refl refl (next refl refl (next refl refl
    (next refl refl (next refl refl (next refl refl (next refl refl (next refl refl (at_end refl))))))))))))

abbrev x : Term
x = atom (text 0)

abbrev D : Drawing
D = drawn rows view

abbrev E : Drawing
E = drawn rows shape

-- what is at their nodes
view_at : (n : Node) (e : Event Term) → At (meant D) n e → (n ≡ node 0 0) × (e ≡ recv (hash x))
unfolding meant means on_message term terms_after meaning
view_at n e a = go n.strand n.position a.is
  where
    go : (s p : ℕ) → get_elem? (get_or ((recv (hash x) ∷ []) ∷ []) s []) p ≡ some e → (node s p ≡ node 0 0) × (e ≡ recv (hash x))
    go zero zero h = let z : recv (hash x) ≡ e = cc in (refl, back z)
    go zero (suc p) h = absurd (no_event h)
    go (suc s) p h = absurd (no_event h)

data InShape : Node → Event Term → Type 0 where
  received : InShape (node 0 0) (recv (hash x))
  sent : InShape (node 1 0) (send (hash x))

shape_at : (n : Node) (e : Event Term) → At (meant E) n e → InShape n e
unfolding meant means on_message term terms_after meaning
shape_at n e a = go n.strand n.position a.is
  where
    go : (s p : ℕ) → get_elem? (get_or ((recv (hash x) ∷ []) ∷ (send (hash x) ∷ []) ∷ []) s []) p ≡ some e → InShape (node s p) e
    go zero zero h = let z : recv (hash x) ≡ e = cc in rw z at received
    go zero (suc p) h = absurd (no_event h)
    go (suc zero) zero h = let z : send (hash x) ≡ e = cc in rw z at sent
    go (suc zero) (suc p) h = absurd (no_event h)
    go (suc (suc s)) p h = absurd (no_event h)

shape_message : {n : Node} {e : Event Term} → InShape n e → message e ≡ hash x
unfolding message
shape_message received = refl
shape_message sent = refl

shape_received : {n : Node} {e : Event Term} → InShape n e → (t : Term) → e ≡ recv t → (n ≡ node 0 0) × (t ≡ hash x)
shape_received received t e = let z : hash x ≡ t = cc in (refl, back z)
shape_received sent t e = let z : ◌≡◌ {A = ℕ} 0 1 = cc in absurd (omega arith)

first_at : At (meant D) (node 0 0) (recv (hash x)) × At (meant E) (node 0 0) (recv (hash x))
    × At (meant E) (node 1 0) (send (hash x))
unfolding meant means on_message term terms_after meaning
first_at = (record { is = refl }, record { is = refl }, record { is = refl })

-- nothing is wrong with either
module _ (K : Skeleton Term) (hashes : (n : Node) (e : Event Term) → At K n e → message e ≡ hash x)
    (there : At K (node 0 0) (recv (hash x))) where
  not_missing : ¬ Missing K x
  unfolding message
  not_missing m =
      m.in_no_event
      (record {
        node = node 0 0;
        event = recv (hash x);
        at = there;
        occurs = rw (⊎_elim (λ e. e) (λ (b, i, o). absurd ((inside_nothing 0).0 i)) (occurs_in_atom m.occurs))
            (Occurs.hashed Occurs.here);
      })

  not_carried : ¬ Carried K x
  not_carried c =
      let e = hash_carries (rw (hashes c.node c.event c.at) at c.carries) in
      let z : ◌≡◌ {A = ℕ} 0 1 = cc in
      omega arith

view_short : (s : ℕ) → height (meant D) s < 2
unfolding meant means on_message
view_short zero = omega arith
view_short (suc s) = omega arith

view_unordered : (m n : Node) → ¬ Before (meant D) m n
unfolding meant means
view_unordered = no_order (meant D) view_short (λ m n k. Memᴰ.not-nil k)

text_means : term rows 0 ≡ x
unfolding term terms_after meaning
text_means = refl

view_right : Right D
unfolding message
view_right =
    record {
      acyclic = λ c. view_unordered c.node c.node c.cycle;
      nons = λ a m.
          rw (Memᴰ.eq_of_singleton m)
          (record {
            present = rw text_means (not_missing (meant D) hashes first_at.0);
            uncarried = rw text_means (not_carried (meant D) hashes first_at.0);
          });
      uniqs = λ a m. absurd (Memᴰ.not-nil m);
    }
  where
    hashes : (n : Node) (e : Event Term) → At (meant D) n e → message e ≡ hash x
    hashes n e a = ap message (view_at n e a).1

-- the only order is from the send to the reception
shape_short : (s : ℕ) → height (meant E) s < 2
unfolding meant means on_message
shape_short zero = omega arith
shape_short (suc zero) = omega arith
shape_short (suc (suc s)) = omega arith

shape_ordered : (m n : Node) → Before (meant E) m n → (m.strand ≡ 1) × (n.strand ≡ 0)
unfolding meant means
shape_ordered m n =
    precedence_least (meant E) (λ m n. (m.strand ≡ 1) × (n.strand ≡ 0)) (λ s p h. absurd (omega (arith, shape_short s)))
    (λ m n h. let e = Memᴰ.eq_of_singleton h in (ap (λ y. y.0.strand) e, ap (λ y. y.1.strand) e))
    (λ m n o p q. absurd (omega (arith, p.1, q.0)))

shape_right : Right E
shape_right =
    record {
      acyclic = λ c.
          let o = shape_ordered c.node c.node c.cycle in
          omega (arith, o.0, o.1);
      nons = λ a m.
          rw (Memᴰ.eq_of_singleton m)
          (record {
            present = rw text_means (not_missing (meant E) hashes first_at.1);
            uncarried = rw text_means (not_carried (meant E) hashes first_at.1);
          });
      uniqs = λ a m. absurd (Memᴰ.not-nil m);
    }
  where
    hashes : (n : Node) (e : Event Term) → At (meant E) n e → message e ≡ hash x
    hashes n e a = shape_message (shape_at n e a)

pair_right : (k : ℕ) (F : Drawing) → HasSkeleton k pair_sheet F → Right F
unfolding pair_sheet
pair_right zero F h =
    let e = h.skeleton in
    let z : view ≡ F.skeleton = cc in
    let d : D ≡ F = λ i. record { rows = h.rows i; skeleton = z i } in
    rw d at view_right
pair_right (suc zero) F h =
    let e = h.skeleton in
    let z : shape ≡ F.skeleton = cc in
    let d : E ≡ F = λ i. record { rows = h.rows i; skeleton = z i } in
    rw d at shape_right
pair_right (suc (suc k)) F h = absurd (no_event h.skeleton)

pair_good : HasVerdict pair_bytes (Verdict.accepted pair_sheet)
unfolding pair_sheet is_key
pair_good = judged pair_read (right no_key pair_right)
  where
    no_key : (i : ℕ) → ¬ Lacking rows i
    no_key zero l = true≢false (back l.a_key)
    no_key (suc zero) l = true≢false (back l.a_key)
    no_key (suc (suc i)) l = omega (arith, l.a_term)

-- the first is open: nobody sent the hash, and the text in it is withheld
unsent : (t : Term) → ¬ SentBefore (meant D) (node 0 0) t
unsent t s =
    let e = (view_at s.sender (send t) s.at).1 in
    let z : ◌≡◌ {A = ℕ} 0 1 = cc in
    omega arith

withheld : Withheld (meant D) (text 0)
unfolding meant means term terms_after meaning
withheld = non_withheld (meant D) (text 0) (Memᴰ.head refl)

underivable : ¬ DerivableBefore (meant D) (node 0 0) (hash x)
unfolding DerivableBefore Built
underivable d = built_only (Withheld (meant D)) (SentBefore (meant D) (node 0 0)) unsent (hash x) d withheld

none_sooner : {m n : Node} → n ≡ node 0 0 → ¬ Sooner m n
none_sooner e (Sooner.strand l) = let z = ap (λ y. y.strand) e in omega (arith, z)
none_sooner e (Sooner.position f l) = let z = ap (λ y. y.position) e in omega (arith, z)

view_open : FirstOpen (meant D) (node 0 0)
view_open =
    record {
      message = hash x;
      at = first_at.0;
      unrealized = underivable;
      first = λ m t s a. absurd (none_sooner refl s);
    }

-- the second is realized: the hash was sent before
shape_realized : Realized (meant E)
unfolding Realized meant means
shape_realized n t a =
    let (e, f) = shape_received (shape_at n (recv t) a) t refl in
    rw (e, f)
    ((before_closed (meant E) (node 0 0)).has_sent (hash x)
    (record { sender = node 1 0; at = first_at.2; before = Before.listed (Memᴰ.head refl) }))

-- the one map: the reception goes to the reception
plain : Subst
plain =
    record {
      to_mesg = mesg;
      to_text = λ n. n;
      to_datum = λ n. n;
      to_name = λ n. n;
      to_sym = skey;
      to_asym = λ n. (false, akey n);
    }

is_a_map : IsStrandMap (meant D) (meant E) (0 ∷ [])
unfolding meant means apply on_atom plain message term terms_after meaning
is_a_map =
    rules_make_a_map (meant D) (meant E) (0 ∷ []) plain refl inside directions messages
    (λ m n b. absurd (view_unordered m n b))
    (λ t m. rw (Memᴰ.eq_of_singleton m) (Memᴰ.head refl))
    (λ t m. absurd (Memᴰ.not-nil m))
  where
    inside : (s : ℕ) → s < 1 → get_or (0 ∷ []) s 0 < 2
    inside zero l = omega arith
    inside (suc s) l = absurd (omega arith)

    directions : (n : Node) (e : Event Term) → At (meant D) n e
        → (d : Event Term) × At (meant E) (node (get_or (0 ∷ []) n.strand 0) n.position) d × SameDirection e d
    directions n e a =
        let (f, g) = view_at n e a in
        rw (f, g) (recv (hash x), first_at.1, both_receive)

    messages : (n : Node) (e d : Event Term) → At (meant D) n e
        → At (meant E) (node (get_or (0 ∷ []) n.strand 0) n.position) d
        → apply plain (message e) ≡ message d
    messages n e d a b =
        let (f, g) = view_at n e a in
        let h : message d ≡ hash x = shape_message (shape_at _ d b) in
        rw (g, h) refl

only_map : (bytes : List ℕ) → IsStrandMap (meant D) (meant E) bytes → bytes ≡ 0 ∷ []
unfolding meant means
only_map bytes m =
    let (u, a) = map_receptions (meant D) (meant E) bytes m (node 0 0) (hash x) first_at.0 in
    let e : get_or bytes 0 0 ≡ 0 = ap (λ y. y.strand) (shape_received (shape_at _ (recv u) a) u refl).0 in
    go bytes (map_strands (meant D) (meant E) bytes m).0 e
  where
    go : (l : List ℕ) → length l ≡ 1 → get_or l 0 0 ≡ 0 → l ≡ 0 ∷ []
    go [] h e = absurd (omega arith)
    go (b ∷ []) h e = rw e
    go (b ∷ c ∷ l) h e = absurd (omega arith)

the_maps : TheMaps (meant D) (meant E) ((0 ∷ []) ∷ [])
the_maps =
    record {
      rising = more (λ y m. absurd (Memᴰ.not-nil m)) none;
      members = λ bytes. (λ m. rw (Memᴰ.eq_of_singleton m) is_a_map, λ m. rw (only_map bytes m) (Memᴰ.head refl));
    }

-- the answers
pair_counts : Gives pair_bytes AskSheet (answered (record { terms = 2; skeletons = 2 })) []
unfolding AskSheet pair_sheet
pair_counts =
    record {
      verdict = Verdict.accepted pair_sheet;
      judged = pair_good;
      is = said {x = pair_sheet} (record { same = refl }) tt (record { terms = refl; skeletons = refl; kept = refl });
    }

view_answer : Gives pair_bytes (AskRealized 0) (answered (open_at (node 0 0))) []
unfolding AskRealized pair_sheet
view_answer =
    record {
      verdict = Verdict.accepted pair_sheet;
      judged = pair_good;
      is = said {x = D} (record { rows = refl; skeleton = refl }) tt (first_open view_open);
    }

shape_answer : Gives pair_bytes (AskRealized 1) (answered realized) []
unfolding AskRealized pair_sheet
shape_answer =
    record {
      verdict = Verdict.accepted pair_sheet;
      judged = pair_good;
      is = said {x = E} (record { rows = refl; skeleton = refl }) tt (yes_realized shape_realized);
    }

are_there : HasSkeletons 0 1 pair_sheet (D, E)
unfolding pair_sheet
are_there = record { from = record { rows = refl; skeleton = refl }; to = record { rows = refl; skeleton = refl } }

-- a list of one byte is all that is needed
pub text_of_two_skeletons : (lent : List ℕ) → 1 ≤ length lent
    → Reports pair_bytes lent
    (ascii "sheet good terms 2 skeletons 2\nskeleton 0 open at 0 0\nskeleton 1 realized\nmaps 0 to 1: 1\n0\n")
unfolding sheet_line skeleton_line maps_line map_lines ascii
text_of_two_skeletons lent l =
    two pair_counts refl view_answer shape_answer
    (ListText.listed pair_good are_there (record { maps = (0 ∷ []) ∷ []; all = the_maps; fits = omega arith }) the_maps)

-- NO ROOM: "`maps 0 to 1 refused 16` for room"
short : ¬ ListRoom 0 1 [] (D, E)
short r = go r.maps r.fits ((r.all.members (0 ∷ [])).1 is_a_map)
  where
    go : (maps : List (List ℕ)) → length maps * 1 ≤ 0 → ¬ Memᴰ (0 ∷ []) maps
    go [] l m = Memᴰ.not-nil m
    go (y ∷ maps) l m = omega arith

pub text_without_room : Reports pair_bytes []
    (ascii "sheet good terms 2 skeletons 2\nskeleton 0 open at 0 0\nskeleton 1 realized\nmaps 0 to 1 refused 16\n")
unfolding sheet_line skeleton_line maps_line ascii
text_without_room = two pair_counts refl view_answer shape_answer (no_room pair_good are_there short)

-- "Each map is a line", in the list's order
pub lines_of_maps : map_lines ((0 ∷ 1 ∷ []) ∷ (1 ∷ 0 ∷ []) ∷ []) ≡ ascii "0 1\n1 0\n"
unfolding map_lines
lines_of_maps = refl

-- AND NO OTHER FORM

pub list_text_only : (bytes lent : List ℕ) {text : List ℕ} → ListText bytes lent text
    → (s : Sheet) × (y : Drawing × Drawing) × HasVerdict bytes (Verdict.accepted s) × HasSkeletons 0 1 s y
    × (((maps : List (List ℕ)) × ListRoom 0 1 lent y × TheMaps (meant y.0) (meant y.1) maps
    × (text ≡ maps_line 0 1 (answered (length maps)) ++ map_lines maps))
    ⊎ ((¬ ListRoom 0 1 lent y) × (text ≡ maps_line 0 1 (refused (given_as 16 0 0)))))
list_text_only bytes lent (ListText.listed {s} {x = y} {maps} v h r m) = (s, y, v, h, inl (maps, r, m, refl))
list_text_only bytes lent (no_room {s} {x = y} v h n) = (s, y, v, h, inr (n, refl))

pub reports_only : (bytes lent : List ℕ) {text : List ℕ} → Reports bytes lent text
    → ((r : Refusal) × Gives bytes AskSheet (refused r) [] × (text ≡ sheet_line (refused r)))
    ⊎ (((c : Counts) × (o : Openness) × Gives bytes AskSheet (answered c) [] × (c.skeletons ≡ 1)
    × Gives bytes (AskRealized 0) (answered o) [] × (text ≡ sheet_line (answered c) ++ skeleton_line 0 o))
    ⊎ ((c : Counts) × (o p : Openness) × (maps : List ℕ) × Gives bytes AskSheet (answered c) [] × (c.skeletons ≡ 2)
    × Gives bytes (AskRealized 0) (answered o) []
    × Gives bytes (AskRealized 1) (answered p) []
    × ListText bytes lent maps
    × (text ≡ sheet_line (answered c) ++ skeleton_line 0 o ++ skeleton_line 1 p ++ maps)))
reports_only bytes lent (bad {r} g) = inl (r, g, refl)
reports_only bytes lent (one {c} {o} g e h) = inr (inl (c, o, g, e, h, refl))
reports_only bytes lent (two {c} {o} {p} {maps} g e h k m) = inr (inr (c, o, p, maps, g, e, h, k, m, refl))

-- THE PROGRAM: "reads a sheet from standard input (its first 4,096 bytes decide) and lends the list 49,152 bytes"
pub output_iff : (input out : List ℕ)
    → Output input out ↔ ((lent : List ℕ) × (length lent ≡ 49152) × Reports (take 4096 input) lent out)
output_iff input out = (λ o. (o.lent, o.lends, o.reports), λ (l, e, r). record { lent = l; lends = e; reports = r })

all_taken : take 4096 pair_bytes ≡ pair_bytes
unfolding pair_bytes
all_taken = refl

pub output_of_two_skeletons : Output pair_bytes
    (ascii "sheet good terms 2 skeletons 2\nskeleton 0 open at 0 0\nskeleton 1 realized\nmaps 0 to 1: 1\n0\n")
output_of_two_skeletons = with_space (replicate 49152 0) (length-replicate {A = ℕ} 49152 0)
  where
    with_space : (lent : List ℕ) → length lent ≡ 49152 → Output pair_bytes
        (ascii "sheet good terms 2 skeletons 2\nskeleton 0 open at 0 0\nskeleton 1 realized\nmaps 0 to 1: 1\n0\n")
    with_space lent e =
        record { lent = lent; lends = e; reports = rw all_taken (text_of_two_skeletons lent (omega (arith, e))) }
