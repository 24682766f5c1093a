-- What is known of an accepted sheet of which only a proof is known to exist: all of it can be tested. Assumes nothing.
use Rattle.std.proofs.lemmas.Grind.{not_there}
use mathlib.Core.Path.{◌≡◌, ap, sym}
use mathlib.Core.Bool.{Bool, true, false, true≢false}
use mathlib.Core.List.{List}
use mathlib.Core.List.Memᴰ
use Prim.Native.Nat.{ℕ, ◌<◌, ◌≤◌}
use native.Mathlib.Decide.{ℕ_discrete, dec_lt, dec_le}
use lib.Dec.{T}
use Rattle.model.specs.Table.{Row, Akey, Pubk, row, term, is_key, kind, earlier, sorted}
use Rattle.model.specs.Skeleton.{Node, means}
use Rattle.model.specs.Sheet.{Sheet, Verdict, Drawing, meant}
use Rattle.model.specs.Accepting as Acc
use Rattle.model.specs.Accepting.{Lacking, Fault, a_cycle, missing, carried, not_one, early, Accepting, lacks, faulty}
use Rattle.theory.specs.GoodTable.{IsKey, an_akey, a_pubk, earlier_true, true_earlier, sorted_true, true_sorted}
use Rattle.theory.specs.Skeletons.{IsSkeleton}
use Rattle.theory.specs.Precedence.{Low}
use Rattle.theory.specs.Judgement.{Raw, Sound}
use Rattle.theory.proofs.Judgement.{judge, accepted_sound}
use Rattle.tables.specs.Tables.{sheet_in, Filled}
use Rattle.accept.specs.Held.{Stored}

module _ {X : Type 0} (known : ¬ (¬ X)) where
  below : {i n : ℕ} → (X → i < n) → i < n
  below {i} {n} f = elim (dec_lt i n) [ yes l ↦ l | no m ↦ absurd (known (λ x. m (f x))) ]

  at_most : {i n : ℕ} → (X → i ≤ n) → i ≤ n
  at_most {i} {n} f = elim (dec_le i n) [ yes l ↦ l | no m ↦ absurd (known (λ x. m (f x))) ]

  same : {i n : ℕ} → (X → i ≡ n) → i ≡ n
  same {i} {n} f = elim (ℕ_discrete i n) [ yes l ↦ l | no m ↦ absurd (known (λ x. m (f x))) ]

  holds : (b : Bool) → (X → T b) → T b
  holds true f = tt
  holds false f = absurd (known (λ x. f x))

pub raw_known : (s : Sheet) → ¬ (¬ Raw s) → Raw s
unfolding Low
raw_known s known =
    record {
      earlier = λ i l. earlier_true i _ (holds known (earlier i (row s.rows i)) (λ r. true_earlier i _ (r.earlier i l)));
      sorted = λ i l. sorted_true (row s.rows) _ (holds known (sorted (row s.rows) (row s.rows i)) (λ r. true_sorted (row s.rows) _ (r.sorted i l)));
      distinct = λ i j l m e. same known (λ r. r.distinct i j l m e);
      drawings = λ k D h. record {
        messages = λ n e a. below known (λ r. (r.drawings k D h).messages n e a);
        nons = λ t m. below known (λ r. (r.drawings k D h).nons t m);
        uniqs = λ t m. below known (λ r. (r.drawings k D h).uniqs t m);
        positions = λ n e a. below known (λ r. (r.drawings k D h).positions n e a);
        low = λ e m. (below known (λ r. ((r.drawings k D h).low e m).0), below known (λ r. ((r.drawings k D h).low e m).1));
        nodes = λ e m. (below known (λ r. ((r.drawings k D h).nodes e m).0), below known (λ r. ((r.drawings k D h).nodes e m).1));
      };
    }

pub filled_known : (t : List ℕ) → ¬ (¬ Filled t) → Filled t
filled_known t known =
    record {
      long = same known (λ f. f.long);
      terms = at_most known (λ f. f.terms);
      encoded = λ i l. record {
        kind_is = same known (λ f. (f.encoded i l).kind_is);
        first_is = same known (λ f. (f.encoded i l).first_is);
        second_is = same known (λ f. (f.encoded i l).second_is);
      };
      skeletons = at_most known (λ f. f.skeletons);
      blocks = λ k l. record {
        strands = at_most known (λ f. (f.blocks k l).strands);
        low = λ s h. at_most known (λ f. (f.blocks k l).low s h);
        orders_most = at_most known (λ f. (f.blocks k l).orders_most);
        nons_most = at_most known (λ f. (f.blocks k l).nons_most);
        uniqs_most = at_most known (λ f. (f.blocks k l).uniqs_most);
      };
    }

a_key : (r : Row) → is_key r ≡ true → IsKey r
unfolding is_key kind
a_key (Akey a) e = an_akey
a_key (Pubk a) e = a_pubk
a_key _ e = absurd (true≢false (sym e))

-- in a skeleton that obeys the rules nothing is at fault
no_fault : (D : Drawing) {n p : ℕ} → IsSkeleton (meant D) → ¬ Fault D n p
unfolding meant means
no_fault D rules (a_cycle c) = rules.acyclic c.node c.cycle
no_fault D rules (missing t u) =
    u.in_no_event (rules.non_occurs _ (Memᴰ.map (term D.rows) t.listed) u.part u.variable u.occurs)
no_fault D rules (carried t u) =
    rules.non_carried _ (Memᴰ.map (term D.rows) t.listed) u.node u.event u.at u.carries
no_fault D rules (not_one t u) =
    let listed = Memᴰ.map (term D.rows) t.listed in
    let (n, o) = rules.an_origin _ listed in
    u (record {
      strand = n.strand;
      originates = record { position = n.position; origin = o };
      only = λ s x. ap (λ (m : Node). m.strand)
          (rules.one_origin _ listed (record { strand = s; position = x.position }) n x.origin o);
    })
no_fault D rules (early t o u) =
    u.not_after (rules.after_origin _ (Memᴰ.map (term D.rows) t.listed) u.source u.node u.heard u.origin u.at u.carries)

-- a sound sheet was read, and has the inverse of each key
module _ (s : Sheet) (sound : Sound s) where
  is_raw : Raw s
  is_raw =
      record {
        earlier = sound.good.earlier;
        sorted = sound.good.sorted;
        distinct = sound.good.distinct;
        drawings = sound.drawings;
      }

  lacks_none : (i : ℕ) → ¬ Lacking s.rows i
  lacks_none i l = let (j, h, e) = sound.good.inverses i l.a_term (a_key (row s.rows i) l.a_key) in l.no_inverse j h e

pub sound_known : (s : Sheet) → ¬ (¬ Sound s) → Sound s
sound_known s known = go (judge s raw).is
  where
    raw : Raw s
    raw = raw_known s (λ no. known (λ sound. no (is_raw s sound)))

    go : {v : Verdict} → Accepting s v → Sound s
    go (lacks l f) = absurd (known (λ sound. lacks_none s sound _ l))
    go (faulty n h f x) = absurd (known (λ sound. no_fault _ (sound.skeletons _ _ h) x))
    go (Acc.right n g) = accepted_sound s raw (Acc.right n g)

module _ {t inverses : List ℕ} (known : ¬ (¬ Stored t inverses)) where
  stored_known : Stored t inverses
  stored_known =
      record {
        sound = sound_known (sheet_in t) (λ no. known (λ h. no h.sound));
        filled = filled_known t (λ no. known (λ h. no h.filled));
        inverted = record { at = λ i l. same known (λ h. h.inverted.at i l) };
        inverses_long = same known (λ h. h.inverses_long);
      }

-- what a question may rely on, from what the type of a sheet keeps
pub stored_of : {t inverses : List ℕ} → ∥ Stored t inverses ∥₁ → Stored t inverses
stored_of stored = stored_known (not_there stored)
