-- There is a list of the maps of an accepted sheet.
use Rattle.std.specs.Prelude.{◌≡◌, ℕ, zero, suc, ◌*◌, ◌<◌, leb}
use Rattle.std.proofs.Math.Path.{refl, sym as back}
use Rattle.std.proofs.Common.{◌∙◌, ⊎_elim, arith, leb→le}
use mathlib.Core.List.Memᴰ
use mathlib.Core.List.{List, [], ◌∷◌, map, Memᴰ}
use Rattle.std.proofs.Math.Dec.{le→leb}
use Rattle.std.proofs.Math.ListN.{length, get_or, length-map}
use Rattle.model.specs.Term.{Term}
use Rattle.model.specs.Table.{Row, term}
use Rattle.model.specs.Skeleton.{Skeleton, means}
use Rattle.model.specs.Sheet.{Sheet, Verdict, Drawing, meant}
use Rattle.model.specs.Rising.{Rising, none, more, InDictionary, first, later}
use Rattle.model.specs.Maps.{IsStrandMap, TheMaps}
use Rattle.model.specs.Answers.{HasSkeletons, end_to_end, over, ListRoom, SaysList}
use Rattle.theory.specs.GoodTable.{Good}
use Rattle.theory.specs.MapLaws.{Rule1, AtomsOccur, skeleton_atoms}
use Rattle.theory.proofs.MapTests.{each_first, candidates, map_test, maps, IsListed, listed_iff}
use Rattle.theory.specs.Deciding.{dec_of, dec_to, dec_both}
use Rattle.theory.specs.Judgement.{Sound}
use Rattle.theory.specs.NoSecond.{maps_one}
use Rattle.theory.proofs.Answering.{Meets, Had, had, meets_skeleton}
use Rattle.theory.specs.OnTable.{OnTable}
use Rattle.theory.specs.RisingLists.{rising_append, rising_keep}

rising_longer : (b : ℕ) (l : List (List ℕ)) → Rising InDictionary l → Rising InDictionary (map (λ m. b ∷ m) l)
rising_longer b [] r = none
rising_longer b (x ∷ l) (more h r) =
    more
    (λ y q.
    let (m, k, e) = Memᴰ.of_map (λ m. b ∷ m) l q in
    let d : InDictionary (b ∷ x) (b ∷ m) = later (h m k) in
    rw e at d) (rising_longer b l r)

record Starts (b : ℕ) (x : List ℕ) : Type 0 where
  head : ℕ
  tail : List ℕ
  low : head < b
  is : head ∷ tail ≡ x

starts : (b : ℕ) (l : List (List ℕ)) (x : List ℕ) → Memᴰ x (each_first b l) → Starts b x
unfolding each_first
starts zero l x q = absurd (Memᴰ.not-nil q)
starts (suc b) l x q =
    ⊎_elim
    (λ k. let s = starts b l x k in record { head = s.head; tail = s.tail; low = omega (arith, s.low); is = s.is })
    (λ k. let (m, _, e) = Memᴰ.of_map (λ m. b ∷ m) l k in record { head = b; tail = m; low = omega arith; is = e })
    (Memᴰ.append_cases (each_first b l) q)

rising_each_first : (b : ℕ) (l : List (List ℕ)) → Rising InDictionary l → Rising InDictionary (each_first b l)
unfolding each_first
rising_each_first zero l r = none
rising_each_first (suc b) l r =
    rising_append InDictionary (each_first b l) (map (λ m. b ∷ m) l) (rising_each_first b l r) (rising_longer b l r)
    λ x y p q.
    let s = starts b l x p in
    let (m, _, e) = Memᴰ.of_map (λ m. b ∷ m) l q in
    let d : InDictionary (s.head ∷ s.tail) (b ∷ m) = first s.low in
    rw (s.is, e) at d

rising_candidates : (n b : ℕ) → Rising InDictionary (candidates n b)
unfolding candidates
rising_candidates zero b = more (λ y q. absurd (Memᴰ.not-nil q)) none
rising_candidates (suc n) b = rising_each_first b (candidates n b) (rising_candidates n b)

module _ (rows : List Row) (good : Good rows) (A B : Skeleton ℕ) (okA : OnTable rows A) (okB : OnTable rows B)
    (occur : AtomsOccur (means (term rows) A)) where
  abbrev A' : Skeleton Term
  A' = means (term rows) A

  abbrev B' : Skeleton Term
  B' = means (term rows) B

  strands_meant : length A'.strands ≡ length A.strands
  unfolding means
  strands_meant = length-map A.strands _

  listed_map : (l : List ℕ) → IsListed rows good A B okA okB occur l → IsStrandMap A' B' l
  unfolding Rule1
  listed_map l i =
      let m = i.is_map in
      let full : length l ≡ length A'.strands = i.full ∙ back strands_meant in
      record {
        σ = i.σ;
        kept = record {
          strands = λ _. record { full = full; inside = λ s h. m.strands s (rw full at h) };
          directions = λ _. m.directions;
          messages = λ _. m.messages;
          order = λ _. m.order;
          non = λ _. m.non;
          uniq = λ _. m.uniq;
        };
      }

  map_listed : (l : List ℕ) → IsStrandMap A' B' l → IsListed rows good A B okA okB occur l
  unfolding Rule1
  map_listed l u =
      let k = u.kept in
      let b = k.strands (omega arith) in
      record {
        full = b.full ∙ strands_meant;
        σ = u.σ;
        is_map = record {
          strands = λ s h. b.inside s (rw b.full h);
          directions = k.directions (omega arith);
          messages = k.messages (omega arith);
          order = k.order (omega arith);
          non = k.non (omega arith);
          uniq = k.uniq (omega arith);
        };
      }

  in_order : Rising InDictionary (maps rows A B)
  unfolding maps
  in_order =
      rising_keep InDictionary (λ l. map_test rows A B (λ s. get_or l s 0)) (candidates (length A.strands) (length B.strands))
      (rising_candidates (length A.strands) (length B.strands))

  pub the_maps : TheMaps A' B' (maps rows A B)
  the_maps =
      record {
        rising = in_order;
        members = λ l. let h = listed_iff rows good A B okA okB occur l in
            (λ m. listed_map l (h.0 m), λ u. h.1 (map_listed l u));
      }

-- The question

module _ (source target : ℕ) (s : Sheet) where
  unfoldable pub meets_skeletons : Dec (Meets (HasSkeletons source target) s)
  unfolding dec_to dec_both meets_skeleton
  meets_skeletons =
      dec_to (dec_both (meets_skeleton source s) (meets_skeleton target s))
      (λ p. record { what = (p.0.what, p.1.what); is = record { from = p.0.is; to = p.1.is } })
      (λ m. (record { what = m.what.0; is = m.is.from }, record { what = m.what.1; is = m.is.to }))

  module _ (sound : Sound s) where
    unfoldable pub maps_of : Drawing × Drawing → List (List ℕ)
    unfolding maps
    maps_of x = maps x.0.rows x.0.skeleton x.1.skeleton

    pub maps_are : (x : Drawing × Drawing) → HasSkeletons source target s x → TheMaps (meant x.0) (meant x.1) (maps_of x)
    unfolding meant maps_of
    maps_are x h =
        let good : Good x.0.rows = rw h.from.rows at sound.good in
        let e : x.1.rows ≡ x.0.rows = back h.to.rows ∙ h.from.rows in
        let okB : OnTable x.0.rows x.1.skeleton = rw e at (sound.drawings target x.1 h.to) in
        let t = the_maps x.0.rows good x.0.skeleton x.1.skeleton (sound.drawings source x.0 h.from) okB
        (skeleton_atoms (meant x.0) (sound.skeletons source x.0 h.from)) in
        rw e t

    module _ (lent : List ℕ) where
      unfoldable pub room_test : (x : Drawing × Drawing) → HasSkeletons source target s x → Dec (ListRoom source target lent x)
      unfolding dec_to dec_of maps_of
      room_test x h =
          dec_to (dec_of (leb (length (maps_of x) * length x.0.skeleton.strands) (length lent)) (leb→le _ _, le→leb _ _))
          (λ l. record { maps = maps_of x; all = maps_are x h; fits = l })
          (λ r. let e : r.maps ≡ maps_of x = maps_one r.all (maps_are x h) in rw e at r.fits)

      unfoldable pub list_had : Had (HasSkeletons source target) (ListRoom source target lent) (SaysList source target lent) lent
          (Verdict.accepted s)
      unfolding had room_test meets_skeletons maps_of over end_to_end
      list_had =
          had (HasSkeletons source target) (ListRoom source target lent) (SaysList source target lent) lent s room_test
          (λ x h _. record {
            answer = length (maps_of x);
            after = over (end_to_end (maps_of x)) lent;
            is = record { maps = maps_of x; all = maps_are x h; counted = refl; written = refl };
          })
          meets_skeletons
