-- What holds of all that is read so far: the table is fair, each skeleton is drawn on it within the limits, and the last record
-- tells which lists are still empty.
use Rattle.std.specs.Prelude.{◌≡◌, refl, ◌≢◌, ◌⊎◌, ℕ, ◌+◌, ◌≤◌, ◌<◌, T, ltb, length, get_or, drop}
use Rattle.std.proofs.Common.{◌∙◌, sym as back, inl, inr, ⊎_elim, arith, T_not, ltb→lt}
use mathlib.Core.List.Memᴰ
use mathlib.Core.List.{List, [], ◌∷◌, ◌++◌}
use Rattle.std.proofs.Math.Option.{Option, none, some}
use Rattle.std.proofs.Math.Decide.{dec_lt}
use Rattle.std.proofs.Math.ListN.{length-append, length-drop, get_or-append}
use Rattle.std.proofs.Math.Seq.{get_or-append_seam}
use Rattle.model.specs.Limits.{most_terms, most_skeletons, most_strands, most_orders, most_nons, most_uniqs}
use Rattle.model.specs.Table.{Row, Tag, Mesg, Text, Datum, Name, Skey, Akey, Pubk, Inv, Ltk, Pair, Enc, Hash, row, is_atom}
use Rattle.model.specs.Skeleton.{Node, Skeleton, Event}
use Rattle.model.specs.Reading.{Mark, BS, TM, SK, ST, OR, NO, UO, EN, Record, edition, begin, end, term, strand, order, non, uniq, State, start, blank, in_work, on_sheet, event_at, sends, receives, an_atom, redrawn, with_strand, with_order, with_non, with_uniq, after}
use Rattle.theory.specs.Tests.{both}
use Rattle.theory.specs.Each.{Each, each_nil, each_cons, each_append}
use Rattle.theory.specs.Places.{listed_at}
use Rattle.theory.specs.GoodTable.{Earlier, Sorted, earlier_true, sorted_true, on_sheet_iff}
use Rattle.theory.specs.Records.{RightRow, RightTrace, Right, mark_of, may, Allowed}

-- The table

pub record Fair (rows : List Row) : Type 0 where
  pub few : length rows ≤ most_terms
  pub earlier_args : (i : ℕ) → i < length rows → Earlier i (row rows i)
  pub sorted_args : (i : ℕ) → i < length rows → Sorted (row rows) (row rows i)
  pub distinct : (i j : ℕ) → i < length rows → j < length rows → row rows i ≡ row rows j → i ≡ j

pub sorted_along : (f g : ℕ → Row) (m : ℕ) → ((j : ℕ) → j < m → f j ≡ g j) → (r : Row) → Earlier m r → Sorted f r → Sorted g r
unfolding Earlier Sorted
sorted_along f g m h (Tag n) e s = tt
sorted_along f g m h (Mesg n) e s = tt
sorted_along f g m h (Text n) e s = tt
sorted_along f g m h (Datum n) e s = tt
sorted_along f g m h (Name n) e s = tt
sorted_along f g m h (Skey n) e s = tt
sorted_along f g m h (Akey n) e s = tt
sorted_along f g m h (Pubk a) e s = rw (h a e) at s
sorted_along f g m h (Inv a) e s = rw (h a e) at s
sorted_along f g m h (Ltk a b) e s = (rw (h a e.0) at s.0, rw (h b e.1) at s.1)
sorted_along f g m h (Pair a b) e s = tt
sorted_along f g m h (Enc a b) e s = rw (h b e.1) at s
sorted_along f g m h (Hash a) e s = tt

module _ (rows : List Row) (r : Row) where
  abbrev more : List Row
  more = rows ++ (r ∷ [])

  old : (i : ℕ) → i < length rows → row rows i ≡ row more i
  old i h = back (get_or-append rows _ _ i h)

  is_last : (i : ℕ) → i ≡ length rows → row more i ≡ r
  is_last i e = rw e (get_or-append_seam rows r [] (Tag 0))

  old_or_last : (i : ℕ) → i < length more → (i < length rows) ⊎ (i ≡ length rows)
  old_or_last i h = go (dec_lt i (length rows)) (rw length-append at h)
    where
      go : Dec (i < length rows) → i < length rows + 1 → (i < length rows) ⊎ (i ≡ length rows)
      go (yes l) k = inl l
      go (no l) k = inr (omega arith)

  module _ (fair : Fair rows) (right : RightRow rows r) where
    not_old : (i : ℕ) → i < length rows → row rows i ≢ r
    not_old i h e = T_not (on_sheet rows r) right.new ((on_sheet_iff rows r).1 (rw e at (listed_at rows i (Tag 0) h)))

    earlier_r : Earlier (length rows) r
    earlier_r = earlier_true (length rows) r right.earlier_args

    sorted_r : Sorted (row rows) r
    sorted_r = sorted_true (row rows) r right.sorted_args

    pub fair_more : Fair more
    fair_more =
        record {
          few = rw length-append (omega (arith, right.room));
          earlier_args = λ i h. ⊎_elim (λ l. rw (old i l) at (fair.earlier_args i l)) (λ e. rw (is_last i e) (rw e earlier_r))
              (old_or_last i h);
          sorted_args = λ i h.
              ⊎_elim
              (λ l. sorted_along (row rows) (row more) i (λ j k. old j (omega arith)) (row more i)
              (rw (old i l) at (fair.earlier_args i l)) (rw (old i l) at (fair.sorted_args i l)))
              (λ e. rw (is_last i e) (sorted_along (row rows) (row more) (length rows) old r earlier_r sorted_r))
              (old_or_last i h);
          distinct = λ i j h k e. go i j e (old_or_last i h) (old_or_last j k);
        }
      where
        go : (i j : ℕ) → row more i ≡ row more j → (i < length rows) ⊎ (i ≡ length rows) → (j < length rows) ⊎ (j ≡ length rows)
            → i ≡ j
        go i j e (inl l) (inl m) = fair.distinct i j l m (old i l ∙ (e ∙ back (old j m)))
        go i j e (inl l) (inr q) = absurd (not_old i l (old i l ∙ (e ∙ is_last j q)))
        go i j e (inr p) (inl m) = absurd (not_old j m (old j m ∙ (back e ∙ is_last i p)))
        go i j e (inr p) (inr q) = p ∙ back q

-- The skeletons

pub record Joins (K : Skeleton ℕ) (e : Node × Node) : Type 0 where
  pub from : T (sends (event_at K e.0))
  pub to : T (receives (event_at K e.1))

-- drawn on the table, within the limits
pub record Drawn (rows : List Row) (K : Skeleton ℕ) : Type 0 where
  pub few_strands : length K.strands ≤ most_strands
  pub traces : Each (RightTrace (length rows)) K.strands
  pub few_orders : length K.order ≤ most_orders
  pub orders : Each (Joins K) K.order
  pub few_nons : length K.non ≤ most_nons
  pub nons : Each (λ t. T (an_atom rows t)) K.non
  pub few_uniqs : length K.uniq ≤ most_uniqs
  pub uniqs : Each (λ t. T (an_atom rows t)) K.uniq

pub atom_inside : (rows : List Row) (t : ℕ) → T (an_atom rows t) → t < length rows
unfolding an_atom
atom_inside rows t h = ltb→lt t (length rows) (both (ltb t (length rows)) (is_atom (row rows t)) h).0

pub record HasStrand (K : Skeleton ℕ) : Type 0 where
  pub one : 1 ≤ length K.strands

-- How far the sheet is: the last record's mark, in the order of the paper

unfoldable pub rank : Option Mark → ℕ
rank none = 0
rank (some BS) = 1
rank (some TM) = 2
rank (some SK) = 3
rank (some ST) = 4
rank (some OR) = 5
rank (some NO) = 6
rank (some UO) = 7
rank (some EN) = 8

-- what a mark that may come next says of it
pub may_BS : (l : Option Mark) → T (may l BS) → rank l ≤ 0
unfolding may rank
may_BS none t = omega arith
may_BS (some BS) t = absurd t
may_BS _ t = elim t [ ]

pub record Between (a b n : ℕ) : Type 0 where
  pub from : a ≤ n
  pub to : n ≤ b

pub may_TM : (l : Option Mark) → T (may l TM) → Between 1 2 (rank l)
unfolding may rank
may_TM (some BS) t = record { from = omega arith; to = omega arith }
may_TM (some TM) t = record { from = omega arith; to = omega arith }
may_TM _ t = elim t [ ]

pub may_SK : (l : Option Mark) → T (may l SK) → Between 1 2 (rank l) ⊎ Between 4 7 (rank l)
unfolding may rank
may_SK (some BS) t = inl (record { from = omega arith; to = omega arith })
may_SK (some TM) t = inl (record { from = omega arith; to = omega arith })
may_SK (some ST) t = inr (record { from = omega arith; to = omega arith })
may_SK (some OR) t = inr (record { from = omega arith; to = omega arith })
may_SK (some NO) t = inr (record { from = omega arith; to = omega arith })
may_SK (some UO) t = inr (record { from = omega arith; to = omega arith })
may_SK _ t = elim t [ ]

pub may_ST : (l : Option Mark) → T (may l ST) → Between 3 4 (rank l)
unfolding may rank
may_ST (some SK) t = record { from = omega arith; to = omega arith }
may_ST (some ST) t = record { from = omega arith; to = omega arith }
may_ST _ t = elim t [ ]

pub may_OR : (l : Option Mark) → T (may l OR) → Between 4 5 (rank l)
unfolding may rank
may_OR (some ST) t = record { from = omega arith; to = omega arith }
may_OR (some OR) t = record { from = omega arith; to = omega arith }
may_OR _ t = elim t [ ]

pub may_NO : (l : Option Mark) → T (may l NO) → Between 4 6 (rank l)
unfolding may rank
may_NO (some ST) t = record { from = omega arith; to = omega arith }
may_NO (some OR) t = record { from = omega arith; to = omega arith }
may_NO (some NO) t = record { from = omega arith; to = omega arith }
may_NO _ t = elim t [ ]

pub may_UO : (l : Option Mark) → T (may l UO) → Between 4 7 (rank l)
unfolding may rank
may_UO (some ST) t = record { from = omega arith; to = omega arith }
may_UO (some OR) t = record { from = omega arith; to = omega arith }
may_UO (some NO) t = record { from = omega arith; to = omega arith }
may_UO (some UO) t = record { from = omega arith; to = omega arith }
may_UO _ t = elim t [ ]

pub may_EN : (l : Option Mark) → T (may l EN) → Between 4 7 (rank l)
unfolding may rank
may_EN (some ST) t = record { from = omega arith; to = omega arith }
may_EN (some OR) t = record { from = omega arith; to = omega arith }
may_EN (some NO) t = record { from = omega arith; to = omega arith }
may_EN (some UO) t = record { from = omega arith; to = omega arith }
may_EN _ t = elim t [ ]

-- which lists are still empty
pub record InOrder (s : State) : Type 0 where
  pub no_rows : rank s.last ≤ 1 → s.rows ≡ []
  pub no_drawing : rank s.last ≤ 2 → s.drawn ≡ []
  pub no_strand : rank s.last ≤ 3 → (in_work s).strands ≡ []
  pub no_order : rank s.last ≤ 4 → (in_work s).order ≡ []
  pub no_non : rank s.last ≤ 5 → (in_work s).non ≡ []
  pub no_uniq : rank s.last ≤ 6 → (in_work s).uniq ≡ []
  pub begun : 3 ≤ rank s.last → s.drawn ≡ in_work s ∷ drop 1 s.drawn
  pub a_strand : 4 ≤ rank s.last → HasStrand (in_work s)
  pub others : Each HasStrand (drop 1 s.drawn)

-- all of it
pub record Kept (s : State) : Type 0 where
  pub table : Fair s.rows
  pub few_skeletons : length s.drawn ≤ most_skeletons
  pub drawings : Each (Drawn s.rows) s.drawn
  pub in_order : InOrder s

pub start_kept : Kept start
unfolding start rank in_work blank
start_kept =
    record {
      table = record {
        few = omega arith;
        earlier_args = λ i h. absurd (omega arith);
        sorted_args = λ i h. absurd (omega arith);
        distinct = λ i j h. absurd (omega arith);
      };
      few_skeletons = omega arith;
      drawings = each_nil _;
      in_order = record {
        no_rows = λ _. refl;
        no_drawing = λ _. refl;
        no_strand = λ _. refl;
        no_order = λ _. refl;
        no_non = λ _. refl;
        no_uniq = λ _. refl;
        begun = λ h. absurd (omega arith);
        a_strand = λ h. absurd (omega arith);
        others = each_nil _;
      };
    }

-- A record keeps it

module _ (s : State) (kept : Kept s) where
  abbrev o : InOrder s
  o = kept.in_order

  abbrev K : Skeleton ℕ
  K = in_work s

  blank_drawn : Drawn s.rows blank
  unfolding blank
  blank_drawn =
      record {
        few_strands = omega arith;
        traces = each_nil _;
        few_orders = omega arith;
        orders = each_nil _;
        few_nons = omega arith;
        nons = each_nil _;
        few_uniqs = omega arith;
        uniqs = each_nil _;
      }

  -- the skeleton in work, and the others
  work_drawn : Drawn s.rows (in_work s)
  unfolding in_work
  work_drawn = go s.drawn kept.drawings
    where
      go : (l : List (Skeleton ℕ)) → Each (Drawn s.rows) l → Drawn s.rows (get_or l 0 blank)
      go [] f = blank_drawn
      go (K ∷ l) f = f K (Memᴰ.head refl)

  others_each : (P : Skeleton ℕ → Type 0) (l : List (Skeleton ℕ)) → Each P l → Each P (drop 1 l)
  others_each P [] f = f
  others_each P (K ∷ l) f = λ x m. f x (Memᴰ.tail m)

  -- while nothing is drawn yet
  undrawn : (m : Mark) (rows : List Row) → rank (some m) ≤ 2 → (rank (some m) ≤ 1 → rows ≡ []) → s.drawn ≡ [] → Fair rows
      → Kept (record { last = some m; rows = rows; drawn = s.drawn })
  unfolding in_work blank
  undrawn m rows l f e h =
      rw e
      (record {
        table = h;
        few_skeletons = omega arith;
        drawings = each_nil _;
        in_order = record {
          no_rows = f;
          no_drawing = λ _. refl;
          no_strand = λ _. refl;
          no_order = λ _. refl;
          no_non = λ _. refl;
          no_uniq = λ _. refl;
          begun = λ k. absurd (omega arith);
          a_strand = λ k. absurd (omega arith);
          others = each_nil _;
        };
      })

  -- the skeleton in work is drawn anew
  redrawn_kept : (m : Mark) (L : Skeleton ℕ) → 4 ≤ rank (some m) → HasStrand L → Drawn s.rows L
      → (rank (some m) ≤ 4 → L.order ≡ [])
      → (rank (some m) ≤ 5 → L.non ≡ [])
      → (rank (some m) ≤ 6 → L.uniq ≡ [])
      → Kept (redrawn m s L)
  unfolding redrawn in_work
  redrawn_kept m L l h d f g k =
      record {
        table = kept.table;
        few_skeletons = omega (arith, kept.few_skeletons, length-drop 1 s.drawn);
        drawings = each_cons _ d (others_each _ s.drawn kept.drawings);
        in_order = record {
          no_rows = λ h. absurd (omega arith);
          no_drawing = λ h. absurd (omega arith);
          no_strand = λ h. absurd (omega arith);
          no_order = f;
          no_non = g;
          no_uniq = k;
          begun = λ _. refl;
          a_strand = λ _. h;
          others = o.others;
        };
      }

  kept_edition : Allowed s edition → Kept (after s edition)
  unfolding after rank mark_of
  kept_edition a =
      let r = may_BS s.last a.next in
      undrawn BS s.rows (omega arith) (λ _. o.no_rows (omega arith)) (o.no_drawing (omega arith)) kept.table

  kept_term : (r : Row) → Allowed s (term r) → Kept (after s (term r))
  unfolding after rank mark_of Right
  kept_term r a =
      let k = may_TM s.last a.next in
      undrawn TM (s.rows ++ (r ∷ [])) (omega arith) (λ h. absurd (omega arith)) (o.no_drawing k.to)
      (fair_more s.rows r kept.table a.right)

  -- all skeletons so far have a strand, where another may begin
  all_begun : Between 1 2 (rank s.last) ⊎ Between 4 7 (rank s.last) → Each HasStrand s.drawn
  all_begun (inl h) = rw (o.no_drawing h.to) (each_nil _)
  all_begun (inr h) = rw (o.begun (omega (arith, h.from))) (each_cons _ (o.a_strand h.from) o.others)

  kept_begin : Allowed s begin → Kept (after s begin)
  unfolding after rank mark_of Right in_work blank
  kept_begin a =
      record {
        table = kept.table;
        few_skeletons = a.right;
        drawings = each_cons _ blank_drawn kept.drawings;
        in_order = record {
          no_rows = λ h. absurd (omega arith);
          no_drawing = λ h. absurd (omega arith);
          no_strand = λ _. refl;
          no_order = λ _. refl;
          no_non = λ _. refl;
          no_uniq = λ _. refl;
          begun = λ _. refl;
          a_strand = λ h. absurd (omega arith);
          others = all_begun (may_SK s.last a.next);
        };
      }

  kept_strand : (t : List (Event ℕ)) → Allowed s (strand t) → Kept (after s (strand t))
  unfolding after with_strand rank mark_of Right
  kept_strand t a =
      let k = may_ST s.last a.next in
      let d = work_drawn in
      redrawn_kept ST (with_strand K t) (omega arith) (record { one = rw length-append (omega arith) })
      (record {
        few_strands = rw length-append (omega (arith, a.right.room));
        traces = each_append _ K.strands d.traces (each_cons _ a.right.right (each_nil _));
        few_orders = d.few_orders;
        orders = rw (o.no_order k.to) (each_nil _);
        few_nons = d.few_nons;
        nons = d.nons;
        few_uniqs = d.few_uniqs;
        uniqs = d.uniqs;
      })
      (λ _. o.no_order k.to) (λ _. o.no_non (omega arith)) (λ _. o.no_uniq (omega arith))

  kept_order : (m n : Node) → Allowed s (order m n) → Kept (after s (order m n))
  unfolding after with_order rank mark_of Right event_at
  kept_order m n a =
      let k = may_OR s.last a.next in
      let d = work_drawn in
      redrawn_kept OR (with_order K m n) (omega arith) (record { one = (o.a_strand k.from).one })
      (record {
        few_strands = d.few_strands;
        traces = d.traces;
        few_orders = rw length-append (omega (arith, a.right.room));
        orders = each_append _ K.order (λ e m. record { from = (d.orders e m).from; to = (d.orders e m).to })
            (each_cons _ (record { from = a.right.from; to = a.right.to }) (each_nil _));
        few_nons = d.few_nons;
        nons = d.nons;
        few_uniqs = d.few_uniqs;
        uniqs = d.uniqs;
      })
      (λ h. absurd (omega arith)) (λ _. o.no_non k.to) (λ _. o.no_uniq (omega arith))

  kept_non : (t : ℕ) → Allowed s (non t) → Kept (after s (non t))
  unfolding after with_non rank mark_of Right event_at
  kept_non t a =
      let k = may_NO s.last a.next in
      let d = work_drawn in
      redrawn_kept NO (with_non K t) (omega arith) (record { one = (o.a_strand k.from).one })
      (record {
        few_strands = d.few_strands;
        traces = d.traces;
        few_orders = d.few_orders;
        orders = λ e m. record { from = (d.orders e m).from; to = (d.orders e m).to };
        few_nons = rw length-append (omega (arith, a.right.room));
        nons = each_append _ K.non d.nons (each_cons _ a.right.atom (each_nil _));
        few_uniqs = d.few_uniqs;
        uniqs = d.uniqs;
      })
      (λ h. absurd (omega arith)) (λ h. absurd (omega arith)) (λ _. o.no_uniq k.to)

  kept_uniq : (t : ℕ) → Allowed s (uniq t) → Kept (after s (uniq t))
  unfolding after with_uniq rank mark_of Right event_at
  kept_uniq t a =
      let k = may_UO s.last a.next in
      let d = work_drawn in
      redrawn_kept UO (with_uniq K t) (omega arith) (record { one = (o.a_strand k.from).one })
      (record {
        few_strands = d.few_strands;
        traces = d.traces;
        few_orders = d.few_orders;
        orders = λ e m. record { from = (d.orders e m).from; to = (d.orders e m).to };
        few_nons = d.few_nons;
        nons = d.nons;
        few_uniqs = rw length-append (omega (arith, a.right.room));
        uniqs = each_append _ K.uniq d.uniqs (each_cons _ a.right.atom (each_nil _));
      })
      (λ h. absurd (omega arith)) (λ h. absurd (omega arith)) (λ h. absurd (omega arith))

  kept_end : Allowed s end → Kept (after s end)
  unfolding after rank mark_of in_work
  kept_end a =
      let k = may_EN s.last a.next in
      record {
        table = kept.table;
        few_skeletons = kept.few_skeletons;
        drawings = kept.drawings;
        in_order = record {
          no_rows = λ h. absurd (omega arith);
          no_drawing = λ h. absurd (omega arith);
          no_strand = λ h. absurd (omega arith);
          no_order = λ h. absurd (omega arith);
          no_non = λ h. absurd (omega arith);
          no_uniq = λ h. absurd (omega arith);
          begun = λ _. o.begun (omega (arith, k.from));
          a_strand = λ _. record { one = (o.a_strand k.from).one };
          others = o.others;
        };
      }

  pub kept_after : (r : Record) → Allowed s r → Kept (after s r)
  kept_after edition a = kept_edition a
  kept_after (term r) a = kept_term r a
  kept_after begin a = kept_begin a
  kept_after (strand t) a = kept_strand t a
  kept_after (order m n) a = kept_order m n a
  kept_after (non t) a = kept_non t a
  kept_after (uniq t) a = kept_uniq t a
  kept_after end a = kept_end a
