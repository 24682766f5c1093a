-- The bytes of a table, and the rules of its rows.
use mathlib.Core.Path.{◌≡◌, refl, sym, ◌∙◌}
use mathlib.Core.Bool.{Bool, true, false, not, cond}
use mathlib.Core.List.Memᴰ
use mathlib.Core.List.{List, [], ◌∷◌, ◌++◌}
use mathlib.Core.Logic.{◌⊎◌, inl, inr, ⊎_elim}
use Prim.Native.Nat.{ℕ, ◌+◌, ◌<◌}
use native.Mathlib.Omega.{arith}
use lib.Dec.{eqb, ltb, lit<}
use lib.ListN.{length}
use borrow.Author.Tests.{eqb-true, ne_eqb, lt-ltb}
use Rattle.model.specs.Table.{Row, Tag, Mesg, Text, Datum, Name, Skey, Akey, Pubk, Inv, Ltk, Pair, Enc, Hash, row, kind, first, second}
use Rattle.tables.proofs.Look.{count_is, row_in}
use Rattle.theory.specs.Each.{Each, each_nil, each_cons, each_append}
use Rattle.theory.specs.GoodTable.{Good}
use Rattle.theory.specs.Reach.{inverse_at}
use Rattle.theory.proofs.Reach.{atom_rules, row_rules}
use Rattle.theory.specs.Rules.{Rule, ◌⊢◌}
use Rattle.tables.specs.Layout.{firsts, seconds, term_count}
use Rattle.tables.specs.declared.kinds.Kind.{Kind}
use Rattle.tables.specs.Kinds.{code}
use Rattle.tables.specs.Tables.{byte, rows_in, Filled}
use Rattle.keys.specs.Inverted.{Inverted}
use Rattle.keys.proofs.Rows.{EarlierBytes, earlier_bytes}
use Rattle.stranger.specs.Moves.{free, builds, opens, builds_at, opens_at, moves_at, Opens, Moves}
use Rattle.stranger.specs.Steps.{Grown, Step}
use Rattle.stranger.proofs.Steps.{grown_then}

-- taking terms apart is a move, so what it adds is reached by moves
pub grown_opened : (t v : List ℕ) {s r x : List ℕ} → Grown (Moves t v) s r → Step (Opens t v) r x → Grown (Moves t v) s x
unfolding moves_at
grown_opened t v so_far step =
    grown_then (λ q h. h)
    (λ q h. record { of = h.of; from = h.from; to = h.to; in_list = Memᴰ.append_right (builds_at t h.of) h.in_list })
    so_far step.grown

-- The rules of a term, by what was read of it

module _ (t : List ℕ) (i : ℕ) (k : Kind) {a b : ℕ} (kind : code k ≡ byte t i) (first : a ≡ byte t (firsts + i))
    (second : b ≡ byte t (seconds + i)) where
  pub builds_read : builds_at t i ≡ builds i (code k) a b
  unfolding builds_at
  builds_read = rw (← kind, ← first, ← second)

  pub opens_read : (v : List ℕ) → opens_at t v i ≡ opens (byte v) i (code k) a b
  unfolding opens_at
  opens_read v = rw (← kind, ← first, ← second)

kind_cases : (k : Kind) → (code k < 10) ⊎ ((k ≡ Kind.Pair) ⊎ ((k ≡ Kind.Encryption) ⊎ (k ≡ Kind.Hash)))
kind_cases Kind.Tag = inl (lit< tt)
kind_cases Kind.Mesg = inl (lit< tt)
kind_cases Kind.Text = inl (lit< tt)
kind_cases Kind.Data = inl (lit< tt)
kind_cases Kind.Name = inl (lit< tt)
kind_cases Kind.Skey = inl (lit< tt)
kind_cases Kind.Akey = inl (lit< tt)
kind_cases Kind.Public = inl (lit< tt)
kind_cases Kind.Inverse = inl (lit< tt)
kind_cases Kind.LongTerm = inl (lit< tt)
kind_cases Kind.Pair = inr (inl refl)
kind_cases Kind.Encryption = inr (inr (inl refl))
kind_cases Kind.Hash = inr (inr (inr refl))

-- all others have no parts
module _ (k : Kind) (no_pair : ¬ (k ≡ Kind.Pair)) (no_encryption : ¬ (k ≡ Kind.Encryption)) where
  pub builds_none : ¬ (k ≡ Kind.Hash) → (i a b : ℕ) → builds i (code k) a b ≡ []
  unfolding builds
  builds_none no_hash i a b =
      ⊎_elim (λ low. simp (ne_eqb (code k) 12 (omega arith), lt-ltb (code k) 10 low) refl)
      (λ r. absurd (⊎_elim no_pair (⊎_elim no_encryption no_hash) r)) (kind_cases k)

  pub opens_none : (f : ℕ → ℕ) (i a b : ℕ) → opens f i (code k) a b ≡ []
  unfolding opens
  opens_none f i a b =
      ⊎_elim (λ low. simp (ne_eqb (code k) 10 (omega arith), ne_eqb (code k) 11 (omega arith)) refl)
      (⊎_elim (λ e. absurd (no_pair e)) (⊎_elim (λ e. absurd (no_encryption e)) (λ e. rw e refl))) (kind_cases k)

-- The rules of a row are that of the start, and its moves

-- what he has from the start, as a rule
unfoldable pub given_rule : ℕ → ℕ → Bool → List Rule
given_rule i k withheld = cond (free k withheld) (◌⊢◌ [] i ∷ []) []

module _ (withheld : ℕ → Bool) (inverse : ℕ → ℕ) (i : ℕ) where
  atom_rule : cond (withheld i) [] (◌⊢◌ [] i ∷ []) ≡ cond (not (withheld i)) (◌⊢◌ [] i ∷ []) [] ++ []
  atom_rule = go (withheld i)
    where
      go : (b : Bool) → cond b [] (◌⊢◌ [] i ∷ []) ≡ cond (not b) (◌⊢◌ [] i ∷ []) [] ++ []
      go true = refl
      go false = refl

  row_moves : (r : Row)
      → row_rules withheld inverse i r
      ≡ given_rule i (kind r) (withheld i)
      ++ (builds i (kind r) (first r) (second r) ++ opens inverse i (kind r) (first r) (second r))
  unfolding row_rules atom_rules given_rule builds opens kind first second
  row_moves (Tag a) = refl
  row_moves (Mesg a) = refl
  row_moves (Text a) = atom_rule
  row_moves (Datum a) = atom_rule
  row_moves (Name a) = atom_rule
  row_moves (Skey a) = atom_rule
  row_moves (Akey a) = atom_rule
  row_moves (Pubk a) = atom_rule
  row_moves (Inv a) = atom_rule
  row_moves (Ltk a b) = atom_rule
  row_moves (Pair a b) = refl
  row_moves (Enc a b) = refl
  row_moves (Hash a) = refl

pub each_cond : (P : Rule → Type 0) (b : Bool) {l m : List Rule} → (b ≡ true → Each P l) → (b ≡ false → Each P m)
    → Each P (cond b l m)
each_cond P true f g = f refl
each_cond P false f g = g refl

opens_along : (f g : ℕ → ℕ) (i k a b : ℕ) → (k ≡ 11 → f b ≡ g b) → opens f i k a b ≡ opens g i k a b
unfolding opens
opens_along f g i k a b h = go (eqb k 11) refl
  where
    go : (c : Bool) → eqb k 11 ≡ c
        → cond (eqb k 10) (◌⊢◌ (i ∷ []) a ∷ ◌⊢◌ (i ∷ []) b ∷ []) (cond c (◌⊢◌ (i ∷ f b ∷ []) a ∷ []) [])
        ≡ cond (eqb k 10) (◌⊢◌ (i ∷ []) a ∷ ◌⊢◌ (i ∷ []) b ∷ []) (cond c (◌⊢◌ (i ∷ g b ∷ []) a ∷ []) [])
    go true e = rw (h (eqb-true k 11 e))
    go false e = refl

module _ {t : List ℕ} (filled : Filled t) (good : Good (rows_in t)) where
  inside : {i : ℕ} → i < byte t term_count → i < length (rows_in t)
  inside h = rw (count_is t) h

  pub pair_earlier : {i : ℕ} → i < byte t term_count → byte t i ≡ 10 → EarlierBytes t i
  pair_earlier {i} h e = earlier_bytes t i filled h (good.earlier i (inside h)) (rw e tt)

  pub key_earlier : {i : ℕ} → i < byte t term_count → byte t i ≡ 11 → EarlierBytes t i
  key_earlier {i} h e = earlier_bytes t i filled h (good.earlier i (inside h)) (rw e tt)

  -- the rules of a row, by its bytes
  pub row_rules_at : {v : List ℕ} (withheld : ℕ → Bool) (i : ℕ) → Inverted (rows_in t) v → i < byte t term_count
      → row_rules withheld (inverse_at (rows_in t)) i (row (rows_in t) i) ≡ given_rule i (byte t i) (withheld i) ++ moves_at t v i
  unfolding moves_at builds_at opens_at
  row_rules_at {v} withheld i inverted h =
      let c = filled.encoded i h in
      let same = opens_along (inverse_at (rows_in t)) (byte v) i (byte t i) (byte t (firsts + i)) (byte t (seconds + i))
      (λ e. sym (inverted.at _ (inside (omega (arith, (key_earlier h e).second))))) in
      row_moves withheld (inverse_at (rows_in t)) i (row (rows_in t) i)
      ∙ rw (row_in t i h, c.kind_is, c.first_is, c.second_is, same)

  -- what the moves of a term give is on the table
  pub moves_below : (v : List ℕ) (i : ℕ) → i < byte t term_count → Each (λ q. q.gives < byte t term_count) (moves_at t v i)
  unfolding moves_at builds_at opens_at builds opens
  moves_below v i h =
      each_append Below (builds_at t i)
      (each_cond Below (eqb k 12) (λ e. each_cons Below h none)
      (λ e. each_cond Below (ltb k 10) (λ e. none) (λ e. each_cond Below (ltb k 12) (λ e. each_cons Below h none) (λ e. none))))
      (each_cond Below (eqb k 10)
      (λ e. let l = pair_earlier h (eqb-true k 10 e) in
      each_cons Below (omega (arith, l.first)) (each_cons Below (omega (arith, l.second)) none))
      (λ e.
      each_cond Below (eqb k 11) (λ e. each_cons Below (omega (arith, (key_earlier h (eqb-true k 11 e)).first)) none) (λ e. none)))
    where
      k : ℕ
      k = byte t i

      Below : Rule → Type 0
      Below q = q.gives < byte t term_count

      none : Each Below []
      none = each_nil Below
