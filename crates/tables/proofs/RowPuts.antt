-- A row more: its three bytes stand after those of the others, and it is counted.
use Prim.Native.Nat.{ℕ, ◌+◌, ◌<◌}
use mathlib.Core.Path.{◌≡◌, refl, sym, ap, ◌∙◌, subst}
use mathlib.Core.Logic.{◌≢◌}
use mathlib.Core.Bool.{Bool, true, false}
use mathlib.Core.List.{List}
use native.Mathlib.Omega.{arith}
use lib.Dec.{eqb}
use borrow.Author.Tests.{eqb-true, eqb-false}
use Rattle.tables.specs.Layout.{firsts, seconds, term_count, skeleton_count, table_size, block}
use Rattle.tables.specs.Tables.{byte, row_at, rows_of, Encoded, Filled}
use Rattle.tables.specs.Rows.{row_of, Written}
use Rattle.tables.specs.Stores.{Keeps, RowPut}
use Rattle.tables.specs.declared.rows.Row.{Row}
use Rattle.theory.specs.Upto.{upto_more}
use Rattle.tables.proofs.Stored.{Put, keeps_within}
use Rattle.tables.proofs.Parts.{row_same, encoded_same, block_same}

module _ {t t₁ t₂ t₃ t' : List ℕ} {r : Row} {n : ℕ} (is : n ≡ byte t term_count) (room : n < 200)
    (k : Put n r.kind t t₁) (a : Put (firsts + n) r.first t₁ t₂) (b : Put (seconds + n) r.second t₂ t₃)
    (c : Put term_count (byte t term_count + 1) t₃ t') where
  else_same : (j : ℕ) → (j ≢ n) × (j ≢ firsts + n) × (j ≢ seconds + n) × (j ≢ term_count) → byte t' j ≡ byte t j
  else_same j h = c.apart j h.3 ∙ (b.apart j h.2 ∙ (a.apart j h.1 ∙ k.apart j h.0))

  kind_put : byte t' n ≡ r.kind
  kind_put = c.apart n (omega arith) ∙ (b.apart n (omega arith) ∙ (a.apart n (omega arith) ∙ k.here))

  first_put : byte t' (firsts + n) ≡ r.first
  first_put = c.apart (firsts + n) (omega arith) ∙ (b.apart (firsts + n) (omega arith) ∙ a.here)

  second_put : byte t' (seconds + n) ≡ r.second
  second_put = c.apart (seconds + n) (omega arith) ∙ b.here

  old_row : (i : ℕ) → i < n → row_at t' i ≡ row_at t i
  old_row i l =
      row_same t t' i (else_same i (omega arith)) (else_same (firsts + i) (omega arith)) (else_same (seconds + i) (omega arith))

  old_encoded : (i : ℕ) → i < n → Encoded t i → Encoded t' i
  old_encoded i l =
      encoded_same t t' i (else_same i (omega arith)) (else_same (firsts + i) (omega arith))
      (else_same (seconds + i) (omega arith))

  new_row : row_at t' n ≡ row_of r
  new_row = rw (kind_put, first_put, second_put)

  new_encoded : Written r → Encoded t' n
  new_encoded w =
      record {
        kind_is = rw (kind_put, first_put, second_put) w.kind_is;
        first_is = rw (kind_put, first_put, second_put) w.first_is;
        second_is = rw (kind_put, first_put, second_put) w.second_is;
      }

  rest_kept : Keeps skeleton_count table_size t t'
  rest_kept = record { same = λ j l h. else_same j (omega arith) }

  encoded_all : Written r → Filled t → (i : ℕ) → i < n + 1 → Encoded t' i
  encoded_all w f i l = go (eqb i n) refl
    where
      go : (e : Bool) → eqb i n ≡ e → Encoded t' i
      go true e = subst (Encoded t') (sym (eqb-true i n e)) (new_encoded w)
      go false e = old_encoded i (omega (arith, eqb-false i n e)) (f.encoded i (omega (arith, eqb-false i n e)))

  pub row_put : Written r → Filled t → RowPut r t t'
  unfolding rows_of
  row_put w f =
      let count : byte t' term_count ≡ n + 1 = c.here ∙ (ap (λ m. m + 1) (sym is)) in
      let skeletons : byte t' skeleton_count ≡ byte t skeleton_count =
      rest_kept.same skeleton_count (omega arith) (omega arith) in
      record {
        rows = rw (count, ← is) (upto_more n (row_at t) (row_at t') (row_of r) old_row new_row);
        kept = rest_kept;
        filled = record {
          long = c.long ∙ (b.long ∙ (a.long ∙ (k.long ∙ f.long)));
          terms = rw count (omega arith);
          encoded = λ i l. encoded_all w f i (omega arith);
          skeletons = rw skeletons f.skeletons;
          blocks =
              λ j l. block_same (block j) (f.blocks j (omega arith))
              (keeps_within (omega arith) (omega (arith, f.skeletons)) rest_kept);
        };
      }
