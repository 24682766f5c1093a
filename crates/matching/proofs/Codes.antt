-- A kind, by its number.
use Rattle.std.proofs.Common.{◌≡◌, refl, sym, ap, ◌∙◌, ℕ, eqb, List, [], ◌∷◌, get_or}
use Rattle.tables.specs.Kinds.{code}
use Rattle.tables.specs.declared.kinds.Kind.{Kind}
use Rattle.matching.specs.Pass.{may_be}

-- a kind that is none of the three whose variables go to terms of several kinds
pub may_be_own : (k : Kind) (n : ℕ) → ¬ (k ≡ Kind.Mesg) → ¬ (k ≡ Kind.Skey) → ¬ (k ≡ Kind.Akey) → eqb n (code k) ≡ may_be (code k) n
unfolding may_be
may_be_own Kind.Tag n a b c = refl
may_be_own Kind.Mesg n a b c = absurd (a refl)
may_be_own Kind.Text n a b c = refl
may_be_own Kind.Data n a b c = refl
may_be_own Kind.Name n a b c = refl
may_be_own Kind.Skey n a b c = absurd (b refl)
may_be_own Kind.Akey n a b c = absurd (c refl)
may_be_own Kind.Public n a b c = refl
may_be_own Kind.Inverse n a b c = refl
may_be_own Kind.LongTerm n a b c = refl
may_be_own Kind.Pair n a b c = refl
may_be_own Kind.Encryption n a b c = refl
may_be_own Kind.Hash n a b c = refl

-- the kind of a number
kinds : List Kind
kinds = Kind.Tag ∷ Kind.Mesg ∷ Kind.Text ∷ Kind.Data ∷ Kind.Name ∷ Kind.Skey ∷ Kind.Akey ∷ Kind.Public ∷ Kind.Inverse ∷ Kind.LongTerm ∷ Kind.Pair ∷ Kind.Encryption ∷ Kind.Hash ∷ []

numbered : (k : Kind) → get_or kinds (code k) Kind.Tag ≡ k
unfolding kinds
numbered Kind.Tag = refl
numbered Kind.Mesg = refl
numbered Kind.Text = refl
numbered Kind.Data = refl
numbered Kind.Name = refl
numbered Kind.Skey = refl
numbered Kind.Akey = refl
numbered Kind.Public = refl
numbered Kind.Inverse = refl
numbered Kind.LongTerm = refl
numbered Kind.Pair = refl
numbered Kind.Encryption = refl
numbered Kind.Hash = refl

module _ {j k : Kind} {n : ℕ} (number : code k ≡ n) where
  pub number_is : k ≡ j → n ≡ code j
  number_is e = sym number ∙ ap code e

  pub number_is_not : ¬ (k ≡ j) → ¬ (n ≡ code j)
  number_is_not other e =
      other (sym (numbered k) ∙ (ap (λ m. get_or kinds m Kind.Tag) (number ∙ e) ∙ numbered j))
