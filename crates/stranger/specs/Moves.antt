-- The stranger's moves on a table, by its bytes: what he has from the start, and the rules of each term.
use Rattle.std.specs.Prelude.{◌≡◌, Bool, ◌||◌, ◌&&◌, not, cond, List, [], ◌∷◌, ◌++◌, ℕ, ◌+◌, eqb, ltb}
use Rattle.terms.specs.declared.TermSet.{TermSet}
use Rattle.terms.specs.Set.{mem, member}
use Rattle.theory.specs.Rules.{Rule, ◌⊢◌}
use Rattle.tables.specs.Layout.{firsts, seconds, term_count}
use Rattle.tables.specs.Tables.{byte}
use Rattle.stranger.specs.Steps.{Listed, Between}

-- a tag, a message variable, or an atom that is not withheld
abbrev pub free : ℕ → Bool → Bool
free k withheld = ltb k 2 || ltb k 10 && not withheld

abbrev pub starts : List ℕ → TermSet → TermSet → ℕ → Bool
starts t sent withheld i = mem sent i || free (byte t i) (mem withheld i)

-- the set has these of the first n terms
pub record Starts (t : List ℕ) (sent withheld : TermSet) (n : ℕ) (words : List ℕ) : Type 0 where
  pub at : (i : ℕ) → member words i ≡ (ltb i n && starts t sent withheld i)

-- the rules of a term i of the kind k that is made of a and b: it from its parts,
unfoldable pub builds : ℕ → ℕ → ℕ → ℕ → List Rule
builds i k a b =
    cond (eqb k 12) (◌⊢◌ (a ∷ []) i ∷ []) (cond (ltb k 10) [] (cond (ltb k 12) (◌⊢◌ (a ∷ b ∷ []) i ∷ []) []))

-- and its parts from it
unfoldable pub opens : (ℕ → ℕ) → ℕ → ℕ → ℕ → ℕ → List Rule
opens inverse i k a b =
    cond (eqb k 10) (◌⊢◌ (i ∷ []) a ∷ ◌⊢◌ (i ∷ []) b ∷ []) (cond (eqb k 11) (◌⊢◌ (i ∷ inverse b ∷ []) a ∷ []) [])

-- by the bytes of a table
unfoldable pub builds_at : List ℕ → ℕ → List Rule
builds_at t i = builds i (byte t i) (byte t (firsts + i)) (byte t (seconds + i))

unfoldable pub opens_at : List ℕ → List ℕ → ℕ → List Rule
opens_at t inverses i = opens (byte inverses) i (byte t i) (byte t (firsts + i)) (byte t (seconds + i))

unfoldable pub moves_at : List ℕ → List ℕ → ℕ → List Rule
moves_at t inverses i = builds_at t i ++ opens_at t inverses i

-- of one term: the whole from its parts, and its parts from it
abbrev pub Whole : List ℕ → ℕ → Rule → Type 0
Whole t i = Listed (builds_at t i)

abbrev pub Parts : List ℕ → List ℕ → ℕ → Rule → Type 0
Parts t inverses i = Listed (opens_at t inverses i)

-- of all terms of the table
abbrev pub Opens : List ℕ → List ℕ → Rule → Type 0
Opens t inverses = Between (opens_at t inverses) 0 (byte t term_count)

abbrev pub Moves : List ℕ → List ℕ → Rule → Type 0
Moves t inverses = Between (moves_at t inverses) 0 (byte t term_count)
