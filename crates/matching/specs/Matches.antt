-- Map rule 3: whether some sort-keeping substitution takes each source message to the message at the mapped node, and which.
use Rattle.std.specs.Prelude.{◌≡◌, Bool, true, List, ◌↔◌, ℕ, ◌+◌, ◌≤◌, ◌<◌, length, get_or}
use Rattle.model.specs.Subst.{Subst, apply}
use Rattle.model.specs.Table.{Row, term}
use Rattle.model.specs.Skeleton.{Skeleton, means}
use Rattle.model.specs.Events.{InSomeEvent}
use Rattle.model.specs.Maps.{Rule3}
use Rattle.tables.specs.Layout.{strand_count, heights}
use Rattle.tables.specs.Tables.{byte}

-- each source strand goes to a target strand that is at least as high: of the blocks at a and b
pub record Laid (t : List ℕ) (a b : ℕ) (map : List ℕ) : Type 0 where
  pub full : length map ≡ byte t (a + strand_count)
  pub inside : (s : ℕ) → s < length map → get_or map s 0 < byte t (b + strand_count)
  pub high : (s : ℕ) → s < length map → byte t (a + heights + s) ≤ byte t (b + heights + get_or map s 0)

-- of them, the source strand s goes to the target strand u, which is at least as high
pub record Reaches (t : List ℕ) (a b s u : ℕ) : Type 0 where
  pub source : s < byte t (a + strand_count)
  pub target : u < byte t (b + strand_count)
  pub high : byte t (a + heights + s) ≤ byte t (b + heights + u)

module _ (rows : List Row) (A B : Skeleton ℕ) (map : List ℕ) where
  -- the substitution keeps rule 3
  abbrev pub Takes : Subst → Type 0
  Takes σ = Rule3 (means (term rows) A) (means (term rows) B) (λ s. get_or map s 0) σ

  -- the answer, and an image for each term that occurs in a source event, 255 elsewhere
  pub record Matches (images : List ℕ) (r : Bool) : Type 0 where
    pub holds : (r ≡ true) ↔ ((σ : Subst) × Takes σ)
    pub inside : r ≡ true → (i : ℕ) → i < length rows → InSomeEvent (means (term rows) A) (term rows i)
        → byte images i < length rows
    pub image : r ≡ true → (σ : Subst) → Takes σ → (i : ℕ) → i < length rows → InSomeEvent (means (term rows) A) (term rows i)
        → term rows (byte images i) ≡ apply σ (term rows i)
    pub elsewhere : r ≡ true → (i : ℕ) → i < length rows → ¬ InSomeEvent (means (term rows) A) (term rows i) → byte images i ≡ 255
