-- Strictly rising lists, and the order of the list of maps, which case P10 shows (00, 01, 10, 11): the first source strand
-- varies slowest.
use mathlib.Core.List.{List, [], ◌∷◌, Memᴰ}
use Rattle.std.specs.Prelude.{ℕ, ◌<◌}

-- each member stands before all later ones
module _ {A : Type 0} (before : A → A → Type 0) where
  pub data Rising : List A → Type 0 where
    none : Rising []
    more : {x : A} {l : List A} → ((y : A) → Memᴰ y l → before x y) → Rising l → Rising (x ∷ l)

pub data InDictionary : List ℕ → List ℕ → Type 0 where
  first : {x y : ℕ} {l m : List ℕ} → x < y → InDictionary (x ∷ l) (y ∷ m)
  later : {x : ℕ} {l m : List ℕ} → InDictionary l m → InDictionary (x ∷ l) (x ∷ m)
  shorter : {y : ℕ} {m : List ℕ} → InDictionary [] (y ∷ m)
