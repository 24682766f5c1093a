-- A fact of every member of a list.
use Rattle.std.proofs.Common.{⊎_elim}
use mathlib.Core.List.Memᴰ
use mathlib.Core.List.{List, [], ◌∷◌, ◌++◌, Memᴰ}

abbrev pub Each : {A : Type 0} → (A → Type 0) → List A → Type 0
Each {A} P l = (x : A) → Memᴰ x l → P x

module _ {A : Type 0} (P : A → Type 0) where
  pub each_nil : Each P []
  each_nil x m = absurd (Memᴰ.not-nil m)

  pub each_cons : {y : A} {l : List A} → P y → Each P l → Each P (y ∷ l)
  each_cons h f x (Memᴰ.head e) = rw e h
  each_cons h f x (Memᴰ.tail m) = f x m

  pub each_append : (k : List A) {l : List A} → Each P k → Each P l → Each P (k ++ l)
  each_append k f g x m = ⊎_elim (f x) (g x) (Memᴰ.append_cases k m)
