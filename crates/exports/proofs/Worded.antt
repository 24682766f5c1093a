-- The word of an answer is that of its value or that of its refusal. Assumes nothing.
use Rattle.std.specs.Prelude.{◌≡◌, ℕ, Result, Ok, Err, MatchResult}
use Rattle.model.specs.declared.Refusal.{Refusal}
use Rattle.model.specs.Answers.{Answer, answered, refused}
use Rattle.model.specs.Says.{refusal_of, says}

pub worded : {A B : Type 0} (value : A → B) (word_of : Answer B → ℕ) (w : ℕ) {OfValue : A → Type 0} {OfRefusal : Refusal → Type 0}
    → (a : Result A Refusal)
    → MatchResult a OfValue OfRefusal
    → ((x : A) → OfValue x → w ≡ word_of (answered (value x)))
    → ((r : Refusal) → OfRefusal r → w ≡ word_of (refused (refusal_of r)))
    → w ≡ word_of (says value a)
worded value word_of w (Ok x) said at_value at_refusal = at_value x said
worded value word_of w (Err r) said at_value at_refusal = at_refusal r said
