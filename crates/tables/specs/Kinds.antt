-- The kinds of terms, by their numbers.
use Rattle.std.specs.Prelude.{◌≡◌, ℕ, ◌≤◌, Option, Some, None, Result, MatchResult}
use Rattle.tables.specs.declared.kinds.Kind.{Kind}
use Rattle.tables.specs.declared.kinds.NoKind.{NoKind}

-- "Kinds: 0 tag, 1 message variable, 2 text, 3 data, 4 name, 5 symmetric key, 6 asymmetric key .. 7 public key .. 8 inverse ..
-- 9 long-term key .. 10 pair; 11 body a under key b; 12 hash of a"
abbrev pub code : Kind → ℕ
code Kind.Tag = 0
code Kind.Mesg = 1
code Kind.Text = 2
code Kind.Data = 3
code Kind.Name = 4
code Kind.Skey = 5
code Kind.Akey = 6
code Kind.Public = 7
code Kind.Inverse = 8
code Kind.LongTerm = 9
code Kind.Pair = 10
code Kind.Encryption = 11
code Kind.Hash = 12

-- the number of a kind that was found, and 255, which is no kind, where there is none
abbrev pub kind_said : Option Kind → ℕ
kind_said None = 255
kind_said (Some k) = code k

-- the kind of a number, and an error where it is beyond the kinds
abbrev pub Numbers : ℕ → Result Kind NoKind → Type 0
Numbers n r = MatchResult r (λ k. code k ≡ n) (λ e. (e.0 ≡ n) × (13 ≤ n))
