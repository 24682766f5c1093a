-- Laws of the bench's lines.
use Rattle.std.specs.Prelude.{◌≡◌, refl, Bool, true, false, cond, [], ◌∷◌, ◌++◌, ℕ, zero, suc, ◌+◌, ◌/◌, ◌%◌, ◌≤◌, ◌<◌, ltb}
use Rattle.std.proofs.Common.{arith, ltb-false}
use Rattle.model.specs.Answers.{answered, refused, realized, open_at}
use Rattle.model.specs.Lines.{ascii, digits, decimal, sheet_line, skeleton_line, maps_line, map_line}

-- as many digits as are asked for are enough
enough : (n m x : ℕ) → x < n → x < m → digits n x ≡ digits m x
unfolding digits
enough zero m x h k = absurd (omega arith)
enough (suc n) zero x h k = absurd (omega arith)
enough (suc n) (suc m) x h k = go (ltb x 10) refl (λ l. enough n m (x / 10) (omega arith) (omega arith))
  where
    go : (b : Bool) → ltb x 10 ≡ b → (10 ≤ x → digits n (x / 10) ≡ digits m (x / 10))
        → cond b ((48 + x) ∷ []) (digits n (x / 10) ++ ((48 + x % 10) ∷ []))
        ≡ cond b ((48 + x) ∷ []) (digits m (x / 10) ++ ((48 + x % 10) ∷ []))
    go true e f = refl
    go false e f = rw (f (ltb-false x 10 e))

-- the law of decimal: digit by digit
pub decimal_law : (x : ℕ) → decimal x ≡ cond (ltb x 10) ((48 + x) ∷ []) (decimal (x / 10) ++ ((48 + x % 10) ∷ []))
unfolding decimal digits
decimal_law x = go (ltb x 10) refl
  where
    go : (b : Bool) → ltb x 10 ≡ b
        → cond b ((48 + x) ∷ []) (digits x (x / 10) ++ ((48 + x % 10) ∷ []))
        ≡ cond b ((48 + x) ∷ []) (digits (suc (x / 10)) (x / 10) ++ ((48 + x % 10) ∷ []))
    go true e = refl
    go false e =
        let big : 10 ≤ x = ltb-false x 10 e in
        rw (enough x (suc (x / 10)) (x / 10) (omega arith) (omega arith))

-- the lines of the paper's example, and of its refusals
pub example_sheet : sheet_line (answered (record { terms = 9; skeletons = 2 })) ≡ ascii "sheet good terms 9 skeletons 2\n"
unfolding sheet_line
example_sheet = refl

pub example_refused : sheet_line (refused (record { number = 12; place = 305; skeleton = 1 }))
    ≡ ascii "sheet refused 12 place 305 skeleton 1\n"
unfolding sheet_line
example_refused = refl

pub example_open : skeleton_line 0 (open_at (record { strand = 0; position = 1 })) ≡ ascii "skeleton 0 open at 0 1\n"
unfolding skeleton_line
example_open = refl

pub example_realized : skeleton_line 1 realized ≡ ascii "skeleton 1 realized\n"
unfolding skeleton_line
example_realized = refl

pub example_maps : maps_line 0 1 (answered 1) ≡ ascii "maps 0 to 1: 1\n"
unfolding maps_line
example_maps = refl

pub example_no_room : maps_line 0 1 (refused (record { number = 16; place = 0; skeleton = 0 }))
    ≡ ascii "maps 0 to 1 refused 16\n"
unfolding maps_line
example_no_room = refl

pub example_map : map_line (0 ∷ 10 ∷ 5 ∷ []) ≡ ascii "0 10 5\n"
unfolding map_line
example_map = refl
