-- `records::marks::read_mark` meets its contract: what `find` finds is what the definition finds.
-- Assumes nothing.
use Rattle.std.proofs.Common.{rules, tests, ◌≡◌, refl, ℕ, List, [], ◌∷◌, Bool, true, false, cond, ◌&&◌, map, eqb, get_or}
use Rattle.std.specs.Prelude.{Some}
use Rattle.std.proofs.Math.Option.{some}
use Rattle.std.specs.List.{find}
use Rattle.std.specs.Option.{option_map}
use Rattle.std.proofs.lemmas.Iterator.{YieldsList-from_slice}
use Rattle.std.proofs.lemmas.Iterator.Consumers.{YieldsList-from_copied}
use Rattle.std.proofs.lemmas.Iterator.Search.{find_from_yields_List}
use Rattle.model.specs.Reading.{mark_bytes, marked_as}
use Rattle.records.specs.Marks.{mark, last_of}
use Rattle.records.specs.declared.marks.Mark.{Mark}
use Rattle.records.proofs.marks.read_mark.Goals as goal

abbrev has_bytes : ℕ → ℕ → Mark → Bool
has_bytes a b m = eqb a (mark_bytes (mark m)).0 && eqb b (mark_bytes (mark m)).1

first_marked : (a b : ℕ) (ms : List Mark) → last_of (find (has_bytes a b) ms) ≡ marked_as a b (map mark ms)
unfolding marked_as
first_marked a b [] = refl
first_marked a b (m ∷ ms) = go (has_bytes a b m) (first_marked a b ms)
  where
    go : (t : Bool) → last_of (find (has_bytes a b) ms) ≡ marked_as a b (map mark ms)
        → last_of (cond t (Some m) (find (has_bytes a b) ms)) ≡ cond t (some (mark m)) (marked_as a b (map mark ms))
    go true e = refl
    go false e = e

pub returns : goal.returns
returns c =
    let test : Mark → Bool = has_bytes (get_or c.args.rest.now 0 0) (get_or c.args.rest.now 1 0) in
    let found : option_map (λ m. m) c.find.result ≡ find test c.may_follow.result.now =
    find_from_yields_List test _ _ _ c.find.ensures.ran (YieldsList-from_copied (YieldsList-from_slice _ (cc)))
    (λ x b q k. search (rules, tests)) in
    let e : c.find.result ≡ find test c.may_follow.result.now = search rules in
    rw (e, ← c.may_follow.ensures) (first_marked _ _ _)
