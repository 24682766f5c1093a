-- LOCALITY: what is derivable, in the set that ranges over all terms, is derivable by steps that stay on the sheet.
use Rattle.std.specs.Prelude.{◌↔◌, ℕ}
use Rattle.model.specs.Derive.{Derivable}
use Rattle.model.specs.Term.{Atom, Term, tag, mesg, atom, pair, enc, hash, inv}

-- the terms of a sheet: parts and inverses of its terms are its terms
pub record Closed (sheet : Term → Type 0) : Type 0 where
  pub pair_left : {t u : Term} → sheet (pair t u) → sheet t
  pub pair_right : {t u : Term} → sheet (pair t u) → sheet u
  pub enc_body : {t k : Term} → sheet (enc t k) → sheet t
  pub enc_key : {t k : Term} → sheet (enc t k) → sheet k
  pub hash_body : {t : Term} → sheet (hash t) → sheet t
  pub inverse : {t : Term} → sheet t → sheet (inv t)

module _ (sheet sent : Term → Type 0) (withheld : Atom → Type 0) where
  -- the same rules, over the terms of the sheet alone
  pub data Local : Term → Type 0 where
    given : {t : Term} → sheet t → sent t → Local t
    a_tag : {n : ℕ} → sheet (tag n) → Local (tag n)
    a_mesg : {n : ℕ} → sheet (mesg n) → Local (mesg n)
    an_atom : {a : Atom} → sheet (atom a) → ¬ withheld a → Local (atom a)
    join : {t u : Term} → sheet (pair t u) → Local t → Local u → Local (pair t u)
    split_left : {t u : Term} → sheet t → Local (pair t u) → Local t
    split_right : {t u : Term} → sheet u → Local (pair t u) → Local u
    encrypt : {t k : Term} → sheet (enc t k) → Local t → Local k → Local (enc t k)
    decrypt : {t k : Term} → sheet t → Local (enc t k) → Local (inv k) → Local t
    make_hash : {t : Term} → sheet (hash t) → Local t → Local (hash t)

  -- what he builds from local terms, on the sheet or not
  data Built : Term → Type 0 where
    local : {t : Term} → Local t → Built t
    a_tag : {n : ℕ} → Built (tag n)
    a_mesg : {n : ℕ} → Built (mesg n)
    an_atom : {a : Atom} → ¬ withheld a → Built (atom a)
    join : {t u : Term} → Built t → Built u → Built (pair t u)
    encrypt : {t k : Term} → Built t → Built k → Built (enc t k)
    make_hash : {t : Term} → Built t → Built (hash t)

  local_derivable : {t : Term} → Local t → Derivable sent withheld t
  local_derivable (given s h) = Derivable.given h
  local_derivable (a_tag s) = Derivable.a_tag
  local_derivable (a_mesg s) = Derivable.a_mesg
  local_derivable (an_atom s h) = Derivable.an_atom h
  local_derivable (join s d e) = Derivable.join (local_derivable d) (local_derivable e)
  local_derivable (split_left s d) = Derivable.split_left (local_derivable d)
  local_derivable (split_right s d) = Derivable.split_right (local_derivable d)
  local_derivable (encrypt s d e) = Derivable.encrypt (local_derivable d) (local_derivable e)
  local_derivable (decrypt s d e) = Derivable.decrypt (local_derivable d) (local_derivable e)
  local_derivable (make_hash s d) = Derivable.make_hash (local_derivable d)

  pub local_on_sheet : {t : Term} → Local t → sheet t
  local_on_sheet (given s h) = s
  local_on_sheet (a_tag s) = s
  local_on_sheet (a_mesg s) = s
  local_on_sheet (an_atom s h) = s
  local_on_sheet (join s d e) = s
  local_on_sheet (split_left s d) = s
  local_on_sheet (split_right s d) = s
  local_on_sheet (encrypt s d e) = s
  local_on_sheet (decrypt s d e) = s
  local_on_sheet (make_hash s d) = s

  module _ (closed : Closed sheet) (on_sheet : (t : Term) → sent t → sheet t) where
    built_local : {t : Term} → Built t → sheet t → Local t
    built_local (local d) s = d
    built_local a_tag s = Local.a_tag s
    built_local a_mesg s = Local.a_mesg s
    built_local (an_atom h) s = Local.an_atom s h
    built_local (join d e) s = Local.join s (built_local d (closed.pair_left s)) (built_local e (closed.pair_right s))
    built_local (encrypt d e) s = Local.encrypt s (built_local d (closed.enc_body s)) (built_local e (closed.enc_key s))
    built_local (make_hash d) s = Local.make_hash s (built_local d (closed.hash_body s))

    built_left : {t u : Term} → Built (pair t u) → Built t
    built_left (local d) = local (split_left (closed.pair_left (local_on_sheet d)) d)
    built_left (join d e) = d

    built_right : {t u : Term} → Built (pair t u) → Built u
    built_right (local d) = local (split_right (closed.pair_right (local_on_sheet d)) d)
    built_right (join d e) = e

    built_decrypt : {t k : Term} → Built (enc t k) → Built (inv k) → Built t
    built_decrypt (local d) e =
        let s = local_on_sheet d in
        local (decrypt (closed.enc_body s) d (built_local e (closed.inverse (closed.enc_key s))))
    built_decrypt (encrypt d k) e = d

    derivable_built : {t : Term} → Derivable sent withheld t → Built t
    derivable_built (Derivable.given h) = local (Local.given (on_sheet _ h) h)
    derivable_built Derivable.a_tag = a_tag
    derivable_built Derivable.a_mesg = a_mesg
    derivable_built (Derivable.an_atom h) = an_atom h
    derivable_built (Derivable.join d e) = join (derivable_built d) (derivable_built e)
    derivable_built (Derivable.split_left d) = built_left (derivable_built d)
    derivable_built (Derivable.split_right d) = built_right (derivable_built d)
    derivable_built (Derivable.encrypt d e) = encrypt (derivable_built d) (derivable_built e)
    derivable_built (Derivable.decrypt d e) = built_decrypt (derivable_built d) (derivable_built e)
    derivable_built (Derivable.make_hash d) = make_hash (derivable_built d)

    -- LOCALITY: on the sheet, derivable is locally derivable
    pub derivable_iff_local : {t : Term} → sheet t → Derivable sent withheld t ↔ Local t
    derivable_iff_local s = (λ d. built_local (derivable_built d) s, local_derivable)
