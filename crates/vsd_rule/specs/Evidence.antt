-- By what a seat may answer a call or a cast.
use Rattle.std.specs.Prelude.{◌≡◌, ◌⊎◌, ℕ, ◌<◌, Bool}
use mathlib.Core.Option.{some}
use lib.ListN.{get_elem?}
use Rattle.std.specs.Int.{from_bool}
use Rattle.vsd_words.specs.declared.handle.Handle.{Handle}
use Rattle.vsd_rule.specs.declared.view.View.{View}
use Rattle.vsd_rule.specs.Lists.{target_of, compatible}
use Rattle.vsd_rule.specs.Facts.{Knows}

module _ (v : View) where
  -- the seat knows a type of the handle, and the target is the world's for it
  pub record KnowsTarget (h : Handle) (token target : ℕ) : Type 0 where
    pub number : ℕ
    pub knows : Knows v.handles h number
    pub token_in : token < v.key.sizes.tokens
    pub answer : target ≡ target_of v.key number token

  -- or it loaded the target from a row that it protected
  abbrev pub HasEvidence : Handle → ℕ → ℕ → Type 0
  HasEvidence h token target = KnowsTarget h token target ⊎ ((i : ℕ) × (get_elem? v.rows.evidences i ≡ some (record { handle = h; token = token; target = target })))

  -- the seat knows types of both handles, and the answer is the world's for them
  pub record KnowsAnswer (source target : Handle) (given : Bool) : Type 0 where
    pub number : ℕ
    pub other : ℕ
    pub knows_source : Knows v.handles source number
    pub knows_target : Knows v.handles target other
    pub answer : from_bool given ≡ compatible v.key number other

  -- or it loaded the answer from a cast row that was not being written meanwhile
  abbrev pub HasCastEvidence : Handle → Handle → Bool → Type 0
  HasCastEvidence source target answer = KnowsAnswer source target answer ⊎ ((i : ℕ) × (get_elem? v.casts.evidences i ≡ some (record { source = source; target = target; yes = answer })))

-- each evidence of a call that the seat has agrees with all that it knows of the handle
abbrev pub CallsAgree : View → Type 0
CallsAgree v = (h : Handle) (token target number : ℕ) → HasEvidence v h token target → Knows v.handles h number → target ≡ target_of v.key number token

-- each evidence of a cast that the seat has agrees with all that it knows of the two handles
abbrev pub CastsAgree : View → Type 0
CastsAgree v = (source target : Handle) (given : Bool) (number other : ℕ) → HasCastEvidence v source target given → Knows v.handles source number → Knows v.handles target other
    → from_bool given ≡ compatible v.key number other
