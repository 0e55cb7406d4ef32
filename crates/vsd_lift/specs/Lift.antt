-- What a term of a class above is in the parameters of a class below, through the arguments of each `extends` between.
use Rattle.std.specs.Prelude.{◌≡◌, ℕ, zero, suc, ◌-◌, ◌<◌, ◌≤◌, List, [], map, length, All, option_map, slice_index_or}
use Rattle.vsd_terms.specs.declared.term.Term.{Term}
use Rattle.vsd_terms.specs.declared.term.Term.TheVariants.{Param}
use Rattle.vsd_terms.specs.Size.{greatest}
use Rattle.vsd_terms.specs.Substitution.{parameters_of, subst_of}
use Rattle.vsd_ast.specs.declared.declarations.Decl.{Decl}
use Rattle.vsd_ast.specs.declared.declarations.Signature.{Signature}
use Rattle.vsd_lift.specs.Chain.{envs_of}

-- what the class at a level gives the class at the next
abbrev pub env_at : List (List Term) → ℕ → List Term
env_at envs level = slice_index_or envs level []

-- A term of the class at a level, in the parameters of the class at level 0 (ECMA-335, II.9.9 and II.10.3). The arguments
-- of the highest `extends` are put in first, those of the lowest last.
unfoldable pub lift : List (List Term) → ℕ → Term → Term
lift envs zero t = t
lift envs (suc level) t = lift envs level (subst_of (env_at envs level) t)

abbrev pub lift_signature : List (List Term) → ℕ → Signature → Signature
lift_signature envs level s = record {
  result = option_map (lift envs level) s.result;
  arguments = map (lift envs level) s.arguments;
}

-- below the class at a level there is an argument for so many parameters
abbrev pub HasRoom : List (List Term) → ℕ → ℕ → Type 0
HasRoom envs level count = 0 < level → count ≤ length (env_at envs (level - 1))

abbrev pub Fits : List (List Term) → ℕ → Term → Type 0
Fits envs level t = HasRoom envs level (parameters_of t)

abbrev pub AllFit : List (List Term) → ℕ → List Term → Type 0
AllFit envs level ts = HasRoom envs level (greatest (map parameters_of ts))

-- what each class gives the next is in its own parameters, of which each has an argument from below
abbrev pub AreEnvs : List (List Term) → Type 0
AreEnvs envs = (level : ℕ) → level < length envs → AllFit envs level (env_at envs level)

-- declared classes along which a term can be lifted
pub record IsLadder (ds : List Decl) (chain : List ℕ) : Type 0 where
  pub declared : All (λ n. n < length ds) chain
  pub envs : AreEnvs (envs_of ds chain)

-- it is no parameter of a class above
abbrev pub IsResolved : ℕ → Term → Type 0
IsResolved level t = 0 < level → (place : ℕ) → t ≡ Param place → ⊥
