-- What a lifted term is, by the form of the term.
use Rattle.std.proofs.Common.{◌≡◌, ℕ, zero, suc, ◌-◌, ◌<◌, ◌≤◌, List, [], ◌∷◌, length, map, get_or, refl, sym, ap, ◌∙◌, subst, Some, slice_get, arith}
use Rattle.std.proofs.lemmas.List.{get_or_read}
use Rattle.std.proofs.lemmas.Option.{slice_get-map, slice_get_read, slice_get-get_or, get_or_from_slice_get}
use Rattle.std.specs.Option.{option_map}
use Rattle.vsd_terms.specs.declared.term.Builtin.{Builtin as Kind}
use Rattle.vsd_terms.specs.declared.term.Term.{Term}
use Rattle.vsd_terms.specs.declared.term.Term.TheVariants.{Named, Param, Builtin}
use Rattle.vsd_terms.specs.Size.{greatest}
use Rattle.vsd_terms.specs.Substitution.{parameters_of, subst_of}
use Rattle.vsd_terms.proofs.SubstitutionLaws.{get_or-greatest}
use Rattle.vsd_terms.proofs.SubstitutionLemmas.{subst_of-Named, subst_of-Param, subst_of-Builtin}
use Rattle.vsd_ast.specs.declared.declarations.Decl.{Decl}
use Rattle.vsd_lift.specs.Chain.{arguments_at, envs_of, given_to}
use Rattle.vsd_lift.specs.Lift.{lift, env_at, AreEnvs, Fits, IsResolved}
use Rattle.vsd_lift.proofs.Forms.{Form, form_of, is_named, is_param, is_builtin, Named≢Param, Named≢Builtin, Param≢Builtin}

map-same : (f : Term → Term) (ts : List Term) → ((t : Term) → f t ≡ t) → map f ts ≡ ts
map-same f [] same = refl
map-same f (t ∷ ts) same = let first = same t in let rest = map-same f ts same in cc

map-map : (f g h : Term → Term) (ts : List Term) → ((t : Term) → f (g t) ≡ h t) → map f (map g ts) ≡ map h ts
map-map f g h [] same = refl
map-map f g h (t ∷ ts) same = let first = same t in let rest = map-map f g h ts same in cc

pub lift-zero : (envs : List (List Term)) (t : Term) → lift envs 0 t ≡ t
unfolding lift
lift-zero envs t = refl

pub lift-suc : (envs : List (List Term)) (level : ℕ) (t : Term) → lift envs (suc level) t ≡ lift envs level (subst_of (env_at envs level) t)
unfolding lift
lift-suc envs level t = refl

pub lift-Named : (envs : List (List Term)) (level name : ℕ) (args : List Term) → lift envs level (Named name args) ≡ Named name (map (lift envs level) args)
lift-Named envs zero name args = lift-zero envs (Named name args) ∙ ap (Named name) (sym (map-same (lift envs 0) args (lift-zero envs)))
lift-Named envs (suc level) name args =
    let env = env_at envs level in
    lift-suc envs level (Named name args) ∙ ap (lift envs level) (subst_of-Named env name args) ∙ lift-Named envs level name (map (subst_of env) args) ∙ ap (Named name) (map-map (lift envs level) (subst_of env) (lift envs (suc level)) args (λ t. sym (lift-suc envs level t)))

pub lift-Builtin : (envs : List (List Term)) (level : ℕ) (b : Kind) → lift envs level (Builtin b) ≡ Builtin b
lift-Builtin envs zero b = lift-zero envs (Builtin b)
lift-Builtin envs (suc level) b =
    lift-suc envs level (Builtin b) ∙ ap (lift envs level) (subst_of-Builtin (env_at envs level) b) ∙ lift-Builtin envs level b

-- a parameter of a class above is the argument that the class below it gives
pub lift-Param : (envs : List (List Term)) (level at place : ℕ) (t u : Term) (args : List Term) → at ≡ suc level → t ≡ Param place → env_at envs level ≡ args → place < length args → u ≡ get_or args place u → lift envs level u ≡ lift envs at t
lift-Param envs level at place t u args one is given within here =
    let stands : subst_of (env_at envs level) (Param place) ≡ get_or args place (Param place) = subst_of-Param (env_at envs level) place ∙ ap (λ (all : List Term). get_or all place (Param place)) given in
    let read : u ≡ get_or args place (Param place) = get_or_read args place u within here (Param place) in
    let down = lift-suc envs level (Param place) in
    cc

-- what a class gives the next, read from the declaration
pub env_at-envs_of : (ds : List Decl) (chain : List ℕ) (level : ℕ) (x : Decl) → level < length chain → get_or chain level 0 < length ds → x ≡ get_or ds (get_or chain level 0) x → env_at (envs_of ds chain) level ≡ given_to x.base
env_at-envs_of ds chain level x within declared here =
    let f : ℕ → List Term = λ n. arguments_at (slice_get ds n) in
    let place = slice_get-get_or chain level 0 within in
    let read = slice_get_read ds (length ds) (get_or chain level 0) x refl declared here in
    get_or_from_slice_get (map f chain) level (given_to x.base) [] (slice_get-map f chain level ∙ ap (option_map f) place ∙ ap (λ o. Some (arguments_at o)) read)

-- an argument at a place of what a class gives the next has its parameters from below
pub argument_fits : (envs : List (List Term)) (level place : ℕ) (u : Term) (args : List Term) → AreEnvs envs → level < length envs → env_at envs level ≡ args → place < length args → u ≡ get_or args place u → Fits envs level u
argument_fits envs level place u args are within given inside here =
    λ above.
    let P : List Term → Type 0 = λ all. greatest (map parameters_of all) ≤ length (env_at envs (level - 1)) in
    let all : greatest (map parameters_of args) ≤ length (env_at envs (level - 1)) = subst P given (are level within above) in
    let one = get_or-greatest parameters_of args place u inside in
    let same : parameters_of u ≡ parameters_of (get_or args place u) = ap parameters_of here in
    omega (arith, one)

-- ---- where parameters lead no further, the form of what is lifted is that of the term

pub same-Builtin : (envs : List (List Term)) (level : ℕ) (t : Term) (b : Kind) → IsResolved level t → lift envs level t ≡ Builtin b → t ≡ Builtin b
same-Builtin envs level t b resolved is = by (form_of t)
  where
    by : Form t → t ≡ Builtin b
    by (is_named name args e) = absurd (Named≢Builtin name (map (lift envs level) args) b (sym (ap (lift envs level) e ∙ lift-Named envs level name args) ∙ is))
    by (is_builtin k e) = let lifted = ap (lift envs level) e ∙ lift-Builtin envs level k in cc
    by (is_param place e) = absurd (at_zero level refl)
      where
        at_zero : (n : ℕ) → level ≡ n → ⊥
        at_zero zero z = Param≢Builtin place b (sym e ∙ sym (ap (λ n. lift envs n t) z ∙ lift-zero envs t) ∙ is)
        at_zero (suc n) s = resolved (omega arith) place e

pub same-Param : (envs : List (List Term)) (level : ℕ) (t : Term) (p : ℕ) → IsResolved level t → lift envs level t ≡ Param p → t ≡ Param p
same-Param envs level t p resolved is = by (form_of t)
  where
    by : Form t → t ≡ Param p
    by (is_named name args e) = absurd (Named≢Param name (map (lift envs level) args) p (sym (ap (lift envs level) e ∙ lift-Named envs level name args) ∙ is))
    by (is_builtin k e) = absurd (Param≢Builtin p k (sym is ∙ ap (lift envs level) e ∙ lift-Builtin envs level k))
    by (is_param place e) = at_zero level refl
      where
        at_zero : (n : ℕ) → level ≡ n → t ≡ Param p
        at_zero zero z = sym (ap (λ n. lift envs n t) z ∙ lift-zero envs t) ∙ is
        at_zero (suc n) s = absurd (resolved (omega arith) place e)

-- a parameter at level 0 stays
pub param_at_zero : (envs : List (List Term)) (level : ℕ) (t : Term) (p : ℕ) → IsResolved level t → t ≡ Param p → lift envs level t ≡ Param p
param_at_zero envs level t p resolved is = at_zero level refl
  where
    at_zero : (n : ℕ) → level ≡ n → lift envs level t ≡ Param p
    at_zero zero z = ap (λ n. lift envs n t) z ∙ lift-zero envs t ∙ is
    at_zero (suc n) s = absurd (resolved (omega arith) p is)

pub named_from : (envs : List (List Term)) (level : ℕ) (t : Term) (name : ℕ) (args : List Term) → IsResolved level t → lift envs level t ≡ Named name args → ((n : ℕ) (xs : List Term) → t ≡ Named n xs → ⊥) → ⊥
named_from envs level t name args resolved is none = by (form_of t)
  where
    by : Form t → ⊥
    by (is_named n xs e) = none n xs e
    by (is_builtin k e) = Named≢Builtin name args k (sym is ∙ ap (lift envs level) e ∙ lift-Builtin envs level k)
    by (is_param place e) = Named≢Param name args place (sym is ∙ param_at_zero envs level t place resolved e)
