-- Laws of lifting: it is one substitution, that of the lifted arguments; and the lowest class's arguments are put in last.
use Rattle.std.proofs.Common.{◌≡◌, ℕ, zero, suc, ◌<◌, ◌≤◌, List, [], ◌∷◌, length, map, get_or, refl, sym, ap, ◌∙◌, arith}
use Rattle.vsd_terms.specs.declared.term.Term.{Term}
use Rattle.vsd_terms.specs.declared.term.Term.TheVariants.{Named, Param}
use Rattle.vsd_terms.specs.Size.{greatest}
use Rattle.vsd_terms.specs.Substitution.{parameters_of, subst_of}
use Rattle.vsd_terms.proofs.Induction.{term_induction}
use Rattle.vsd_terms.proofs.SubstitutionLemmas.{subst_of-Named, subst_of-Param, subst_of-Builtin, parameters_of-Named, parameters_of-Param}
use Rattle.vsd_lift.specs.Lift.{lift, env_at}
use Rattle.vsd_lift.proofs.LiftLemmas.{lift-zero, lift-suc, lift-Named, lift-Builtin}

abbrev IsOneSubst : List (List Term) → ℕ → Term → Type 0
IsOneSubst envs level t =
    parameters_of t ≤ length (env_at envs level) → lift envs (suc level) t ≡ subst_of (map (lift envs level) (env_at envs level)) t

all_one : (envs : List (List Term)) (level : ℕ) (es : List ((t : Term) × IsOneSubst envs level t)) → greatest (map parameters_of (map (λ e. e.0) es)) ≤ length (env_at envs level) → map (lift envs (suc level)) (map (λ e. e.0) es) ≡ map (subst_of (map (lift envs level) (env_at envs level))) (map (λ e. e.0) es)
all_one envs level [] fit = refl
all_one envs level (e ∷ es) fit =
    let first = e.1 (omega arith) in
    let rest = all_one envs level es (omega arith) in
    cc

get_or-map_within : (f : Term → Term) (ts : List Term) (i : ℕ) (d c : Term) → i < length ts → get_or (map f ts) i c ≡ f (get_or ts i d)
get_or-map_within f [] i d c within = absurd (omega arith)
get_or-map_within f (t ∷ ts) zero d c within = refl
get_or-map_within f (t ∷ ts) (suc i) d c within = get_or-map_within f ts i d c (omega arith)

-- a term of the class at a level, in the lowest class, is that term at the arguments that are given it, lifted themselves
pub lift-subst_of : (envs : List (List Term)) (level : ℕ) (t : Term) → parameters_of t ≤ length (env_at envs level) → lift envs (suc level) t ≡ subst_of (map (lift envs level) (env_at envs level)) t
lift-subst_of envs level =
    let env = env_at envs level in
    let lifted = map (lift envs level) env in
    term_induction (IsOneSubst envs level)
    (λ name es fit.
    let ts = map (λ e. e.0) es in
    lift-Named envs (suc level) name ts ∙ ap (Named name) (all_one envs level es (omega (arith, parameters_of-Named name ts))) ∙ sym (subst_of-Named lifted name ts))
    (λ place fit. lift-suc envs level (Param place) ∙ ap (lift envs level) (subst_of-Param env place) ∙ sym (get_or-map_within (lift envs level) env place (Param place) (Param place) (omega (arith, parameters_of-Param place))) ∙ sym (subst_of-Param lifted place))
    (λ b fit. lift-Builtin envs (suc level) b ∙ sym (subst_of-Builtin lifted b))

-- from the class above the lowest, and then by what the lowest gives it
pub lift-lowest : (env : List Term) (envs : List (List Term)) (level : ℕ) (t : Term) → lift (env ∷ envs) (suc level) t ≡ subst_of env (lift envs level t)
lift-lowest env envs zero t = lift-suc (env ∷ envs) 0 t ∙ lift-zero (env ∷ envs) (subst_of env t) ∙ ap (subst_of env) (sym (lift-zero envs t))
lift-lowest env envs (suc level) t =
    lift-suc (env ∷ envs) (suc level) t ∙ lift-lowest env envs level (subst_of (env_at envs level) t) ∙ ap (subst_of env) (sym (lift-suc envs level t))
