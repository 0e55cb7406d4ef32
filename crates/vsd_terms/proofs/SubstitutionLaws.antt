-- Laws of substitution: what stays of a term without parameters, twice in turn, and which parameters and names the result has.
use Rattle.std.proofs.Common.{◌≡◌, ℕ, ◌+◌, ◌<◌, ◌≤◌, zero, suc, max, List, [], ◌∷◌, length, map, get_or, sym, ap, ◌∙◌, refl, arith}
use Rattle.vsd_terms.specs.Size.{greatest}
use Rattle.vsd_terms.specs.Substitution.{parameters_of, subst_of}
use Rattle.vsd_terms.specs.Text.{names_of, names_step}
use Rattle.vsd_terms.specs.declared.term.Builtin.{Builtin as Kind}
use Rattle.vsd_terms.specs.declared.term.Term.{Term}
use Rattle.vsd_terms.specs.declared.term.Term.TheFolds.{fold-roll-Term}
use Rattle.vsd_terms.specs.declared.term.Term.TheOpen as layer
use Rattle.vsd_terms.specs.declared.term.Term.TheVariants.{Named, Param, Builtin, rolls-Named, rolls-Builtin}
use Rattle.vsd_terms.proofs.Induction.{term_induction}
use Rattle.vsd_terms.proofs.SubstitutionLemmas.{parameters_of-Named, parameters_of-Param, parameters_of-Builtin, subst_of-Named, subst_of-Param, subst_of-Builtin}

-- an element has no more than the most of its list
pub get_or-greatest : (f : Term → ℕ) (ts : List Term) (i : ℕ) (d : Term) → i < length ts → f (get_or ts i d) ≤ greatest (map f ts)
get_or-greatest f [] i d within = absurd (omega arith)
get_or-greatest f (t ∷ ts) zero d within = omega arith
get_or-greatest f (t ∷ ts) (suc i) d within = omega (arith, get_or-greatest f ts i d (omega arith))

-- ---- a term without parameters stays

abbrev StaysUnder : List Term → Term → Type 0
StaysUnder args t = parameters_of t ≡ 0 → subst_of args t ≡ t

all_stay : (args : List Term) (es : List ((t : Term) × StaysUnder args t)) → greatest (map parameters_of (map (λ e. e.0) es)) ≡ 0 → map (subst_of args) (map (λ e. e.0) es) ≡ map (λ e. e.0) es
all_stay args [] none = refl
all_stay args (e ∷ es) none =
    let first = e.1 (omega arith) in
    let rest = all_stay args es (omega arith) in
    cc

pub subst_of-closed : (args : List Term) (t : Term) → parameters_of t ≡ 0 → subst_of args t ≡ t
subst_of-closed args = term_induction (StaysUnder args)
    (λ name es none. subst_of-Named args name (map (λ e. e.0) es) ∙ ap (Named name) (all_stay args es (sym (parameters_of-Named name (map (λ e. e.0) es)) ∙ none)))
    (λ place none. absurd (omega (arith, parameters_of-Param place)))
    (λ b none. subst_of-Builtin args b)

-- ---- the parameters of the result

abbrev HasParametersOf : List Term → Term → Type 0
HasParametersOf args t = parameters_of t ≤ length args → parameters_of (subst_of args t) ≤ greatest (map parameters_of args)

all_have : (args : List Term) (es : List ((t : Term) × HasParametersOf args t)) → greatest (map parameters_of (map (λ e. e.0) es)) ≤ length args → greatest (map parameters_of (map (subst_of args) (map (λ e. e.0) es))) ≤ greatest (map parameters_of args)
all_have args [] fit = omega arith
all_have args (e ∷ es) fit = omega (arith, e.1 (omega arith), all_have args es (omega arith))

-- the result has no parameters but those of the arguments
pub parameters_of-subst_of : (args : List Term) (t : Term) → parameters_of t ≤ length args → parameters_of (subst_of args t) ≤ greatest (map parameters_of args)
parameters_of-subst_of args = term_induction (HasParametersOf args)
    (λ name es fit.
    let ts = map (λ e. e.0) es in
    let of_args = all_have args es (omega (arith, parameters_of-Named name ts)) in
    omega (arith, ap parameters_of (subst_of-Named args name ts), parameters_of-Named name (map (subst_of args) ts)))
    (λ place fit. omega (arith, ap parameters_of (subst_of-Param args place), get_or-greatest parameters_of args place (Param place) (omega (arith, parameters_of-Param place))))
    (λ b fit. omega (arith, ap parameters_of (subst_of-Builtin args b), parameters_of-Builtin b))

-- ---- the names of the result

names_of-Named : (name : ℕ) (args : List Term) → names_of (Named name args) ≡ max (name + 1) (greatest (map names_of args))
names_of-Named name args = ap names_of (sym (rolls-Named name args)) ∙ fold-roll-Term ℕ names_step (layer.Named name args)

names_of-Builtin : (b : Kind) → names_of (Builtin b) ≡ 0
names_of-Builtin b = ap names_of (sym (rolls-Builtin b)) ∙ fold-roll-Term ℕ names_step (layer.Builtin b)

abbrev HasNamesOf : List Term → Term → Type 0
HasNamesOf args t =
    parameters_of t ≤ length args → names_of (subst_of args t) ≤ max (names_of t) (greatest (map names_of args))

all_have_names : (args : List Term) (es : List ((t : Term) × HasNamesOf args t)) → greatest (map parameters_of (map (λ e. e.0) es)) ≤ length args → greatest (map names_of (map (subst_of args) (map (λ e. e.0) es))) ≤ max (greatest (map names_of (map (λ e. e.0) es))) (greatest (map names_of args))
all_have_names args [] fit = omega arith
all_have_names args (e ∷ es) fit = omega (arith, e.1 (omega arith), all_have_names args es (omega arith))

-- the result has no names but those of the term and of the arguments
pub names_of-subst_of : (args : List Term) (t : Term) → parameters_of t ≤ length args → names_of (subst_of args t) ≤ max (names_of t) (greatest (map names_of args))
names_of-subst_of args = term_induction (HasNamesOf args)
    (λ name es fit.
    let ts = map (λ e. e.0) es in
    let of_args = all_have_names args es (omega (arith, parameters_of-Named name ts)) in
    omega (arith, ap names_of (subst_of-Named args name ts), names_of-Named name ts, names_of-Named name (map (subst_of args) ts)))
    (λ place fit. omega (arith, ap names_of (subst_of-Param args place), get_or-greatest names_of args place (Param place) (omega (arith, parameters_of-Param place))))
    (λ b fit. omega (arith, ap names_of (subst_of-Builtin args b), names_of-Builtin b))

-- ---- two substitutions in turn

abbrev Composes : List Term → List Term → Term → Type 0
Composes inner outer t = parameters_of t ≤ length inner → subst_of outer (subst_of inner t) ≡ subst_of (map (subst_of outer) inner) t

all_compose : (inner outer : List Term) (es : List ((t : Term) × Composes inner outer t)) → greatest (map parameters_of (map (λ e. e.0) es)) ≤ length inner → map (subst_of outer) (map (subst_of inner) (map (λ e. e.0) es)) ≡ map (subst_of (map (subst_of outer) inner)) (map (λ e. e.0) es)
all_compose inner outer [] fit = refl
all_compose inner outer (e ∷ es) fit =
    let first = e.1 (omega arith) in
    let rest = all_compose inner outer es (omega arith) in
    cc

get_or-map_within : (f : Term → Term) (ts : List Term) (i : ℕ) (d c : Term) → i < length ts → get_or (map f ts) i c ≡ f (get_or ts i d)
get_or-map_within f [] i d c within = absurd (omega arith)
get_or-map_within f (t ∷ ts) zero d c within = refl
get_or-map_within f (t ∷ ts) (suc i) d c within = get_or-map_within f ts i d c (omega arith)

-- one substitution and then another is that of the arguments with the other put in
pub subst_of-subst_of : (inner outer : List Term) (t : Term) → parameters_of t ≤ length inner → subst_of outer (subst_of inner t) ≡ subst_of (map (subst_of outer) inner) t
subst_of-subst_of inner outer = term_induction (Composes inner outer)
    (λ name es fit.
    let ts = map (λ e. e.0) es in
    ap (subst_of outer) (subst_of-Named inner name ts) ∙ subst_of-Named outer name (map (subst_of inner) ts) ∙ ap (Named name) (all_compose inner outer es (omega (arith, parameters_of-Named name ts))) ∙ sym (subst_of-Named (map (subst_of outer) inner) name ts))
    (λ place fit. ap (subst_of outer) (subst_of-Param inner place) ∙ sym (get_or-map_within (subst_of outer) inner place (Param place) (Param place) (omega (arith, parameters_of-Param place))) ∙ sym (subst_of-Param (map (subst_of outer) inner) place))
    (λ b fit. ap (subst_of outer) (subst_of-Builtin inner b) ∙ subst_of-Builtin outer b ∙ sym (subst_of-Builtin (map (subst_of outer) inner) b))
