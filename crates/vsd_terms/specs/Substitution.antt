-- Putting arguments in place of parameters. Each is a fold: what a node gives, from what its arguments give.
use Rattle.std.specs.Prelude.{ℕ, ◌+◌, List, slice_index_or}
use Rattle.vsd_terms.specs.declared.term.Term.{Term}
use Rattle.vsd_terms.specs.declared.term.Term.TheVariants as term
use Rattle.vsd_terms.specs.declared.term.Term.TheOpen.{Term-F, Named, Param, Builtin}
use Rattle.vsd_terms.specs.declared.term.Term.TheFolds.{fold-Term}
use Rattle.vsd_terms.specs.Size.{greatest}

abbrev pub parameters_step : Term-F ℕ → ℕ
parameters_step (Named name args) = greatest args
parameters_step (Param place) = place + 1
parameters_step (Builtin b) = 0

-- one more than the last parameter that the term names, and 0 where it names none
abbrev pub parameters_of : Term → ℕ
parameters_of = fold-Term ℕ parameters_step

abbrev pub subst_step : List Term → Term-F Term → Term
subst_step args (Named name inner) = term.Named name inner
subst_step args (Param place) = slice_index_or args place (term.Param place)
subst_step args (Builtin b) = term.Builtin b

-- the term with the argument at each place in place of that parameter, everywhere
abbrev pub subst_of : List Term → Term → Term
subst_of args = fold-Term Term (subst_step args)
