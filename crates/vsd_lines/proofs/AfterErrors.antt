-- What holds after an error that came by `?`.
use Rattle.std.proofs.Common.{◌≡◌, Result, Ok, Err, IfErr, sym, subst}
use Rattle.std.specs.Result.{IsErrAnd}
use Rattle.vsd_lines.specs.Moving.{AtError}
use Rattle.vsd_lines.specs.declared.errors.LinesError.{LinesError}
use Rattle.vsd_lines.specs.declared.errors.LinesError.TheVariants.{Failed, Memory}

pub at_memory : (F M : Type 0) {T : Type 0} (r : Result T LinesError) → IsErrAnd r (λ e. e ≡ Memory) → M → IfErr r (AtError F M)
at_memory F M (Ok x) is fact = tt
at_memory F M (Err e) is fact = subst (AtError F M) (sym is) fact

pub at_failed : (F M : Type 0) {T : Type 0} (r : Result T LinesError) → IsErrAnd r (λ e. e ≡ Failed) → F → IfErr r (AtError F M)
at_failed F M (Ok x) is fact = tt
at_failed F M (Err e) is fact = subst (AtError F M) (sym is) fact

-- what holds after an error holds after the same error above
pub at_same : (F M G N : Type 0) {T : Type 0} (r : Result T LinesError) (e : LinesError) → IsErrAnd r (λ x. x ≡ e) → (F → G) → (M → N) → AtError F M e → IfErr r (AtError G N)
at_same F M G N (Ok x) e is f m fact = tt
at_same F M G N (Err x) Failed is f m fact = subst (AtError G N) (sym is) (f fact)
at_same F M G N (Err x) Memory is f m fact = subst (AtError G N) (sym is) (m fact)
