-- Types are closed, or the first refusal of closing them.
use Rattle.std.proofs.Common.{◌≡◌, List, Result, Ok, Err, refl, sym, ap, ◌∙◌}
use Rattle.vsd_terms.specs.declared.term.Term.{Term}
use Rattle.vsd_ast.specs.declared.declarations.Decls.{Decls}
use Rattle.vsd_ast.specs.declared.scripts.Script.{Script}
use Rattle.vsd_types.specs.Closing.{closing}
use Rattle.vsd_types.specs.declared.error.CloseError.{CloseError}
use Rattle.vsd_types.specs.declared.error.CloseError.TheVariants.{TooManyTypes, TooDeep, Memory}
use Rattle.vsd_refusals.specs.declared.refusal.Refusal.TheVariants.{Close}
use Rattle.vsd_stages.specs.Endings.{refused}
use Rattle.vsd_stages.specs.Settling.{IsOneEnding, Settles}
use Rattle.vsd_stages.specs.Stages.{Closes, Builds, IsCloseRefusal}
use Rattle.vsd_stages.specs.Stopping.{stopped_close}
use Rattle.vsd_stages.specs.declared.prepared.Prepared.{Prepared}
use Rattle.vsd_stages.specs.declared.stopping.Stopped.{Stopped}
use Rattle.vsd_stages.proofs.Endings.{settles_on, settles_here}

module _ (d : Decls) (s : Script) where
  close_here : (e : CloseError) → closing d s.roots ≡ Err e → IsOneEnding (Closes d s) (refused (Close e))
  unfolding Closes
  close_here e is =
      settles_here (List Term) (λ types. closing d s.roots ≡ Ok types) (IsCloseRefusal d s.roots) (Builds d s) (Close e)
      (record { error = e; first = is; is = refl })
      (λ r again. let both : Err again.error ≡ Err e = sym again.first ∙ is in let same : again.error ≡ e = cc in again.is ∙ ap Close same)
      (λ types closed. let both : Ok types ≡ Err e = sym closed ∙ is in absurd cc)

  pub close_stops : (e : CloseError) → ((¬ (e ≡ Memory)) → closing d s.roots ≡ Err e) → Settles (Closes d s) (Err (stopped_close e))
  close_stops TooManyTypes is = close_here TooManyTypes (is (λ memory. absurd cc))
  close_stops TooDeep is = close_here TooDeep (is (λ memory. absurd cc))
  close_stops Memory is = tt

  pub close_gives : (types : List Term) → closing d s.roots ≡ Ok types → (result : Result Prepared Stopped) → Settles (Builds d s types) result
      → Settles (Closes d s) result
  unfolding Closes
  close_gives types is result rest =
      settles_on (List Term) (λ ts. closing d s.roots ≡ Ok ts) (IsCloseRefusal d s.roots) (Builds d s) types is
      (λ other closed. let both : Ok other ≡ Ok types = sym closed ∙ is in cc)
      (λ r refuses. let both : Ok types ≡ Err refuses.error = sym is ∙ refuses.first in absurd cc) result rest
