use Rattle.std.proofs.Common.{◌≡◌, ℕ, List, length, Contains, Some, Result, Ok, Err, ap, sym, subst, ◌∙◌}
use Rattle.std.specs.List.{slice_get}
use Rattle.vsd_terms.specs.declared.names.NamesError.{NamesError}
use Rattle.vsd_terms.specs.Names.{AreNames, AddsName}
use Rattle.vsd_grammar.specs.Input.{Input}
use Rattle.vsd_grammar.specs.Grammar.{run, syntax_error}
use Rattle.vsd_grammar.specs.Productions.{number}
use Rattle.vsd_grammar.proofs.Outcomes.{reads_refused}
use Rattle.vsd_grammar.specs.declared.cause.Cause.TheVariants.{TooMany}
use Rattle.vsd_grammar.specs.declared.cause.Counted.TheVariants as limit
use Rattle.vsd_grammar.proofs.Numbers.{with_names, number_new, number_full}
use Rattle.vsd_grammar.proofs.cursor.Cursor.add_name.Goals as goal

no_err : (n : ℕ) (e : NamesError) → ◌≡◌ {A = Result ℕ NamesError} (Ok n) (Err e) → ⊥
no_err n e h = cc

-- one place for another that is the same
number_new_at : (i j : Input) (name : List ℕ) (n : ℕ) (new : List (List ℕ)) → j ≡ i → AreNames i.state.names → (Contains i.state.names name → ⊥) → (length j.state.names ≡ 2048 → ⊥)
    → AddsName j.state.names new name → slice_get new n ≡ Some name → run ℕ (number name) i ≡ Ok (n, with_names j new)
number_new_at i j name n new e good absent room adds found =
    number_new i name n new good absent (subst (λ k. length k.state.names ≡ 2048 → ⊥) e room) (subst (λ k. AddsName k.state.names new name) e adds) found
    ∙ ap (λ k. Ok (n, with_names k new)) (sym e)

pub returns-in-Ok : goal.returns-in-Ok
returns-in-Ok c = number_new_at c.args.self.now _ c.args.name.now c.in-Ok.number c.number.new.self c.self.view_is c.requires.names c.requires.new
    (λ full. no_err c.in-Ok.number _ (c.in-Ok.ensures.full.1 (subst (λ j. Contains j.state.names c.args.name.now → ⊥) (sym c.self.view_is) c.requires.new, full)))
    c.in-Ok.ensures.adds c.in-Ok.ensures.place

number_full_at : (i j : Input) (name : List ℕ) → j ≡ i → (Contains i.state.names name → ⊥) → length j.state.names ≡ 2048 → run ℕ (number name) i ≡ Err (syntax_error j (TooMany limit.Names))
number_full_at i j name e absent full = number_full i name absent (subst (λ k. length k.state.names ≡ 2048) e full) ∙ ap (λ k. Err (syntax_error k (TooMany limit.Names))) (sym e)

pub returns-in-Err-Full : goal.returns-in-Err-Full
returns-in-Err-Full c =
    let full = c.in-Err-Full.ensures.full.0 (ap Err c.in-Err-Full.field-0-is) in
    reads_refused (run ℕ (number c.args.name.now) c.args.self.now) _ _ _ c.refuse.ensures
    (number_full_at c.args.self.now _ c.args.name.now c.self.view_is c.requires.new full.1)
