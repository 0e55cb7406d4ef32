-- A declaration has few parameters.
use Rattle.std.proofs.Common.{◌≡◌, ℕ, ◌≤◌, ◌<◌, List, [], length, Some, Ok, arith}
use Rattle.std.specs.List.{position}
use Rattle.std.specs.Str.{bytes_eq}
use Rattle.std.proofs.lemmas.List.Quantifiers.{position-Some}
use Rattle.vsd_ast.specs.declared.declarations.Param.{Param}
use Rattle.vsd_ast.specs.declared.declarations.Sign.TheVariants as sign
use Rattle.vsd_grammar.specs.Input.{Input}
use Rattle.vsd_grammar.specs.Grammar.{run}
use Rattle.vsd_grammar.proofs.Soundness.{sound}
use Rattle.vsd_decl_syntax.specs.Parameters.{param_list, most_params}

-- the place of a name among few is small
pub place_is_small : (ps : List Param) (name : List ℕ) (n : ℕ) → position (λ (p : Param). bytes_eq p.name name) ps ≡ Some n → length ps ≤ most_params → n < 8
place_is_small ps name n e few =
    let at = position-Some (λ (p : Param). bytes_eq p.name name) ps n (record { name = []; sign = sign.Plain }) e in
    let below = at.0 in
    omega (arith, below, few)

-- what is read as parameters is few
pub few_listed : (i : Input) (ps : List Param) (j : Input) → run (List Param) param_list i ≡ Ok (ps, j) → length ps ≤ most_params
unfolding param_list
few_listed i ps j e = let d = sound (List Param) param_list i ps j e in d.0
