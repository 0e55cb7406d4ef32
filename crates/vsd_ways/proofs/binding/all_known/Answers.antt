use Rattle.std.proofs.Common.{◌≡◌, ◌∙◌, ap, sym, subst, map, List, Some, Option, ◌↔◌, arith}
use Rattle.std.proofs.lemmas.List.{take_all}
use Rattle.vsd_terms.specs.declared.term.Term.{Term}
use Rattle.vsd_ways.specs.Known.{Meets}
use Rattle.vsd_ways.proofs.KnownLemmas.{meets_all}
use Rattle.vsd_ways.proofs.binding.all_known.Goals as goal

pub returns : goal.returns
returns c others =
    let args = c.args.args.now in
    let all : c.loop-arg.known.items ≡ map Some args = c.loop-arg.invariant ∙ ap (λ (l : List Term). map Some l) (take_all c.loop-arg.arg-index args (omega arith)) in
    subst (λ (known : List (Option Term)). Meets known others ↔ (others ≡ args)) (sym all) (meets_all args others)
