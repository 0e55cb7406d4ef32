use Rattle.std.proofs.Common.{Bool, false, Option, unwrap_or, refl, ap, ◌∙◌}
use Rattle.std.specs.HashMap.{get}
use Rattle.vsd_overrides.specs.Known.{same_question}
use Rattle.vsd_overrides.proofs.KnownLemmas.{had-exact}
use Rattle.vsd_overrides.proofs.owners.is_had.Goals as goal

pub returns : goal.returns
returns c ds known told =
    had-exact ds (get same_question c.args.known.now) c.args.question c.unwrap_or.result
    (c.unwrap_or.ensures ∙ ap (λ (t : Option Bool). unwrap_or t false) (c.copied.ensures ∙ c.get.ensures.value))
    (told c.args.question refl refl) known
