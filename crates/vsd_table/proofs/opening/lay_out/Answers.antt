use Rattle.std.proofs.Common.{◌≡◌, ℕ, List, [], ◌∷◌, sym, ◌∙◌, subst}
use Rattle.vsd_rule.specs.Rule.{Rule}
use Rattle.vsd_rule.specs.Moves.{root_view}
use Rattle.vsd_rule.specs.Opening.{opening_words}
use Rattle.vsd_rule.proofs.Opening.{opening_holds}
use Rattle.vsd_table.proofs.Laid.{words_written}
use Rattle.vsd_table.proofs.opening.lay_out.Goals as goal

pub of_words-requires : goal.of_words-requires
of_words-requires c =
    let k = c.args.key in
    let is : _ ≡ opening_words k = c.deref.ensures.value ∙ (c.in_ok-words.ensures ∙ words_written k c.of-offsets.result c.args.hosts.now c.of-offsets.ensures.offsets c.requires.hosts c.requires.lawful.hosts) in
    record { rule = subst (λ (words : List ℕ). Rule k words (root_view k ∷ [])) (sym is) (opening_holds k c.requires.lawful); opened = λ none. is }
