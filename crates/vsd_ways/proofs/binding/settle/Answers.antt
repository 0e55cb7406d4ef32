use Rattle.std.proofs.Common.{◌≡◌, ◌∙◌, sym, ap, Some, None, refl, length, rules}
use Rattle.std.specs.List.{slice_get}
use Rattle.std.proofs.lemmas.Option.{slice_get_read}
use Rattle.vsd_ways.proofs.KnownLemmas.{settled_known, settled_new}
use Rattle.vsd_ways.proofs.binding.settle.Goals as goal

pub returns-in-Some-clause-exact : goal.returns-in-Some-clause-exact
returns-in-Some-clause-exact c args =
    let known = c.args.known.now.items in
    let here : slice_get known c.args.place ≡ Some (Some c.in-Some.t) = slice_get_read known (length known) c.args.place c.index.result.now refl c.requires c.index.ensures ∙ ap Some c.in-Some.is in
    settled_known known args c.args.place c.in-Some.t c.args.whole.now c.same.result here c.same.ensures

pub returns-clause-exact : goal.returns-clause-exact
returns-clause-exact c args =
    let known = c.args.known.now.items in
    let none : c.index.result.now ≡ None = search rules in
    let here : slice_get known c.args.place ≡ Some None = slice_get_read known (length known) c.args.place c.index.result.now refl c.requires c.index.ensures ∙ ap Some none in
    let new = settled_new known args c.args.place c.in_ok-made.made here in
    let made = c.in_ok-made.ensures in
    (λ both. let h = new.0 both.1 in (h.0, h.1 ∙ ap Some made), λ both. (refl, new.1 (both.0, both.1 ∙ ap Some (sym made))))
