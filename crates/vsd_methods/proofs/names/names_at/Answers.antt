use Rattle.std.proofs.Common.{◌≡◌, ◌∙◌, ◌<◌, ℕ, [], List, length, get_or, sym, subst, arith}
use Rattle.vsd_types.specs.Types.{type_at}
use Rattle.vsd_methods.specs.Firsts.{AreNamesOf}
use Rattle.vsd_methods.proofs.NameLaws.{declaration-reads}
use Rattle.vsd_interfaces.proofs.ReadLaws.{read_any}
use Rattle.vsd_methods.proofs.names.names_at.Goals as goal

pub returns : goal.returns
returns c = λ x is.
    let s = c.args.closed.now in
    let names = c.args.names.now in
    let place = c.in_ok-place.place in
    let inside : place < length names = omega (arith, c.requires.names.count, c.in_ok-place.ensures.within) in
    let read : c.index-names-place.result ≡ get_or names place [] = c.index-names-place.is ∙ read_any names place c.index-names-place.result [] inside in
    subst (λ (l : List (List ℕ)). AreNamesOf x.methods l) (sym read) (c.requires.names.each place x (declaration-reads s.decls.list (type_at s.types c.args.t) place x c.in_ok-place.ensures.place is))
