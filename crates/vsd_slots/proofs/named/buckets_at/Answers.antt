use Rattle.std.proofs.Common.{◌≡◌, ◌∙◌, ◌<◌, [], length, get_or, sym, subst, arith}
use Rattle.vsd_types.specs.Types.{declaration_of, type_at}
use Rattle.vsd_interfaces.proofs.ReadLaws.{read-at}
use Rattle.vsd_methods.specs.Methods.{methods_in}
use Rattle.vsd_slots.specs.Named.{AreBuckets}
use Rattle.vsd_slots.proofs.NamedLaws.{buckets-read}
use Rattle.vsd_slots.proofs.named.buckets_at.Goals as goal

pub returns-in-Some : goal.returns-in-Some
returns-in-Some c =
    let ds = c.args.closed.now.decls.list in
    let t = type_at c.args.closed.now.types c.args.t in
    let all = c.args.named.now.buckets in
    let place = c.in-Some.place in
    let inside : place < length all = omega (arith, c.requires.named.buckets.count, c.in-Some.ensures.within) in
    let read : c.as_slice-in-Some.result.now ≡ get_or all place [] =
    c.as_slice-in-Some.ensures ∙ read-at c.as_slice.result.now all place c.index-as_slice-place.result [] inside c.index-as_slice-place.is c.as_slice.ensures in
    subst (AreBuckets (methods_in (declaration_of ds t))) (sym read) (buckets-read ds t place all c.requires.named.buckets c.in-Some.ensures.place c.in-Some.ensures.within)
