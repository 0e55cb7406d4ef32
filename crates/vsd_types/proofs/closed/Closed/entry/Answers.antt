use Rattle.std.proofs.Common.{◌≡◌, List, ◌<◌, length, get_or, Some, subst, sym, ap, ◌∙◌, arith}
use Rattle.std.specs.List.{slice_get}
use Rattle.std.proofs.lemmas.Option.{slice_get-get_or}
use Rattle.indexmap.specs.IndexSet.{keys}
use Rattle.vsd_types.specs.declared.entry.Entry.{Entry}
use Rattle.vsd_types.specs.Entries.{IsEntry}
use Rattle.vsd_types.specs.TypeList.{TypeList}
use Rattle.vsd_types.specs.Types.{object, type_at}
use Rattle.vsd_types.proofs.closed.Closed.entry.Goals as goal

pub returns : goal.returns
returns c =
    let types = keys c.self.inside.types in
    let e = c.index-as_slice-from.result in
    let t = c.args.t in
    let same : types ≡ c.args.self.now.types = ap (λ (v : TypeList). v.types) c.self.view_is in
    let within : t < length types = omega (arith, ap length same, c.requires) in
    let here = slice_get-get_or types t object within in
    let long : t < length c.self.inside.entries = omega (arith, within, c.self.invariant.count) in
    let whole : c.as_slice.result.now ≡ c.self.inside.entries = c.as_slice.ensures in
    let read : get_or c.self.inside.entries t e ≡ e = ap (λ i. get_or c.self.inside.entries i e) (sym c.from.ensures) ∙ ap (λ (l : List Entry). get_or l c.from.result e) (sym whole) ∙ sym c.index-as_slice-from.is in
    let entry : slice_get c.self.inside.entries t ≡ Some e = slice_get-get_or c.self.inside.entries t e long ∙ ap Some read in
    subst (λ (v : TypeList). IsEntry v.decls.list v.types (type_at v.types t) e) c.self.view_is (c.self.invariant.right t (type_at types t) e here entry)
