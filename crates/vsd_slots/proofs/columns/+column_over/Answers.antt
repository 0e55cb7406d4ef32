use Rattle.std.proofs.Common.{◌≡◌, ◌<◌, ◌∙◌, [], List, Option, get_or, sym, subst, arith}
use Rattle.std.proofs.lemmas.Result.{IfOk-weaker}
use Rattle.vsd_check.specs.Checked.{depths_of}
use Rattle.vsd_terms.specs.declared.term.Term.{Term}
use Rattle.vsd_types.specs.Types.{base_of, type_at}
use Rattle.vsd_slots.specs.Columns.{IsColumn}
use Rattle.vsd_interfaces.specs.Ranks.{rank_of}
use Rattle.vsd_slots.specs.declared.entries.Entry.{Entry}
use Rattle.vsd_slots.proofs.EntryLaws.{base-some}
use Rattle.vsd_interfaces.proofs.RankLaws.{base-falls}
use Rattle.vsd_slots.proofs.columns.+column_over.Goals as goal

pub column_over-requires : goal.column_over-requires
column_over-requires t c =
    let s = c.args.closed.now in
    let ds = s.decls.list in
    let depths = depths_of c.args.checked.now in
    let b = c.in-Some.base in
    let is = base-some s c.args.t c.args.i 0 c.base.result c.base.ensures.number b c.in-Some.is in
    let lower = base-falls ds depths c.requires.parts.hierarchy (type_at s.types c.args.t) (type_at s.types b) is in
    let falls : rank_of ds depths (type_at s.types b) < t = omega (arith, c.decreases, lower) in
    (falls, (c.requires.together, (c.requires.parts, (c.requires.named, (c.requires.buckets, (c.requires.kept, (c.in-Some.ensures.within, c.requires.interface)))))))

pub returns-in-Some-number : goal.returns-in-Some-number
returns-in-Some-number t c =
    let s = c.args.closed.now in
    let i = c.args.i in
    let b = c.in-Some.base in
    let number = c.in-Some-number.number in
    let kept = get_or c.args.columns.now number [] in
    let is = base-some s c.args.t i 0 c.base.result c.base.ensures.number b c.in-Some.is in
    let column = subst (λ (o : Option Term). IsColumn s o i kept) (sym is) (c.requires.kept b i number c.in-Some-number.ensures).holds in
    IfOk-weaker c.from_slice.result (λ (it : List Entry). it ≡ c.list.result.now) (IsColumn s (base_of s.decls.list (type_at s.types c.args.t)) i) (λ it same. subst (IsColumn s (base_of s.decls.list (type_at s.types c.args.t)) i) (sym (same ∙ c.list.ensures)) column) c.from_slice.ensures

pub returns-in_ok-found-in-Some : goal.returns-in_ok-found-in-Some
returns-in_ok-found-in-Some t c =
    let s = c.args.closed.now in
    let is = base-some s c.args.t c.args.i 0 c.base.result c.base.ensures.number c.in-Some.base c.in-Some.is in
    subst (λ (o : Option Term). IsColumn s o c.args.i c.change.new.column) (sym is) c.change.ensures
