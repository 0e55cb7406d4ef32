use Rattle.std.proofs.Common.{◌≡◌, Some, subst, ◌<◌, ◌≤◌, ◌++◌, suc, List, [], Ok, length, sym, ap, ◌∙◌, arith}
use Rattle.std.specs.List.{slice_get}
use Rattle.std.proofs.lemmas.List.{length-append, length_push}
use Rattle.std.proofs.lemmas.List.Elements.{All-same}
use Rattle.std.proofs.lemmas.Result.{err_from_is_err_and}
use Rattle.indexmap.specs.IndexSet.{keys}
use Rattle.vsd_terms.specs.declared.term.Term.{Term}
use Rattle.vsd_ast.specs.declared.declarations.Decls.{Decls}
use Rattle.vsd_check.specs.Checked.{decls_of}
use Rattle.vsd_types.specs.ClosedList.{IsClosedList}
use Rattle.vsd_types.specs.Closing.{add_all, plain_types, follow, walked}
use Rattle.vsd_types.specs.Entries.{AreEntries, AreKept, IsEntry}
use Rattle.vsd_types.specs.Types.{IsClosedType, type_at}
use Rattle.vsd_types.proofs.LawfulLemmas.{plain-fit}
use Rattle.vsd_types.proofs.WalkLemmas.{walked-none, walked-more, closing-Ok, closing-Err, closed_list, entries_more}
use Rattle.vsd_types.proofs.closing.close.Goals as goal

pub start-requires-clause-first : goal.start-requires-clause-first
start-requires-clause-first c =
    let d = decls_of c.args.checked.now in
    All-same (IsClosedType d.list) c.as_slice-2.result.now (plain_types d.list) (c.as_slice-2.ensures ∙ c.in_ok-plain.ensures ∙ ap plain_types (c.as_slice.ensures ∙ ap (λ (x : Decls). x.list) c.decls.ensures.decls)) (plain-fit d.list (length d.names) c.decls.ensures.well_formed.each c.decls.ensures.hierarchy.each c.decls.ensures.hierarchy.distinct)

pub walk-init : goal.walk-init
walk-init c =
    let d = decls_of c.args.checked.now in
    let roots = c.args.roots.now in
    let first : c.as_slice-2.result.now ≡ plain_types d.list = c.as_slice-2.ensures ∙ c.in_ok-plain.ensures ∙ ap plain_types (c.as_slice.ensures ∙ ap (λ (x : Decls). x.list) c.decls.ensures.decls) in
    record {
      walked = ap (walked d roots) (ap length c.new-entries.ensures) ∙ walked-none d roots ∙ ap (λ (l : List Term). add_all d.names (Ok []) (l ++ roots)) (sym first) ∙ c.in_ok-types.ensures.ok;
      lawful = c.in_ok-types.ensures.lawful;
      few = c.in_ok-types.ensures.few;
      followed = omega (arith, ap length c.new-entries.ensures);
      entries = λ i t e at_t at_e. let none : slice_get [] i ≡ Some e = ap (λ l. slice_get l i) (sym c.new-entries.ensures) ∙ at_e in absurd cc;
    }

pub returns-in_err-types-clause-refused : goal.returns-in_err-types-clause-refused
returns-in_err-types-clause-refused c =
    let p = err_from_is_err_and c.from_residual-in_err-types.result c.from_residual-in_err-types.ensures.1 in
    let d = decls_of c.args.checked.now in
    let roots = c.args.roots.now in
    let first : c.as_slice-2.result.now ≡ plain_types d.list = c.as_slice-2.ensures ∙ c.in_ok-plain.ensures ∙ ap plain_types (c.as_slice.ensures ∙ ap (λ (x : Decls). x.list) c.decls.ensures.decls) in
    rw (p.1, p.2) (λ other. closing-Err d roots c.in_err-types.field-0.0 0 (walked-none d roots ∙ ap (λ (l : List Term). add_all d.names (Ok []) (l ++ roots)) (sym first) ∙ c.in_err-types.ensures.refused other) (omega arith))

pub returns-in_err-entry-clause-refused : goal.returns-in_err-entry-clause-refused
returns-in_err-entry-clause-refused c =
    let p = err_from_is_err_and c.from_residual-in_err-entry.result c.from_residual-in_err-entry.ensures.1 in
    let d = decls_of c.args.checked.now in
    let roots = c.args.roots.now in
    let n = length c.walk.entries in
    let before = c.walk.invariant in
    rw (p.1, p.2) (λ other. closing-Err d roots c.in_err-entry.field-0.0 (suc n) (walked-more d roots n ∙ ap (λ r. follow d r n) before.walked ∙ ap (follow d (Ok (keys c.walk.types))) (sym c.len-in-walk-2.ensures) ∙ c.in_err-entry.ensures.refused other) (omega (arith, before.few, c.len.ensures, c.len-in-walk.ensures.len, c.walk-test.true)))

pub walk-preserved : goal.walk-preserved
walk-preserved c =
    let d = decls_of c.args.checked.now in
    let roots = c.args.roots.now in
    let n = length c.walk.entries in
    let before = c.walk.invariant in
    let here = c.in_ok-entry.ensures in
    let long : length c.push.new.self ≡ suc n = ap length c.in_ok-push.ensures.ok ∙ length_push c.walk.entries c.in_ok-entry.entry ∙ omega arith in
    let within : n < length (keys c.walk.types) = omega (arith, c.len.ensures, c.len-in-walk.ensures.len, c.walk-test.true) in
    let grown : length (keys c.walk.types) ≤ length (keys c.follow.new.types) = omega (arith, ap length here.extends.1, length-append (keys c.walk.types) here.extends.0) in
    record {
      walked = ap (walked d roots) long ∙ walked-more d roots n ∙ ap (λ r. follow d r n) before.walked ∙ ap (follow d (Ok (keys c.walk.types))) (sym c.len-in-walk-2.ensures) ∙ here.ok;
      lawful = here.lawful;
      few = here.few;
      followed = omega (arith, long, within, grown);
      entries = subst (AreEntries d.list (keys c.follow.new.types)) (sym c.in_ok-push.ensures.ok) (entries_more d.list (keys c.walk.types) (keys c.follow.new.types) c.walk.entries c.in_ok-entry.entry here.extends before.entries within (subst (λ k. IsEntry d.list (keys c.follow.new.types) (type_at (keys c.walk.types) k) c.in_ok-entry.entry) c.len-in-walk-2.ensures here.entry));
    }

pub invariant_of-result : goal.invariant_of-result
invariant_of-result c =
    let d = decls_of c.args.checked.now in
    let types = keys c.walk.types in
    let before = c.walk.invariant in
    let n = length c.walk.entries in
    let followed : length types ≤ n = omega (arith, c.len.ensures, c.len-in-walk.ensures.len, c.walk-test.false) in
    let law = closed_list d c.args.roots.now n types before.walked followed in
    subst (λ (x : Decls). AreKept x.list types c.walk.entries) (sym c.told.ensures) (record {
      few = before.few;
      count = omega (arith, before.followed, followed);
      distinct = law.distinct;
      right = before.entries;
    })

pub returns-clause-ok : goal.returns-clause-ok
returns-clause-ok c =
    let before = c.walk.invariant in
    closing-Ok (decls_of c.args.checked.now) c.args.roots.now (keys c.walk.types) (length c.walk.entries) before.walked (omega (arith, c.len.ensures, c.len-in-walk.ensures.len, c.walk-test.false)) (omega (arith, before.few, before.followed))

pub returns-clause-law : goal.returns-clause-law
returns-clause-law c =
    let types = keys c.walk.types in
    let before = c.walk.invariant in
    subst (λ (x : Decls). IsClosedList x.list (plain_types x.list ++ c.args.roots.now) types) (sym c.told.ensures) (closed_list (decls_of c.args.checked.now) c.args.roots.now (length c.walk.entries) types before.walked (omega (arith, c.len.ensures, c.len-in-walk.ensures.len, c.walk-test.false)))
