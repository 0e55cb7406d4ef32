use Rattle.std.proofs.Common.{◌≡◌, All, Contains, sym, subst, ◌∙◌, arith}
use Rattle.vsd_types.specs.Numbers.{AreNumbers, IsDistinct}
use Rattle.vsd_types.specs.TypeList.{TypeList}
use Rattle.vsd_itable.specs.Tables.{tokens_count}
use Rattle.vsd_stages.specs.Noted.{AreTold}
use Rattle.vsd_stages.proofs.Rendered.{few_counted, roots_listed, tabled_by, tokens_counted}
use Rattle.vsd_stages.proofs.rendering.name_all.Goals as goal

pub tokens_of-requires-clause-listed : goal.tokens_of-requires-clause-listed
tokens_of-requires-clause-listed c =
    subst (λ (t : TypeList). All (Contains t.types) c.args.script.now.roots) (sym c.closed-closed.ensures.closed) (roots_listed c.args.tables.now c.args.script.now c.requires.tables)

pub overflow_cast-count : goal.overflow_cast-count
overflow_cast-count c =
    let v = c.args.tables.now in
    let s = c.args.script.now in
    let distinct = subst (λ (t : TypeList). IsDistinct t.types) c.closed-closed.ensures.closed c.have_one_number.ensures in
    let types = c.in_ok-_types._types.items in
    let numbers = subst (λ (t : TypeList). AreNumbers t.types types s.roots) c.closed-closed.ensures.closed c.in_ok-_types.ensures.numbers in
    let few = few_counted v s distinct c.requires.tables types numbers c.requires.formed.few_sites in
    let long = tokens_counted v s distinct c.requires.tables types numbers c.in_ok-_types.tokens.list.items c.in_ok-_types.ensures.tokens in
    omega (arith, few, long, c.len-count.ensures)

pub method_texts-requires : goal.method_texts-requires
method_texts-requires c =
    let v = c.args.tables.now in
    let s = c.args.script.now in
    let distinct = subst (λ (t : TypeList). IsDistinct t.types) c.closed-closed.ensures.closed c.have_one_number.ensures in
    let types = c.in_ok-_types._types.items in
    let numbers = subst (λ (t : TypeList). AreNumbers t.types types s.roots) c.closed-closed.ensures.closed c.in_ok-_types.ensures.numbers in
    let long = tokens_counted v s distinct c.requires.tables types numbers c.in_ok-_types.tokens.list.items c.in_ok-_types.ensures.tokens in
    record { tokens = omega (arith, c.len-count.ensures, long) }

pub slot_texts-requires : goal.slot_texts-requires
slot_texts-requires c =
    let v = c.args.tables.now in
    let s = c.args.script.now in
    let distinct = subst (λ (t : TypeList). IsDistinct t.types) c.closed-closed.ensures.closed c.have_one_number.ensures in
    let types = c.in_ok-_types._types.items in
    let numbers = subst (λ (t : TypeList). AreNumbers t.types types s.roots) c.closed-closed.ensures.closed c.in_ok-_types.ensures.numbers in
    let long = tokens_counted v s distinct c.requires.tables types numbers c.in_ok-_types.tokens.list.items c.in_ok-_types.ensures.tokens in
    record { tokens = omega (arith, c.len-count.ensures, long) }

pub returns : goal.returns
returns c =
    let v = c.args.tables.now in
    let s = c.args.script.now in
    let distinct = subst (λ (t : TypeList). IsDistinct t.types) c.closed-closed.ensures.closed c.have_one_number.ensures in
    let types = c.in_ok-_types._types.items in
    let numbers = subst (λ (t : TypeList). AreNumbers t.types types s.roots) c.closed-closed.ensures.closed c.in_ok-_types.ensures.numbers in
    let long = tokens_counted v s distinct c.requires.tables types numbers c.in_ok-_types.tokens.list.items c.in_ok-_types.ensures.tokens in
    let is : c.len-count.result ≡ tokens_count v = omega (arith, c.len-count.ensures, long) in
    let tabled = tabled_by v s distinct c.requires.tables types numbers in
    record {
      types = types;
      tabled = record { numbers = numbers; tokens = tabled.tokens; site_tokens = c.in_ok-_types.ensures.sites };
      told = λ t below. subst (AreTold v c.in_ok-methods.methods.items t) is (c.in_ok-methods.ensures.told t below);
      count = c.in_ok-slots.ensures.count ∙ is;
      made = λ k below. c.in_ok-slots.ensures.texts k (omega (arith, below, is));
    }
