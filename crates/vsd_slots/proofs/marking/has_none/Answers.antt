use Rattle.std.proofs.Common.{◌≡◌, ◌<◌, ◌∙◌, [], List, Option, length, get_or, sym, subst, arith}
use Rattle.std.proofs.lemmas.Bool.{not-true}
use Rattle.vsd_types.specs.Types.{type_at}
use Rattle.vsd_interfaces.proofs.ReadLaws.{read-at}
use Rattle.vsd_methods.specs.Givens.{AreGiven}
use Rattle.vsd_methods.specs.declared.overriding.Given.{Given}
use Rattle.vsd_slots.proofs.MarkLaws.{none-marked}
use Rattle.vsd_slots.proofs.marking.has_none.Goals as goal

pub returns-then-not-is_given : goal.returns-then-not-is_given
returns-then-not-is_given c = λ free.
    let s = c.args.closed.now in
    let t = c.args.t in
    let all = c.args.parts.now.given in
    let mine = c.as_slice-given.result.now in
    let inside : t < length all = omega (arith, c.requires.parts.given_count, c.requires.class) in
    let read : mine ≡ get_or all t [] = c.as_slice-given.ensures ∙ read-at c.as_slice.result.now all t c.index-as_slice-t.result [] inside c.index-as_slice-t.is c.as_slice.ensures in
    let given : AreGiven s.decls.list s.types (type_at s.types t) mine = subst (λ (l : List (Option Given)). AreGiven s.decls.list s.types (type_at s.types t) l) (sym read) (c.requires.parts.givens t c.requires.class) in
    none-marked s t c.args.i c.buckets_at-buckets.result.now mine c.requires.interface c.buckets_at-buckets.ensures given c.args.marks.now c.requires.marks
    (c.is_given.ensures c.if-not-is_given.true) (c.is_marked.ensures (not-true c.is_marked.result free))
