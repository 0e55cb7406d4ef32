use Rattle.std.proofs.Common.{◌≡◌, ◌<◌, ◌∙◌, [], List, Option, length, get_or, sym, subst, arith}
use Rattle.vsd_types.specs.Types.{type_at}
use Rattle.vsd_methods.specs.Givens.{AreGiven}
use Rattle.vsd_methods.specs.declared.overriding.Given.{Given}
use Rattle.vsd_slots.proofs.MarkLaws.{marked-all}
use Rattle.vsd_interfaces.proofs.ReadLaws.{read-at}
use Rattle.vsd_slots.proofs.marking.marked.Goals as goal

pub returns : goal.returns
returns c =
    let s = c.args.closed.now in
    let t = c.args.t in
    let all = c.args.parts.now.given in
    let mine = c.as_slice-given.result.now in
    let inside : t < length all = omega (arith, c.requires.parts.given_count, c.requires.class) in
    let read : mine ≡ get_or all t [] = c.as_slice-given.ensures ∙ read-at c.as_slice.result.now all t c.index-as_slice-t.result [] inside c.index-as_slice-t.is c.as_slice.ensures in
    let given : AreGiven s.decls.list s.types (type_at s.types t) mine = subst (λ (l : List (Option Given)). AreGiven s.decls.list s.types (type_at s.types t) l) (sym read) (c.requires.parts.givens t c.requires.class) in
    marked-all s t c.args.i c.args.buckets.now mine c.requires.interface c.requires.buckets given c.names_marked-marks.result c.mark_given.new.marks c.names_marked-marks.ensures c.mark_given.ensures.stays c.mark_given.ensures.marked
