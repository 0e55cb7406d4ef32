use Rattle.std.proofs.Common.{◌≡◌, ◌<◌, Some, length, not, sym, ap, ◌∙◌, arith}
use Rattle.std.specs.Bool.{Decides}
use Rattle.std.specs.HashSet.{contains}
use Rattle.std.specs.List.{list_any, slice_get}
use Rattle.std.proofs.lemmas.Option.{slice_get-get_or}
use Rattle.vsd_least.proofs.LeastLaws.{IsLeast-start, IsLeast-next, IsLeast-shown, IsLeast-end}
use Rattle.vsd_lawful.specs.Twice.{Repeats, SameMethod, RepeatsMethod}
use Rattle.vsd_lawful.proofs.MethodKeys.{AreSeen-start, AreSeen-next, AreSeen-known, key_eq}
use Rattle.vsd_lawful.proofs.methods.repeated_method.Goals as goal

pub loop-method-init : goal.loop-method-init
loop-method-init c = record {
  found = IsLeast-start c.args.methods.now (RepeatsMethod c.args.methods.now);
  seen = AreSeen-start c.args.methods.now (contains key_eq c.new-seen.result) (λ q. ap (list_any (key_eq q)) c.new-seen.ensures.empty);
}

pub loop-method-preserved : goal.loop-method-preserved
loop-method-preserved c =
    let methods = c.args.methods.now in
    let i = c.loop-method.method-index in
    let m = c.method-item.result in
    let within : i < length methods = omega arith in
    let here : slice_get methods i ≡ Some m = slice_get-get_or methods i m within ∙ ap Some (sym c.method-item.is) in
    let repeats : Decides (not c.in_ok-new.new) (Repeats SameMethod methods i m) = AreSeen-known methods i (contains key_eq c.loop-method.seen) c.key_of.result m c.in_ok-new.new c.key_of.ensures c.in_ok-new.ensures.added c.loop-method.invariant.seen in
    record {
      found = IsLeast-next methods (RepeatsMethod methods) i m c.loop-method.found c.shown.result c.earlier-found.result c.earlier-found.ensures here c.loop-method.invariant.found
          (IsLeast-shown (Repeats SameMethod methods i m) (not c.in_ok-new.new) m.line c.shown.result c.shown.ensures repeats);
      seen = AreSeen-next methods i m c.key_of.result (contains key_eq c.loop-method.seen) (contains key_eq c.insert.new.self) here c.key_of.ensures c.in_ok-new.ensures.updates.0 c.loop-method.invariant.seen;
    }

pub returns : goal.returns
returns c = IsLeast-end c.args.methods.now (RepeatsMethod c.args.methods.now) c.loop-method.method-index c.loop-method.found (omega arith) c.loop-method.invariant.found
