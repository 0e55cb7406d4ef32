use Rattle.std.proofs.Common.{◌≡◌, ◌+◌, ◌-◌, ◌≤◌, Result, Ok, Err, OnErr, take, drop, length, subst, arith, ◌∙◌, length-drop}
use Rattle.std.proofs.lemmas.List.{take-append-drop, take_rest}
use Rattle.vsd_outside.specs.Pieces.{TakesPart}
use Rattle.vsd_outside.proofs.Known.{taken_more, taken_none}
use Rattle.vsd_outside.proofs.writing.write_whole.Goals as goal

OnErr-of : {A E P : Type 0} → (result : Result A E) → P → OnErr result P
OnErr-of (Ok value) fact = tt
OnErr-of (Err error) fact = fact

pub returns-in_err-at-clause-part : goal.returns-in_err-at-clause-part
returns-in_err-at-clause-part g c =
    let bytes = c.args.bytes.now in
    let part : TakesPart (g.K.Sink.taken c.args.sink.now) (g.K.Sink.taken c.write.new.self) bytes = record {
      prefix = take c.loop-at.at bytes;
      rest = drop c.loop-at.at bytes;
      grows = taken_none _ _ _ _ c.loop-at.invariant.taken c.in_err-at.ensures.bytes;
      whole = take-append-drop c.loop-at.at bytes;
      cut = omega (arith, length-drop c.loop-at.at bytes);
    } in
    OnErr-of _ part

pub loop-at-preserved : goal.loop-at-preserved
loop-at-preserved g c =
    let left = length-drop c.loop-at.at c.args.bytes.now in
    let fits : c.in_ok-at.field-0 ≤ length (drop c.loop-at.at c.args.bytes.now) = rw take_rest at c.in_ok-at.ensures.bound in
    record {
      taken = taken_more _ _ _ _ _ _ c.loop-at.invariant.taken (rw take_rest at c.in_ok-at.ensures.bytes);
      within = omega arith;
      no_fault = c.in_ok-at.ensures.no_fault ∙ c.loop-at.invariant.no_fault;
      room_left = λ size room.
          let apart : (size - c.loop-at.at) - c.in_ok-at.field-0 ≡ size - (c.loop-at.at + c.in_ok-at.field-0) = omega arith in
          subst (λ left. g.K.Sink.has_room c.write.new.self left) apart (c.in_ok-at.ensures.room_left _ (c.loop-at.invariant.room_left size room));
    }
