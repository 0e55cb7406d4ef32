use Rattle.std.proofs.Common.{◌≡◌, [], map, Result, Ok, Err, OnOk, IfErr, refl, sym, subst}
use Rattle.std.specs.Result.{IsErrAnd}
use Rattle.vsd_lines.specs.Lines.{text_at, text_of}
use Rattle.vsd_lines.specs.declared.errors.LinesError.{LinesError}
use Rattle.vsd_lines.specs.declared.errors.LinesError.TheVariants.{Memory}
use Rattle.vsd_lines.proofs.Moves.{carries_nothing, front_at}
use Rattle.vsd_itable.specs.Tables.{numbered_text, slot_text}
use Rattle.vsd_stages.proofs.Rendered.{can_write, rendered}
use Rattle.vsd_stages.proofs.rendering.render.Goals as goal

on_ok : {A E : Type 0} (r : Result A E) (P Q : Type 0) → (P → Q) → OnOk r P → OnOk r Q
on_ok (Ok a) P Q f p = f p
on_ok (Err e) P Q f p = tt

on_err : {A E : Type 0} (r : Result A E) (P Q : E → Type 0) → ((e : E) → P e → Q e) → IfErr r P → IfErr r Q
on_err (Ok a) P Q f p = tt
on_err (Err e) P Q f p = f e p

-- what holds at want of memory, at an error that is that
at_memory : {A : Type 0} (r : Result A LinesError) (Q : LinesError → Type 0) → IsErrAnd r (λ e. e ≡ Memory) → Q Memory → IfErr r Q
at_memory (Ok a) Q is q = tt
at_memory (Err e) Q is q = subst Q (sym is) q

pub returns-in_err-named-clause-part : goal.returns-in_err-named-clause-part
returns-in_err-named-clause-part g c =
    let v = c.args.tables.now in
    let s = c.args.script.now in
    let answers = map (λ lane. lane.items) c.args.answers.now in
    let tables = c.requires.tables in
    let text = text_of s tables.sites (numbered_text v) (slot_text v) answers in
    at_memory c.from_residual.result _ c.from_residual.ensures.1 (
      text,
      record { types = tables.types; sites = tables.sites; tabled = tables.tabled; is = refl },
      front_at _ _ _ _ [] [] [] (carries_nothing _ (g.K.Sink.has_room c.args.sink.now) []) text text refl,
    )

pub write_lines-requires : goal.write_lines-requires
write_lines-requires g c =
    rw (c.deref.ensures.value, c.deref-2.ensures.value, c.deref-3.ensures.value)
    (can_write c.args.tables.now c.args.script.now c.in_ok-named.named.sites.items c.in_ok-named.named.methods.items c.in_ok-named.named.slots.items c.in_ok-named.ensures c.requires.formed
    (map (λ lane. lane.items) c.args.answers.now) c.requires.answers)

pub returns-clause-ok : goal.returns-clause-ok
returns-clause-ok g c =
    let text = text_of c.args.script.now c.in_ok-named.named.sites.items (text_at c.in_ok-named.named.methods.items) (text_at c.in_ok-named.named.slots.items) (map (λ lane. lane.items) c.args.answers.now) in
    let is = rendered c.args.tables.now c.args.script.now c.in_ok-named.named.sites.items c.in_ok-named.named.methods.items c.in_ok-named.named.slots.items c.in_ok-named.ensures c.requires.formed
    (map (λ lane. lane.items) c.args.answers.now) c.requires.answers in
    let taken = rw (c.deref.ensures.value, c.deref-2.ensures.value, c.deref-3.ensures.value) at c.write_lines.ensures.ok in
    on_ok c.write_lines.result _ _ (λ took. (text, is, took)) taken

pub returns-clause-part : goal.returns-clause-part
returns-clause-part g c =
    let text = text_of c.args.script.now c.in_ok-named.named.sites.items (text_at c.in_ok-named.named.methods.items) (text_at c.in_ok-named.named.slots.items) (map (λ lane. lane.items) c.args.answers.now) in
    let is = rendered c.args.tables.now c.args.script.now c.in_ok-named.named.sites.items c.in_ok-named.named.methods.items c.in_ok-named.named.slots.items c.in_ok-named.ensures c.requires.formed
    (map (λ lane. lane.items) c.args.answers.now) c.requires.answers in
    let part = rw (c.deref.ensures.value, c.deref-2.ensures.value, c.deref-3.ensures.value) at c.write_lines.ensures.part in
    on_err c.write_lines.result _ _ (λ e how. (text, is, how)) part
