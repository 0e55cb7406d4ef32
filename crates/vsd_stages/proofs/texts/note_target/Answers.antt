use Rattle.std.proofs.Common.{◌≡◌, ◌+◌, Result, Ok, Err, OnOk, sym, ap, ◌∙◌}
use Rattle.vsd_rule.specs.Lists.{entry}
use Rattle.vsd_itable.specs.Tables.{number_of, sel_of, tokens_count}
use Rattle.vsd_stages.specs.Noted.{IsNoted, IsTold}
use Rattle.vsd_stages.proofs.Noting.{told_method, told_missing}
use Rattle.vsd_stages.proofs.texts.note_target.Goals as goal

on_ok : {A E : Type 0} (r : Result A E) (P Q : Type 0) → (P → Q) → OnOk r P → OnOk r Q
on_ok (Ok a) P Q f p = f p
on_ok (Err e) P Q f p = tt

pub returns-in-Method-clause-told : goal.returns-in-Method-clause-told
returns-in-Method-clause-told c =
    let v = c.args.tables.now in
    let new = c.note.new.texts.items in
    let number = entry (sel_of v) (tokens_count v) c.args.t c.args.k in
    let is : c.in-Method.n + 1 ≡ number = sym (ap number_of c.in-Method.is) ∙ c.select.ensures.entry in
    on_ok c.note.result (IsNoted v new c.in-Method.n) (IsTold v new number) (told_method v new c.in-Method.n number is) c.note.ensures.noted

pub returns-in-Missing-clause-told : goal.returns-in-Missing-clause-told
returns-in-Missing-clause-told c =
    let v = c.args.tables.now in
    told_missing v c.args.texts.now.items (entry (sel_of v) (tokens_count v) c.args.t c.args.k) (sym (ap number_of c.in-Missing.is) ∙ c.select.ensures.entry)
