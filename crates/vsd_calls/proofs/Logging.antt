-- A call adds its one entry.
use Rattle.std.proofs.Common.{◌≡◌, ℕ, ◌+◌, List, ◌∷◌, Result, sym, subst}
use Rattle.vsd_words.specs.declared.handle.Handle.{Handle}
use Rattle.vsd_rule.specs.declared.key.Key.{Key}
use Rattle.vsd_table.specs.declared.seated.Seated.{Seated}
use Rattle.vsd_table.specs.Seating.{view_of}
use Rattle.vsd_trails.specs.declared.answers.Answer.{Answer}
use Rattle.vsd_trails.specs.declared.answers.Unloaded.{Unloaded}
use Rattle.vsd_trails.specs.Programs.{TrailStep, Runs}
use Rattle.vsd_trails.specs.CallTrails.{calling}
use Rattle.vsd_trails.specs.Logs.{Entry}
use Rattle.vsd_trails.specs.Operations.{Event, called}
use Rattle.vsd_trails.specs.Laws.{HasLog}
use Rattle.vsd_trails.proofs.Runs.{is_bounded}
use Rattle.vsd_trails.proofs.CallBounds.{at_calling}
use Rattle.vsd_trails.proofs.Entries.{adds_call}
use Rattle.vsd_rows.specs.Makes.{steps_of, fields_of, Makes}
use Rattle.vsd_rows.specs.Logged.{LogsOne}

pub logs_call : (k : Key) (site : ℕ) (h : Handle) (old new : Seated) (a : Result Answer Unloaded) → (view_of old).key ≡ k → Makes old new (calling k site h) a → LogsOne k old new (called site h a) (52 + k.sizes.callers)
logs_call k site h old new a key makes =
    let runs : Runs k (fields_of old) (calling k site h) makes.trail a = subst (λ (q : Key). Runs q (fields_of old) (calling k site h) makes.trail a) key makes.runs in
    record {
      trail = makes.trail;
      made = makes.made;
      few = is_bounded (52 + k.sizes.callers) k (fields_of old) (calling k site h) makes.trail a (at_calling k site h).few runs;
      logged = λ entries log. subst (λ (l : List TrailStep). HasLog k l (record { event = called site h a; trail = makes.trail; fields = fields_of old } ∷ entries)) (sym makes.made)
          (adds_call k site h (fields_of old) makes.trail a entries (steps_of old) log runs);
    }
