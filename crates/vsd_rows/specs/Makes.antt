-- What a call makes: steps of its caller's seat that are a whole run of a program, and what stays of the seat over them.
use Rattle.std.specs.Prelude.{◌≡◌, List, ◌++◌}
use Rattle.vsd_rule.specs.declared.handle_view.Binding.{Binding}
use Rattle.vsd_rule.specs.declared.row_view.Evidence.{Evidence}
use Rattle.vsd_rule.specs.declared.cast_view.CastEvidence.{CastEvidence}
use Rattle.vsd_table.specs.declared.seated.Seated.{Seated}
use Rattle.vsd_table.specs.Seating.{view_of, begun_of}
use Rattle.vsd_trails.specs.Programs.{Fields, TrailStep, Program, after_steps, Runs, onto}
use Rattle.vsd_trails.specs.Operations.{trail_steps}

-- all steps that the seat has made, the latest first, with what each began
abbrev pub steps_of : Seated → List TrailStep
steps_of s = trail_steps (view_of s).steps (begun_of s)

-- what decides the seat's next step
abbrev pub fields_of : Seated → Fields
fields_of s = record { cursor = (view_of s).rows.cursor; limbo = (view_of s).rows.limbo }

-- nothing was taken from the list, which grows at its front
pub record Grows (A : Type 0) (old new : List A) : Type 0 where
  pub more : List A
  pub whole : new ≡ more ++ old

-- The seat stays this caller's seat of this table. What it knows of handles, and its reasons for answers, only grow.
pub record StaysCaller (old new : Seated) : Type 0 where
  pub table_id : new.seat.table_id ≡ old.seat.table_id
  pub seat : new.seat.id ≡ old.seat.id
  pub key : (view_of new).key ≡ (view_of old).key
  pub who : (view_of new).who ≡ (view_of old).who
  pub bindings : Grows Binding (view_of old).handles.bindings (view_of new).handles.bindings
  pub evidences : Grows Evidence (view_of old).rows.evidences (view_of new).rows.evidences
  pub cast_evidences : Grows CastEvidence (view_of old).casts.evidences (view_of new).casts.evidences

-- The seat made the steps of a run of the program that ends in this answer, and no others.
pub record Makes {A : Type 0} (old new : Seated) (p : Program A) (answer : A) : Type 0 where
  pub trail : List TrailStep
  pub made : steps_of new ≡ onto trail (steps_of old)
  pub runs : Runs (view_of old).key (fields_of old) p trail answer
  pub fields : fields_of new ≡ after_steps (view_of old).key (fields_of old) trail
  pub stays : StaysCaller old new

-- the seat's own 64 handle words stay
abbrev pub KeepsOwn : Seated → Seated → Type 0
KeepsOwn old new = (view_of new).handles.owned ≡ (view_of old).handles.owned

-- who makes the rest of a program from here on has made the whole of it
abbrev pub Leads : {A : Type 0} → Seated → Program A → Seated → Program A → Type 0
Leads {A = A} old p now rest = (new : Seated) (a : A) → Makes now new rest a → Makes old new p a
