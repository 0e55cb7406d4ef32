-- The log of a caller, with the reasons for its answers, as operations make it longer.
use Rattle.std.proofs.Common.{◌≡◌, ℕ, Bool, List, [], ◌∷◌, Result, Ok, Err, IfOk, inl, inr, refl, sym, ◌∙◌, subst}
use Rattle.std.specs.Int.{from_bool}
use Rattle.vsd_words.specs.declared.handle.Handle.{Handle}
use Rattle.vsd_rule.specs.declared.key.Key.{Key}
use Rattle.vsd_rule.specs.declared.view.View.{View}
use Rattle.vsd_rule.specs.Lists.{site_token, compatible}
use Rattle.vsd_rule.specs.Evidence.{HasEvidence, HasCastEvidence}
use Rattle.vsd_table.specs.declared.shared.Shared.{Shared}
use Rattle.vsd_table.specs.declared.seated.Seated.{Seated}
use Rattle.vsd_table.specs.Seating.{key_of, view_of, IsNew}
use Rattle.vsd_trails.specs.declared.answers.Answer.{Answer}
use Rattle.vsd_trails.specs.declared.answers.CastAnswer.{CastAnswer}
use Rattle.vsd_trails.specs.declared.answers.Unloaded.{Unloaded}
use Rattle.vsd_trails.specs.Programs.{TrailStep, Runs}
use Rattle.vsd_trails.specs.RowTrails.{typing}
use Rattle.vsd_trails.specs.UnloadTrails.{binding}
use Rattle.vsd_trails.specs.Logs.{Entry}
use Rattle.vsd_trails.specs.Operations.{Event, called, cast_to, loaded, unloaded, trail_steps}
use Rattle.vsd_trails.specs.Laws.{HasLog}
use Rattle.vsd_trails.proofs.Runs.{is_bounded}
use Rattle.vsd_trails.proofs.CallBounds.{at_binding}
use Rattle.vsd_trails.proofs.Entries.{adds_load, learn_adds_nothing}
use Rattle.vsd_rows.specs.Makes.{steps_of, fields_of, StaysCaller, Makes}
use Rattle.vsd_rows.specs.Logged.{LogsOne}
use Rattle.vsd_rows.proofs.Makes.{in_grown, knows_on, evidence_on}
use Rattle.vsd_core.specs.Resting.{IsCallShown, IsCastShown, IsShown, AreShown, Rests}

-- ---- reasons for answers stay

cast_evidence_on : (old new : Seated) (source target : Handle) (given : Bool) → StaysCaller old new → HasCastEvidence (view_of old) source target given → HasCastEvidence (view_of new) source target given
cast_evidence_on old new source target given stays (inl known) = inl (record {
  number = known.number;
  other = known.other;
  knows_source = knows_on (view_of old).handles (view_of new).handles source known.number stays.bindings known.knows_source;
  knows_target = knows_on (view_of old).handles (view_of new).handles target known.other stays.bindings known.knows_target;
  answer = subst (λ (k : Key). from_bool given ≡ compatible k known.number known.other) (sym stays.key) known.answer;
})
cast_evidence_on old new source target given stays (inr loaded_) =
    inr (in_grown (view_of old).casts.evidences (view_of new).casts.evidences (record { source = source; target = target; yes = given }) stays.cast_evidences loaded_)

call_shown_on : (old new : Seated) (site : ℕ) (h : Handle) (answer : Result Answer Unloaded) → StaysCaller old new → IsCallShown (view_of old) site h answer → IsCallShown (view_of new) site h answer
call_shown_on old new site h (Ok a) stays is =
    subst (λ (k : Key). HasEvidence (view_of new) h (site_token k site) a.target) (sym stays.key)
    (evidence_on (view_of old) (view_of new) h (site_token (view_of old).key site) a.target stays.key stays.bindings stays.evidences is)
call_shown_on old new site h (Err u) stays is = tt

cast_shown_on : (old new : Seated) (source target : Handle) (answer : Result CastAnswer Unloaded) → StaysCaller old new → IsCastShown (view_of old) source target answer → IsCastShown (view_of new) source target answer
cast_shown_on old new source target (Ok a) stays is = cast_evidence_on old new source target a.yes stays is
cast_shown_on old new source target (Err u) stays is = tt

shown_on : (old new : Seated) (event : Event) → StaysCaller old new → IsShown (view_of old) event → IsShown (view_of new) event
shown_on old new (called site h answer) stays is = call_shown_on old new site h answer stays is
shown_on old new (cast_to source target answer) stays is = cast_shown_on old new source target answer stays is
shown_on old new (loaded number h) stays is = knows_on (view_of old).handles (view_of new).handles h number stays.bindings is
shown_on old new (unloaded h) stays is = tt

all_shown_on : (old new : Seated) (entries : List (Entry Event)) → StaysCaller old new → AreShown (view_of old) entries → AreShown (view_of new) entries
all_shown_on old new [] stays are = tt
all_shown_on old new (x ∷ xs) stays are = (shown_on old new x.event stays are.0, all_shown_on old new xs stays are.1)

-- ---- the log

pub new_log : (table : Shared) (s : Seated) → IsNew table s → HasLog (key_of table) (steps_of s) []
new_log table s new_ =
    let none : steps_of s ≡ [] = λ i. trail_steps (new_.view i).steps (new_.begun i) in
    subst (λ (l : List TrailStep). HasLog (key_of table) l []) (sym none) refl

pub rests_new : (table : Shared) (s : Seated) → IsNew table s → Rests s
rests_new table s new_ = record { entries = []; log = subst (λ (k : Key). HasLog k (steps_of s) []) (sym new_.belongs.key) (new_log table s new_); shown = tt }

-- an operation adds its one entry, with the reason for its answer
pub rests_one : (k : Key) (old new : Seated) (event : Event) (most : ℕ) → (view_of old).key ≡ k → StaysCaller old new → LogsOne k old new event most → IsShown (view_of new) event → Rests old → Rests new
rests_one k old new event most key stays logs shown rests = record {
  entries = record { event = event; trail = logs.trail; fields = fields_of old } ∷ rests.entries;
  log = subst (λ (q : Key). HasLog q (steps_of new) (record { event = event; trail = logs.trail; fields = fields_of old } ∷ rests.entries)) (sym (stays.key ∙ key))
      (logs.logged rests.entries (subst (λ (q : Key). HasLog q (steps_of old) rests.entries) key rests.log));
  shown = (shown, all_shown_on old new rests.entries stays rests.shown);
}

-- steps that belong to no operation add nothing
pub rests_same : (k : Key) (old new : Seated) → (view_of old).key ≡ k → StaysCaller old new → ((entries : List (Entry Event)) → HasLog k (steps_of old) entries → HasLog k (steps_of new) entries) → Rests old → Rests new
rests_same k old new key stays logs rests = record {
  entries = rests.entries;
  log = subst (λ (q : Key). HasLog q (steps_of new) rests.entries) (sym (stays.key ∙ key)) (logs rests.entries (subst (λ (q : Key). HasLog q (steps_of old) rests.entries) key rests.log));
  shown = all_shown_on old new rests.entries stays rests.shown;
}

-- ---- what each operation adds

-- the same for another name of the token
pub evidence_for : (v : View) (token other : ℕ) (h : Handle) (r : Result Answer Unloaded) → token ≡ other → IfOk r (λ a. HasEvidence v h token a.target) → IfOk r (λ a. HasEvidence v h other a.target)
evidence_for v token other h r is told = subst (λ (t : ℕ). IfOk r (λ a. HasEvidence v h t a.target)) is told

pub call_is_shown : (v : View) (k : Key) (site token : ℕ) (h : Handle) (r : Result Answer Unloaded) → v.key ≡ k → token ≡ site_token k site → IfOk r (λ a. HasEvidence v h token a.target) → IsShown v (called site h r)
call_is_shown v k site token h (Ok a) key is told =
    subst (λ (q : Key). HasEvidence v h (site_token q site) a.target) (sym key) (subst (λ (t : ℕ). HasEvidence v h t a.target) is told)
call_is_shown v k site token h (Err u) key is told = tt

pub logs_load : (k : Key) (h : Handle) (number : ℕ) (old new : Seated) → (view_of old).key ≡ k → Makes old new (binding h number) h → LogsOne k old new (loaded number h) 1
logs_load k h number old new key makes =
    let runs : Runs k (fields_of old) (binding h number) makes.trail h = subst (λ (q : Key). Runs q (fields_of old) (binding h number) makes.trail h) key makes.runs in
    record {
      trail = makes.trail;
      made = makes.made;
      few = is_bounded 1 k (fields_of old) (binding h number) makes.trail h (at_binding h number).few runs;
      logged = λ entries log. subst (λ (l : List TrailStep). HasLog k l (record { event = loaded number h; trail = makes.trail; fields = fields_of old } ∷ entries)) (sym makes.made)
          (adds_load k h number (fields_of old) makes.trail h entries (steps_of old) log runs);
    }

pub logs_learn : (k : Key) (h : Handle) (old new : Seated) (a : Result ℕ Unloaded) → (view_of old).key ≡ k → Makes old new (typing h) a → (entries : List (Entry Event)) → HasLog k (steps_of old) entries → HasLog k (steps_of new) entries
logs_learn k h old new a key makes entries log =
    subst (λ (l : List TrailStep). HasLog k l entries) (sym makes.made)
    (learn_adds_nothing k h (fields_of old) makes.trail a entries (steps_of old) log (subst (λ (q : Key). Runs q (fields_of old) (typing h) makes.trail a) key makes.runs))
