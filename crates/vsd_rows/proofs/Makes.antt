-- How what calls make is put together: one step before a program, a program before another, a look at the fields, a branch.
use Rattle.std.proofs.Common.{◌≡◌, ◌<◌, inl, inr, ℕ, suc, Bool, true, false, List, [], ◌∷◌, ◌++◌, append_assoc, refl, sym, ◌∙◌, ap, subst}
use mathlib.Core.Option.{some}
use lib.ListN.{get_elem?}
use Rattle.vsd_words.specs.declared.handle.Handle.{Handle}
use Rattle.vsd_rule.specs.declared.key.Key.{Key}
use Rattle.vsd_rule.specs.declared.handle_view.Binding.{Binding}
use Rattle.vsd_rule.specs.declared.handle_view.HandleView.{HandleView}
use Rattle.vsd_rule.specs.declared.row_view.Evidence.{Evidence}
use Rattle.vsd_rule.specs.declared.view.View.{View}
use Rattle.vsd_rule.specs.Handles.{binding_for}
use Rattle.vsd_rule.specs.Lists.{target_of}
use Rattle.vsd_rule.specs.Facts.{Knows}
use Rattle.vsd_rule.specs.Evidence.{HasEvidence}
use Rattle.vsd_table.specs.declared.seated.Seated.{Seated}
use Rattle.vsd_table.specs.Seating.{view_of}
use Rattle.vsd_trails.specs.Programs.{Fields, TrailStep, Asked, Program, done, look, ask, bind, when◌then◌else◌, asked_of, fields_at, after_step, after_steps, Runs, onto}
use Rattle.vsd_trails.proofs.Runs.{joins, onto_after, after_steps-append}
use Rattle.vsd_rows.specs.Makes.{steps_of, fields_of, Grows, StaysCaller, Makes}

-- ---- what stays

pub grows_not : {A : Type 0} (old new : List A) → new ≡ old → Grows A old new
grows_not old new same = record { more = []; whole = same }

pub grows_on : {A : Type 0} {old now new : List A} → Grows A old now → Grows A now new → Grows A old new
grows_on {old = old} first second = record {
  more = second.more ++ first.more;
  whole = second.whole ∙ (ap (λ (l : List _). second.more ++ l) first.whole ∙ sym (append_assoc second.more first.more old));
}

pub stays_same : (s : Seated) → StaysCaller s s
stays_same s = record { table_id = refl; seat = refl; key = refl; who = refl; bindings = grows_not _ _ refl; evidences = grows_not _ _ refl; cast_evidences = grows_not _ _ refl }

pub stays_on : {old now new : Seated} → StaysCaller old now → StaysCaller now new → StaysCaller old new
stays_on first second = record {
  table_id = second.table_id ∙ first.table_id;
  seat = second.seat ∙ first.seat;
  key = second.key ∙ first.key;
  who = second.who ∙ first.who;
  bindings = grows_on first.bindings second.bindings;
  evidences = grows_on first.evidences second.evidences;
  cast_evidences = grows_on first.cast_evidences second.cast_evidences;
}

-- what is there stays there
pub there_still : {A : Type 0} (more old : List A) (i : ℕ) (a : A) → get_elem? old i ≡ some a → (j : ℕ) × (get_elem? (more ++ old) j ≡ some a)
there_still [] old i a at = (i, at)
there_still (x ∷ xs) old i a at = let r = there_still xs old i a at in (suc r.0, r.1)

pub in_grown : {A : Type 0} (old new : List A) (a : A) → Grows A old new → (i : ℕ) × (get_elem? old i ≡ some a) → (j : ℕ) × (get_elem? new j ≡ some a)
in_grown {A = A} old new a g there =
    let r = there_still g.more old there.0 a there.1 in
    (r.0, subst (λ (l : List A). get_elem? l r.0 ≡ some a) (sym g.whole) r.1)

pub knows_on : (n m : HandleView) (h : Handle) (number : ℕ) → Grows Binding n.bindings m.bindings → Knows n h number → Knows m h number
knows_on n m h number g knows = in_grown n.bindings m.bindings (binding_for h number) g knows

pub evidence_on : (v w : View) (h : Handle) (token target : ℕ) → w.key ≡ v.key → Grows Binding v.handles.bindings w.handles.bindings → Grows Evidence v.rows.evidences w.rows.evidences
    → HasEvidence v h token target → HasEvidence w h token target
evidence_on v w h token target key bindings evidences (inl known) = inl (record {
  number = known.number;
  knows = knows_on v.handles w.handles h known.number bindings known.knows;
  token_in = subst (λ (k : Key). token < k.sizes.tokens) (sym key) known.token_in;
  answer = subst (λ (k : Key). target ≡ target_of k known.number token) (sym key) known.answer;
})
evidence_on v w h token target key bindings evidences (inr loaded) = inr (in_grown v.rows.evidences w.rows.evidences (record { handle = h; token = token; target = target }) evidences loaded)

-- ---- programs

-- no step
pub makes_none : {A : Type 0} (s : Seated) (a : A) → Makes s s (done a) a
makes_none s a = record { trail = []; made = refl; runs = refl; fields = refl; stays = stays_same s }

-- one program and then the next, by the answer of the first
pub joined : {A B : Type 0} {old now new : Seated} {p : Program A} {a : A} {b : B} (g : A → Program B) → Makes old now p a → Makes now new (g a) b → Makes old new (bind p g) b
joined {old = old} {now = now} {new = new} {p = p} {a = a} {b = b} g first second =
    let k = (view_of old).key in
    let runs : Runs k (after_steps k (fields_of old) first.trail) (g a) second.trail b =
    subst (λ (f : Fields). Runs k f (g a) second.trail b) first.fields
    (subst (λ (l : Key). Runs l (fields_of now) (g a) second.trail b) first.stays.key second.runs) in
    let fields : fields_of new ≡ after_steps k (after_steps k (fields_of old) first.trail) second.trail =
    second.fields
    ∙ (ap (λ (l : Key). after_steps l (fields_of now) second.trail) first.stays.key
    ∙ ap (λ (f : Fields). after_steps k f second.trail) first.fields) in
    record {
      trail = first.trail ++ second.trail;
      made = second.made ∙ (ap (λ (l : List TrailStep). onto second.trail l) first.made ∙ sym (onto_after first.trail second.trail (steps_of old)));
      runs = joins k (fields_of old) p g first.trail second.trail a b first.runs runs;
      fields = fields ∙ sym (after_steps-append k (fields_of old) first.trail second.trail);
      stays = stays_on first.stays second.stays;
    }

-- the same where nothing of the first answer is used
pub then_makes : {A B : Type 0} {old now new : Seated} {p : Program A} {q : Program B} {a : A} {b : B} → Makes old now p a → Makes now new q b → Makes old new (bind p (λ answer. q)) b
then_makes {A = A} {q = q} first second = joined (λ (answer : A). q) first second

-- a program that looks at the fields as they stand
pub looks : {A : Type 0} {old new : Seated} {a : A} (p : Fields → Program A) → Makes old new (p (fields_of old)) a → Makes old new (look p) a
looks p m = record { trail = m.trail; made = m.made; runs = m.runs; fields = m.fields; stays = m.stays }

-- a branch, by its test
pub when_true : {A : Type 0} {old new : Seated} {a : A} (test : Bool) (p q : Program A) → test ≡ true → Makes old new p a → Makes old new (when test then p else q) a
unfolding when◌then◌else◌
when_true {A = A} {old = old} {new = new} {a = a} test p q holds m = subst (λ (t : Bool). Makes old new (when t then p else q) a) (sym holds) m

pub when_false : {A : Type 0} {old new : Seated} {a : A} (test : Bool) (p q : Program A) → test ≡ false → Makes old new q a → Makes old new (when test then p else q) a
unfolding when◌then◌else◌
when_false {A = A} {old = old} {new = new} {a = a} test p q fails m = subst (λ (t : Bool). Makes old new (when t then p else q) a) (sym fails) m

-- the answer, where it is another name of the same
pub answers : {A : Type 0} {old new : Seated} {p : Program A} {a b : A} → a ≡ b → Makes old new p a → Makes old new p b
answers {A = A} {old = old} {new = new} {p = p} same m = subst (λ (x : A). Makes old new p x) same m

-- ---- one step

one_read : {A B : Type 0} (k : Key) (f : Fields) (c : Asked) (read : ℕ → A) (g : A → B) (xs : List TrailStep) (a : A)
    → Runs k f (ask c (λ (word : ℕ). done (read word))) xs a → Runs k f (ask c (λ (word : ℕ). done (g (read word)))) xs (g a)
one_read k f c read g [] a runs = absurd runs
one_read k f c read g (x ∷ []) a runs = (runs.0, runs.1, ap g runs.2)
one_read k f c read g (x ∷ y ∷ ys) a runs = absurd runs.2

-- one step, of which more is read
pub reads_as : {A B : Type 0} {old new : Seated} {c : Asked} {a : A} (read : ℕ → A) (g : A → B) → Makes old new (ask c (λ (word : ℕ). done (read word))) a → Makes old new (ask c (λ (word : ℕ). done (g (read word)))) (g a)
reads_as {old = old} {c = c} {a = a} read g m =
    record { trail = m.trail; made = m.made; runs = one_read (view_of old).key (fields_of old) c read g m.trail a m.runs; fields = m.fields; stays = m.stays }

-- the seat made one step, which was asked for, and found this word
pub record Asks (old new : Seated) (c : Asked) (found : ℕ) : Type 0 where
  pub step : TrailStep
  pub made : steps_of new ≡ step ∷ steps_of old
  pub asked : asked_of step ≡ c
  pub word : step.step.found ≡ found
  pub at : fields_at step ≡ fields_of old
  pub fields : fields_of new ≡ after_step (view_of old).key (fields_of old) step
  pub stays : StaysCaller old new

-- a step and then what the program goes on with by the word found
pub asks : {A : Type 0} {old now new : Seated} {c : Asked} {found : ℕ} {a : A} (p : ℕ → Program A) → Asks old now c found → Makes now new (p found) a → Makes old new (ask c p) a
asks {A = A} {old = old} {now = now} {new = new} {c = c} {found = found} {a = a} p s m =
    let k = (view_of old).key in
    let runs : Runs k (after_step k (fields_of old) s.step) (p s.step.step.found) m.trail a =
    subst (λ (word : ℕ). Runs k (after_step k (fields_of old) s.step) (p word) m.trail a) (sym s.word)
    (subst (λ (f : Fields). Runs k f (p found) m.trail a) s.fields
    (subst (λ (l : Key). Runs l (fields_of now) (p found) m.trail a) s.stays.key m.runs)) in
    record {
      trail = s.step ∷ m.trail;
      made = m.made ∙ ap (λ (l : List TrailStep). onto m.trail l) s.made;
      runs = (s.asked, s.at, runs);
      fields = m.fields
          ∙ (ap (λ (l : Key). after_steps l (fields_of now) m.trail) s.stays.key
          ∙ ap (λ (f : Fields). after_steps k f m.trail) s.fields);
      stays = stays_on s.stays m.stays;
    }

-- one step, of which the word is read
pub reads : {A : Type 0} {old new : Seated} {c : Asked} {found : ℕ} (read : ℕ → A) → Asks old new c found → Makes old new (ask c (λ (word : ℕ). done (read word))) (read found)
reads {A = A} {new = new} {found = found} read s = asks (λ (word : ℕ). done (read word)) s (makes_none new (read found))
