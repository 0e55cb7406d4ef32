-- One step of a run, a branch of a run, and where a step of one kind stands in a list.
use Rattle.std.proofs.Common.{◌≡◌, ◌≢◌, ◌⊎◌, inl, inr, ℕ, Bool, true, false, ◌&&◌, List, [], ◌∷◌, ◌++◌, refl, sym, ◌∙◌, ap, subst, Result, Ok, Err, if◌then◌else◌}
use Rattle.std.proofs.lemmas.Bool.{eqb-true, eq-eqb}
use Rattle.vsd_words.specs.declared.handle.Handle.{Handle}
use Rattle.vsd_words.specs.declared.handle_word.HandleWord.{HandleWord}
use Rattle.vsd_rule.specs.declared.key.Key.{Key}
use Rattle.vsd_rule.specs.declared.step.Act.{Act}
use Rattle.vsd_rule.specs.declared.step.Act.TheVariants.{Unbind, LoadHandle}
use Rattle.vsd_trails.specs.Programs.{Fields, TrailStep, Asked, Program, done, ask, asked_act, asked_of, when◌then◌else◌, Runs, EachStep}
use Rattle.vsd_trails.specs.declared.answers.Unloaded.{Unloaded}
use Rattle.vsd_trails.specs.Words.{same_handle, unpacked_handle_word, is_live_at, type_by}
use Rattle.vsd_trails.specs.CallPaths.{ShowsUnloaded}

-- ---- the act of a step that was asked for

abbrev pub IsNoUnbind : Act → Type 0
IsNoUnbind (Unbind row generation number) = ⊥
IsNoUnbind act = Unit {0}

pub act_of : (a b : Act) → IsNoUnbind b → asked_act a ≡ b → a ≡ b
act_of (Unbind row generation number) b plain is = absurd (subst IsNoUnbind (sym is) plain)
act_of a b plain is = is

-- ---- one step

-- a run of one load, of which the answer is read
pub record OneLoad {A : Type 0} (act : Act) (read : ℕ → A) (xs : List TrailStep) (a : A) : Type 0 where
  pub step : TrailStep
  pub is : xs ≡ step ∷ []
  pub act_is : step.step.act ≡ act
  pub answer : read step.step.found ≡ a

pub one_load : {A : Type 0} (k : Key) (f : Fields) (act : Act) (begins : _) (read : ℕ → A) (xs : List TrailStep) (a : A) → IsNoUnbind act
    → Runs k f (ask (record { act = act; begins = begins }) (λ word. done (read word))) xs a → OneLoad act read xs a
one_load k f act begins read [] a plain runs = absurd runs
one_load k f act begins read (x ∷ []) a plain runs = record { step = x; is = refl; act_is = act_of x.step.act act plain (ap (λ (c : Asked). c.act) runs.0); answer = runs.2 }
one_load k f act begins read (x ∷ y ∷ ys) a plain runs = absurd runs.2

-- a run of no step
pub nothing_run : {A : Type 0} (k : Key) (f : Fields) (xs : List TrailStep) (a b : A) → Runs k f (done a) xs b → (xs ≡ []) × (a ≡ b)
nothing_run k f [] a b runs = (refl, runs)
nothing_run k f (x ∷ xs) a b runs = absurd runs

-- ---- a branch

pub branch : {A : Type 0} (k : Key) (f : Fields) (b : Bool) (p q : Program A) (xs : List TrailStep) (a : A) → Runs k f (when b then p else q) xs a
    → ((b ≡ true) × Runs k f p xs a) ⊎ ((b ≡ false) × Runs k f q xs a)
unfolding when◌then◌else◌
branch k f true p q xs a runs = inl (refl, runs)
branch k f false p q xs a runs = inr (refl, runs)

pub and_both : (a b : Bool) → a && b ≡ true → (a ≡ true) × (b ≡ true)
and_both true b both = (refl, both)
and_both false b both = (both, absurd (cc))

handle_from_parts : (g h : Handle) → g.row ≡ h.row → g.generation ≡ h.generation → g ≡ h
handle_from_parts g h rows generations =
    let made : ℕ → ℕ → Handle = λ row generation. record { row = row; generation = generation } in
    λ c. made (rows c) (generations c)

pub same_handle-true : (g h : Handle) → same_handle g h ≡ true → g ≡ h
same_handle-true g h same =
    let both = and_both _ _ same in
    handle_from_parts g h (eqb-true g.row h.row both.0) (eqb-true g.generation h.generation both.1)

pub same_handle-refl : (h : Handle) → same_handle h h ≡ true
same_handle-refl h =
    let rows = eq-eqb h.row h.row refl in
    let generations = eq-eqb h.generation h.generation refl in
    rw (rows, generations) refl

pub same_handle-false : (g h : Handle) → same_handle g h ≡ false → g ≢ h
same_handle-false g h other is =
    let same : same_handle g h ≡ true = subst (λ (x : Handle). same_handle x h ≡ true) (sym is) (same_handle-refl h) in
    let clash = sym same ∙ other in cc

-- ---- where a step stands

pub each_append : (P : Asked → Type 0) (xs ys : List TrailStep) → EachStep P xs → EachStep P ys → EachStep P (xs ++ ys)
each_append P [] ys all more = more
each_append P (x ∷ xs) ys all more = (all.0, each_append P xs ys all.1 more)

pub each_weaker : (P Q : Asked → Type 0) → ((c : Asked) → P c → Q c) → (xs : List TrailStep) → EachStep P xs → EachStep Q xs
each_weaker P Q weaker [] all = tt
each_weaker P Q weaker (x ∷ xs) all = (weaker _ all.0, each_weaker P Q weaker xs all.1)

each_there : (P : Asked → Type 0) (xs : List TrailStep) (y : TrailStep) (ys : List TrailStep) → EachStep P (xs ++ y ∷ ys) → P (asked_of y)
each_there P [] y ys all = all.0
each_there P (x ∷ xs) y ys all = each_there P xs y ys all.1

-- a step that lacks the property that all others have
pub only_there : (P : Asked → Type 0) (prefix : List TrailStep) (y : TrailStep) (rest before : List TrailStep) (x : TrailStep) (after : List TrailStep)
    → EachStep P prefix → EachStep P rest → (P (asked_of x) → ⊥) → prefix ++ y ∷ rest ≡ before ++ x ∷ after → (y ≡ x) × (rest ≡ after)
only_there P [] y rest [] x after all more lacks same = let heads : y ≡ x = cc in let tails : rest ≡ after = cc in (heads, tails)
only_there P [] y rest (b ∷ bs) x after all more lacks same =
    let tails : rest ≡ bs ++ x ∷ after = cc in
    absurd (lacks (each_there P bs x after (subst (EachStep P) tails more)))
only_there P (p ∷ ps) y rest [] x after all more lacks same = let heads : p ≡ x = cc in absurd (lacks (subst (λ (z : TrailStep). P (asked_of z)) heads all.0))
only_there P (p ∷ ps) y rest (b ∷ bs) x after all more lacks same = let tails : ps ++ y ∷ rest ≡ bs ++ x ∷ after = cc in only_there P ps y rest bs x after all.1 more lacks tails

-- ---- the word of an unloaded handle

chosen_err : (b : Bool) (number : ℕ) (r u : Unloaded) → (let given : Result ℕ Unloaded = if b then Ok number else Err r in given ≡ Err u) → (b ≡ false) × (r ≡ u)
chosen_err true number r u same = absurd (cc)
chosen_err false number r u same = (refl, cc)

-- a handle word by which the handle is unloaded, loaded after some steps
pub gone_shown : (h : Handle) (x : TrailStep) (before after : List TrailStep) (u : Unloaded) → x.step.act ≡ LoadHandle h.row → type_by h (unpacked_handle_word x.step.found) ≡ Err u → ShowsUnloaded h (before ++ x ∷ after) u
gone_shown h x before after u is type =
    let w = unpacked_handle_word x.step.found in
    let e = chosen_err (is_live_at h.generation w) w.number (record { handle = h; found = w }) u type in
    let word : w ≡ u.found = ap (λ (y : Unloaded). y.found) e.1 in
    record {
      handle = ap (λ (y : Unloaded). y.handle) (sym e.1);
      gone = subst (λ (y : HandleWord). is_live_at h.generation y ≡ false) word e.0;
      packed = x.step.found;
      word = word;
      load = record { before = before; there = x ∷ []; after = after; whole = refl; same = λ i. (is i, x.step.found) ∷ [] };
    }
