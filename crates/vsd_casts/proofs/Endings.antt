-- How the trail of a cast on an unloaded handle ends.
use Rattle.std.proofs.Common.{◌≡◌, ◌⊎◌, inl, inr, ℕ, Bool, true, false, List, ◌∷◌, ◌++◌, None, Result, Ok, Err, refl, sym, ◌∙◌, ap, subst, if◌then◌else◌}
use Rattle.vsd_words.specs.declared.handle.Handle.{Handle}
use Rattle.vsd_rule.specs.declared.key.Key.{Key}
use Rattle.vsd_rule.specs.declared.step.Act.TheVariants.{LoadHandle}
use Rattle.vsd_table.specs.declared.seated.Seated.{Seated}
use Rattle.vsd_table.specs.Seating.{view_of}
use Rattle.vsd_trails.specs.declared.answers.CastAnswer.{CastAnswer}
use Rattle.vsd_trails.specs.declared.answers.Unloaded.{Unloaded}
use Rattle.vsd_trails.specs.declared.casting.Miss.{Miss}
use Rattle.vsd_trails.specs.declared.casting.Find.{Find}
use Rattle.vsd_trails.specs.declared.casting.Find.TheVariants as find
use Rattle.vsd_trails.specs.Programs.{Fields, TrailStep, after_steps, Runs}
use Rattle.vsd_trails.specs.Words.{unpacked_handle_word, is_live_at, type_by}
use Rattle.vsd_trails.specs.RowTrails.{typing}
use Rattle.vsd_trails.specs.CastTrails.{finding_cast, putting_cast, asking, typing_target, typing_source, casting_by, casting}
use Rattle.vsd_trails.proofs.Runs.{splits}
use Rattle.vsd_trails.proofs.Loads.{one_load, nothing_run}
use Rattle.vsd_trails.proofs.CastPaths as paths
use Rattle.vsd_rows.specs.Makes.{fields_of, Makes}
use Rattle.vsd_ccache.specs.Tells.{Tells}
use Rattle.vsd_casts.specs.Answers.{ShowsGone, EndsBySource, EndsByTarget, AnswerTells}

-- the type is one that the handle has at this word
live_of : (b : Bool) (number given : ℕ) (r : Unloaded) → (let answer : Result ℕ Unloaded = if b then Ok number else Err r in answer ≡ Ok given) → b ≡ true
live_of true number given r same = refl
live_of false number given r same = absurd (cc)

gone_at : (h : Handle) (load : TrailStep) (u : Unloaded) → load.step.act ≡ LoadHandle h.row → type_by h (unpacked_handle_word load.step.found) ≡ Err u → ShowsGone h load u
gone_at h load u is type =
    let w = unpacked_handle_word load.step.found in
    let e = chosen_err (is_live_at h.generation w) w.number (record { handle = h; found = w }) u type in
    record {
      act = is;
      word = ap (λ (y : Unloaded). y.found) e.1;
      handle = ap (λ (y : Unloaded). y.handle) (sym e.1);
      gone = ap (λ (y : Unloaded). is_live_at h.generation y.found) (sym e.1) ∙ e.0;
    }
  where
    chosen_err : (b : Bool) (number : ℕ) (r v : Unloaded) → (let given : Result ℕ Unloaded = if b then Ok number else Err r in given ≡ Err v) → (b ≡ false) × (r ≡ v)
    chosen_err true number r v same = absurd (cc)
    chosen_err false number r v same = (refl, cc)

module _ (k : Key) (source target : Handle) (u : Unloaded) where
  abbrev Ends : List TrailStep → Type 0
  Ends trail = EndsBySource source trail u ⊎ EndsByTarget source target trail u

  abbrev unloaded : Result CastAnswer Unloaded
  unloaded = Err u

  target_ends : (type : Result ℕ Unloaded) (f : Fields) (m : Miss) (number : ℕ) (prefix : List TrailStep) (first last : TrailStep) (xs : List TrailStep) → first.step.act ≡ LoadHandle source.row
      → is_live_at source.generation (unpacked_handle_word first.step.found) ≡ true → last.step.act ≡ LoadHandle target.row → type_by target (unpacked_handle_word last.step.found) ≡ type
      → Runs k f (typing_target k source target m number type) xs unloaded → Ends (prefix ++ first ∷ last ∷ xs)
  unfolding typing_target asking
  target_ends (Err v) f m number prefix first last xs act live act' type runs =
      let e = nothing_run k f xs (Err v) unloaded runs in
      let ends = e.1 in
      let same : v ≡ u = cc in
      inr (record {
        prefix = prefix;
        first = first;
        last = last;
        whole = ap (λ (l : List TrailStep). prefix ++ first ∷ last ∷ l) e.0;
        act = act;
        live = live;
        shows = gone_at target last u act' (type ∙ ap (λ (y : Unloaded). Err y) same);
      })
  target_ends (Ok other) f m number prefix first last xs act live act' type runs =
      let a = splits k f (putting_cast k m source target _) _ xs unloaded runs in
      let e = nothing_run k (after_steps k f a.prefix) a.rest _ unloaded a.second in
      let clash = e.1 in absurd (cc)

  source_ends : (type : Result ℕ Unloaded) (f : Fields) (m : Miss) (prefix : List TrailStep) (first : TrailStep) (xs : List TrailStep) → first.step.act ≡ LoadHandle source.row
      → type_by source (unpacked_handle_word first.step.found) ≡ type → Runs k f (typing_source k source target m type) xs unloaded → Ends (prefix ++ first ∷ xs)
  unfolding typing_source
  source_ends (Err v) f m prefix first xs act type runs =
      let e = nothing_run k f xs (Err v) unloaded runs in
      let ends = e.1 in
      let same : v ≡ u = cc in
      inl (record {
        prefix = prefix;
        last = first;
        whole = ap (λ (l : List TrailStep). prefix ++ first ∷ l) e.0;
        shows = gone_at source first u act (type ∙ ap (λ (y : Unloaded). Err y) same);
      })
  source_ends (Ok number) f m prefix first xs act type runs =
      let w = unpacked_handle_word first.step.found in
      let a = splits k f (typing target) (typing_target k source target m number) xs unloaded runs in
      let load = one_load k f (LoadHandle target.row) None (λ (word : ℕ). type_by target (unpacked_handle_word word)) a.prefix a.answer tt a.first in
      let live = live_of (is_live_at source.generation w) w.number number (record { handle = source; found = w }) type in
      let all : xs ≡ load.step ∷ a.rest = a.whole ∙ ap (λ (l : List TrailStep). l ++ a.rest) load.is in
      subst (λ (l : List TrailStep). Ends (prefix ++ first ∷ l)) (sym all) (target_ends a.answer (after_steps k f a.prefix) m number prefix first load.step a.rest act live load.act_is load.answer a.second)

  found_ends : (found : Find) (f : Fields) (prefix xs : List TrailStep) → Runs k f (casting_by k source target found) xs unloaded → Ends (prefix ++ xs)
  unfolding casting_by
  found_ends (find.Hit given) f prefix xs runs = let e = nothing_run k f xs _ unloaded runs in let clash = e.1 in absurd (cc)
  found_ends (find.Miss m) f prefix xs runs =
      let a = splits k f (typing source) (typing_source k source target m) xs unloaded runs in
      let load = one_load k f (LoadHandle source.row) None (λ (word : ℕ). type_by source (unpacked_handle_word word)) a.prefix a.answer tt a.first in
      let all : xs ≡ load.step ∷ a.rest = a.whole ∙ ap (λ (l : List TrailStep). l ++ a.rest) load.is in
      subst (λ (l : List TrailStep). Ends (prefix ++ l)) (sym all) (source_ends a.answer (after_steps k f a.prefix) m prefix load.step a.rest load.act_is load.answer a.second)

  cast_ends : (f : Fields) (trail : List TrailStep) → Runs k f (casting k source target) trail unloaded → Ends trail
  unfolding casting
  cast_ends f trail runs =
      let a = splits k f (finding_cast source target) (casting_by k source target) trail unloaded runs in
      subst Ends (sym a.whole) (found_ends a.answer (after_steps k f a.prefix) a.prefix a.rest a.second)

answer_tells : (k : Key) (source target : Handle) (f : Fields) (trail : List TrailStep) (a : Result CastAnswer Unloaded) → Runs k f (casting k source target) trail a → AnswerTells source target trail a
answer_tells k source target f trail (Ok a) runs = paths.cast_tells k source target f trail (Ok a) runs
answer_tells k source target f trail (Err u) runs = ((paths.cast_tells k source target f trail (Err u) runs).0, cast_ends k source target u f trail runs)

pub cast_shown : (k : Key) (source target : Handle) (old new : Seated) (a : Result CastAnswer Unloaded) → (view_of old).key ≡ k → Makes old new (casting k source target) a
    → Tells old new (λ trail. AnswerTells source target trail a)
cast_shown k source target old new a key makes =
    let runs : Runs k (fields_of old) (casting k source target) makes.trail a = subst (λ (q : Key). Runs q (fields_of old) (casting k source target) makes.trail a) key makes.runs in
    record { trail = makes.trail; made = makes.made; shows = answer_tells k source target (fields_of old) makes.trail a runs }
