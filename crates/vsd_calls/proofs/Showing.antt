-- What the trail of a call shows, said of the call.
use Rattle.std.proofs.Common.{◌≡◌, ℕ, List, [], ◌∷◌, Result, Ok, Err, subst}
use Rattle.vsd_words.specs.declared.handle.Handle.{Handle}
use Rattle.vsd_rule.specs.declared.key.Key.{Key}
use Rattle.vsd_table.specs.declared.seated.Seated.{Seated}
use Rattle.vsd_table.specs.Seating.{view_of}
use Rattle.vsd_trails.specs.declared.answers.Answer.{Answer}
use Rattle.vsd_trails.specs.declared.answers.Path.{Path}
use Rattle.vsd_trails.specs.declared.answers.Path.TheVariants.{Stub, Bucket, Walked}
use Rattle.vsd_trails.specs.declared.answers.Unloaded.{Unloaded}
use Rattle.vsd_trails.specs.Programs.{Fields, TrailStep, Runs}
use Rattle.vsd_trails.specs.CallTrails.{calling}
use Rattle.vsd_trails.proofs.CallPaths.{answer_tells}
use Rattle.vsd_trails.proofs.Attempts.{walk_tries, lookup_tries}
use Rattle.vsd_trails.proofs.Endings.{call_sweeps}
use Rattle.vsd_rows.specs.Makes.{fields_of, Makes}
use Rattle.vsd_calls.specs.Shown.{Made, WalkTries, TriesAfterWalk, TriesAtLookup, ShowsPath, ShowsBucket, ShowsCell, ShowsSweep}

walk_shown : (k : Key) (site : ℕ) (h : Handle) (f : Fields) (trail : List TrailStep) (target : ℕ) (path : Path)
    → Runs k f (calling k site h) trail (Ok (record { target = target; path = path })) → WalkTries k site h target f trail path
walk_shown k site h f trail target Stub runs = tt
walk_shown k site h f trail target Bucket runs = tt
walk_shown k site h f trail target (Walked seen) runs = walk_tries k site h f trail target seen runs

after_walk : (k : Key) (site : ℕ) (h : Handle) (f : Fields) (trail : List TrailStep) (a : Result Answer Unloaded) → Runs k f (calling k site h) trail a → TriesAfterWalk k site h f a trail
after_walk k site h f trail (Ok a) runs = walk_shown k site h f trail a.target a.path runs
after_walk k site h f trail (Err u) runs = tt

at_lookup : (k : Key) (site : ℕ) (h : Handle) (f : Fields) (trail : List TrailStep) (a : Result Answer Unloaded) → Runs k f (calling k site h) trail a → TriesAtLookup k site h f a trail
at_lookup k site h f trail (Ok a) runs = λ loaded. lookup_tries k site h f trail a loaded runs
at_lookup k site h f trail (Err u) runs = tt

module _ (k : Key) (site : ℕ) (h : Handle) (old new : Seated) (a : Result Answer Unloaded) (key : (view_of old).key ≡ k) (makes : Makes old new (calling k site h) a) where
  runs : Runs k (fields_of old) (calling k site h) makes.trail a
  runs = subst (λ (q : Key). Runs q (fields_of old) (calling k site h) makes.trail a) key makes.runs

  pub shows_path : ShowsPath k site h old new a
  shows_path = record { trail = makes.trail; made = makes.made; are_so = answer_tells k site h (fields_of old) makes.trail a runs }

  pub shows_bucket : ShowsBucket k site h old new a
  shows_bucket = record { trail = makes.trail; made = makes.made; are_so = after_walk k site h (fields_of old) makes.trail a runs }

  pub shows_cell : ShowsCell k site h old new a
  shows_cell = record { trail = makes.trail; made = makes.made; are_so = at_lookup k site h (fields_of old) makes.trail a runs }

  pub shows_sweep : ShowsSweep k old new
  shows_sweep = record { trail = makes.trail; made = makes.made; are_so = call_sweeps k site h (fields_of old) makes.trail a runs }
