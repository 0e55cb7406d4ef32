-- What the looks of a call at its cell and its bucket come to, and what comes after a look at the bucket.
use Rattle.std.proofs.Common.{◌≡◌, ◌≢◌, ◌⊎◌, inl, inr, ℕ, zero, suc, ◌+◌, true, false, ◌&&◌, nat_eq, List, [], ◌∷◌, ◌++◌, append-nil, Option, Some, None, Result, Ok, Err, refl, sym, ◌∙◌, ap, subst, ⊎_elim, arith}
use Rattle.std.proofs.lemmas.Bool.{eqb-true, eq-eqb}
use Rattle.vsd_words.specs.declared.handle.Handle.{Handle}
use Rattle.vsd_words.specs.declared.cell_word.CellWord.{CellWord}
use Rattle.vsd_rule.specs.declared.key.Key.{Key}
use Rattle.vsd_rule.specs.declared.step.Act.TheVariants.{LoadRow, LoadHandle}
use Rattle.vsd_rule.specs.declared.step.RowWord.TheVariants as word
use Rattle.vsd_rule.specs.Lists.{site_token, target_of}
use Rattle.vsd_rule.specs.RowSteps.{unpacked_handle}
use Rattle.vsd_trails.specs.declared.answers.Answer.{Answer}
use Rattle.vsd_trails.specs.declared.answers.Seen.{Seen}
use Rattle.vsd_trails.specs.declared.answers.Unloaded.{Unloaded}
use Rattle.vsd_trails.specs.declared.answers.Found.{Found}
use Rattle.vsd_trails.specs.declared.answers.Found.TheVariants.{Hit, Other, Empty}
use Rattle.vsd_trails.specs.Programs.{Fields, TrailStep, after_steps, Runs, EachStep}
use Rattle.vsd_trails.specs.Words.{unpacked_cell, unpacked_bucket, unpacked_handle_word, type_by, same_handle}
use Rattle.vsd_trails.specs.RowTrails.{reading_handle, reading_token, typing}
use Rattle.vsd_trails.specs.CallTrails.{finding_in, caching, stub_hit, stub_miss, patching, stubbing, installing, seen_by, by_bucket, by_walk, walking_by, walking, resolving_by}
use Rattle.vsd_trails.proofs.Runs.{splits, makes_only}
use Rattle.vsd_trails.proofs.Loads.{one_load, nothing_run, branch, same_handle-true, same_handle-false, same_handle-refl, and_both, each_append}
use Rattle.vsd_trails.proofs.CallParts.{Others, installing_others, caching_others}

-- ---- a look at the cell

module _ (k : Key) (site : ℕ) (h : Handle) where
  -- the row has the handle: its handle and its target were loaded
  pub record HitShape (found : ℕ) (looks : List TrailStep) (target : ℕ) : Type 0 where
    pub row : ℕ
    pub names : found ≡ 2 + row
    pub handle : TrailStep
    pub loaded : TrailStep
    pub whole : looks ≡ handle ∷ loaded ∷ []
    pub handle_is : handle.step.act ≡ LoadRow row word.Handle
    pub same : unpacked_handle handle.step.found ≡ h
    pub loaded_is : loaded.step.act ≡ LoadRow row word.Target
    pub target_is : loaded.step.found ≡ target

  -- the cell names no row
  pub record NoRowShape (found : ℕ) (looks : List TrailStep) (expected : Option Handle) : Type 0 where
    pub plain : (found ≡ 0) ⊎ (found ≡ 1)
    pub none : expected ≡ None
    pub whole : looks ≡ []

  -- the row has another handle, which was loaded
  pub record OtherShape (found : ℕ) (looks : List TrailStep) (expected : Option Handle) : Type 0 where
    pub row : ℕ
    pub names : found ≡ 2 + row
    pub handle : TrailStep
    pub more : List TrailStep
    pub whole : looks ≡ handle ∷ more
    pub handle_is : handle.step.act ≡ LoadRow row word.Handle
    pub expects : expected ≡ Some (unpacked_handle handle.step.found)
    pub other : unpacked_handle handle.step.found ≢ h

  pub hit_shape : (found : ℕ) (f : Fields) (looks : List TrailStep) (target : ℕ) → Runs k f (stubbing k site h (unpacked_cell found)) looks (stub_hit target) → HitShape found looks target
  unfolding stubbing
  hit_shape zero f looks target runs = let e = nothing_run k f looks (stub_miss None) (stub_hit target) runs in absurd (let same = e.1 in cc)
  hit_shape (suc zero) f looks target runs = let e = nothing_run k f looks (stub_miss None) (stub_hit target) runs in absurd (let same = e.1 in cc)
  hit_shape (suc (suc row)) f looks target runs =
      let a = splits k f (reading_handle row) _ looks (stub_hit target) runs in
      let handle = one_load k f (LoadRow row word.Handle) None unpacked_handle a.prefix a.answer tt a.first in
      let g = after_steps k f a.prefix in
      ⊎_elim
      (λ same.
      let loaded = one_load k g (LoadRow row word.Target) None stub_hit a.rest (stub_hit target) tt same.1 in
      record {
        row = row;
        names = omega arith;
        handle = handle.step;
        loaded = loaded.step;
        whole = a.whole ∙ (ap (λ (l : List TrailStep). l ++ a.rest) handle.is ∙ ap (λ (l : List TrailStep). handle.step ∷ l) loaded.is);
        handle_is = handle.act_is;
        same = handle.answer ∙ same_handle-true a.answer h same.0;
        loaded_is = loaded.act_is;
        target_is = let e = loaded.answer in cc;
      })
      (λ other. let b = splits k g (patching k site h row) _ a.rest (stub_hit target) other.1 in
      let e = nothing_run k (after_steps k g b.prefix) b.rest (stub_miss (Some a.answer)) (stub_hit target) b.second in
      let same = e.1 in absurd (cc))
      (branch k g (same_handle a.answer h) _ _ a.rest (stub_hit target) a.second)

  pub miss_shape : (found : ℕ) (f : Fields) (looks : List TrailStep) (expected : Option Handle) → Runs k f (stubbing k site h (unpacked_cell found)) looks (stub_miss expected)
      → NoRowShape found looks expected ⊎ OtherShape found looks expected
  unfolding stubbing
  miss_shape zero f looks expected runs = let e = nothing_run k f looks (stub_miss None) (stub_miss expected) runs in let same = e.1 in inl (record { plain = inl refl; none = cc; whole = e.0 })
  miss_shape (suc zero) f looks expected runs = let e = nothing_run k f looks (stub_miss None) (stub_miss expected) runs in let same = e.1 in inl (record { plain = inr refl; none = cc; whole = e.0 })
  miss_shape (suc (suc row)) f looks expected runs =
      let a = splits k f (reading_handle row) _ looks (stub_miss expected) runs in
      let handle = one_load k f (LoadRow row word.Handle) None unpacked_handle a.prefix a.answer tt a.first in
      let g = after_steps k f a.prefix in
      inr (⊎_elim
      (λ same.
      let loaded = one_load k g (LoadRow row word.Target) None stub_hit a.rest (stub_miss expected) tt same.1 in
      let e = loaded.answer in absurd (cc))
      (λ other. let b = splits k g (patching k site h row) _ a.rest (stub_miss expected) other.1 in
      let e = nothing_run k (after_steps k g b.prefix) b.rest (stub_miss (Some a.answer)) (stub_miss expected) b.second in
      let given = e.1 in
      let expects : expected ≡ Some a.answer = cc in
      record {
        row = row;
        names = omega arith;
        handle = handle.step;
        more = a.rest;
        whole = a.whole ∙ ap (λ (l : List TrailStep). l ++ a.rest) handle.is;
        handle_is = handle.act_is;
        expects = expects ∙ ap (λ (x : Handle). Some x) (sym handle.answer);
        other = subst (λ (x : Handle). x ≢ h) (sym handle.answer) (same_handle-false a.answer h other.0);
      })
      (branch k g (same_handle a.answer h) _ _ a.rest (stub_miss expected) a.second))

-- ---- a look at the bucket

module _ (token : ℕ) (h : Handle) where
  -- the row has the handle and the token: its three words were loaded
  pub record EntryHit (found : ℕ) (entries : List TrailStep) (target : ℕ) : Type 0 where
    pub row : ℕ
    pub names : found ≡ row + 1
    pub handle : TrailStep
    pub its_token : TrailStep
    pub loaded : TrailStep
    pub whole : entries ≡ handle ∷ its_token ∷ loaded ∷ []
    pub handle_is : handle.step.act ≡ LoadRow row word.Handle
    pub same : unpacked_handle handle.step.found ≡ h
    pub token_is : its_token.step.act ≡ LoadRow row word.Token
    pub same_token : its_token.step.found ≡ token
    pub loaded_is : loaded.step.act ≡ LoadRow row word.Target
    pub target_is : loaded.step.found ≡ target

  -- the row has another handle or token
  pub record EntryOther (found : ℕ) (entries : List TrailStep) (g : Handle) (t : ℕ) : Type 0 where
    pub row : ℕ
    pub names : found ≡ row + 1
    pub handle : TrailStep
    pub its_token : TrailStep
    pub whole : entries ≡ handle ∷ its_token ∷ []
    pub handle_is : handle.step.act ≡ LoadRow row word.Handle
    pub its_handle : unpacked_handle handle.step.found ≡ g
    pub token_is : its_token.step.act ≡ LoadRow row word.Token
    pub found_token : its_token.step.found ≡ t
    pub other : g ≡ h → t ≡ token → ⊥

  pub record EntryEmpty (found : ℕ) (entries : List TrailStep) : Type 0 where
    pub names : found ≡ 0
    pub whole : entries ≡ []

  -- by what was found
  abbrev pub EntryShape : ℕ → List TrailStep → Found → Type 0
  EntryShape word entries (Hit target) = EntryHit word entries target
  EntryShape word entries (Other g t) = EntryOther word entries g t
  EntryShape word entries Empty = EntryEmpty word entries

  not_both : (g : Handle) (t : ℕ) → same_handle g h && nat_eq t token ≡ false → g ≡ h → t ≡ token → ⊥
  not_both g t other is is_token =
      let same : same_handle g h ≡ true = subst (λ (x : Handle). same_handle x h ≡ true) (sym is) (same_handle-refl h) in
      let same_token : nat_eq t token ≡ true = eq-eqb t token is_token in
      let all : same_handle g h && nat_eq t token ≡ true = rw (same, same_token) refl in
      let clash = sym all ∙ other in cc

  both_same : (g : Handle) (t : ℕ) → same_handle g h && nat_eq t token ≡ true → (g ≡ h) × (t ≡ token)
  both_same g t same = let both = and_both _ _ same in (same_handle-true g h both.0, eqb-true t token both.1)

  module _ (k : Key) where
    pub entry_shape : (found : ℕ) (f : Fields) (entries : List TrailStep) (what : Found) → Runs k f (finding_in token h (unpacked_bucket found)) entries what → EntryShape found entries what
    entry_shape zero f entries what runs = let e = nothing_run k f entries Empty what runs in subst (EntryShape zero entries) e.1 (record { names = refl; whole = e.0 })
    entry_shape (suc row) f entries what runs =
        let a = splits k f (reading_handle row) _ entries what runs in
        let handle = one_load k f (LoadRow row word.Handle) None unpacked_handle a.prefix a.answer tt a.first in
        let f1 = after_steps k f a.prefix in
        let b = splits k f1 (reading_token row) _ a.rest what a.second in
        let its_token = one_load k f1 (LoadRow row word.Token) None (λ x. x) b.prefix b.answer tt b.first in
        let f2 = after_steps k f1 b.prefix in
        let whole : entries ≡ handle.step ∷ its_token.step ∷ b.rest = a.whole ∙ (ap (λ (l : List TrailStep). l ++ a.rest) handle.is ∙ ap (λ (l : List TrailStep). handle.step ∷ l) (b.whole ∙ ap (λ (l : List TrailStep). l ++ b.rest) its_token.is)) in
        ⊎_elim
        (λ same.
        let loaded = one_load k f2 (LoadRow row word.Target) None Hit b.rest what tt same.1 in
        let both = both_same a.answer b.answer same.0 in
        subst (EntryShape (suc row) entries) loaded.answer (record {
          row = row;
          names = omega arith;
          handle = handle.step;
          its_token = its_token.step;
          loaded = loaded.step;
          whole = whole ∙ ap (λ (l : List TrailStep). handle.step ∷ its_token.step ∷ l) loaded.is;
          handle_is = handle.act_is;
          same = handle.answer ∙ both.0;
          token_is = its_token.act_is;
          same_token = its_token.answer ∙ both.1;
          loaded_is = loaded.act_is;
          target_is = refl;
        }))
        (λ other. let e = nothing_run k f2 b.rest (Other a.answer b.answer) what other.1 in
        subst (EntryShape (suc row) entries) e.1 (record {
          row = row;
          names = omega arith;
          handle = handle.step;
          its_token = its_token.step;
          whole = whole ∙ ap (λ (l : List TrailStep). handle.step ∷ its_token.step ∷ l) e.0;
          handle_is = handle.act_is;
          its_handle = handle.answer;
          token_is = its_token.act_is;
          found_token = its_token.answer;
          other = not_both a.answer b.answer other.0;
        }))
        (branch k f2 (same_handle a.answer h && nat_eq b.answer token) _ _ b.rest what b.second)

-- ---- what comes after the look at the bucket

module _ (k : Key) (site : ℕ) (h : Handle) where
  -- a hit goes on to the cell
  pub record GoneByBucket (rest : List TrailStep) (answer : Result Answer Unloaded) (target : ℕ) : Type 0 where
    pub others : EachStep Others rest
    pub is : answer ≡ by_bucket target

  -- a walk begins with the load of the handle word
  pub record Walk (rest : List TrailStep) (answer : Result Answer Unloaded) (seen : Seen) : Type 0 where
    pub load : TrailStep
    pub more : List TrailStep
    pub whole : rest ≡ load ∷ more
    pub load_is : load.step.act ≡ LoadHandle h.row
    pub others : EachStep Others more
    pub by_type : ((number : ℕ) × (type_by h (unpacked_handle_word load.step.found) ≡ Ok number) × (answer ≡ by_walk (target_of k number (site_token k site)) seen))
        ⊎ ((u : Unloaded) × (type_by h (unpacked_handle_word load.step.found) ≡ Err u) × (answer ≡ Err u))

  pub hit_goes : (f : Fields) (cell : CellWord) (expected : Option Handle) (target : ℕ) (rest : List TrailStep) (answer : Result Answer Unloaded)
      → Runs k f (resolving_by k site h cell expected (Hit target)) rest answer → GoneByBucket rest answer target
  unfolding resolving_by
  hit_goes f cell expected target rest answer runs =
      let a = splits k f (installing k site h cell target) _ rest answer runs in
      let e = nothing_run k (after_steps k f a.prefix) a.rest (by_bucket target) answer a.second in
      let whole : rest ≡ a.prefix = a.whole ∙ (ap (λ (l : List TrailStep). a.prefix ++ l) e.0 ∙ append-nil a.prefix) in
      record { others = subst (EachStep Others) (sym whole) (makes_only Others k f (installing k site h cell target) a.prefix a.answer (installing_others k site h cell target).only a.first); is = sym e.1 }

  -- after the handle word
  walk_ends : (f : Fields) (cell : CellWord) (seen : Seen) (type : Result ℕ Unloaded) (rest : List TrailStep) (answer : Result Answer Unloaded)
      → Runs k f (walking_by k site h cell seen type) rest answer
      → EachStep Others rest × (((number : ℕ) × (type ≡ Ok number) × (answer ≡ by_walk (target_of k number (site_token k site)) seen)) ⊎ ((u : Unloaded) × (type ≡ Err u) × (answer ≡ Err u)))
  unfolding walking_by
  walk_ends f cell seen (Err u) rest answer runs = let e = nothing_run k f rest (Err u) answer runs in (subst (EachStep Others) (sym e.0) tt, inr (u, refl, sym e.1))
  walk_ends f cell seen (Ok number) rest answer runs =
      let token = site_token k site in
      let target = target_of k number token in
      let a = splits k f (caching k token h target) _ rest answer runs in
      let g = after_steps k f a.prefix in
      let b = splits k g (installing k site h cell target) _ a.rest answer a.second in
      let e = nothing_run k (after_steps k g b.prefix) b.rest (by_walk target seen) answer b.second in
      let whole : rest ≡ a.prefix ++ b.prefix = a.whole ∙ ap (λ (l : List TrailStep). a.prefix ++ l) (b.whole ∙ (ap (λ (l : List TrailStep). b.prefix ++ l) e.0 ∙ append-nil b.prefix)) in (
        subst (EachStep Others) (sym whole) (each_append Others a.prefix b.prefix (makes_only Others k f (caching k token h target) a.prefix a.answer (caching_others k token h target).only a.first)
            (makes_only Others k g (installing k site h cell target) b.prefix b.answer (installing_others k site h cell target).only b.first)),
        inl (number, refl, sym e.1),
      )

  pub walks : (f : Fields) (cell : CellWord) (seen : Seen) (rest : List TrailStep) (answer : Result Answer Unloaded) → Runs k f (walking k site h cell seen) rest answer → Walk rest answer seen
  unfolding walking
  walks f cell seen rest answer runs =
      let a = splits k f (typing h) (walking_by k site h cell seen) rest answer runs in
      let load = one_load k f (LoadHandle h.row) None (λ word. type_by h (unpacked_handle_word word)) a.prefix a.answer tt a.first in
      let e = walk_ends (after_steps k f a.prefix) cell seen (type_by h (unpacked_handle_word load.step.step.found)) a.rest answer
      (subst (λ (t : Result ℕ Unloaded). Runs k (after_steps k f a.prefix) (walking_by k site h cell seen t) a.rest answer) (sym load.answer) a.second) in
      record { load = load.step; more = a.rest; whole = a.whole ∙ ap (λ (l : List TrailStep). l ++ a.rest) load.is; load_is = load.act_is; others = e.0; by_type = e.1 }

  pub other_walks : (f : Fields) (cell : CellWord) (expected : Option Handle) (g : Handle) (t : ℕ) (rest : List TrailStep) (answer : Result Answer Unloaded)
      → Runs k f (resolving_by k site h cell expected (Other g t)) rest answer → Walk rest answer (seen_by cell expected (Other g t))
  unfolding resolving_by
  other_walks f cell expected g t rest answer runs = walks f cell (seen_by cell expected (Other g t)) rest answer runs

  pub empty_walks : (f : Fields) (cell : CellWord) (expected : Option Handle) (rest : List TrailStep) (answer : Result Answer Unloaded)
      → Runs k f (resolving_by k site h cell expected Empty) rest answer → Walk rest answer (seen_by cell expected Empty)
  unfolding resolving_by
  empty_walks f cell expected rest answer runs = walks f cell (seen_by cell expected Empty) rest answer runs
