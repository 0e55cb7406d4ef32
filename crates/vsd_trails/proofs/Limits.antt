-- A call sets its cell to Resolve right after the miss at which its token's count reaches the limit.
use Rattle.std.proofs.Common.{◌≡◌, ℕ, ◌+◌, ◌-◌, ◌^◌, ◌≤◌, Bool, true, false, ◌&&◌, cond, nat_eq, nat_le, List, [], ◌∷◌, ◌++◌, length, Option, Some, None, Result, refl, sym, ◌∙◌, ap, subst, ⊎_elim, arith}
use Rattle.std.proofs.lemmas.Bool.{leb-true, le-leb, eqb-true}
use Rattle.vsd_words.specs.declared.handle.Handle.{Handle}
use Rattle.vsd_rule.specs.declared.key.Key.{Key}
use Rattle.vsd_rule.specs.declared.step.Act.{Act}
use Rattle.vsd_rule.specs.declared.step.Act.TheVariants.{Count, ToResolve, ToLookup, PutBucket, EmptyBucket, EpochToRetire, Raise}
use Rattle.vsd_rule.specs.Lists.{site_token}
use Rattle.vsd_trails.specs.declared.answers.Answer.{Answer}
use Rattle.vsd_trails.specs.declared.answers.Unloaded.{Unloaded}
use Rattle.vsd_trails.specs.Programs.{Fields, TrailStep, Program, done, ask, bind, fields_at, when◌then◌else◌, after_steps, Runs}
use Rattle.vsd_trails.specs.Words.{counted}
use Rattle.vsd_trails.specs.RowTrails.{trying, has_room, seeing_room, retiring, retiring_any, unlinking, putting_row, emptying}
use Rattle.vsd_trails.specs.CallTrails.{counting, patching, calling}
use Rattle.vsd_trails.specs.Following.{ReachesLimit, TriesResolve, TriesSomeResolve, SetsResolve}
use Rattle.vsd_trails.proofs.Runs.{splits}
use Rattle.vsd_trails.proofs.Loads.{IsNoUnbind, one_load, nothing_run, branch, and_both}
use Rattle.vsd_trails.proofs.Endings.{leaves_fields}
use Rattle.vsd_trails.proofs.Following.{Chain, chains, follows, IsQuiet, Closed, nothing, and_then, either, plain, called}

-- the fields at a program of one step are those that the step recorded
fields_of_one : {A : Type 0} (k : Key) (f : Fields) (act : Act) (read : ℕ → A) (x : TrailStep) (xs : List TrailStep) (a : A)
    → Runs k f (ask (record { act = act; begins = None }) (λ word. done (read word))) xs a → xs ≡ x ∷ [] → fields_at x ≡ f
fields_of_one k f act read x [] a runs is = absurd runs
fields_of_one k f act read x (y ∷ ys) a runs is = let same : y ≡ x = cc in subst (λ (z : TrailStep). fields_at z ≡ f) same runs.1

-- ---- the count

counted_most : (found : ℕ) (at_end : Bool) → nat_eq found (2 ^ 64 - 1) ≡ at_end → counted found ≤ found + 1
counted_most found true is = rw is (omega arith)
counted_most found false is = rw is (omega arith)

counted_least : (miss found : ℕ) (at_end : Bool) → nat_eq found (2 ^ 64 - 1) ≡ at_end → miss ≤ 1000 → miss ≤ found + 1 → miss ≤ counted found
counted_least miss found true is low reached = let last = eqb-true found (2 ^ 64 - 1) is in rw is (omega arith)
counted_least miss found false is low reached = rw is reached

both_true : (a b : Bool) → a ≡ true → b ≡ true → a && b ≡ false → ⊥
both_true a b first second both =
    let all : a && b ≡ true = rw (first, second) refl in
    let clash = sym all ∙ both in absurd (cc)

-- ---- a patch

abbrev IsNoCount : Act → Type 0
IsNoCount (Count token) = ⊥
IsNoCount act = Unit {0}

abbrev IsNoResolve : Act → Type 0
IsNoResolve (ToResolve site row) = ⊥
IsNoResolve act = Unit {0}

module _ (k : Key) (site : ℕ) where
  abbrev Sets : {A : Type 0} → Program A → Type 0
  Sets p = Closed k (ReachesLimit k site) TriesSomeResolve (λ x y. TriesResolve site y) p

  no_count : (x : TrailStep) (act : Act) → x.step.act ≡ act → IsNoCount act → ReachesLimit k site x → ⊥
  no_count x act is none due = subst IsNoCount (sym is ∙ due.counts) none

  no_resolve : (x : TrailStep) (act : Act) → x.step.act ≡ act → IsNoResolve act → TriesSomeResolve x → ⊥
  no_resolve x act is none tries = subst IsNoResolve (sym is ∙ tries.1.1) none

  quiet_count : (x : TrailStep) → IsQuiet x.step.act → ReachesLimit k site x → ⊥
  quiet_count x calm due = subst IsQuiet due.counts calm

  quiet_resolve : (x : TrailStep) → IsQuiet x.step.act → TriesSomeResolve x → ⊥
  quiet_resolve x calm tries = subst IsQuiet tries.1.1 calm

  -- a step that neither counts a miss nor sets a cell to Resolve
  neither : {A : Type 0} (act : Act) {begins : _} {read : ℕ → A} → IsNoUnbind act → IsNoCount act → IsNoResolve act → Sets (ask (record { act = act; begins = begins }) (λ word. done (read word)))
  neither act bound count resolve = plain act bound (λ x is. no_count x act is count) (λ x is. no_resolve x act is resolve)

  sets_retiring : (row : ℕ) → Sets (retiring row)
  unfolding retiring
  sets_retiring row = and_then (neither (EpochToRetire row) tt tt tt) (λ epoch. either _ (neither (Raise epoch) tt tt tt) nothing)

  sets_any : (out : Option ℕ) → Sets (retiring_any out)
  sets_any None = nothing
  sets_any (Some row) = sets_retiring row

  sets_puts : (bucket row : ℕ) → Sets (bind (putting_row bucket row) retiring_any)
  sets_puts bucket row = and_then (neither (PutBucket bucket row) tt tt tt) sets_any

  -- the exchange, and the retirement where it is won
  sets_after : (x : TrailStep) (g : Fields) (row : ℕ) (xs : List TrailStep) (u : Unit {0}) → (TriesSomeResolve x → ⊥) → ReachesLimit k site x → Runs k g (unlinking (ToResolve site row) row) xs u
      → Chain (ReachesLimit k site) TriesSomeResolve (λ x y. TriesResolve site y) (x ∷ xs) None
  unfolding unlinking
  sets_after x g row xs u none due runs =
      let a = splits k g (trying (ToResolve site row) (2 + row)) (λ won. when won then retiring row else done tt) xs u runs in
      let y = one_load k g (ToResolve site row) None (λ word. nat_eq word (2 + row)) a.prefix a.answer tt a.first in
      let whole : x ∷ xs ≡ x ∷ y.step ∷ a.rest = ap (λ (l : List TrailStep). x ∷ l) (a.whole ∙ ap (λ (l : List TrailStep). l ++ a.rest) y.is) in
      let tries : TriesResolve site y.step = (row, y.act_is) in
      let rest : Sets (when a.answer then retiring row else done tt) = either a.answer (sets_retiring row) nothing in
      subst (λ (l : List TrailStep). Chain (ReachesLimit k site) TriesSomeResolve (λ x y. TriesResolve site y) l None) (sym whole)
      (chains (ReachesLimit k site) TriesSomeResolve (λ x y. TriesResolve site y) (x ∷ y.step ∷ []) a.rest None
      (none, (((λ d. tries), λ is. (due, tries)), no_count y.step (ToResolve site row) y.act_is tt))
      (rest.each (after_steps k g a.prefix) a.rest u a.second))

  sets_patches : k.sizes.miss ≤ 1000 → (h : Handle) (row : ℕ) → Sets (patching k site h row)
  unfolding patching bind
  sets_patches low h row = record {
    each = λ f xs u runs.
        let token = site_token k site in
        let by_count : ℕ → Program (Unit {0}) = λ count. bind seeing_room (λ room. when nat_le k.sizes.miss count && room then unlinking (ToResolve site row) row else done tt) in
        let a = splits k f (counting token) by_count xs u runs in
        let x = one_load k f (Count token) None counted a.prefix a.answer tt a.first in
        let g = after_steps k f a.prefix in
        let same : g ≡ f = ap (after_steps k f) x.is ∙ leaves_fields k f x.step (Count token) x.act_is refl in
        let there : fields_at x.step ≡ f = fields_of_one k f (Count token) counted x.step a.prefix a.answer a.first x.is in
        let limbo : g.limbo ≡ x.step.step.limbo = ap (λ (e : Fields). e.limbo) (same ∙ sym there) in
        let whole : xs ≡ x.step ∷ a.rest = a.whole ∙ ap (λ (l : List TrailStep). l ++ a.rest) x.is in
        let none : TriesSomeResolve x.step → ⊥ = no_resolve x.step (Count token) x.act_is tt in
        subst (λ (l : List TrailStep). Chain (ReachesLimit k site) TriesSomeResolve (λ x y. TriesResolve site y) l None) (sym whole)
        (⊎_elim
        (λ reached.
        let both = and_both _ _ reached.0 in
        let many : k.sizes.miss ≤ a.answer = leb-true k.sizes.miss a.answer both.0 in
        let most = counted_most x.step.step.found _ refl in
        let is : counted x.step.step.found ≡ a.answer = x.answer in
        let reaches : k.sizes.miss ≤ x.step.step.found + 1 = omega arith in
        let few : length x.step.step.limbo ≤ 14 = subst (λ l. length l ≤ 14) limbo (leb-true (length g.limbo) 14 both.1) in
        sets_after x.step g row a.rest u none (record { counts = x.act_is; reached = reaches; room = omega arith }) reached.1)
        (λ not_yet.
        let ends = (nothing_run k g a.rest tt u not_yet.1).0 in
        subst (λ (l : List TrailStep). Chain (ReachesLimit k site) TriesSomeResolve (λ x y. TriesResolve site y) (x.step ∷ l) None) (sym ends) (
          none,
          λ due.
              let least = counted_least k.sizes.miss x.step.step.found _ refl low due.reached in
              let many : k.sizes.miss ≤ a.answer = subst (λ (n : ℕ). k.sizes.miss ≤ n) x.answer least in
              let room = due.room in
              let few : length x.step.step.limbo ≤ 14 = omega arith in
              both_true _ _ (le-leb k.sizes.miss a.answer many) (le-leb (length g.limbo) 14 (subst (λ l. length l ≤ 14) (sym limbo) few)) not_yet.0,
        ))
        (branch k g (nat_le k.sizes.miss a.answer && has_room g.limbo) _ _ a.rest u a.second));
  }

  pub call_sets : k.sizes.miss ≤ 1000 → (h : Handle) (f : Fields) (trail : List TrailStep) (answer : Result Answer Unloaded) → Runs k f (calling k site h) trail answer → SetsResolve k site trail
  call_sets low h f trail answer runs =
      let closed = called quiet_count quiet_resolve sets_puts site h (sets_patches low h) in
      follows (ReachesLimit k site) TriesSomeResolve (λ x y. TriesResolve site y) trail (closed.each f trail answer runs)
