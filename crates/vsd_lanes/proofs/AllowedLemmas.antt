-- Operations that could be made name variables that are live, and there was room for them.
use Rattle.std.proofs.Common.{◌≡◌, ℕ, ◌<◌, ◌≤◌, Bool, true, false, cond, ltb, eqb, List, [], ◌∷◌, map, length, All, Contains, Option, Some, None, Result, Ok, Err, refl, ap, sym, subst, ◌∙◌, arith}
use Rattle.std.proofs.lemmas.Bool.{ltb-true, eqb-true, eqb-false}
use Rattle.std.proofs.lemmas.List.{map-append, length-map, length_push}
use Rattle.std.proofs.lemmas.List.Elements.{All-nil, All-cons, All-contains, Contains-push, Contains-append_left, Contains-append_right}
use Rattle.vsd_ast.specs.Scripts.{without as without_one, live_after as lives_after, IsThere, MayBeMade, MayFollow}
use Rattle.vsd_ast.specs.declared.scripts.Var.{Var}
use Rattle.vsd_ast.specs.declared.scripts.Var.TheVariants as var
use Rattle.vsd_grammar.specs.declared.cause.Cause.{Cause}
use Rattle.vsd_grammar.specs.declared.cause.Cause.TheVariants.{TooManyLive, TooManyOperations}
use Rattle.vsd_lanes.specs.declared.tree.Live.{Live}
use Rattle.vsd_lanes.specs.declared.tree.Running.{Running}
use Rattle.vsd_lanes.specs.declared.tree.Refusal.{Refusal}
use Rattle.vsd_lanes.specs.declared.tree.Written.{Written}
use Rattle.vsd_lanes.specs.declared.tree.Written.TheVariants as kind
use Rattle.vsd_lanes.specs.Meaning.{find, without, fresh, fresh_by, known, known_by, castable, callable, callable_by, shown, and_then, word_of, allowed, live_after, does, once, makes, op_of}
use Rattle.vsd_lanes.specs.Productions as spec
use Rattle.vsd_lanes.specs.Laws.{written_out}
use Rattle.vsd_lanes.specs.Allowed.{NamesWhatLives, KeepsToRoom}
use Rattle.vsd_lanes.proofs.Meant.{lane_means, lane_ops}
use Rattle.vsd_lanes.proofs.RangeLemmas.{IsVar, IsInRange, AreInRange, lane_sees}

-- the numbers of the variables that are live
abbrev numbers : List Live → List ℕ
numbers = map (λ (l : Live). l.variable)

found_lives : (live : List Live) (v : ℕ) (l : Live) → find live v ≡ Some l → Contains (numbers live) v
unfolding find
found_lives [] v l e = absurd cc
found_lives (m ∷ ms) v l e = go (found_lives ms v l) (eqb m.variable v) refl e
  where
    go : (find ms v ≡ Some l → Contains (numbers ms) v) → (b : Bool) → eqb m.variable v ≡ b → cond b (Some m) (find ms v) ≡ Some l → Contains (numbers (m ∷ ms)) v
    go rest true f g = subst (λ n. Contains (n ∷ numbers ms) v) (sym (eqb-true m.variable v f)) (Contains-append_left (v ∷ []) (numbers ms) v (Contains-push [] v))
    go rest false f g = Contains-append_right (m.variable ∷ []) (numbers ms) v (rest g)

all_other : (live : List Live) (v : ℕ) → find live v ≡ None → All (λ n. ¬ (n ≡ v)) (numbers live)
unfolding find
all_other [] v e = All-nil (λ n. ¬ (n ≡ v))
all_other (m ∷ ms) v e = go (all_other ms v) (eqb m.variable v) refl e
  where
    go : (find ms v ≡ None → All (λ n. ¬ (n ≡ v)) (numbers ms)) → (b : Bool) → eqb m.variable v ≡ b → ◌≡◌ {A = Option Live} (cond b (Some m) (find ms v)) None → All (λ n. ¬ (n ≡ v)) (numbers (m ∷ ms))
    go rest true f g = absurd cc
    go rest false f g = All-cons (λ n. ¬ (n ≡ v)) m.variable (numbers ms) (eqb-false m.variable v f) (rest g)

not_found : (live : List Live) (v : ℕ) → find live v ≡ None → ¬ Contains (numbers live) v
not_found live v e h = All-contains (λ n. ¬ (n ≡ v)) (numbers live) v (all_other live v e) h refl

without_numbers : (live : List Live) (v : ℕ) → numbers (without live v) ≡ without_one (numbers live) v
unfolding without
without_numbers [] v = refl
without_numbers (l ∷ ls) v = go (without_numbers ls v) (eqb l.variable v)
  where
    go : numbers (without ls v) ≡ without_one (numbers ls) v → (b : Bool) → numbers (cond b ls (l ∷ without ls v)) ≡ cond b (numbers ls) (l.variable ∷ without_one (numbers ls) v)
    go e true = refl
    go e false = ap (λ ns. l.variable ∷ ns) e

-- ---- what a test that found nothing says

pub shown_ok : (at : ℕ) (c : Option Cause) → shown at c ≡ Ok tt → c ≡ None
shown_ok at None e = refl
shown_ok at (Some cause) e = absurd cc

pub fresh_ok : (live : List Live) (v : ℕ) → fresh live v ≡ None → (find live v ≡ None) × (length live < 32)
fresh_ok live v e = go (find live v) refl e
  where
    room : (b : Bool) → ltb (length live) 32 ≡ b → ◌≡◌ {A = Option Cause} (cond b None (Some TooManyLive)) None → length live < 32
    room true f g = ltb-true (length live) 32 f
    room false f g = absurd cc

    go : (o : Option Live) → find live v ≡ o → fresh_by o live ≡ None → (find live v ≡ None) × (length live < 32)
    go (Some l) f g = absurd cc
    go None f g = (f, room (ltb (length live) 32) refl g)

known_lives : (live : List Live) (v : ℕ) → known live v ≡ None → Contains (numbers live) v
known_lives live v e = go (find live v) refl e
  where
    go : (o : Option Live) → find live v ≡ o → known_by o ≡ None → Contains (numbers live) v
    go None f g = absurd cc
    go (Some l) f g = found_lives live v l f

callable_lives : (live : List Live) (v : ℕ) → callable live (var.Own v) ≡ None → Contains (numbers live) v
callable_lives live v e = go (find live v) refl e
  where
    go : (o : Option Live) → find live v ≡ o → callable_by o ≡ None → Contains (numbers live) v
    go None f g = absurd cc
    go (Some l) f g = found_lives live v l f

both_ok : (a b : Result (Unit {0}) Refusal) → and_then a (λ _. b) ≡ Ok tt → (a ≡ Ok tt) × (b ≡ Ok tt)
both_ok (Ok x) b e = (refl, e)
both_ok (Err r) b e = absurd cc

-- ---- operations in range

module _ (roots sites hosts variables : ℕ) where
  castable_there : (live : List Live) (o : Var) → IsVar roots sites hosts variables o → castable live o ≡ None → IsThere roots sites hosts variables (numbers live) o
  castable_there live (var.Host h) r e = r
  castable_there live (var.Own v) r e = (r, known_lives live v e)

  callable_there : (live : List Live) (o : Var) → IsVar roots sites hosts variables o → callable live o ≡ None → IsThere roots sites hosts variables (numbers live) o
  callable_there live (var.Host h) r e = r
  callable_there live (var.Own v) r e = (r, callable_lives live v e)

  allowed_is : (w : Written) (live : List Live) → IsInRange roots sites hosts variables (op_of w) → allowed w live ≡ Ok tt → MayBeMade roots sites hosts variables (numbers live) (op_of w)
  allowed_is (kind.Load word at v root concrete) live r e =
      let both = fresh_ok live v (shown_ok at (fresh live v) e) in
      let n = length-map live (λ (l : Live). l.variable) in
      (r.0, r.1, not_found live v both.0, omega (arith, both.1, n))
  allowed_is (kind.Unload word at v) live r e = (r, known_lives live v (shown_ok at (known live v) e))
  allowed_is (kind.Call word site at o) live r e = (r.0, callable_there live o r.1 (shown_ok at (callable live o) e))
  allowed_is (kind.Cast word at s target_at t) live r e =
      let both = both_ok (shown at (castable live s)) (shown target_at (castable live t)) e in
      (castable_there live s r.0 (shown_ok at (castable live s) both.0), castable_there live t r.1 (shown_ok target_at (castable live t) both.1))

numbers_after : (w : Written) (live : List Live) → numbers (live_after w live) ≡ lives_after (numbers live) (op_of w)
numbers_after (kind.Load word at v root concrete) live = map-append (λ (l : Live). l.variable) live (record { variable = v; concrete = concrete } ∷ [])
numbers_after (kind.Unload word at v) live = without_numbers live v
numbers_after (kind.Call word site at o) live = refl
numbers_after (kind.Cast word at s target_at t) live = refl

-- what an operation that was made says
pub once_ok : (room : ℕ) (w : Written) (s t : Running) → once room w s ≡ Ok t → (length s.ops < room) × (allowed w s.live ≡ Ok tt) × (does w s ≡ t)
unfolding once
once_ok room w s t e = go (ltb (length s.ops) room) refl (allowed w s.live) refl e
  where
    go : (b : Bool) → ltb (length s.ops) room ≡ b → (a : Result (Unit {0}) Refusal) → allowed w s.live ≡ a
        → and_then (shown (word_of w) (cond b None (Some TooManyOperations))) (λ _. and_then a (λ _. Ok (does w s))) ≡ Ok t
        → (length s.ops < room) × (allowed w s.live ≡ Ok tt) × (does w s ≡ t)
    go false f a g e = absurd cc
    go true f (Err r) g e = absurd cc
    go true f (Ok x) g e = (ltb-true (length s.ops) room f, g, cc)

pub then_makes : (room : ℕ) (ws : List Written) (o : Result Running Refusal) (t : Running) → and_then o (makes room ws) ≡ Ok t → (u : Running) × (o ≡ Ok u) × (makes room ws u ≡ Ok t)
then_makes room ws (Ok u) t e = (u, refl, e)
then_makes room ws (Err r) t e = absurd cc

all_follow : (roots sites hosts variables room : ℕ) (ws : List Written) (s t : Running) → AreInRange roots sites hosts variables ws → makes room ws s ≡ Ok t
    → MayFollow roots sites hosts variables (numbers s.live) (map op_of ws)
unfolding makes
all_follow roots sites hosts variables room [] s t r e = tt
all_follow roots sites hosts variables room (w ∷ ws) s t r e =
    let step = then_makes room ws (once room w s) t e in
    let ok = once_ok room w s step.0 step.1 in
    let live : numbers step.0.live ≡ lives_after (numbers s.live) (op_of w) = ap (λ (u : Running). numbers u.live) (sym ok.2) ∙ numbers_after w s.live in (
      allowed_is roots sites hosts variables w s.live r.0 ok.1,
      subst (λ ns. MayFollow roots sites hosts variables ns (map op_of ws)) live (all_follow roots sites hosts variables room ws step.0 t r.1 step.2),
    )

within_room : (room : ℕ) (ws : List Written) (s t : Running) → length s.ops ≤ room → makes room ws s ≡ Ok t → length t.ops ≤ room
unfolding makes
within_room room [] s t h e =
    let same : s ≡ t = cc in
    subst (λ (r : Running). length r.ops ≤ room) same h
within_room room (w ∷ ws) s t h e =
    let step = then_makes room ws (once room w s) t e in
    let ok = once_ok room w s step.0 step.1 in
    let longer = length_push s.ops (op_of w) in
    let grown : length (does w s).ops ≤ room = omega (arith, ok.0, longer) in
    within_room room ws step.0 t (subst (λ (r : Running). length r.ops ≤ room) ok.2 grown) step.2

pub lane_allowed : NamesWhatLives
lane_allowed e roots i b j d =
    let n = length b.lane.roots in
    let v = length b.lane.variables in
    subst (MayFollow n (length e.sites) (length e.hosts) v []) (sym (lane_ops e roots i b j d))
    (all_follow n (length e.sites) (length e.hosts) v e.room (written_out b) (spec.empty roots).lane.running b.lane.running (lane_sees e roots i b j d) (lane_means e roots i b j d))

pub lane_fits : KeepsToRoom
lane_fits e roots i b j d = within_room e.room (written_out b) (spec.empty roots).lane.running b.lane.running (omega arith) (lane_means e roots i b j d)
