-- Each call of a lane is made on an object of a class that isn't abstract.
use Rattle.std.proofs.Common.{◌≡◌, ℕ, Bool, true, false, cond, eqb, List, [], ◌∷◌, ◌++◌, map, All, Option, Some, None, Result, Ok, Err, refl, ap, sym, subst, ◌∙◌, append_assoc}
use Rattle.std.proofs.lemmas.Bool.{eqb-true, eqb-false}
use Rattle.std.proofs.lemmas.List.{append-nil}
use Rattle.std.proofs.lemmas.List.Elements.{All-nil, All-push}
use Rattle.vsd_terms.specs.declared.term.Term.{Term}
use Rattle.vsd_ast.specs.declared.declarations.Decl.{Decl}
use Rattle.vsd_ast.specs.declared.scripts.Host.{Host}
use Rattle.vsd_ast.specs.declared.scripts.Op.{Op}
use Rattle.vsd_ast.specs.declared.scripts.Op.TheVariants as op
use Rattle.vsd_ast.specs.declared.scripts.Var.{Var}
use Rattle.vsd_ast.specs.declared.scripts.Var.TheVariants as var
use Rattle.vsd_grammar.specs.declared.cause.Cause.{Cause}
use Rattle.vsd_grammar.specs.declared.cause.Cause.TheVariants.{NotConcrete}
use Rattle.vsd_lanes.specs.declared.tree.Live.{Live}
use Rattle.vsd_lanes.specs.declared.tree.Running.{Running}
use Rattle.vsd_lanes.specs.declared.tree.Written.{Written}
use Rattle.vsd_lanes.specs.declared.tree.Written.TheVariants as kind
use Rattle.vsd_lanes.specs.Meaning.{find, without, fresh, callable, callable_by, allowed, live_after, does, once, makes, op_of}
use Rattle.vsd_lanes.specs.Laws.{written_out}
use Rattle.vsd_lanes.specs.Productions as spec
use Rattle.vsd_lanes.specs.Objects.{IsConcreteRoot, IsLoadedLast, IsConcreteObject, CallsConcrete, CallsObjects}
use Rattle.vsd_lanes.proofs.AllowedLemmas.{shown_ok, fresh_ok, once_ok, then_makes}
use Rattle.vsd_lanes.proofs.Meant.{lane_means, lane_ops}
use Rattle.vsd_lanes.proofs.RangeLemmas.{lane_tells}
use Rattle.vsd_lanes.proofs.Telling.{Tells, AllTell, if_concrete}

-- ---- operations that load none of the live variables

abbrev NotLoaded : Op → List Live → Type 0
NotLoaded o [] = Unit {0}
NotLoaded o (l ∷ ls) = ((other : ℕ) → ¬ (o ≡ op.Load l.variable other)) × NotLoaded o ls

none_loaded : (live : List Live) (v r : ℕ) → find live v ≡ None → NotLoaded (op.Load v r) live
unfolding find
none_loaded [] v r e = tt
none_loaded (m ∷ ms) v r e = go (none_loaded ms v r) (eqb m.variable v) refl e
  where
    go : (find ms v ≡ None → NotLoaded (op.Load v r) ms) → (b : Bool) → eqb m.variable v ≡ b → ◌≡◌ {A = Option Live} (cond b (Some m) (find ms v)) None → NotLoaded (op.Load v r) (m ∷ ms)
    go rest true f g = absurd cc
    go rest false f g = (λ other h. let same : m.variable ≡ v = cc in eqb-false m.variable v f same, rest g)

never : (o : Op) → ((v r : ℕ) → ¬ (o ≡ op.Load v r)) → (live : List Live) → NotLoaded o live
never o h [] = tt
never o h (l ∷ ls) = (h l.variable, never o h ls)

module _ (ds : List Decl) (roots : List Term) (hosts : List Host) where
  -- ---- what is live was loaded last with a root that is concrete where it tells so

  record Stands (ops : List Op) (l : Live) : Type 0 where
    root : ℕ
    loaded : IsLoadedLast l.variable root ops
    concrete : l.concrete ≡ true → IsConcreteRoot ds roots root

  abbrev AllStand : List Op → List Live → Type 0
  AllStand ops [] = Unit {0}
  AllStand ops (l ∷ ls) = Stands ops l × AllStand ops ls

  loaded_on : (variable root : ℕ) (ops : List Op) (o : Op) → ((other : ℕ) → ¬ (o ≡ op.Load variable other)) → IsLoadedLast variable root ops → IsLoadedLast variable root (ops ++ o ∷ [])
  loaded_on variable root ops o new k = record {
    before = k.before;
    after = k.after ++ o ∷ [];
    whole = ap (λ l. l ++ o ∷ []) k.whole ∙ append_assoc k.before (op.Load variable root ∷ k.after) (o ∷ []);
    last = All-push (λ p. (other : ℕ) → ¬ (p ≡ op.Load variable other)) k.after o k.last new;
  }

  stand_on : (ops : List Op) (o : Op) (live : List Live) → NotLoaded o live → AllStand ops live → AllStand (ops ++ o ∷ []) live
  stand_on ops o [] n h = tt
  stand_on ops o (l ∷ ls) n h = (record { root = h.0.root; loaded = loaded_on l.variable h.0.root ops o n.0 h.0.loaded; concrete = h.0.concrete }, stand_on ops o ls n.1 h.1)

  stand_push : (ops : List Op) (live : List Live) (l : Live) → AllStand ops live → Stands ops l → AllStand ops (live ++ l ∷ [])
  stand_push ops [] l h k = (k, tt)
  stand_push ops (m ∷ ms) l h k = (h.0, stand_push ops ms l h.1 k)

  stand_without : (ops : List Op) (live : List Live) (v : ℕ) → AllStand ops live → AllStand ops (without live v)
  unfolding without
  stand_without ops [] v h = tt
  stand_without ops (m ∷ ms) v h = go (eqb m.variable v) (stand_without ops ms v h.1)
    where
      go : (b : Bool) → AllStand ops (without ms v) → AllStand ops (cond b ms (m ∷ without ms v))
      go true k = h.1
      go false k = (h.0, k)

  stands_found : (ops : List Op) (live : List Live) (v : ℕ) (l : Live) → AllStand ops live → find live v ≡ Some l → Stands ops l × (l.variable ≡ v)
  unfolding find
  stands_found ops [] v l h e = absurd cc
  stands_found ops (m ∷ ms) v l h e = go (stands_found ops ms v l h.1) (eqb m.variable v) refl e
    where
      go : (find ms v ≡ Some l → Stands ops l × (l.variable ≡ v)) → (b : Bool) → eqb m.variable v ≡ b → cond b (Some m) (find ms v) ≡ Some l → Stands ops l × (l.variable ≡ v)
      go rest true f g = let same : m ≡ l = cc in (subst (Stands ops) same h.0, subst (λ (n : Live). n.variable ≡ v) same (eqb-true m.variable v f))
      go rest false f g = rest g

  -- ---- one operation

  new_stands : (ops : List Op) (v root : ℕ) (concrete : Bool) → Tells ds hosts roots (kind.Load 0 0 v root concrete) → Stands (ops ++ op.Load v root ∷ []) (record { variable = v; concrete = concrete })
  new_stands ops v root concrete k = record {
    root = root;
    loaded = record { before = ops; after = []; whole = refl; last = All-nil (λ p. (other : ℕ) → ¬ (p ≡ op.Load v other)) };
    concrete = λ h. record { term = k.0; there = k.1; concrete = sym k.2 ∙ h };
  }

  stand_after : (w : Written) (s : Running) → Tells ds hosts roots w → allowed w s.live ≡ Ok tt → AllStand s.ops s.live → AllStand (does w s).ops (does w s).live
  stand_after (kind.Load word at v root concrete) s k e h =
      let free = (fresh_ok s.live v (shown_ok at (fresh s.live v) e)).0 in
      stand_push (s.ops ++ op.Load v root ∷ []) s.live (record { variable = v; concrete = concrete })
      (stand_on s.ops (op.Load v root) s.live (none_loaded s.live v root free) h) (new_stands s.ops v root concrete k)
  stand_after (kind.Unload word at v) s k e h =
      stand_without (s.ops ++ op.Unload v ∷ []) s.live v (stand_on s.ops (op.Unload v) s.live (never (op.Unload v) (λ n r f. absurd cc) s.live) h)
  stand_after (kind.Call word site at o) s k e h = stand_on s.ops (op.Call site o) s.live (never (op.Call site o) (λ n r f. absurd cc) s.live) h
  stand_after (kind.Cast word at a target_at b) s k e h = stand_on s.ops (op.Cast a b) s.live (never (op.Cast a b) (λ n r f. absurd cc) s.live) h

  abbrev IsCallMade : List Op → Op → Type 0
  IsCallMade done (op.Load variable root) = Unit {0}
  IsCallMade done (op.Unload variable) = Unit {0}
  IsCallMade done (op.Call site object) = IsConcreteObject ds roots hosts done object
  IsCallMade done (op.Cast source target) = Unit {0}

  own_called : (s : Running) (v : ℕ) → callable s.live (var.Own v) ≡ None → AllStand s.ops s.live → IsConcreteObject ds roots hosts s.ops (var.Own v)
  own_called s v e h = go (find s.live v) refl e
    where
      go : (o : Option Live) → find s.live v ≡ o → callable_by o ≡ None → IsConcreteObject ds roots hosts s.ops (var.Own v)
      go None f g = absurd cc
      go (Some l) f g =
          let k = stands_found s.ops s.live v l h f in
          (k.0.root, subst (λ n. IsLoadedLast n k.0.root s.ops) k.1 k.0.loaded, k.0.concrete (if_concrete l.concrete g))

  object_called : (s : Running) (o : Var) (site word at : ℕ) → Tells ds hosts roots (kind.Call word site at o) → callable s.live o ≡ None → AllStand s.ops s.live → IsConcreteObject ds roots hosts s.ops o
  object_called s (var.Host n) site word at k e h = k
  object_called s (var.Own v) site word at k e h = own_called s v e h

  call_made : (w : Written) (s : Running) → Tells ds hosts roots w → allowed w s.live ≡ Ok tt → AllStand s.ops s.live → IsCallMade s.ops (op_of w)
  call_made (kind.Load word at v root concrete) s k e h = tt
  call_made (kind.Unload word at v) s k e h = tt
  call_made (kind.Call word site at o) s k e h = object_called s o site word at k (shown_ok at (callable s.live o) e) h
  call_made (kind.Cast word at a target_at b) s k e h = tt

  -- ---- operations one after another

  abbrev CallsMade : List Op → List Op → Type 0
  CallsMade done [] = Unit {0}
  CallsMade done (o ∷ os) = IsCallMade done o × CallsMade (done ++ o ∷ []) os

  all_made : (room : ℕ) (ws : List Written) (s t : Running) → AllTell ds hosts roots ws → makes room ws s ≡ Ok t → AllStand s.ops s.live → CallsMade s.ops (map op_of ws)
  unfolding makes
  all_made room [] s t k e h = tt
  all_made room (w ∷ ws) s t k e h =
      let step = then_makes room ws (once room w s) t e in
      let ok = once_ok room w s step.0 step.1 in
      let stand : AllStand step.0.ops step.0.live = subst (λ (u : Running). AllStand u.ops u.live) ok.2 (stand_after w s k.0 ok.1 h) in
      let ops : step.0.ops ≡ s.ops ++ op_of w ∷ [] = ap (λ (u : Running). u.ops) (sym ok.2) in
      (call_made w s k.0 ok.1 h, subst (λ done. CallsMade done (map op_of ws)) ops (all_made room ws step.0 t k.1 step.2 stand))

  calls_split : (done ops before after : List Op) (site : ℕ) (object : Var) → CallsMade done ops → ops ≡ before ++ op.Call site object ∷ after → IsConcreteObject ds roots hosts (done ++ before) object
  calls_split done [] [] after site object h e = absurd cc
  calls_split done [] (b ∷ bs) after site object h e = absurd cc
  calls_split done (o ∷ os) [] after site object h e =
      let same : o ≡ op.Call site object = cc in
      subst (λ d. IsConcreteObject ds roots hosts d object) (sym (append-nil done)) (subst (IsCallMade done) same h.0)
  calls_split done (o ∷ os) (b ∷ bs) after site object h e =
      let same : o ≡ b = cc in
      let rest : os ≡ bs ++ op.Call site object ∷ after = cc in
      let made = calls_split (done ++ o ∷ []) os bs after site object h.1 rest in
      subst (λ d. IsConcreteObject ds roots hosts d object) (append_assoc done (o ∷ []) bs ∙ ap (λ p. done ++ p ∷ bs) same) made

pub lane_calls : CallsObjects
lane_calls e roots i b j d before after site object is =
    let ds = e.decls.list in
    let start = (spec.empty roots).lane.running in
    let made = all_made ds b.lane.roots e.hosts e.room (written_out b) start b.lane.running (lane_tells e roots i b j d) (lane_means e roots i b j d) tt in
    calls_split ds b.lane.roots e.hosts [] b.lane.running.ops before after site object (subst (CallsMade ds b.lane.roots e.hosts []) (sym (lane_ops e roots i b j d)) made) is
