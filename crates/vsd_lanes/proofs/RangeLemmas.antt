-- What stands in a lane names sites, hosts, roots and variables that are there.
use Rattle.std.proofs.Common.{◌≡◌, ℕ, zero, suc, ◌+◌, ◌-◌, ◌<◌, ◌≤◌, Bool, true, false, cond, eqb, ltb, List, [], ◌∷◌, ◌++◌, length, map, position, Option, Some, None, Result, Ok, Err, All, refl, ap, sym, subst, ◌∙◌, append_assoc, arith}
use Rattle.std.specs.Str.{bytes_eq}
use Rattle.std.proofs.lemmas.Bool.{eqb-false, ltb-false}
use Rattle.std.proofs.lemmas.List.{append-nil, map-append, length-map, length_push, length-append}
use Rattle.std.proofs.lemmas.List.Elements.{All-nil, All-cons, All-append, All-weaker}
use Rattle.std.proofs.lemmas.List.Quantifiers.{position-Some}
use Rattle.vsd_terms.specs.declared.term.Term.{Term}
use Rattle.vsd_ast.specs.WellFormed.{IsName}
use Rattle.vsd_ast.specs.declared.scripts.Host.{Host}
use Rattle.vsd_ast.specs.declared.scripts.Op.{Op}
use Rattle.vsd_ast.specs.declared.scripts.Op.TheVariants as op
use Rattle.vsd_ast.specs.declared.scripts.Site.{Site}
use Rattle.vsd_ast.specs.declared.scripts.Var.{Var}
use Rattle.vsd_ast.specs.declared.scripts.Var.TheVariants as var
use Rattle.vsd_grammar.specs.declared.cause.Cause.{Cause}
use Rattle.vsd_grammar.specs.declared.cause.Cause.TheVariants.{Unexpected, TooMany}
use Rattle.vsd_grammar.specs.declared.cause.Counted.TheVariants as limit
use Rattle.vsd_grammar.specs.Input.{Input, same_class}
use Rattle.vsd_grammar.specs.Grammar.{G, Derives, Turns}
use Rattle.vsd_grammar.specs.Productions.{is_name, name_by, spelled_name}
use Rattle.vsd_lanes.specs.declared.tree.Running.{Running}
use Rattle.vsd_lanes.specs.declared.tree.Refusal.{Refusal}
use Rattle.vsd_lanes.specs.declared.tree.Written.{Written}
use Rattle.vsd_lanes.specs.declared.tree.Written.TheVariants as kind
use Rattle.vsd_lanes.specs.declared.tree.Item.TheVariants.{Once, Repeat}
use Rattle.vsd_lanes.specs.declared.reading.Reading.{Reading}
use Rattle.vsd_lanes.specs.declared.reading.Fresh.{Fresh}
use Rattle.vsd_lanes.specs.declared.reading.Own.{Own}
use Rattle.vsd_lanes.specs.declared.reading.Object.{Object}
use Rattle.vsd_lanes.specs.declared.reading.Role.{Role}
use Rattle.vsd_lanes.specs.declared.reading.Role.TheVariants as role
use Rattle.vsd_lanes.specs.declared.repeats.Body.{Body}
use Rattle.vsd_lanes.specs.declared.repeats.Verb.{Verb}
use Rattle.vsd_lanes.specs.declared.repeats.Verb.TheVariants as verb
use Rattle.vsd_lanes.specs.Setting.{Setting, place_from, numbered, host_number, site_number}
use Rattle.vsd_lanes.specs.Variables.{number_or, number_in, added_by, added}
use Rattle.vsd_lanes.specs.Types.{IsRoot, is_concrete}
use Rattle.vsd_lanes.specs.Meaning.{known, fresh, times_of, joined, written_of, op_of}
use Rattle.vsd_lanes.specs.Names as names
use Rattle.vsd_lanes.specs.Productions as spec
use Rattle.vsd_lanes.specs.Laws.{written_out}
use Rattle.vsd_lanes.specs.Allowed.{Adds, HasNames, AddsRoots}
use Rattle.vsd_lanes.specs.Naming.{NamesApart, NamesNoHost, IsNoHost}
use Rattle.vsd_lanes.proofs.Making.{written_of-Once, written_of-Repeat}
use Rattle.vsd_lanes.proofs.Meant.{shows_none, checked_ok, if_none_ok, joined-push}
use Rattle.vsd_lanes.proofs.RootLemmas.{written_root}
use Rattle.vsd_lanes.proofs.NamingLemmas.{place_within, AreNamed, none_named, added_named, no_host_named}
use Rattle.vsd_lanes.proofs.Telling.{new_root, Tells, AllTell, IsCalled, tell_append, tell_times, tell_later, concrete_called}

-- ---- operations in range

module _ (roots sites hosts variables : ℕ) where
  abbrev pub IsVar : Var → Type 0
  IsVar (var.Host h) = h < hosts
  IsVar (var.Own v) = v < variables

  abbrev pub IsInRange : Op → Type 0
  IsInRange (op.Load variable root) = (variable < variables) × (root < roots)
  IsInRange (op.Unload variable) = variable < variables
  IsInRange (op.Call site object) = (site < sites) × IsVar object
  IsInRange (op.Cast source target) = IsVar source × IsVar target

  abbrev pub AreInRange : List Written → Type 0
  AreInRange [] = Unit {0}
  AreInRange (w ∷ ws) = IsInRange (op_of w) × AreInRange ws

  range_append : (xs ys : List Written) → AreInRange xs → AreInRange ys → AreInRange (xs ++ ys)
  range_append [] ys h k = k
  range_append (x ∷ xs) ys h k = (h.0, range_append xs ys h.1 k)

  range_times : (n : ℕ) (ws : List Written) → AreInRange ws → AreInRange (times_of n ws)
  unfolding times_of
  range_times zero ws h = tt
  range_times (suc n) ws h = range_append ws (times_of n ws) h (range_times n ws h)

-- more roots and variables keep an operation in range
module _ (roots more_roots sites hosts variables more_variables : ℕ) (r : roots ≤ more_roots) (v : variables ≤ more_variables) where
  var_wider : (x : Var) → IsVar roots sites hosts variables x → IsVar more_roots sites hosts more_variables x
  var_wider (var.Host h) k = k
  var_wider (var.Own n) k = omega (arith, k, v)

  wider : (o : Op) → IsInRange roots sites hosts variables o → IsInRange more_roots sites hosts more_variables o
  wider (op.Load variable root) k = (omega (arith, k.0, v), omega (arith, k.1, r))
  wider (op.Unload variable) k = omega (arith, k, v)
  wider (op.Call site object) k = (k.0, var_wider object k.1)
  wider (op.Cast source target) k = (var_wider source k.0, var_wider target k.1)

  all_wider : (ws : List Written) → AreInRange roots sites hosts variables ws → AreInRange more_roots sites hosts more_variables ws
  all_wider [] h = tt
  all_wider (w ∷ ws) h = (wider (op_of w) h.0, all_wider ws h.1)

-- ---- lists that grow

adds_none : {A : Type 0} (P : A → Type 0) (xs : List A) → Adds P xs xs
adds_none P xs = ([], sym (append-nil xs), All-nil P)

adds_one : {A : Type 0} (P : A → Type 0) (xs : List A) (x : A) → P x → Adds P xs (xs ++ x ∷ [])
adds_one P xs x p = (x ∷ [], refl, All-cons P x [] p (All-nil P))

adds_on : {A : Type 0} (P : A → Type 0) (xs ys zs : List A) → Adds P xs ys → Adds P ys zs → Adds P xs zs
adds_on P xs ys zs h k = (h.0 ++ k.0, k.1 ∙ ap (λ l. l ++ k.0) h.1 ∙ append_assoc xs h.0 k.0, All-append P h.0 k.0 h.2 k.2)

adds_longer : {A : Type 0} (P : A → Type 0) (xs ys : List A) → Adds P xs ys → length xs ≤ length ys
adds_longer P xs ys h =
    let n = ap length h.1 in
    let m = length-append xs h.0 in
    omega (arith, n, m)

-- ---- names

-- a name has 1 to 255 bytes
pub spelled_is_name : (i : Input) (bytes : List ℕ) (j : Input) → Derives (List ℕ) spelled_name i bytes j → IsName bytes
unfolding spelled_name
spelled_is_name i bytes j d = go (is_name d.0.class) d.0.bytes (checked_ok (List ℕ) (name_by (is_name d.0.class) d.0.bytes) d.1 bytes j d.3)
  where
    tests : (b : List ℕ) (e l : Bool) → eqb (length b) 0 ≡ e → ltb 255 (length b) ≡ l → ◌≡◌ {A = Result (List ℕ) Cause} (cond e (Err Unexpected) (cond l (Err (TooMany limit.NameBytes)) (Ok b))) (Ok bytes) → IsName bytes
    tests b true l f g h = absurd cc
    tests b false true f g h = absurd cc
    tests b false false f g h =
        let same : b ≡ bytes = cc in
        let some = eqb-false (length b) 0 f in
        let few = ltb-false 255 (length b) g in
        let named : IsName b = record { some = omega (arith, some); few = few } in
        subst IsName same named

    go : (c : Bool) (b : List ℕ) → name_by c b ≡ Ok bytes → IsName bytes
    go false b h = absurd cc
    go true b h = tests b (eqb (length b) 0) (ltb 255 (length b)) refl refl h

numbered_some : (o : Option ℕ) (n : ℕ) → numbered o ≡ Some n → o ≡ Some n
numbered_some None n e = absurd cc
numbered_some (Some m) n e = go (ltb m 65536) e
  where
    go : (b : Bool) → ◌≡◌ {A = Option ℕ} (cond b (Some m) None) (Some n) → ◌≡◌ {A = Option ℕ} (Some m) (Some n)
    go true h = h
    go false h = absurd cc

pub host_within : (hosts : List Host) (name : List ℕ) (n : ℕ) → host_number hosts name ≡ Some n → n < length hosts
host_within hosts name n e =
    let k = place_within 0 (map (λ (h : Host). h.name) hosts) name n (numbered_some (place_from 0 (map (λ (h : Host). h.name) hosts) name) n e) in
    let m = length-map hosts (λ (h : Host). h.name) in
    omega (arith, k, m)

site_within : (sites : List Site) (name : List ℕ) (n : ℕ) → site_number sites name ≡ Some n → n < length sites
site_within sites name n e =
    let k = place_within 0 (map (λ (s : Site). s.name) sites) name n (numbered_some (place_from 0 (map (λ (s : Site). s.name) sites) name) n e) in
    let m = length-map sites (λ (s : Site). s.name) in
    omega (arith, k, m)

variable_within : (variables : List (List ℕ)) (name : List ℕ) (n : ℕ) → position (bytes_eq name) variables ≡ Some n → n < length variables
variable_within variables name n e = (position-Some (bytes_eq name) variables n [] e).0

added_names : (variables : List (List ℕ)) (name : List ℕ) → IsName name → Adds IsName variables (added variables name) × (number_in variables name < length (added variables name))
added_names variables name p = go (position (bytes_eq name) variables) refl
  where
    go : (o : Option ℕ) → position (bytes_eq name) variables ≡ o → Adds IsName variables (added_by o variables name) × (number_or o (length variables) < length (added_by o variables name))
    go (Some n) e = (adds_none IsName variables, variable_within variables name n e)
    go None e = (adds_one IsName variables name p, let l = length_push variables name in omega (arith, l))

-- ---- what the names of an operation say

module _ (e : Setting) where
  -- after these roots and variables
  abbrev Sees : Reading → List Written → Type 0
  Sees s ws = AreInRange (length s.roots) (length e.sites) (length e.hosts) (length s.variables) ws

  abbrev SeesVar : Reading → Var → Type 0
  SeesVar s o = IsVar (length s.roots) (length e.sites) (length e.hosts) (length s.variables) o

  host_free : (host : Option ℕ) (c : Option Cause) → names.fresh_cause_by host c ≡ None → host ≡ None
  host_free (Some h) c g = absurd cc
  host_free None c g = refl

  fresh_named : (s : Reading) (i : Input) (f : Fresh) (j : Input) → Derives Fresh (names.fresh_name e s) i f j → AreNamed e.hosts s.variables → AreNamed e.hosts f.lane.variables
  unfolding names.fresh_name
  fresh_named s i f j d h =
      let name = d.3.0 in
      let free = host_free (host_number e.hosts name) (fresh s.running.live (number_in s.variables name)) (shows_none (names.fresh_cause e s name) d.3.1 d.3.3.0 d.3.3.1 d.3.3.2) in
      subst (λ (g : Fresh). AreNamed e.hosts g.lane.variables) d.3.3.3.3.0 (added_named e.hosts s.variables name free h)

  fresh_lane : (s : Reading) (i : Input) (f : Fresh) (j : Input) → Derives Fresh (names.fresh_name e s) i f j
      → (f.lane.roots ≡ s.roots) × Adds IsName s.variables f.lane.variables × (f.variable < length f.lane.variables)
  unfolding names.fresh_name
  fresh_lane s i f j d =
      let name = d.3.0 in
      let a = added_names s.variables name (spelled_is_name d.1 name d.3.1 d.3.2) in
      subst (λ (g : Fresh). (g.lane.roots ≡ s.roots) × Adds IsName s.variables g.lane.variables × (g.variable < length g.lane.variables)) d.3.3.3.3.0 (refl, a.0, a.1)

  own_by_within : (r : Running) (host o : Option ℕ) (n m : ℕ) → ((k : ℕ) → o ≡ Some k → k < n) → names.own_by r host o ≡ Ok m → m < n
  own_by_within r (Some h) o n m w g = absurd cc
  own_by_within r None None n m w g = absurd cc
  own_by_within r None (Some k) n m w g = subst (λ (x : ℕ). x < n) (if_none_ok k m (known r.live k) g).1 (w k refl)

  own_within : (s : Reading) (i : Input) (o : Own) (j : Input) → Derives Own (names.own_name e s) i o j → o.variable < length s.variables
  unfolding names.own_name
  own_within s i o j d =
      let name = d.3.0 in
      let v = d.3.3.0 in
      let ok = own_by_within s.running (host_number e.hosts name) (position (bytes_eq name) s.variables) (length s.variables) v (variable_within s.variables name)
      (checked_ok ℕ (names.own_of e s name) d.3.1 v d.3.3.1 d.3.3.2) in
      subst (λ (p : Own). p.variable < length s.variables) d.3.3.3.3.0 ok

  meant_within : (s : Reading) (host variable : Option ℕ) (o : Var) → ((k : ℕ) → host ≡ Some k → k < length e.hosts) → ((k : ℕ) → variable ≡ Some k → k < length s.variables)
      → names.meant_by host variable ≡ Some o → SeesVar s o
  meant_within s (Some h) variable o hs vs g = let same : var.Host h ≡ o = cc in subst (SeesVar s) same (hs h refl)
  meant_within s None (Some v) o hs vs g = let same : var.Own v ≡ o = cc in subst (SeesVar s) same (vs v refl)
  meant_within s None None o hs vs g = absurd cc

  object_by_meant : (s : Reading) (r : Role) (m : Option Var) (o : Var) → names.object_by e s r m ≡ Ok o → m ≡ Some o
  object_by_meant s r None o h = absurd cc
  object_by_meant s r (Some p) o h = ap Some (if_none_ok p o (names.object_cause e s r p) h).1

  object_within : (s : Reading) (r : Role) (i : Input) (o : Object) (j : Input) → Derives Object (names.object_name e s r) i o j → SeesVar s o.object
  unfolding names.object_name
  object_within s r i o j d =
      let name = d.3.0 in
      let v = d.3.3.0 in
      let meant = object_by_meant s r (names.meant e s name) v (checked_ok Var (names.object_of e s r name) d.3.1 v d.3.3.1 d.3.3.2) in
      let ok = meant_within s (host_number e.hosts name) (position (bytes_eq name) s.variables) v (host_within e.hosts name) (variable_within s.variables name) meant in
      subst (λ (p : Object). SeesVar s p.object) d.3.3.3.3.0 ok

  object_by_called : (s : Reading) (m : Option Var) (o : Var) → names.object_by e s role.Call m ≡ Ok o → IsCalled e.decls.list e.hosts s.roots o
  object_by_called s None o h = absurd cc
  object_by_called s (Some (var.Host n)) o h =
      let both = if_none_ok (var.Host n) o (names.host_cause e s role.Call n) h in
      subst (IsCalled e.decls.list e.hosts s.roots) both.1 (concrete_called e.decls.list e.hosts s.roots n both.0)
  object_by_called s (Some (var.Own v)) o h = subst (IsCalled e.decls.list e.hosts s.roots) (if_none_ok (var.Own v) o (names.live_cause s.running role.Call (var.Own v)) h).1 tt

  object_called : (s : Reading) (i : Input) (o : Object) (j : Input) → Derives Object (names.object_name e s role.Call) i o j → IsCalled e.decls.list e.hosts s.roots o.object
  unfolding names.object_name
  object_called s i o j d =
      let name = d.3.0 in
      let v = d.3.3.0 in
      let ok = object_by_called s (names.meant e s name) v (checked_ok Var (names.object_of e s role.Call name) d.3.1 v d.3.3.1 d.3.3.2) in
      subst (λ (p : Object). IsCalled e.decls.list e.hosts s.roots p.object) d.3.3.3.3.0 ok

  found_some : (o : Option ℕ) (n : ℕ) → names.found o ≡ Ok n → o ≡ Some n
  found_some None n g = absurd cc
  found_some (Some m) n g = let same : m ≡ n = cc in ap Some same

  site_is_there : (i : Input) (n : ℕ) (j : Input) → Derives ℕ (names.site_name e) i n j → n < length e.sites
  unfolding names.site_name
  site_is_there i n j d =
      let name = d.0 in
      let m = d.3.0 in
      let some = found_some (site_number e.sites name) m (checked_ok ℕ (names.found (site_number e.sites name)) d.1 m d.3.1 d.3.2) in
      subst (λ (k : ℕ). k < length e.sites) d.3.3.3.0 (site_within e.sites name m some)

  -- ---- one step

  abbrev Told : Reading → List Written → Type 0
  Told s ws = AllTell e.decls.list e.hosts s.roots ws

  once_told : (s : Reading) (w : Written) → Tells e.decls.list e.hosts s.roots w → Told s (written_of (Once w))
  once_told s w h = subst (Told s) (sym (written_of-Once w)) (h, tt)

  -- a step adds roots and names of variables, and its operations name what is there then
  record Steps (s : Reading) (p : spec.Step) : Type 0 where
    roots : Adds (IsRoot e.decls.list) s.roots p.0.roots
    variables : Adds IsName s.variables p.0.variables
    named : AreNamed e.hosts s.variables → AreNamed e.hosts p.0.variables
    sees : Sees p.0 (written_of p.1)
    tells : Told p.0 (written_of p.1)

  once_sees : (s : Reading) (w : Written) → IsInRange (length s.roots) (length e.sites) (length e.hosts) (length s.variables) (op_of w) → Sees s (written_of (Once w))
  once_sees s w h = subst (Sees s) (sym (written_of-Once w)) (h, tt)

  -- an operation that adds nothing
  performed_steps : (s : Reading) (w : Written) → IsInRange (length s.roots) (length e.sites) (length e.hosts) (length s.variables) (op_of w) → Tells e.decls.list e.hosts s.roots w
      → Steps s (spec.performed s w)
  performed_steps s w h t = record {
    roots = adds_none (IsRoot e.decls.list) s.roots;
    variables = adds_none IsName s.variables;
    named = λ n. n;
    sees = once_sees s w h;
    tells = once_told s w t;
  }

  ended_steps : (s : Reading) (w : Written) (i : Input) (p : spec.Step) (j : Input) → Derives spec.Step (spec.ended s w) i p j
      → IsInRange (length s.roots) (length e.sites) (length e.hosts) (length s.variables) (op_of w) → Tells e.decls.list e.hosts s.roots w → Steps s p
  ended_steps s w i p j d h t = subst (Steps s) d.3.0 (performed_steps s w h t)

  pub assigned_root : (i : Input) (t : Term) (j : Input) → Derives Term (spec.assigned e.decls) i t j → IsRoot e.decls.list t
  unfolding spec.assigned
  assigned_root i t j d = subst (IsRoot e.decls.list) d.3.3.3.0 (written_root e.decls false d.1 d.3.0 d.3.1 d.3.2)

  load_steps : (s : Reading) (i : Input) (p : spec.Step) (j : Input) → Derives spec.Step (spec.load e s) i p j → Steps s p
  unfolding spec.load
  load_steps s i p j d =
      let f = d.3.0 in
      let t = d.3.3.0 in
      let l = fresh_lane s d.1 f d.3.1 d.3.2 in
      let root = assigned_root d.3.1 t d.3.3.1 d.3.3.2 in
      let w = kind.Load d.0 f.at f.variable (length f.lane.roots) (is_concrete e.decls.list t) in
      let long = length_push f.lane.roots t in
      let made : Steps s (spec.loaded e d.0 f t) = record {
        roots = subst (λ (rs : List Term). Adds (IsRoot e.decls.list) rs (f.lane.roots ++ t ∷ [])) l.0 (adds_one (IsRoot e.decls.list) f.lane.roots t root);
        variables = l.1;
        named = fresh_named s d.1 f d.3.1 d.3.2;
        sees = once_sees (spec.loaded e d.0 f t).0 w (l.2, omega (arith, long));
        tells = once_told (spec.loaded e d.0 f t).0 w (t, new_root f.lane.roots t, refl);
      } in
      subst (Steps s) d.3.3.3.0 made

  unload_steps : (s : Reading) (i : Input) (p : spec.Step) (j : Input) → Derives spec.Step (spec.unload e s) i p j → Steps s p
  unfolding spec.unload
  unload_steps s i p j d =
      let o = d.3.0 in
      ended_steps s (kind.Unload d.0 o.at o.variable) d.3.1 p j d.3.3 (own_within s d.1 o d.3.1 d.3.2) tt

  call_steps : (s : Reading) (i : Input) (p : spec.Step) (j : Input) → Derives spec.Step (spec.call e s) i p j → Steps s p
  unfolding spec.call
  call_steps s i p j d =
      let o = d.3.3.0 in
      ended_steps s (kind.Call d.0 d.3.0 o.at o.object) d.3.3.1 p j d.3.3.3 (site_is_there d.1 d.3.0 d.3.1 d.3.2, object_within s role.Call d.3.1 o d.3.3.1 d.3.3.2)
      (object_called s d.3.1 o d.3.3.1 d.3.3.2)

  cast_steps : (s : Reading) (i : Input) (p : spec.Step) (j : Input) → Derives spec.Step (spec.cast e s) i p j → Steps s p
  unfolding spec.cast
  cast_steps s i p j d =
      let o = d.3.0 in
      let q = d.3.3.0 in
      ended_steps s (kind.Cast d.0 o.at o.object q.at q.object) d.3.3.1 p j d.3.3.3 (object_within s role.Cast d.1 o d.3.1 d.3.2, object_within s role.Cast d.3.1 q d.3.3.1 d.3.3.2) tt

  -- ---- many

  record Bodies (s : Reading) (b : Body) : Type 0 where
    roots : Adds (IsRoot e.decls.list) s.roots b.lane.roots
    variables : Adds IsName s.variables b.lane.variables
    named : AreNamed e.hosts s.variables → AreNamed e.hosts b.lane.variables
    sees : Sees b.lane (joined (map written_of b.items))
    tells : Told b.lane (joined (map written_of b.items))

  nothing_yet : (s : Reading) → Bodies s (record { lane = s; items = [] })
  unfolding joined
  nothing_yet s = record { roots = adds_none (IsRoot e.decls.list) s.roots; variables = adds_none IsName s.variables; named = λ n. n; sees = tt; tells = tt }

  with_item_bodies : (s : Reading) (b : Body) (p : spec.Step) → Bodies s b → Steps b.lane p → Bodies s (spec.with_item b p)
  with_item_bodies s b p h k =
      let old = joined (map written_of b.items) in
      let r = adds_longer (IsRoot e.decls.list) b.lane.roots p.0.roots k.roots in
      let v = adds_longer IsName b.lane.variables p.0.variables k.variables in
      let kept : Sees p.0 old = all_wider (length b.lane.roots) (length p.0.roots) (length e.sites) (length e.hosts) (length b.lane.variables) (length p.0.variables) r v old h.sees in
      let both : Sees p.0 (old ++ written_of p.1) = range_append (length p.0.roots) (length e.sites) (length e.hosts) (length p.0.variables) old (written_of p.1) kept k.sees in
      let told : Told p.0 old = subst (λ (rs : List Term). AllTell e.decls.list e.hosts rs old) (sym k.roots.1) (tell_later e.decls.list e.hosts b.lane.roots k.roots.0 old h.tells) in
      let both_told : Told p.0 (old ++ written_of p.1) = tell_append e.decls.list e.hosts p.0.roots old (written_of p.1) told k.tells in
      let whole = sym (ap joined (map-append written_of b.items (p.1 ∷ [])) ∙ joined-push (map written_of b.items) (written_of p.1)) in
      record {
        roots = adds_on (IsRoot e.decls.list) s.roots b.lane.roots p.0.roots h.roots k.roots;
        variables = adds_on IsName s.variables b.lane.variables p.0.variables h.variables k.variables;
        named = λ n. k.named (h.named n);
        sees = subst (Sees p.0) whole both;
        tells = subst (Told p.0) whole both_told;
      }

  abbrev StepsBy : (Reading → G spec.Step) → Type 0
  StepsBy g = (s : Reading) (i : Input) (p : spec.Step) (j : Input) → Derives spec.Step (g s) i p j → Steps s p

  module _ (one : Reading → G spec.Step) (steps : StepsBy one) where
    one_more_bodies : (s : Reading) (b : Body) (i : Input) (c : Body) (j : Input) → Bodies s b → Derives Body (spec.one_more one b) i c j → Bodies s c
    unfolding spec.one_more
    one_more_bodies s b i c j h d = subst (Bodies s) d.3.0 (with_item_bodies s b d.0 h (steps b.lane i d.0 d.1 d.2))

    turns_bodies : (s : Reading) (n : ℕ) (b : Body) (i : Input) (c : Body) (j : Input) → Bodies s b
        → Turns (λ q t. same_class spec.closing q) (λ t. Derives Body (spec.one_more one t)) n b i c j → Bodies s c
    turns_bodies s zero b i c j h d = subst (Bodies s) d.1 h
    turns_bodies s (suc n) b i c j h d = turns_bodies s n d.1 d.2 c j (one_more_bodies s b i d.1 d.2 h d.3) d.5

    more_bodies : (s : Reading) (b : Body) (i : Input) (c : Body) (j : Input) → Bodies s b → Derives Body (spec.more one b) i c j → Bodies s c
    unfolding spec.more
    more_bodies s b i c j h d = turns_bodies s d.0 b i c j h d.1

    some_bodies : (s : Reading) (i : Input) (c : Body) (j : Input) → Derives Body (spec.some one s) i c j → Bodies s c
    unfolding spec.some
    some_bodies s i c j d = more_bodies s d.0 d.1 c j (one_more_bodies s (record { lane = s; items = [] }) i d.0 d.1 (nothing_yet s) d.2) d.3

  -- ---- repeats

  settled_same : (s : Reading) (r : Result Running Refusal) (i : Input) (t : Reading) (j : Input) → Derives Reading (spec.settled s r) i t j → (s.roots ≡ t.roots) × (s.variables ≡ t.variables)
  settled_same s (Ok r) i t j d = (ap (λ (u : Reading). u.roots) d.0, ap (λ (u : Reading). u.variables) d.0)
  settled_same s (Err r) i t j d = absurd d

  closed_steps : (s : Reading) (n : ℕ) (b : Body) (i : Input) (p : spec.Step) (j : Input) → Bodies s b → Derives spec.Step (spec.closed e n b) i p j → Steps s p
  unfolding spec.closed
  closed_steps s n b i p j h d =
      let t = d.0 in
      let ws = joined (map written_of b.items) in
      let same = settled_same b.lane (spec.again e.room (n - 1) b.items b.lane.running) i t d.1 d.2 in
      let seen : Sees t ws = subst (λ (k : ℕ). AreInRange k (length e.sites) (length e.hosts) (length t.variables) ws) (ap length same.0)
      (subst (λ (k : ℕ). AreInRange (length b.lane.roots) (length e.sites) (length e.hosts) k ws) (ap length same.1) h.sees) in
      let all : Sees t (times_of n ws) = range_times (length t.roots) (length e.sites) (length e.hosts) (length t.variables) n ws seen in
      let told : Told t (times_of n ws) = tell_times e.decls.list e.hosts t.roots n ws (subst (λ (rs : List Term). AllTell e.decls.list e.hosts rs ws) same.0 h.tells) in
      let made : Steps s (t, Repeat n b.items) = record {
        roots = subst (Adds (IsRoot e.decls.list) s.roots) same.0 h.roots;
        variables = subst (Adds IsName s.variables) same.1 h.variables;
        named = λ m. subst (AreNamed e.hosts) same.1 (h.named m);
        sees = subst (Sees t) (sym (written_of-Repeat n b.items)) all;
        tells = subst (Told t) (sym (written_of-Repeat n b.items)) told;
      } in
      subst (Steps s) d.3.3.0 made

  repeated_steps : (one : Reading → G spec.Step) → StepsBy one → StepsBy (spec.repeated e one)
  unfolding spec.repeated
  repeated_steps one steps s i p j d = closed_steps s d.3.0 d.3.3.3.0 d.3.3.3.1 p j (some_bodies one steps s d.3.3.1 d.3.3.3.0 d.3.3.3.1 d.3.3.3.2) d.3.3.3.3

  op_by_steps : (again : Reading → G spec.Step) → StepsBy again → (s : Reading) (v : Option Verb) (i : Input) (p : spec.Step) (j : Input) → Derives spec.Step (spec.op_by e again s v) i p j → Steps s p
  op_by_steps again steps s None i p j d = absurd d
  op_by_steps again steps s (Some verb.Load) i p j d = load_steps s i p j d
  op_by_steps again steps s (Some verb.Unload) i p j d = unload_steps s i p j d
  op_by_steps again steps s (Some verb.Call) i p j d = call_steps s i p j d
  op_by_steps again steps s (Some verb.Cast) i p j d = cast_steps s i p j d
  op_by_steps again steps s (Some verb.Repeat) i p j d = steps s i p j d

  op_with_steps : (again : Reading → G spec.Step) → StepsBy again → StepsBy (spec.op_with e again)
  unfolding spec.op_with
  op_with_steps again steps s i p j d = op_by_steps again steps s (spec.verb_of d.0.class) d.1 p j d.3

  deeper_steps : (deep : ℕ) → StepsBy (spec.deeper e deep)
  unfolding spec.deeper
  deeper_steps zero s i p j d = absurd d
  deeper_steps (suc deep) s i p j d = repeated_steps (spec.op_with e (spec.deeper e deep)) (op_with_steps (spec.deeper e deep) (deeper_steps deep)) s i p j d

  -- ---- a lane

  lane_bodies : (roots : List Term) (i : Input) (b : Body) (j : Input) → Derives Body (spec.lane e roots) i b j → Bodies (spec.empty roots).lane b
  unfolding spec.lane
  lane_bodies roots i b j d =
      let c = d.3.3.0 in
      let m = more_bodies (spec.op e spec.most_deep) (op_with_steps (spec.deeper e spec.most_deep) (deeper_steps spec.most_deep)) (spec.empty roots).lane (spec.empty roots) d.3.1 c d.3.3.1
      (nothing_yet (spec.empty roots).lane) d.3.3.2 in
      subst (Bodies (spec.empty roots).lane) d.3.3.3.3.0 m

  pub lane_sees : (roots : List Term) (i : Input) (b : Body) (j : Input) → Derives Body (spec.lane e roots) i b j
      → AreInRange (length b.lane.roots) (length e.sites) (length e.hosts) (length b.lane.variables) (written_out b)
  lane_sees roots i b j d = (lane_bodies roots i b j d).sees

  pub lane_tells : (roots : List Term) (i : Input) (b : Body) (j : Input) → Derives Body (spec.lane e roots) i b j → AllTell e.decls.list e.hosts b.lane.roots (written_out b)
  lane_tells roots i b j d = (lane_bodies roots i b j d).tells

  lane_named : (roots : List Term) (i : Input) (b : Body) (j : Input) → Derives Body (spec.lane e roots) i b j → AreNamed e.hosts b.lane.variables
  lane_named roots i b j d = (lane_bodies roots i b j d).named (none_named e.hosts)

pub lane_apart : NamesApart
lane_apart e roots i b j d = (lane_named e roots i b j d).apart

pub lane_no_hosts : NamesNoHost
lane_no_hosts e roots i b j d few =
    All-weaker (λ name. host_number e.hosts name ≡ None) (IsNoHost e.hosts) (λ name none. no_host_named e.hosts name few none) b.lane.variables (lane_named e roots i b j d).no_hosts

pub lane_names : HasNames
lane_names e roots i b j d = let n = (lane_bodies e roots i b j d).variables in subst (All IsName) (sym n.1) n.2

pub lane_adds : AddsRoots
lane_adds e roots i b j d = (lane_bodies e roots i b j d).roots
