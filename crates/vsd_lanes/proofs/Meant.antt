-- The operations of a lane that is read are those that stand in it.
use Rattle.std.proofs.Common.{◌≡◌, ℕ, zero, suc, ◌-◌, ◌≤◌, ◌&&◌, Bool, true, false, cond, leb, ltb, List, [], ◌∷◌, ◌++◌, map, length, Option, Some, None, Result, Ok, Err, refl, ap, sym, subst, ◌∙◌, append_assoc, arith}
use Rattle.std.proofs.lemmas.Bool.{leb-true}
use Rattle.std.proofs.lemmas.List.{append-nil, map-append}
use Rattle.std.specs.List.{position}
use Rattle.std.specs.Str.{bytes_eq}
use Rattle.vsd_ast.specs.declared.scripts.Var.{Var}
use Rattle.vsd_ast.specs.declared.scripts.Var.TheVariants as var
use Rattle.vsd_grammar.specs.declared.token_class.TokenClass.TheVariants as class
use Rattle.vsd_grammar.specs.declared.cause.Cause.{Cause}
use Rattle.vsd_grammar.specs.declared.cause.Cause.TheVariants.{Unexpected}
use Rattle.vsd_grammar.specs.Input.{Input, same_class}
use Rattle.vsd_grammar.specs.Grammar.{G, Derives, Turns}
use Rattle.vsd_grammar.specs.Productions.{checked, spelled_number, number_of, in_range, digits_from}
use Rattle.vsd_lanes.specs.declared.tree.Running.{Running}
use Rattle.vsd_lanes.specs.declared.tree.Refusal.{Refusal}
use Rattle.vsd_lanes.specs.declared.tree.Written.{Written}
use Rattle.vsd_lanes.specs.declared.tree.Written.TheVariants as kind
use Rattle.vsd_lanes.specs.declared.reading.Reading.{Reading}
use Rattle.vsd_lanes.specs.declared.reading.Fresh.{Fresh}
use Rattle.vsd_lanes.specs.declared.reading.Own.{Own}
use Rattle.vsd_lanes.specs.declared.reading.Object.{Object}
use Rattle.vsd_lanes.specs.declared.reading.Role.{Role}
use Rattle.vsd_lanes.specs.declared.reading.Role.TheVariants as role
use Rattle.vsd_lanes.specs.declared.repeats.Body.{Body}
use Rattle.vsd_lanes.specs.declared.repeats.Verb.{Verb}
use Rattle.vsd_lanes.specs.declared.repeats.Verb.TheVariants as verb
use Rattle.vsd_lanes.specs.Setting.{Setting, host_number}
use Rattle.vsd_lanes.specs.Meaning.{begins, fresh, known, castable, shown, and_then, word_of, allowed, does, once, makes, times_of, joined, written_of, op_of}
use Rattle.vsd_lanes.specs.Types.{is_concrete}
use Rattle.vsd_lanes.specs.Names as names
use Rattle.vsd_lanes.specs.Productions as spec
use Rattle.vsd_lanes.specs.Laws.{written_out, MeansItsItems, HasOpsOfItems}
use Rattle.vsd_lanes.proofs.Making.{written_of-Once, written_of-Repeat, makes_append, makes_one, makes_none, times_of-suc}

-- ---- what the parts of an operation say

pub shows_none : (c : Option Cause) (i : Input) (u : Unit {0}) (j : Input) → Derives (Unit {0}) (names.shows c) i u j → c ≡ None
shows_none None i u j d = refl
shows_none (Some cause) i u j d = absurd d

pub checked_ok : (A : Type 0) (r : Result A Cause) (i : Input) (x : A) (j : Input) → Derives A (checked A r) i x j → r ≡ Ok x
checked_ok A (Ok a) i x j d = ap Ok d.0
checked_ok A (Err cause) i x j d = absurd d

begun_room : (e : Setting) (s : Reading) (i : Input) (n : ℕ) (j : Input) → Derives ℕ (names.begun e s) i n j → begins e.room s.running ≡ None
unfolding names.begun
begun_room e s i n j d = shows_none (begins e.room s.running) d.1 d.3.0 d.3.1 d.3.2

no_host : (host : Option ℕ) (c : Option Cause) → names.fresh_cause_by host c ≡ None → c ≡ None
no_host (Some h) c e = absurd cc
no_host None c e = e

fresh_allowed : (e : Setting) (s : Reading) (i : Input) (f : Fresh) (j : Input) → Derives Fresh (names.fresh_name e s) i f j
    → (fresh s.running.live f.variable ≡ None) × (f.lane.running ≡ s.running)
unfolding names.fresh_name
fresh_allowed e s i f j d =
    let name = d.3.0 in
    let made : names.fresh_of s d.0.index name ≡ f = d.3.3.3.3.0 in
    let none = no_host (host_number e.hosts name) _ (shows_none (names.fresh_cause e s name) d.3.1 d.3.3.0 d.3.3.1 d.3.3.2) in
    (subst (λ (g : Fresh). fresh s.running.live g.variable ≡ None) made none, sym (ap (λ (g : Fresh). g.lane.running) made))

pub if_none_ok : {A : Type 0} (a b : A) (c : Option Cause) → names.if_none a c ≡ Ok b → (c ≡ None) × (a ≡ b)
if_none_ok a b None e = (refl, cc)
if_none_ok a b (Some cause) e = absurd cc

own_by_ok : (s : Running) (host variable : Option ℕ) (v : ℕ) → names.own_by s host variable ≡ Ok v → known s.live v ≡ None
own_by_ok s (Some h) variable v e = absurd cc
own_by_ok s None None v e = absurd cc
own_by_ok s None (Some w) v e =
    let both = if_none_ok w v (known s.live w) e in
    subst (λ n. known s.live n ≡ None) both.1 both.0

own_allowed : (e : Setting) (s : Reading) (i : Input) (o : Own) (j : Input) → Derives Own (names.own_name e s) i o j → known s.running.live o.variable ≡ None
unfolding names.own_name
own_allowed e s i o j d =
    let name = d.3.0 in
    let v = d.3.3.0 in
    let ok = own_by_ok s.running (host_number e.hosts name) (position (bytes_eq name) s.variables) v (checked_ok ℕ (names.own_of e s name) d.3.1 v d.3.3.1 d.3.3.2) in
    subst (λ (p : Own). known s.running.live p.variable ≡ None) d.3.3.3.3.0 ok

host_live : (s : Running) (r : Role) (h : ℕ) → names.live_cause s r (var.Host h) ≡ None
host_live s role.Cast h = refl
host_live s role.Call h = refl

object_cause_live : (e : Setting) (s : Reading) (r : Role) (o : Var) → names.object_cause e s r o ≡ None → names.live_cause s.running r o ≡ None
object_cause_live e s r (var.Host h) none = host_live s.running r h
object_cause_live e s r (var.Own v) none = none

object_by_ok : (e : Setting) (s : Reading) (r : Role) (m : Option Var) (o : Var) → names.object_by e s r m ≡ Ok o → names.live_cause s.running r o ≡ None
object_by_ok e s r None o h = absurd cc
object_by_ok e s r (Some p) o h =
    let both = if_none_ok p o (names.object_cause e s r p) h in
    subst (λ q. names.live_cause s.running r q ≡ None) both.1 (object_cause_live e s r p both.0)

object_allowed : (e : Setting) (s : Reading) (r : Role) (i : Input) (o : Object) (j : Input) → Derives Object (names.object_name e s r) i o j
    → names.live_cause s.running r o.object ≡ None
unfolding names.object_name
object_allowed e s r i o j d =
    let name = d.3.0 in
    let v = d.3.3.0 in
    let ok = object_by_ok e s r (names.meant e s name) v (checked_ok Var (names.object_of e s r name) d.3.1 v d.3.3.1 d.3.3.2) in
    subst (λ (p : Object). names.live_cause s.running r p.object ≡ None) d.3.3.3.3.0 ok

-- ---- one operation

allowed_once : (room : ℕ) (w : Written) (s : Running) → begins room s ≡ None → allowed w s.live ≡ Ok tt → once room w s ≡ Ok (does w s)
unfolding once
allowed_once room w s may ok =
    ap (λ c. and_then (shown (word_of w) c) (λ _. and_then (allowed w s.live) (λ _. Ok (does w s)))) may ∙ ap (λ r. and_then r (λ _. Ok (does w s))) ok

-- it is what the item means
abbrev Means : ℕ → Running → spec.Step → Type 0
Means room s p = makes room (written_of p.1) s ≡ Ok p.0.running

performed_means : (room : ℕ) (s : Reading) (w : Written) → once room w s.running ≡ Ok (does w s.running) → Means room s.running (spec.performed s w)
performed_means room s w e = ap (λ ws. makes room ws s.running) (written_of-Once w) ∙ makes_one room w s.running ∙ e

ended_means : (room : ℕ) (s : Reading) (w : Written) (i : Input) (p : spec.Step) (j : Input) → Derives spec.Step (spec.ended s w) i p j
    → begins room s.running ≡ None → allowed w s.running.live ≡ Ok tt → Means room s.running p
ended_means room s w i p j d may ok = subst (Means room s.running) d.3.0 (performed_means room s w (allowed_once room w s.running may ok))

load_means : (e : Setting) (s : Reading) (i : Input) (p : spec.Step) (j : Input) → Derives spec.Step (spec.load e s) i p j → Means e.room s.running p
unfolding spec.load
load_means e s i p j d =
    let f = d.3.0 in
    let t = d.3.3.0 in
    let may = begun_room e s i d.0 d.1 d.2 in
    let ok = fresh_allowed e s d.1 f d.3.1 d.3.2 in
    let w = kind.Load d.0 f.at f.variable (length f.lane.roots) (is_concrete e.decls.list t) in
    let made = allowed_once e.room w s.running may (ap (shown f.at) ok.0) in
    let same : once e.room w (spec.with_root f.lane t).running ≡ Ok (does w (spec.with_root f.lane t).running) = subst (λ r. once e.room w r ≡ Ok (does w r)) (sym ok.1) made in
    subst (λ r. Means e.room r p) ok.1 (subst (Means e.room f.lane.running) d.3.3.3.0 (performed_means e.room (spec.with_root f.lane t) w same))

unload_means : (e : Setting) (s : Reading) (i : Input) (p : spec.Step) (j : Input) → Derives spec.Step (spec.unload e s) i p j → Means e.room s.running p
unfolding spec.unload
unload_means e s i p j d =
    let o = d.3.0 in
    ended_means e.room s (kind.Unload d.0 o.at o.variable) d.3.1 p j d.3.3 (begun_room e s i d.0 d.1 d.2) (ap (shown o.at) (own_allowed e s d.1 o d.3.1 d.3.2))

call_means : (e : Setting) (s : Reading) (i : Input) (p : spec.Step) (j : Input) → Derives spec.Step (spec.call e s) i p j → Means e.room s.running p
unfolding spec.call
call_means e s i p j d =
    let o = d.3.3.0 in
    ended_means e.room s (kind.Call d.0 d.3.0 o.at o.object) d.3.3.1 p j d.3.3.3 (begun_room e s i d.0 d.1 d.2)
    (ap (shown o.at) (object_allowed e s role.Call d.3.1 o d.3.3.1 d.3.3.2))

cast_means : (e : Setting) (s : Reading) (i : Input) (p : spec.Step) (j : Input) → Derives spec.Step (spec.cast e s) i p j → Means e.room s.running p
unfolding spec.cast
cast_means e s i p j d =
    let o = d.3.0 in
    let q = d.3.3.0 in
    let first = object_allowed e s role.Cast d.1 o d.3.1 d.3.2 in
    let second = object_allowed e s role.Cast d.3.1 q d.3.3.1 d.3.3.2 in
    ended_means e.room s (kind.Cast d.0 o.at o.object q.at q.object) d.3.3.1 p j d.3.3.3 (begun_room e s i d.0 d.1 d.2)
    (ap (λ c. and_then (shown o.at c) (λ _. shown q.at (castable s.running.live q.object))) first ∙ ap (shown q.at) second)

-- ---- many

pub joined-push : (xss : List (List Written)) (ys : List Written) → joined (xss ++ ys ∷ []) ≡ joined xss ++ ys
unfolding joined
joined-push [] ys = append-nil ys
joined-push (xs ∷ xss) ys = ap (λ l. xs ++ l) (joined-push xss ys) ∙ sym (append_assoc xs (joined xss) ys)

-- the parts of a body so far mean what is left
abbrev MeansBody : ℕ → Running → Body → Type 0
MeansBody room s b = makes room (joined (map written_of b.items)) s ≡ Ok b.lane.running

with_item_means : (room : ℕ) (s : Running) (b : Body) (p : spec.Step) → MeansBody room s b → Means room b.lane.running p → MeansBody room s (spec.with_item b p)
with_item_means room s b p m n =
    ap (λ l. makes room l s) (ap joined (map-append written_of b.items (p.1 ∷ [])) ∙ joined-push (map written_of b.items) (written_of p.1))
    ∙ makes_append room (joined (map written_of b.items)) (written_of p.1) s ∙ ap (λ o. and_then o (makes room (written_of p.1))) m ∙ n

nothing_means : (room : ℕ) (s : Reading) → MeansBody room s.running (record { lane = s; items = [] })
unfolding joined
nothing_means room s = makes_none room s.running

module _ (room : ℕ) (op : Reading → G spec.Step) (means : (s : Reading) (i : Input) (p : spec.Step) (j : Input) → Derives spec.Step (op s) i p j → Means room s.running p) where
  one_more_means : (s : Running) (b : Body) (i : Input) (c : Body) (j : Input) → MeansBody room s b → Derives Body (spec.one_more op b) i c j → MeansBody room s c
  unfolding spec.one_more
  one_more_means s b i c j m d = subst (MeansBody room s) d.3.0 (with_item_means room s b d.0 m (means b.lane i d.0 d.1 d.2))

  turns_mean : (s : Running) (n : ℕ) (b : Body) (i : Input) (c : Body) (j : Input) → MeansBody room s b
      → Turns (λ q t. same_class spec.closing q) (λ t. Derives Body (spec.one_more op t)) n b i c j → MeansBody room s c
  turns_mean s zero b i c j m d = subst (MeansBody room s) d.1 m
  turns_mean s (suc n) b i c j m d = turns_mean s n d.1 d.2 c j (one_more_means s b i d.1 d.2 m d.3) d.5

  more_means : (s : Running) (b : Body) (i : Input) (c : Body) (j : Input) → MeansBody room s b → Derives Body (spec.more op b) i c j → MeansBody room s c
  unfolding spec.more
  more_means s b i c j m d = turns_mean s d.0 b i c j m d.1

  some_means : (s : Reading) (i : Input) (c : Body) (j : Input) → Derives Body (spec.some op s) i c j → MeansBody room s.running c
  unfolding spec.some
  some_means s i c j d = more_means s.running d.0 d.1 c j (one_more_means s.running (record { lane = s; items = [] }) i d.0 d.1 (nothing_means room s) d.2) d.3

-- ---- repeats

settled_ok : (s : Reading) (r : Result Running Refusal) (i : Input) (t : Reading) (j : Input) → Derives Reading (spec.settled s r) i t j → r ≡ Ok t.running
settled_ok s (Ok r) i t j d = ap (λ (u : Reading). Ok u.running) d.0
settled_ok s (Err r) i t j d = absurd d

in_range_some : (m : Option ℕ) (n : ℕ) → in_range 1 200000 m ≡ Ok n → 1 ≤ n
in_range_some None n e = absurd cc
in_range_some (Some m) n e = go (leb 1 m) refl (leb m 200000) e
  where
    go : (b : Bool) → leb 1 m ≡ b → (c : Bool) → ◌≡◌ {A = Result ℕ Cause} (cond (b && c) (Ok m) (Err Unexpected)) (Ok n) → 1 ≤ n
    go false f c e = absurd cc
    go true f false e = absurd cc
    go true f true e =
        let same : m ≡ n = cc in
        subst (λ k. 1 ≤ k) same (leb-true 1 m f)

number_of_some : (b : Bool) (bytes : List ℕ) (n : ℕ) → number_of b 1 200000 6 bytes ≡ Ok n → 1 ≤ n
number_of_some false bytes n e = absurd cc
number_of_some true bytes n e = go (ltb 6 (length bytes)) e
  where
    go : (c : Bool) → ◌≡◌ {A = Result ℕ Cause} (cond c (Err Unexpected) (in_range 1 200000 (digits_from 0 bytes))) (Ok n) → 1 ≤ n
    go true e = absurd cc
    go false e = in_range_some (digits_from 0 bytes) n e

times_some : (i : Input) (n : ℕ) (j : Input) → Derives ℕ spec.times i n j → 1 ≤ n
unfolding spec.times spelled_number
times_some i n j d =
    let m = d.0 in
    let b = same_class class.Number d.2.0.class in
    let some = number_of_some b d.2.0.bytes m (checked_ok ℕ (number_of b 1 200000 6 d.2.0.bytes) d.2.1 m d.1 d.2.3) in
    subst (λ k. 1 ≤ k) d.3.3.0 some

closed_means : (e : Setting) (s : Running) (n : ℕ) (b : Body) (i : Input) (p : spec.Step) (j : Input) → 1 ≤ n → MeansBody e.room s b
    → Derives spec.Step (spec.closed e n b) i p j → Means e.room s p
unfolding spec.closed
closed_means e s n b i p j h m d =
    let ws = joined (map written_of b.items) in
    let t = d.0 in
    let rest = settled_ok b.lane (spec.again e.room (n - 1) b.items b.lane.running) i t d.1 d.2 in
    let k : n ≡ suc (n - 1) = omega arith in
    let all = written_of-Repeat n b.items ∙ ap (λ l. times_of l ws) k ∙ times_of-suc (n - 1) ws in
    let made = ap (λ l. makes e.room l s) all ∙ makes_append e.room ws (times_of (n - 1) ws) s ∙ ap (λ o. and_then o (makes e.room (times_of (n - 1) ws))) m ∙ rest in
    subst (Means e.room s) d.3.3.0 made

repeated_means : (e : Setting) (op : Reading → G spec.Step) → ((s : Reading) (i : Input) (p : spec.Step) (j : Input) → Derives spec.Step (op s) i p j → Means e.room s.running p)
    → (s : Reading) (i : Input) (p : spec.Step) (j : Input) → Derives spec.Step (spec.repeated e op s) i p j → Means e.room s.running p
unfolding spec.repeated
repeated_means e op means s i p j d =
    let n = d.3.0 in
    let b = d.3.3.3.0 in
    closed_means e s.running n b d.3.3.3.1 p j (times_some d.1 n d.3.1 d.3.2) (some_means e.room op means s d.3.3.1 b d.3.3.3.1 d.3.3.3.2) d.3.3.3.3

op_by_means : (e : Setting) (again : Reading → G spec.Step) → ((s : Reading) (i : Input) (p : spec.Step) (j : Input) → Derives spec.Step (again s) i p j → Means e.room s.running p)
    → (s : Reading) (v : Option Verb) (i : Input) (p : spec.Step) (j : Input) → Derives spec.Step (spec.op_by e again s v) i p j → Means e.room s.running p
op_by_means e again means s None i p j d = absurd d
op_by_means e again means s (Some verb.Load) i p j d = load_means e s i p j d
op_by_means e again means s (Some verb.Unload) i p j d = unload_means e s i p j d
op_by_means e again means s (Some verb.Call) i p j d = call_means e s i p j d
op_by_means e again means s (Some verb.Cast) i p j d = cast_means e s i p j d
op_by_means e again means s (Some verb.Repeat) i p j d = means s i p j d

op_with_means : (e : Setting) (again : Reading → G spec.Step) → ((s : Reading) (i : Input) (p : spec.Step) (j : Input) → Derives spec.Step (again s) i p j → Means e.room s.running p)
    → (s : Reading) (i : Input) (p : spec.Step) (j : Input) → Derives spec.Step (spec.op_with e again s) i p j → Means e.room s.running p
unfolding spec.op_with
op_with_means e again means s i p j d = op_by_means e again means s (spec.verb_of d.0.class) d.1 p j d.3

deeper_means : (e : Setting) (deep : ℕ) (s : Reading) (i : Input) (p : spec.Step) (j : Input) → Derives spec.Step (spec.deeper e deep s) i p j → Means e.room s.running p
unfolding spec.deeper
deeper_means e zero s i p j d = absurd d
deeper_means e (suc deep) s i p j d = repeated_means e (spec.op_with e (spec.deeper e deep)) (op_with_means e (spec.deeper e deep) (deeper_means e deep)) s i p j d

-- ---- a lane

pub lane_means : MeansItsItems
unfolding spec.lane
lane_means e roots i b j d =
    let c = d.3.3.0 in
    let op = spec.op e spec.most_deep in
    let m = more_means e.room op (op_with_means e (spec.deeper e spec.most_deep) (deeper_means e spec.most_deep)) (spec.empty roots).lane.running (spec.empty roots) d.3.1 c d.3.3.1
    (nothing_means e.room (spec.empty roots).lane) d.3.3.2 in
    subst (MeansBody e.room (spec.empty roots).lane.running) d.3.3.3.3.0 m

-- an operation that is made comes last
once_ops : (room : ℕ) (w : Written) (s t : Running) → once room w s ≡ Ok t → t.ops ≡ s.ops ++ op_of w ∷ []
unfolding once
once_ops room w s t e = go (shown (word_of w) (begins room s)) (allowed w s.live) e
  where
    go : (a b : Result (Unit {0}) Refusal) → and_then a (λ _. and_then b (λ _. Ok (does w s))) ≡ Ok t → t.ops ≡ s.ops ++ op_of w ∷ []
    go (Err r) b e = absurd cc
    go (Ok x) (Err r) e = absurd cc
    go (Ok x) (Ok y) e =
        let same : does w s ≡ t = cc in
        sym (ap (λ (r : Running). r.ops) same)

makes_ops : (room : ℕ) (ws : List Written) (s t : Running) → makes room ws s ≡ Ok t → t.ops ≡ s.ops ++ map op_of ws
unfolding makes
makes_ops room [] s t e =
    let same : s ≡ t = cc in
    sym (ap (λ (r : Running). r.ops) same) ∙ sym (append-nil s.ops)
makes_ops room (w ∷ ws) s t e = go (λ u. makes_ops room ws u t) (once room w s) (once_ops room w s) e
  where
    go : ((u : Running) → makes room ws u ≡ Ok t → t.ops ≡ u.ops ++ map op_of ws) → (o : Result Running Refusal) → ((u : Running) → o ≡ Ok u → u.ops ≡ s.ops ++ op_of w ∷ [])
        → and_then o (makes room ws) ≡ Ok t → t.ops ≡ s.ops ++ op_of w ∷ map op_of ws
    go rest (Err r) first e = absurd cc
    go rest (Ok u) first e = rest u e ∙ ap (λ l. l ++ map op_of ws) (first u refl) ∙ append_assoc s.ops (op_of w ∷ []) (map op_of ws)

pub lane_ops : HasOpsOfItems
lane_ops e roots i b j d = makes_ops e.room (written_out b) (spec.empty roots).lane.running b.lane.running (lane_means e roots i b j d)
