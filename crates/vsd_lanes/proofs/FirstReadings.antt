-- An operation is read as it is made.
use Rattle.std.proofs.Common.{◌≡◌, ℕ, cond, List, length, position, Option, Some, None, Result, Ok, Err, refl, ap, sym, subst, ◌∙◌}
use Rattle.std.specs.Str.{bytes_eq}
use Rattle.vsd_terms.specs.declared.term.Term.{Term}
use Rattle.vsd_ast.specs.declared.scripts.Var.{Var}
use Rattle.vsd_ast.specs.declared.scripts.Var.TheVariants as var
use Rattle.vsd_grammar.specs.declared.cause.Cause.{Cause}
use Rattle.vsd_grammar.specs.declared.cause.Cause.TheVariants.{Unexpected}
use Rattle.vsd_grammar.specs.declared.syntax_error.SyntaxError.{SyntaxError}
use Rattle.vsd_grammar.specs.Input.{Input, Lookahead, lookahead_of, next}
use Rattle.vsd_grammar.specs.Grammar.{G, Outcome, ret, lookahead, bind, run, Derives, Decides, syntax_error, and_then}
use Rattle.vsd_grammar.specs.Productions.{checked, expect, spelled_name, then_pass}
use Rattle.vsd_grammar.proofs.Completeness.{complete}
use Rattle.vsd_grammar.proofs.Deciding.{anything, decides_expect, decides_spelled_name}
use Rattle.vsd_lanes.specs.declared.tree.Item.TheVariants.{Once}
use Rattle.vsd_lanes.specs.declared.tree.Running.{Running}
use Rattle.vsd_lanes.specs.declared.tree.Refusal.{Refusal}
use Rattle.vsd_lanes.specs.declared.tree.Written.{Written}
use Rattle.vsd_lanes.specs.declared.tree.Written.TheVariants as kind
use Rattle.vsd_lanes.specs.declared.reading.Reading.{Reading}
use Rattle.vsd_lanes.specs.declared.reading.Fresh.{Fresh}
use Rattle.vsd_lanes.specs.declared.reading.Own.{Own}
use Rattle.vsd_lanes.specs.declared.reading.Object.{Object}
use Rattle.vsd_lanes.specs.declared.reading.Role.{Role}
use Rattle.vsd_lanes.specs.declared.reading.Role.TheVariants as role
use Rattle.vsd_lanes.specs.FirstReading.{where_runs, IsReadSo, ReadsAsItMakes}
use Rattle.vsd_lanes.specs.Setting.{Setting, host_number}
use Rattle.vsd_lanes.specs.Meaning.{begins, fresh, known, castable, callable, shown, does, once}
use Rattle.vsd_lanes.specs.Meaning as meaning
use Rattle.vsd_lanes.specs.Types.{is_concrete}
use Rattle.vsd_lanes.specs.Variables.{number_in}
use Rattle.vsd_lanes.specs.Names as names
use Rattle.vsd_lanes.specs.Productions as spec
use Rattle.vsd_lanes.proofs.Deciding.{decides_assigned, decides_site_name}
use Rattle.vsd_lanes.proofs.Meant.{if_none_ok}

-- ---- readings part by part

ran : (A : Type 0) (g : G A) → Decides A g anything → (i : Input) (x : A) (j : Input) → Derives A g i x j → run A g i ≡ Ok (x, j)
ran A g c i x j d = complete A g anything i x j c d refl

ran_on : (A B : Type 0) (p : G A) (f : A → G B) (i : Input) (x : A) (k : Input) → run A p i ≡ Ok (x, k) → run B (bind A B p f) i ≡ run B (f x) k
ran_on A B p f i x k e = ap (λ o. and_then o (λ y m. run B (f y) m)) e

refused_on : (A B : Type 0) (p : G A) (f : A → G B) (i : Input) (r : SyntaxError) → run A p i ≡ Err r → run B (bind A B p f) i ≡ Err r
refused_on A B p f i r e = ap (λ o. and_then o (λ y m. run B (f y) m)) e

looked : (B : Type 0) (f : Lookahead → G B) (i : Input) (y : B) (j : Input) → Derives B (bind Lookahead B lookahead f) i y j → Derives B (f (lookahead_of i)) i y j
looked B f i y j d = subst (λ k. Derives B (f (lookahead_of i)) k y j) (sym d.2.1) (subst (λ h. Derives B (f h) d.1 y j) (sym d.2.0) d.3)

shown_then : (B : Type 0) (c : Option Cause) (g : G B) (i : Input) (y : B) (j : Input) → Derives B (bind (Unit {0}) B (names.shows c) (λ _. g)) i y j → (c ≡ None) × Derives B g i y j
shown_then B None g i y j d = (refl, subst (λ k. Derives B g k y j) (sym d.2.1) d.3)
shown_then B (Some cause) g i y j d = absurd d.2

checked_then : (A B : Type 0) (r : Result A Cause) (f : A → G B) (i : Input) (y : B) (j : Input) → Derives B (bind A B (checked A r) f) i y j → (x : A) × (r ≡ Ok x) × Derives B (f x) i y j
checked_then A B (Ok a) f i y j d = (a, refl, subst (λ k. Derives B (f a) k y j) (sym d.2.1) (subst (λ x. Derives B (f x) d.1 y j) (sym d.2.0) d.3))
checked_then A B (Err cause) f i y j d = absurd d.2

then_passed : (A : Type 0) (a : A) (i : Input) (x : A) (j : Input) → Derives A (then_pass A a) i x j → a ≡ x
then_passed A a i x j d = d.3.0

passed_any : (A B : Type 0) (a : A) (b : B) (i : Input) (x : A) (j : Input) → Derives A (then_pass A a) i x j → run B (then_pass B b) i ≡ Ok (b, j)
passed_any A B a b i x j d =
    ap (λ c. and_then (cond c (Err (syntax_error i Unexpected)) (Ok (tt, next i))) (λ u k. Ok (b, k))) d.2.0 ∙ ap (λ (k : Input). Ok (b, k)) (d.2.1 ∙ d.3.1)

name_stays : (i : Input) (name : List ℕ) (k : Input) → Derives (List ℕ) spelled_name i name k → i ≡ k
unfolding spelled_name
name_stays i name k d = d.2.1 ∙ go _ d.3
  where
    go : (r : Result (List ℕ) Cause) → Derives (List ℕ) (checked (List ℕ) r) d.1 name k → d.1 ≡ k
    go (Ok a) g = g.1
    go (Err cause) g = absurd g

-- the value after the token at hand, or its refusal
abbrev by_cause : {A : Type 0} → Input → A → Input → Option Cause → Outcome A
by_cause i x j None = Ok (x, j)
by_cause i x j (Some cause) = Err (syntax_error i cause)

shown_run : (A B : Type 0) (a : A) (b : B) (i : Input) (x : A) (j : Input) → Derives A (then_pass A a) i x j → (c : Option Cause)
    → run B (bind (Unit {0}) B (names.shows c) (λ _. then_pass B b)) i ≡ by_cause i b j c
shown_run A B a b i x j d None = passed_any A B a b i x j d
shown_run A B a b i x j d (Some cause) = refl

module _ (e : Setting) (s : Reading) (u : Running) where
  abbrev t : Reading
  t = where_runs s u

  begun_run : (i : Input) (n : ℕ) (j : Input) → Derives ℕ (names.begun e t) i n j → (i.at ≡ n) × (run ℕ (names.begun e s) i ≡ by_cause i n j (begins e.room s.running))
  unfolding names.begun
  begun_run i n j d =
      let rest = looked ℕ (λ h. bind (Unit {0}) ℕ (names.shows (begins e.room u)) (λ _. then_pass ℕ h.index)) i n j d in
      let pass = (shown_then ℕ (begins e.room u) (then_pass ℕ i.at) i n j rest).1 in
      let same = then_passed ℕ i.at i n j pass in
      (same, shown_run ℕ ℕ i.at i.at i n j pass (begins e.room s.running) ∙ ap (λ m. by_cause i m j (begins e.room s.running)) same)

  abbrev refreshed : Fresh → Fresh
  refreshed f = record f { lane = where_runs f.lane s.running }

  free : (host : Option ℕ) (c k : Option Cause) → names.fresh_cause_by host c ≡ None → names.fresh_cause_by host k ≡ k
  free (Some h) c k g = absurd cc
  free None c k g = refl

  fresh_run : (i : Input) (f : Fresh) (j : Input) → Derives Fresh (names.fresh_name e t) i f j
      → (i.at ≡ f.at) × (run Fresh (names.fresh_name e s) i ≡ by_cause i (refreshed f) j (fresh s.running.live f.variable))
  unfolding names.fresh_name
  fresh_run i f j d =
      let rest = looked Fresh (λ h. bind (List ℕ) Fresh spelled_name (λ name. bind (Unit {0}) Fresh (names.shows (names.fresh_cause e t name)) (λ _. then_pass Fresh (names.fresh_of t h.index name)))) i f j d in
      let name = rest.0 in
      let k = rest.1 in
      let both = shown_then Fresh (names.fresh_cause e t name) (then_pass Fresh (names.fresh_of t i.at name)) k f j rest.3 in
      let same = then_passed Fresh (names.fresh_of t i.at name) k f j both.1 in
      let cause = free (host_number e.hosts name) (fresh u.live (number_in s.variables name)) (fresh s.running.live (number_in s.variables name)) both.0 in
      let first = ran_on (List ℕ) Fresh spelled_name (λ n. bind (Unit {0}) Fresh (names.shows (names.fresh_cause e s n)) (λ _. then_pass Fresh (names.fresh_of s i.at n))) i name k
      (ran (List ℕ) spelled_name (decides_spelled_name anything) i name k rest.2) in
      let second = shown_run Fresh Fresh (names.fresh_of t i.at name) (names.fresh_of s i.at name) k f j both.1 (names.fresh_cause e s name) in
      let third = ap (by_cause k (names.fresh_of s i.at name) j) cause in
      let fourth = ap (λ (g : Fresh). by_cause k (refreshed g) j (fresh s.running.live g.variable)) same in
      let fifth = ap (λ m. by_cause m (refreshed f) j (fresh s.running.live f.variable)) (sym (name_stays i name k rest.2)) in
      (ap (λ (g : Fresh). g.at) same, first ∙ second ∙ third ∙ fourth ∙ fifth)

  -- a value that is the same but for a cause
  checked_run : (A B : Type 0) (a : A) (c : Option Cause) (b : A → B) (i : Input) (y : B) (j : Input) → Derives B (then_pass B (b a)) i y j
      → run B (bind A B (checked A (names.if_none a c)) (λ x. then_pass B (b x))) i ≡ by_cause i (b a) j c
  checked_run A B a None b i y j d = passed_any B B (b a) (b a) i y j d
  checked_run A B a (Some cause) b i y j d = refl

  own_same : (host v : Option ℕ) (n : ℕ) → names.own_by u host v ≡ Ok n → names.own_by s.running host v ≡ names.if_none n (known s.running.live n)
  own_same (Some h) v n g = absurd cc
  own_same None None n g = absurd cc
  own_same None (Some m) n g = ap (λ k. names.if_none k (known s.running.live k)) (if_none_ok m n (known u.live m) g).1

  own_run : (i : Input) (o : Own) (j : Input) → Derives Own (names.own_name e t) i o j → (i.at ≡ o.at) × (run Own (names.own_name e s) i ≡ by_cause i o j (known s.running.live o.variable))
  unfolding names.own_name
  own_run i o j d =
      let rest = looked Own (λ h. bind (List ℕ) Own spelled_name (λ name. bind ℕ Own (checked ℕ (names.own_of e t name)) (λ v. then_pass Own (record { at = h.index; variable = v })))) i o j d in
      let name = rest.0 in
      let k = rest.1 in
      let b : ℕ → Own = λ v. record { at = i.at; variable = v } in
      let ok = checked_then ℕ Own (names.own_of e t name) (λ v. then_pass Own (b v)) k o j rest.3 in
      let v = ok.0 in
      let same = then_passed Own (b v) k o j ok.2 in
      let is = own_same (host_number e.hosts name) (position (bytes_eq name) s.variables) v ok.1 in
      let first = ran_on (List ℕ) Own spelled_name (λ n. bind ℕ Own (checked ℕ (names.own_of e s n)) (λ w. then_pass Own (b w))) i name k
      (ran (List ℕ) spelled_name (decides_spelled_name anything) i name k rest.2) in
      let second = ap (λ (r : Result ℕ Cause). run Own (bind ℕ Own (checked ℕ r) (λ w. then_pass Own (b w))) k) is in
      let third = checked_run ℕ Own v (known s.running.live v) b k o j ok.2 in
      let fourth = ap (λ (q : Own). by_cause k q j (known s.running.live q.variable)) same in
      let fifth = ap (λ m. by_cause m o j (known s.running.live o.variable)) (sym (name_stays i name k rest.2)) in
      (ap (λ (q : Own). q.at) same, first ∙ second ∙ third ∙ fourth ∙ fifth)

  cause_same : (r : Role) (o : Var) → names.object_cause e t r o ≡ None → names.object_cause e s r o ≡ names.live_cause s.running r o
  cause_same role.Cast (var.Host h) g = refl
  cause_same role.Call (var.Host h) g = g
  cause_same r (var.Own v) g = refl

  object_same : (r : Role) (m : Option Var) (o : Var) → names.object_by e t r m ≡ Ok o → names.object_by e s r m ≡ names.if_none o (names.live_cause s.running r o)
  object_same r None o g = absurd cc
  object_same r (Some p) o g =
      let both = if_none_ok p o (names.object_cause e t r p) g in
      ap (names.if_none p) (cause_same r p both.0) ∙ ap (λ q. names.if_none q (names.live_cause s.running r q)) both.1

  object_run : (r : Role) (i : Input) (o : Object) (j : Input) → Derives Object (names.object_name e t r) i o j
      → (i.at ≡ o.at) × (run Object (names.object_name e s r) i ≡ by_cause i o j (names.live_cause s.running r o.object))
  unfolding names.object_name
  object_run r i o j d =
      let rest = looked Object (λ h. bind (List ℕ) Object spelled_name (λ name. bind Var Object (checked Var (names.object_of e t r name)) (λ v. then_pass Object (record { at = h.index; object = v })))) i o j d in
      let name = rest.0 in
      let k = rest.1 in
      let b : Var → Object = λ v. record { at = i.at; object = v } in
      let ok = checked_then Var Object (names.object_of e t r name) (λ v. then_pass Object (b v)) k o j rest.3 in
      let v = ok.0 in
      let same = then_passed Object (b v) k o j ok.2 in
      let is = object_same r (names.meant e s name) v ok.1 in
      let first = ran_on (List ℕ) Object spelled_name (λ n. bind Var Object (checked Var (names.object_of e s r n)) (λ w. then_pass Object (b w))) i name k
      (ran (List ℕ) spelled_name (decides_spelled_name anything) i name k rest.2) in
      let second = ap (λ (x : Result Var Cause). run Object (bind Var Object (checked Var x) (λ w. then_pass Object (b w))) k) is in
      let third = checked_run Var Object v (names.live_cause s.running r v) b k o j ok.2 in
      let fourth = ap (λ (q : Object). by_cause k q j (names.live_cause s.running r q.object)) same in
      let fifth = ap (λ m. by_cause m o j (names.live_cause s.running r o.object)) (sym (name_stays i name k rest.2)) in
      (ap (λ (q : Object). q.at) same, first ∙ second ∙ third ∙ fourth ∙ fifth)

  -- ---- the end of an operation

  -- the token at hand is refused, at its index
  refused_at : {A : Type 0} (i : Input) (n : ℕ) (cause : Cause) → i.at ≡ n → ◌≡◌ {A = Outcome A} (Err (syntax_error i cause)) (Err (record { at = n; by = n; cause = cause }))
  refused_at {A} i n cause e = ap (λ (m : ℕ). Err (record { at = m; by = m; cause = cause })) e

  ended_run : (w : Written) (i : Input) (p : spec.Step) (j : Input) → Derives spec.Step (spec.ended t w) i p j
      → (p.1 ≡ Once w) × (run spec.Step (spec.ended s w) i ≡ Ok ((where_runs p.0 (does w s.running), p.1), j))
  ended_run w i p j d =
      let semicolon = ran (Unit {0}) (expect spec.semicolon) (decides_expect spec.semicolon anything) i d.0 d.1 d.2 in
      let same : spec.performed t w ≡ p = d.3.0 in
      let first = ran_on (Unit {0}) spec.Step (expect spec.semicolon) (λ _. ret spec.Step (spec.performed s w)) i d.0 d.1 semicolon in
      (sym (ap (λ (q : spec.Step). q.1) same), first ∙ ap (λ (q : spec.Step). Ok ((where_runs q.0 (does w s.running), q.1), d.1)) same ∙ ap (λ (k : Input). Ok ((where_runs p.0 (does w s.running), p.1), k)) d.3.1)

  -- ---- an operation part by part

  part_still : (A : Type 0) (first : G A) (f : A → G spec.Step) (x : A) (i k : Input) (p : spec.Step) (j : Input) (rest : Result Running Refusal) → run A first i ≡ Ok (x, k)
      → IsReadSo (f x) k p j rest → IsReadSo (bind A spec.Step first f) i p j rest
  part_still A first f x i k p j (Ok made) r h = ran_on A spec.Step first f i x k r ∙ h
  part_still A first f x i k p j (Err q) r h = ran_on A spec.Step first f i x k r ∙ h

  part_run : (A : Type 0) (first : G A) (f : A → G spec.Step) (x : A) (i k : Input) (p : spec.Step) (j : Input) (at : ℕ) (c : Option Cause) (rest : Result Running Refusal)
      → (i.at ≡ at) × (run A first i ≡ by_cause i x k c) → IsReadSo (f x) k p j rest → IsReadSo (bind A spec.Step first f) i p j (meaning.and_then (shown at c) (λ _. rest))
  part_run A first f x i k p j at None rest r h = part_still A first f x i k p j rest r.1 h
  part_run A first f x i k p j at (Some cause) rest r h = refused_on A spec.Step first f i (syntax_error i cause) r.1 ∙ refused_at i at cause r.0

  unload_as_made : (i : Input) (p : spec.Step) (j : Input) → Derives spec.Step (spec.unload e t) i p j → (w : Written) × (p.1 ≡ Once w) × IsReadSo (spec.unload e s) i p j (once e.room w s.running)
  unfolding spec.unload once
  unload_as_made i p j d =
      let o = d.3.0 in
      let w = kind.Unload d.0 o.at o.variable in
      let end = ended_run w d.3.1 p j d.3.3 in
      let made : Result Running Refusal = Ok (does w s.running) in
      let named = part_run Own (names.own_name e s) (λ q. spec.ended s (kind.Unload d.0 q.at q.variable)) o d.1 d.3.1 p j o.at (known s.running.live o.variable) made (own_run d.1 o d.3.1 d.3.2) end.1 in (
        w,
        end.0,
        part_run ℕ (names.begun e s) (λ word. bind Own spec.Step (names.own_name e s) (λ q. spec.ended s (kind.Unload word q.at q.variable))) d.0 i d.1 p j d.0 (begins e.room s.running)
            (meaning.and_then (shown o.at (known s.running.live o.variable)) (λ _. made)) (begun_run i d.0 d.1 d.2) named,
      )

  load_as_made : (i : Input) (p : spec.Step) (j : Input) → Derives spec.Step (spec.load e t) i p j → (w : Written) × (p.1 ≡ Once w) × IsReadSo (spec.load e s) i p j (once e.room w s.running)
  unfolding spec.load once
  load_as_made i p j d =
      let f = d.3.0 in
      let term = d.3.3.0 in
      let w = kind.Load d.0 f.at f.variable (length f.lane.roots) (is_concrete e.decls.list term) in
      let same : spec.loaded e d.0 f term ≡ p = d.3.3.3.0 in
      let made : Result Running Refusal = Ok (does w s.running) in
      let read = ran_on Term spec.Step (spec.assigned e.decls) (λ x. ret spec.Step (spec.loaded e d.0 (refreshed f) x)) d.3.1 term d.3.3.1
      (ran Term (spec.assigned e.decls) (decides_assigned e.decls anything) d.3.1 term d.3.3.1 d.3.3.2) in
      let end = read ∙ ap (λ (q : spec.Step). Ok ((where_runs q.0 (does w s.running), q.1), d.3.3.1)) same ∙ ap (λ (k : Input). Ok ((where_runs p.0 (does w s.running), p.1), k)) d.3.3.3.1 in
      let named = part_run Fresh (names.fresh_name e s) (λ g. bind Term spec.Step (spec.assigned e.decls) (λ x. ret spec.Step (spec.loaded e d.0 g x))) (refreshed f) d.1 d.3.1 p j f.at
      (fresh s.running.live f.variable) made (fresh_run d.1 f d.3.1 d.3.2) end in (
        w,
        sym (ap (λ (q : spec.Step). q.1) same),
        part_run ℕ (names.begun e s) (λ word. bind Fresh spec.Step (names.fresh_name e s) (λ g. bind Term spec.Step (spec.assigned e.decls) (λ x. ret spec.Step (spec.loaded e word g x))))
            d.0 i d.1 p j d.0 (begins e.room s.running) (meaning.and_then (shown f.at (fresh s.running.live f.variable)) (λ _. made)) (begun_run i d.0 d.1 d.2) named,
      )

  call_as_made : (i : Input) (p : spec.Step) (j : Input) → Derives spec.Step (spec.call e t) i p j → (w : Written) × (p.1 ≡ Once w) × IsReadSo (spec.call e s) i p j (once e.room w s.running)
  unfolding spec.call once
  call_as_made i p j d =
      let site = d.3.0 in
      let o = d.3.3.0 in
      let w = kind.Call d.0 site o.at o.object in
      let end = ended_run w d.3.3.1 p j d.3.3.3 in
      let made : Result Running Refusal = Ok (does w s.running) in
      let cause = callable s.running.live o.object in
      let named = part_run Object (names.object_name e s role.Call) (λ q. spec.ended s (kind.Call d.0 site q.at q.object)) o d.3.1 d.3.3.1 p j o.at cause made (object_run role.Call d.3.1 o d.3.3.1 d.3.3.2) end.1 in
      let sited = part_still ℕ (names.site_name e) (λ n. bind Object spec.Step (names.object_name e s role.Call) (λ q. spec.ended s (kind.Call d.0 n q.at q.object))) site d.1 d.3.1 p j
      (meaning.and_then (shown o.at cause) (λ _. made)) (ran ℕ (names.site_name e) (decides_site_name e anything) d.1 site d.3.1 d.3.2) named in (
        w,
        end.0,
        part_run ℕ (names.begun e s) (λ word. bind ℕ spec.Step (names.site_name e) (λ n. bind Object spec.Step (names.object_name e s role.Call) (λ q. spec.ended s (kind.Call word n q.at q.object))))
            d.0 i d.1 p j d.0 (begins e.room s.running) (meaning.and_then (shown o.at cause) (λ _. made)) (begun_run i d.0 d.1 d.2) sited,
      )

  both_shown : (a b : Result (Unit {0}) Refusal) (made : Result Running Refusal) → meaning.and_then a (λ _. meaning.and_then b (λ _. made)) ≡ meaning.and_then (meaning.and_then a (λ _. b)) (λ _. made)
  both_shown (Ok x) b made = refl
  both_shown (Err r) b made = refl

  cast_as_made : (i : Input) (p : spec.Step) (j : Input) → Derives spec.Step (spec.cast e t) i p j → (w : Written) × (p.1 ≡ Once w) × IsReadSo (spec.cast e s) i p j (once e.room w s.running)
  unfolding spec.cast once
  cast_as_made i p j d =
      let o = d.3.0 in
      let q = d.3.3.0 in
      let w = kind.Cast d.0 o.at o.object q.at q.object in
      let end = ended_run w d.3.3.1 p j d.3.3.3 in
      let made : Result Running Refusal = Ok (does w s.running) in
      let source = shown o.at (castable s.running.live o.object) in
      let target = shown q.at (castable s.running.live q.object) in
      let second = part_run Object (names.object_name e s role.Cast) (λ y. spec.ended s (kind.Cast d.0 o.at o.object y.at y.object)) q d.3.1 d.3.3.1 p j q.at (castable s.running.live q.object) made
      (object_run role.Cast d.3.1 q d.3.3.1 d.3.3.2) end.1 in
      let first = part_run Object (names.object_name e s role.Cast) (λ x. bind Object spec.Step (names.object_name e s role.Cast) (λ y. spec.ended s (kind.Cast d.0 x.at x.object y.at y.object))) o d.1 d.3.1 p j o.at
      (castable s.running.live o.object) (meaning.and_then target (λ _. made)) (object_run role.Cast d.1 o d.3.1 d.3.2) second in
      let operation : ℕ → G spec.Step = λ word. bind Object spec.Step (names.object_name e s role.Cast) (λ x. bind Object spec.Step (names.object_name e s role.Cast) (λ y. spec.ended s (kind.Cast word x.at x.object y.at y.object))) in
      let joined = subst (IsReadSo (operation d.0) d.1 p j) (both_shown source target made) first in
      (w, end.0, part_run ℕ (names.begun e s) operation d.0 i d.1 p j d.0 (begins e.room s.running) (meaning.and_then (meaning.and_then source (λ _. target)) (λ _. made)) (begun_run i d.0 d.1 d.2) joined)

pub loads_as_made : ReadsAsItMakes spec.load
loads_as_made e s u i p j d = load_as_made e s u i p j d

pub unloads_as_made : ReadsAsItMakes spec.unload
unloads_as_made e s u i p j d = unload_as_made e s u i p j d

pub calls_as_made : ReadsAsItMakes spec.call
calls_as_made e s u i p j d = call_as_made e s u i p j d

pub casts_as_made : ReadsAsItMakes spec.cast
casts_as_made e s u i p j d = cast_as_made e s u i p j d
