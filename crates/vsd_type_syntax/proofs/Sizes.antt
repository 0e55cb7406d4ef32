-- A written type has few levels, and each of its nodes was counted.
use Rattle.std.proofs.Common.{◌≡◌, ℕ, zero, suc, ◌+◌, ◌<◌, ◌≤◌, sum, map, Bool, true, false, cond, eqb, ltb, List, [], ◌∷◌, length, Option, Some, None, Result, Ok, Err, refl, ap, sym, subst, ◌∙◌, arith}
use Rattle.std.proofs.Math.Nat.{max-le}
use Rattle.std.proofs.lemmas.Bool.{ltb-true, eqb-true, eq-eqb}
use Rattle.std.proofs.lemmas.List.Sums.{sum-map, sum_by-cons}
use Rattle.vsd_terms.specs.declared.term.Term.{Term}
use Rattle.vsd_terms.specs.declared.term.Term.TheVariants as term
use Rattle.vsd_terms.specs.declared.term.Term.TheVariants.{rolls-Builtin}
use Rattle.vsd_terms.specs.declared.term.Term.TheOpen as layer
use Rattle.vsd_terms.specs.declared.term.Term.TheFolds.{fold-roll-Term}
use Rattle.vsd_terms.specs.declared.term.Term.TheVariants.{rolls-Param}
use Rattle.vsd_terms.specs.declared.term.Builtin.{Builtin}
use Rattle.vsd_terms.specs.Size.{greatest, levels_of, levels_step, nodes_of, nodes_step}
use Rattle.vsd_terms.proofs.SizeLemmas.{levels_of-Named, levels_of-Param, nodes_of-Named}
use Rattle.vsd_grammar.specs.declared.cause.Cause.{Cause}
use Rattle.vsd_grammar.specs.declared.cause.Cause.TheVariants.{TooDeep}
use Rattle.vsd_grammar.specs.declared.cause.Form.{Form}
use Rattle.vsd_grammar.specs.Input.{Input, State, Lookahead, same_class, next}
use Rattle.vsd_grammar.specs.Grammar.{G, ret, bind, pass, count, Derives, Items, MoreItems}
use Rattle.vsd_grammar.specs.Productions.{node, node_at, node_counted, with_nodes, then_pass, is_name, no_nodes}
use Rattle.vsd_grammar.specs.Laws.{Behaves, any_cause}
use Rattle.vsd_grammar.proofs.Counts.{keeps_to}
use Rattle.vsd_grammar.proofs.Behaving.{causes_expect, causes_must_see, causes_spelled_name, causes_name}
use Rattle.vsd_type_syntax.specs.declared.starts.Start.{Start}
use Rattle.vsd_type_syntax.specs.declared.starts.Start.TheVariants as start
use Rattle.vsd_type_syntax.specs.declared.starts.Special.{Special}
use Rattle.vsd_type_syntax.specs.declared.starts.Special.TheVariants as special
use Rattle.vsd_type_syntax.specs.Starts.{start_at, unsigned_of, special_of, suffix_of}
use Rattle.vsd_type_syntax.specs.Types as spec
use Rattle.vsd_type_syntax.specs.Limits.{CountsNoNodes, IsSmall, KeepsLimits}

-- ---- the folds on the forms of term without arguments

nodes_of-Param : (place : ℕ) → nodes_of (term.Param place) ≡ 1
nodes_of-Param place = ap nodes_of (sym (rolls-Param place)) ∙ fold-roll-Term ℕ nodes_step (layer.Param place)

nodes_of-Builtin : (b : Builtin) → nodes_of (term.Builtin b) ≡ 1
nodes_of-Builtin b = ap nodes_of (sym (rolls-Builtin b)) ∙ fold-roll-Term ℕ nodes_step (layer.Builtin b)

levels_of-Builtin : (b : Builtin) → levels_of (term.Builtin b) ≡ 1
levels_of-Builtin b = ap levels_of (sym (rolls-Builtin b)) ∙ fold-roll-Term ℕ levels_step (layer.Builtin b)

-- ---- productions that count no nodes

abbrev as_many : State → State → Bool
as_many s t = eqb t.nodes s.nodes

abbrev IsStill : (A : Type 0) → G A → Type 0
IsStill A g = Behaves any_cause as_many A g

still_by : (A : Type 0) (g : G A) → IsStill A g → (i : Input) (x : A) (j : Input) → Derives A g i x j → j.state.nodes ≡ i.state.nodes
still_by A g b i x j d = eqb-true j.state.nodes i.state.nodes
    (keeps_to any_cause as_many (λ s. eq-eqb s.nodes s.nodes refl)
    (λ s t u h k. eq-eqb u.nodes s.nodes (eqb-true u.nodes t.nodes k ∙ eqb-true t.nodes s.nodes h)) A g i x j b d)

-- ---- a node is counted

-- one more node, of at most 64
record Counted (s u : State) : Type 0 where
  nodes : u.nodes ≡ s.nodes + 1
  full : u.nodes ≤ 64

counts : {A : Type 0} (s u : State) (x : A) (y : A) → s.nodes < 64 → ◌≡◌ {A = Result (A × State) Cause} (Ok (x, with_nodes s (s.nodes + 1))) (Ok (y, u)) → Counted s u
counts {A} s u x y few e =
    let p : ◌≡◌ {A = A × State} (x, with_nodes s (s.nodes + 1)) (y, u) = cc in
    let same : with_nodes s (s.nodes + 1) ≡ u = ap (λ t. t.1) p in
    subst (Counted s) same (record { nodes = refl; full = omega (arith, few) })

node_counts : (i : Input) (x : Unit {0}) (j : Input) → Derives (Unit {0}) node i x j → Counted i.state j.state
unfolding node
node_counts i x j d = subst (λ k. Counted i.state k.state) d.2 (go (ltb i.state.nodes 64) refl d.1)
  where
    go : (b : Bool) → ltb i.state.nodes 64 ≡ b → cond {A = Result (Unit {0} × State) Cause} b (Ok (tt, with_nodes i.state (i.state.nodes + 1))) (Err TooDeep) ≡ Ok (x, d.0) → Counted i.state d.0
    go true f e = counts i.state d.0 tt x (ltb-true i.state.nodes 64 f) e
    go false f e = absurd cc

node_at_counts : (index : ℕ) (i : Input) (x : Unit {0}) (j : Input) → Derives (Unit {0}) (node_at index) i x j → Counted i.state j.state
unfolding node_at
node_at_counts index i x j d = go (ltb i.state.nodes 64) d.0 refl d.2.1 d.3
  where
    go : (b r : Bool) → ltb i.state.nodes 64 ≡ b → cond {A = Result (Bool × State) Cause} b (Ok (true, with_nodes i.state (i.state.nodes + 1))) (Ok (false, i.state)) ≡ Ok (r, d.2.0)
        → Derives (Unit {0}) (node_counted index r) d.1 x j → Counted i.state j.state
    go true true f e g = subst (λ k. Counted i.state k.state) (d.2.2 ∙ g.1) (counts i.state d.2.0 true true (ltb-true i.state.nodes 64 f) e)
    go true false f e g = absurd g
    go false true f e g = let p : ◌≡◌ {A = Bool × State} (false, i.state) (true, d.2.0) = cc in let q : false ≡ true = ap (λ t. t.0) p in absurd cc
    go false false f e g = absurd g

-- ---- what a reading of types gives

-- From the counts s to the counts u a term is read with at most so many levels below its own.
record Sized (room : ℕ) (s : State) (t : Term) (u : State) : Type 0 where
  nodes : u.nodes ≡ s.nodes + nodes_of t
  full : s.nodes ≤ 64 → u.nodes ≤ 64
  levels : levels_of t ≤ suc room

-- the same of a list of terms
record AllSized (room : ℕ) (s : State) (ts : List Term) (u : State) : Type 0 where
  nodes : u.nodes ≡ s.nodes + sum (map nodes_of ts)
  full : s.nodes ≤ 64 → u.nodes ≤ 64
  levels : greatest (map levels_of ts) ≤ suc room

-- the production gives such terms
record Sizes (room : ℕ) (g : G Term) : Type 0 where
  reads : (i : Input) (x : Term) (j : Input) → Derives Term g i x j → Sized room i.state x j.state

-- the production gives this term, and counts nothing
record Same (t : Term) (g : G Term) : Type 0 where
  same : (i : Input) (x : Term) (j : Input) → Derives Term g i x j → (t ≡ x) × (j.state.nodes ≡ i.state.nodes)

before : {room : ℕ} (s v : State) (t : Term) (u : State) → v.nodes ≡ s.nodes → Sized room v t u → Sized room s t u
before s v t u q f = record { nodes = omega (arith, f.nodes, q); full = λ h. f.full (omega (arith, h, q)); levels = f.levels }

after : {room : ℕ} (s : State) (t : Term) (v u : State) → Sized room s t v → u.nodes ≡ v.nodes → Sized room s t u
after s t v u f q = record { nodes = omega (arith, f.nodes, q); full = λ h. let r = f.full h in omega (arith, r, q); levels = f.levels }

sizes_still : {room : ℕ} {A : Type 0} {p : G A} {f : A → G Term} → IsStill A p → ((x : A) → Sizes room (f x)) → Sizes room (bind A Term p f)
sizes_still {A = A} {p = p} b h = record { reads = λ i x j d. before i.state d.1.state x j.state (still_by A p b i d.0 d.1 d.2) ((h d.0).reads d.1 x j d.3) }

sizes_then : {room : ℕ} {p : G Term} {f : Term → G Term} → Sizes room p → ((t : Term) → Same t (f t)) → Sizes room (bind Term Term p f)
sizes_then {room} h s = record {
  reads = λ i x j d.
      let e = (s d.0).same d.1 x j d.3 in
      subst (λ t. Sized room i.state t j.state) e.0 (after i.state d.0 d.1.state j.state (h.reads i d.0 d.1 d.2) e.1);
}

same_still : {t : Term} {A : Type 0} {p : G A} {f : A → G Term} → IsStill A p → ((x : A) → Same t (f x)) → Same t (bind A Term p f)
same_still {A = A} {p = p} b h = record { same = λ i x j d. let e = (h d.0).same d.1 x j d.3 in (e.0, e.1 ∙ still_by A p b i d.0 d.1 d.2) }

same_ret : (t : Term) → Same t (ret Term t)
same_ret t = record { same = λ i x j d. (d.0, ap (λ k. k.state.nodes) (sym d.1)) }

same_pass : (t : Term) → Same t (then_pass Term t)
same_pass t = same_still refl (λ _. same_ret t)

-- a node, and then what gives a term of one node
leaf_then : (room : ℕ) (t : Term) (p : G (Unit {0})) (g : G Term) → ((i : Input) (x : Unit {0}) (j : Input) → Derives (Unit {0}) p i x j → Counted i.state j.state)
    → Same t g → nodes_of t ≡ 1 → levels_of t ≡ 1 → Sizes room (bind (Unit {0}) Term p (λ _. g))
leaf_then room t p g c s n l = record {
  reads = λ i x j d.
      let e = s.same d.1 x j d.3 in
      subst (λ y. Sized room i.state y j.state) e.0 (after i.state t d.1.state j.state (leaf i.state d.1.state (c i d.0 d.1 d.2)) e.1);
}
  where
    leaf : (s u : State) → Counted s u → Sized room s t u
    leaf s u k = record { nodes = let a = k.nodes in omega (arith, a, n); full = λ h. k.full; levels = omega (arith, l) }

builtin_word_sizes : (room : ℕ) (b : Builtin) → Sizes room (spec.builtin_word b)
unfolding spec.builtin_word
builtin_word_sizes room b =
    leaf_then room (term.Builtin b) node (then_pass Term (term.Builtin b)) node_counts (same_pass (term.Builtin b)) (nodes_of-Builtin b) (levels_of-Builtin b)

unnested_same : (t : Term) → Same t (spec.unnested t)
unfolding spec.unnested
unnested_same t = same_still tt (λ g. same_still (go (same_class spec.slash g.class)) (λ _. same_ret t))
  where
    go : (b : Bool) → IsStill (Unit {0}) (spec.not_nested b)
    go true = refl
    go false = tt

builtin_name_sizes : (room : ℕ) (b : Builtin) → Sizes room (spec.builtin_name b)
unfolding spec.builtin_name
builtin_name_sizes room b = sizes_then (builtin_word_sizes room b) unnested_same

unsigned_sizes : (room : ℕ) → Sizes room spec.unsigned
unfolding spec.unsigned
unsigned_sizes room = sizes_still refl (λ _. sizes_still tt (λ g. go (unsigned_of g.class)))
  where
    go : (o : Option Builtin) → Sizes room (spec.unsigned_by o)
    go None = record { reads = λ i x j d. absurd d }
    go (Some b) = builtin_word_sizes room b

module _ (rules : spec.Rules) (w : CountsNoNodes rules) where
  parameter_sizes : (room : ℕ) → Sizes room (spec.parameter rules)
  unfolding spec.parameter
  parameter_sizes room = go rules.has_parameters
    where
      by : (o : Option ℕ) → Sizes room (spec.parameter_by o)
      by None = record { reads = λ i x j d. absurd d }
      by (Some place) =
          leaf_then room (term.Param place) node (then_pass Term (term.Param place)) node_counts (same_pass (term.Param place)) (nodes_of-Param place) (levels_of-Param place)

      at : (g : Lookahead) (b : Bool) → Sizes room (spec.parameter_at rules b g)
      at g true = record { reads = λ i x j d. absurd d }
      at g false = by (rules.parameter g.class g.bytes)

      go : (b : Bool) → Sizes room (spec.parameter_if rules b)
      go false = record { reads = λ i x j d. absurd d }
      go true = sizes_still refl (λ _. sizes_still tt (λ g. at g (same_class spec.bang g.class)))

  shown_at_still : (index : ℕ) (c : Option Cause) → IsStill (Unit {0}) (spec.shown_at index c)
  shown_at_still index None = tt
  shown_at_still index (Some cause) = refl

  -- ---- named types, where `more` reads what follows a `<`

  module _ (room : ℕ) (more : ℕ → ℕ → G Term) (m : (index number : ℕ) → Sizes room (more index number)) where
    bare_sizes : (index number : ℕ) → Sizes room (spec.bare rules index number)
    unfolding spec.bare
    bare_sizes index number = sizes_still (shown_at_still index (rules.arity number 0)) (λ _.
        leaf_then room (term.Named number []) (node_at index) (spec.unnested (term.Named number [])) (node_at_counts index) (unnested_same (term.Named number []))
        (nodes_of-Named number []) (levels_of-Named number []))

    after_name_sizes : (index number : ℕ) → Sizes room (spec.after_name rules more index number)
    unfolding spec.after_name
    after_name_sizes index number = sizes_still tt (λ g. go (same_class spec.less g.class))
      where
        go : (b : Bool) → Sizes room (spec.after_name_by rules more index number b)
        go true = m index number
        go false = bare_sizes index number

    numbered_sizes : (bytes : List ℕ) (index : ℕ) → Sizes room (bind ℕ Term (count ℕ (rules.resolve bytes)) (λ number. bind (Unit {0}) Term pass (λ _. spec.after_name rules more index number)))
    numbered_sizes bytes index = record {
      reads = λ i x j d.
          let f = (sizes_still {p = pass} {f = λ _. spec.after_name rules more index d.0} refl (λ _. after_name_sizes index d.0)).reads d.1 x j d.3 in
          before i.state d.1.state x j.state (ap (λ k. k.state.nodes) (sym d.2.2) ∙ w bytes i.state d.2.0 d.0 d.2.1) f;
    }

    resolved_sizes : (index : ℕ) → Sizes room (spec.resolved_name rules more index)
    unfolding spec.resolved_name
    resolved_sizes index = sizes_still (causes_spelled_name _ as_many refl refl) (λ bytes. numbered_sizes bytes index)

    named_sizes : (scoped : Bool) → Sizes room (spec.named rules more scoped)
    unfolding spec.named
    named_sizes scoped = sizes_still tt (λ h. go h (is_name h.class))
      where
        other : (b : Bool) (h : Lookahead) → Sizes room (spec.other_name rules more b h)
        other true h = record { reads = λ i x j d. absurd d }
        other false h = resolved_sizes h.index

        by : (h : Lookahead) (s : Special) → Sizes room (spec.named_by rules more scoped h s)
        by h (special.Builtin b) = builtin_name_sizes room b
        by h (special.Refused f) = record { reads = λ i x j d. absurd d }
        by h special.Nothing = other scoped h

        go : (h : Lookahead) (b : Bool) → Sizes room (spec.named_if rules more scoped h b)
        go h false = record { reads = λ i x j d. absurd d }
        go h true = by h (special_of h.bytes)

    bracketed_sizes : Sizes room (spec.bracketed rules more)
    unfolding spec.bracketed
    bracketed_sizes = sizes_still (causes_name _ as_many refl refl) (λ n. sizes_still (causes_expect _ as_many refl spec.right_bracket) (λ _. named_sizes true))

    scoped_sizes : Sizes room (spec.scoped rules more)
    unfolding spec.scoped
    scoped_sizes = sizes_still refl (λ _. bracketed_sizes)

    keyworded_sizes : Sizes room (spec.keyworded rules more)
    unfolding spec.keyworded
    keyworded_sizes = sizes_still refl (λ _. sizes_still tt (λ g. go (same_class spec.left_bracket g.class)))
      where
        go : (b : Bool) → Sizes room (spec.keyworded_by rules more b)
        go true = scoped_sizes
        go false = named_sizes false

    started_sizes : (s : Start) → Sizes room (spec.started rules more s)
    started_sizes start.Parameter = parameter_sizes room
    started_sizes start.Keyworded = keyworded_sizes
    started_sizes start.Scope = scoped_sizes
    started_sizes (start.Builtin b) = builtin_word_sizes room b
    started_sizes start.Unsigned = unsigned_sizes room
    started_sizes start.Name = named_sizes false
    started_sizes (start.Refused cause) = record { reads = λ i x j d. absurd d }

  suffixed_by_same : (t : Term) (f : Option Form) → Same t (spec.suffixed_by t f)
  suffixed_by_same t None = same_ret t
  suffixed_by_same t (Some f) = record { same = λ i x j d. absurd d }

  suffixed_same : (t : Term) → Same t (spec.suffixed t)
  unfolding spec.suffixed
  suffixed_same t = same_still tt (λ g. suffixed_by_same t (suffix_of g.class))

  open_same : (t : Term) → Same t (spec.suffixed_open t)
  unfolding spec.suffixed_open
  open_same t = same_still tt (λ g. suffixed_by_same t (spec.open_suffix_by (same_class spec.left_bracket g.class) g.class))

  type_by_sizes : (room : ℕ) (more : ℕ → ℕ → G Term) → ((index number : ℕ) → Sizes room (more index number)) → (only_named : Bool) → Sizes room (spec.type_by rules more only_named)
  unfolding spec.type_by
  type_by_sizes room more m only_named = sizes_still tt (λ h. sizes_then (started_sizes room more m (start_at only_named h.class)) suffixed_same)

  -- ---- lists of types

  joined : (room : ℕ) (s v u : State) (x : Term) (xs : List Term) → Sized room s x v → AllSized room v xs u → AllSized room s (x ∷ xs) u
  joined room s v u x xs f g = record {
    nodes = let a = f.nodes in let b = g.nodes in
        let c : sum (map nodes_of (x ∷ xs)) ≡ nodes_of x + sum (map nodes_of xs) = sum-map nodes_of (x ∷ xs) ∙ sum_by-cons nodes_of x xs ∙ ap (λ n. nodes_of x + n) (sym (sum-map nodes_of xs)) in
        omega (arith, a, b, c);
    full = λ h. g.full (f.full h);
    levels = max-le f.levels g.levels;
  }

  more_sized : (room : ℕ) (p : G Term) → Sizes room p → (xs : List Term) (i j : Input) → MoreItems (Derives Term p) xs i j → AllSized room i.state xs j.state
  more_sized room p h [] i j d =
      subst (λ k. AllSized room i.state [] k.state) d (record { nodes = let z : sum (map nodes_of []) ≡ 0 = refl in omega (arith, z); full = λ f. f; levels = omega arith })
  more_sized room p h (x ∷ xs) i j d = joined room i.state d.1.state j.state x xs (h.reads (next i) x d.1 d.2) (more_sized room p h xs d.1 j d.3)

  all_sized : (room : ℕ) (p : G Term) → Sizes room p → (xs : List Term) (i j : Input) → Items (Derives Term p) xs i j → AllSized room i.state xs j.state
  all_sized room p h [] i j d = absurd d
  all_sized room p h (x ∷ xs) i j d = joined room i.state d.0.state j.state x xs (h.reads i x d.0 d.1) (more_sized room p h xs d.0 j d.2)

  closed_same : (index number : ℕ) (args : List Term) → Same (term.Named number args) (spec.closed rules index number args)
  unfolding spec.closed
  closed_same index number args = same_still (causes_must_see _ as_many refl spec.greater) (λ _.
      same_still (shown_at_still index (rules.arity number (length args))) (λ _. same_pass (term.Named number args)))

  with_args : (room number : ℕ) (args : List Term) (s v u : State) → Counted s v → AllSized room v args u → Sized (suc room) s (term.Named number args) u
  with_args room number args s v u c f = record {
    nodes = let a = nodes_of-Named number args in let b = f.nodes in let e = c.nodes in omega (arith, a, b, e);
    full = λ h. f.full c.full;
    levels = let a = levels_of-Named number args in let b = f.levels in omega (arith, a, b);
  }

  counted_on : (s v u : State) → Counted s v → u.nodes ≡ v.nodes → Counted s u
  counted_on s v u c q = record { nodes = q ∙ c.nodes; full = let a = c.full in omega (arith, a, q) }

  arguments_size : (room : ℕ) (argument : G Term) → Sizes room argument → (index number : ℕ) → Sizes (suc room) (spec.arguments rules argument index number)
  unfolding spec.arguments
  arguments_size room argument h index number = record {
    reads = λ i x j d.
        let c = node_at_counts index i d.0 d.1 d.2 in
        let q = still_by (Unit {0}) pass refl d.1 d.3.0 d.3.1 d.3.2 in
        let args = d.3.3.0 in
        let f = all_sized room argument h args d.3.1 d.3.3.1 d.3.3.2.1 in
        let e = (closed_same index number args).same d.3.3.1 x j d.3.3.3 in
        let whole = with_args room number args i.state d.3.1.state d.3.3.1.state (counted_on i.state d.1.state d.3.1.state c q) f in
        subst (λ t. Sized (suc room) i.state t j.state) e.0 (after i.state (term.Named number args) d.3.3.1.state j.state whole e.1);
  }

  none_size : (room : ℕ) (index number : ℕ) → Sizes room (spec.no_arguments index number)
  unfolding spec.no_arguments
  none_size room index number = record { reads = λ i x j d. absurd d.3 }

  type_sizes : (room : ℕ) (only_named : Bool) → Sizes room (spec.type_of rules room only_named)
  unfolding spec.type_of
  type_sizes zero only_named = type_by_sizes zero spec.no_arguments (none_size zero) only_named
  type_sizes (suc room) only_named =
      type_by_sizes (suc room) (spec.arguments rules (spec.type_of rules room false)) (arguments_size room (spec.type_of rules room false) (type_sizes room false)) only_named

  -- ---- written terms

  -- what stands after a `<` on the outermost level
  more_size : (index number : ℕ) → Sizes 15 (spec.more_of rules (Some 14) index number)
  more_size = arguments_size 14 (spec.type_of rules 14 false) (type_sizes 14 false)

  outermost_size : Sizes 15 (spec.outermost rules)
  unfolding spec.outermost
  outermost_size = sizes_still tt (λ h. started_sizes 15 (spec.more_of rules (Some 14)) more_size (start_at false h.class))

  -- the counts where a term begins
  no_nodes_from : (i : Input) (x : Unit {0}) (j : Input) → Derives (Unit {0}) no_nodes i x j → j.state.nodes ≡ 0
  unfolding no_nodes
  no_nodes_from i x j d = sym (ap (λ k. k.state.nodes) d.2) ∙ sym (ap (λ (s : State). s.nodes) same)
    where
      same : with_nodes i.state 0 ≡ d.0
      same = let p : ◌≡◌ {A = Unit {0} × State} (tt, with_nodes i.state 0) (x, d.0) = cc in ap (λ t. t.1) p

  small_from : (v u : State) (t : Term) → v.nodes ≡ 0 → Sized 15 v t u → IsSmall t
  small_from v u t z f =
      let a = f.nodes in
      let b = f.full (omega (arith, z)) in
      record { levels = f.levels; nodes = omega (arith, a, b, z) }

  small_by : (g : G Term) → Sizes 15 g → (i : Input) (x : Term) (j : Input) → Derives Term (bind (Unit {0}) Term no_nodes (λ _. g)) i x j → IsSmall x
  small_by g s i x j d = small_from d.1.state j.state x (no_nodes_from i d.0 d.1 d.2) (s.reads d.1 x j d.3)

pub written_small : (rules : spec.Rules) → CountsNoNodes rules → (only_named : Bool) → KeepsLimits (spec.written rules only_named)
unfolding spec.written
written_small rules w only_named = small_by rules w (spec.type_of rules 15 only_named) (type_sizes rules w 15 only_named)

pub rest_small : (rules : spec.Rules) → CountsNoNodes rules → KeepsLimits (spec.written_rest rules)
unfolding spec.written_rest
rest_small rules w = small_by rules w (bind Term Term (spec.bracketed rules (spec.more_of rules (Some 14))) spec.suffixed)
    (sizes_then (bracketed_sizes rules w 15 (spec.more_of rules (Some 14)) (more_size rules w)) (suffixed_same rules w))

pub open_small : (rules : spec.Rules) → CountsNoNodes rules → KeepsLimits (spec.written_open rules)
unfolding spec.written_open
open_small rules w = small_by rules w (bind Term Term (spec.outermost rules) spec.suffixed_open) (sizes_then (outermost_size rules w) (open_same rules w))
