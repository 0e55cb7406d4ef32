-- What a written type is: its names and parameters are in range, it has few levels, and each of its nodes was counted.
use Rattle.std.proofs.Common.{◌≡◌, ℕ, zero, suc, ◌+◌, ◌<◌, ◌≤◌, max, sum, map, Bool, true, false, cond, ltb, List, [], ◌∷◌, length, Option, Some, None, Result, Ok, Err, refl, ap, sym, subst, ◌∙◌, arith}
use Rattle.std.proofs.Math.Nat.{max-le}
use Rattle.std.proofs.lemmas.Bool.{ltb-true}
use Rattle.std.proofs.lemmas.List.Sums.{sum-map, sum_by-cons}
use Rattle.vsd_terms.specs.declared.term.Term.{Term}
use Rattle.vsd_terms.specs.declared.term.Term.TheVariants as term
use Rattle.vsd_terms.specs.declared.term.Term.TheVariants.{rolls-Named, rolls-Param, rolls-Builtin}
use Rattle.vsd_terms.specs.declared.term.Term.TheOpen as layer
use Rattle.vsd_terms.specs.declared.term.Term.TheFolds.{fold-roll-Term}
use Rattle.vsd_terms.specs.declared.term.Builtin.{Builtin}
use Rattle.vsd_terms.specs.Size.{greatest, levels_of, levels_step, nodes_of, nodes_step}
use Rattle.vsd_terms.specs.Substitution.{parameters_of}
use Rattle.vsd_terms.specs.Text.{names_of, names_step}
use Rattle.vsd_terms.proofs.SizeLemmas.{levels_of-Named, levels_of-Param, nodes_of-Named}
use Rattle.vsd_terms.proofs.SubstitutionLemmas.{parameters_of-Named, parameters_of-Param, parameters_of-Builtin}
use Rattle.vsd_grammar.specs.declared.cause.Cause.{Cause}
use Rattle.vsd_grammar.specs.declared.cause.Cause.TheVariants.{TooDeep}
use Rattle.vsd_grammar.specs.declared.cause.Form.{Form}
use Rattle.vsd_grammar.specs.declared.token_class.TokenClass.{TokenClass}
use Rattle.vsd_grammar.specs.Input.{Input, State, Lookahead, same_class, next}
use Rattle.vsd_grammar.specs.Grammar.{G, ret, bind, pass, count, Derives, Items, MoreItems}
use Rattle.vsd_grammar.specs.Productions.{node, node_at, node_counted, with_nodes, then_pass, name, is_name, no_nodes}
use Rattle.vsd_grammar.proofs.Behaving.{causes_expect, causes_must_see, causes_spelled_name, causes_name}
use Rattle.vsd_type_syntax.specs.declared.starts.Start.{Start}
use Rattle.vsd_type_syntax.specs.declared.starts.Start.TheVariants as start
use Rattle.vsd_type_syntax.specs.declared.starts.Special.{Special}
use Rattle.vsd_type_syntax.specs.declared.starts.Special.TheVariants as special
use Rattle.vsd_type_syntax.specs.Starts.{start_at, unsigned_of, special_of, suffix_of}
use Rattle.vsd_type_syntax.specs.Types as spec
use Rattle.vsd_decls.proofs.Quiet.{Quiet, quiet, quiet_here, quiet_on, IsQuiet, quiet_by}

-- ---- the folds on each form of term

names_of-Named : (name : ℕ) (args : List Term) → names_of (term.Named name args) ≡ max (name + 1) (greatest (map names_of args))
names_of-Named name args = ap names_of (sym (rolls-Named name args)) ∙ fold-roll-Term ℕ names_step (layer.Named name args)

names_of-Param : (place : ℕ) → names_of (term.Param place) ≡ 0
names_of-Param place = ap names_of (sym (rolls-Param place)) ∙ fold-roll-Term ℕ names_step (layer.Param place)

names_of-Builtin : (b : Builtin) → names_of (term.Builtin b) ≡ 0
names_of-Builtin b = ap names_of (sym (rolls-Builtin b)) ∙ fold-roll-Term ℕ names_step (layer.Builtin b)

nodes_of-Param : (place : ℕ) → nodes_of (term.Param place) ≡ 1
nodes_of-Param place = ap nodes_of (sym (rolls-Param place)) ∙ fold-roll-Term ℕ nodes_step (layer.Param place)

nodes_of-Builtin : (b : Builtin) → nodes_of (term.Builtin b) ≡ 1
nodes_of-Builtin b = ap nodes_of (sym (rolls-Builtin b)) ∙ fold-roll-Term ℕ nodes_step (layer.Builtin b)

levels_of-Builtin : (b : Builtin) → levels_of (term.Builtin b) ≡ 1
levels_of-Builtin b = ap levels_of (sym (rolls-Builtin b)) ∙ fold-roll-Term ℕ levels_step (layer.Builtin b)

-- ---- a node is counted

-- one more node, of at most 64
record Counted (s u : State) : Type 0 where
  nodes : u.nodes ≡ s.nodes + 1
  full : u.nodes ≤ 64
  names : length s.names ≤ length u.names

counted_on : (s v u : State) → Counted s v → Quiet v u → Counted s u
counted_on s v u c q = record { nodes = q.nodes ∙ c.nodes; full = let a = c.full in let b = q.nodes in omega (arith, a, b); names = omega (arith, c.names, q.names) }

counts : {A : Type 0} (s u : State) (x : A) (y : A) → s.nodes < 64 → ◌≡◌ {A = Result (A × State) Cause} (Ok (x, with_nodes s (s.nodes + 1))) (Ok (y, u)) → Counted s u
counts {A} s u x y few e =
    let p : ◌≡◌ {A = A × State} (x, with_nodes s (s.nodes + 1)) (y, u) = cc in
    let same : with_nodes s (s.nodes + 1) ≡ u = ap (λ t. t.1) p in
    subst (Counted s) same (record { nodes = refl; full = omega (arith, few); names = omega arith })

node_counts : (i : Input) (x : Unit {0}) (j : Input) → Derives (Unit {0}) node i x j → Counted i.state j.state
unfolding node
node_counts i x j d = subst (λ k. Counted i.state k.state) d.2 (go (ltb i.state.nodes 64) refl d.1)
  where
    go : (b : Bool) → ltb i.state.nodes 64 ≡ b → cond {A = Result (Unit {0} × State) Cause} b (Ok (tt, with_nodes i.state (i.state.nodes + 1))) (Err TooDeep) ≡ Ok (x, d.0) → Counted i.state d.0
    go true f e = counts i.state d.0 tt x (ltb-true i.state.nodes 64 f) e
    go false f e = absurd cc

node_at_counts : (index : ℕ) (i : Input) (x : Unit {0}) (j : Input) → Derives (Unit {0}) (node_at index) i x j → Counted i.state j.state
unfolding node_at
node_at_counts index i x j d = go (ltb i.state.nodes 64) d.0 refl d.2.1 d.3
  where
    go : (b r : Bool) → ltb i.state.nodes 64 ≡ b → cond {A = Result (Bool × State) Cause} b (Ok (true, with_nodes i.state (i.state.nodes + 1))) (Ok (false, i.state)) ≡ Ok (r, d.2.0)
        → Derives (Unit {0}) (node_counted index r) d.1 x j → Counted i.state j.state
    go true true f e g = subst (λ k. Counted i.state k.state) (d.2.2 ∙ g.1) (counts i.state d.2.0 true true (ltb-true i.state.nodes 64 f) e)
    go true false f e g = absurd g
    go false true f e g = let p : ◌≡◌ {A = Bool × State} (false, i.state) (true, d.2.0) = cc in let q : false ≡ true = ap (λ t. t.0) p in absurd cc
    go false false f e g = absurd g

-- ---- what a reading of types gives

-- the rules number names and know parameters, of which there are so many
pub record NumbersWell (params : ℕ) (rules : spec.Rules) : Type 0 where
  pub number : (bytes : List ℕ) (s u : State) (n : ℕ) → rules.resolve bytes s ≡ Ok (n, u) → (u.nodes ≡ s.nodes) × (length s.names ≤ length u.names) × (n < length u.names)
  pub place : (q : TokenClass) (bytes : List ℕ) (n : ℕ) → rules.parameter q bytes ≡ Some n → n < params

-- From the counts s to the counts u a term is read with at most so many levels below its own. Where there are no more
-- than `most` names then, its own are among them, if H holds.
pub record Formed (most params room : ℕ) (H : Type 0) (s : State) (t : Term) (u : State) : Type 0 where
  pub nodes : u.nodes ≡ s.nodes + nodes_of t
  pub full : s.nodes ≤ 64 → u.nodes ≤ 64
  pub names : length u.names ≤ most → (length s.names ≤ most) × (H → names_of t ≤ most)
  pub bound : parameters_of t ≤ params
  pub levels : levels_of t ≤ suc room

-- the same of a list of terms
record AllFormed (most params room : ℕ) (s : State) (ts : List Term) (u : State) : Type 0 where
  nodes : u.nodes ≡ s.nodes + sum (map nodes_of ts)
  full : s.nodes ≤ 64 → u.nodes ≤ 64
  names : length u.names ≤ most → (length s.names ≤ most) × (greatest (map names_of ts) ≤ most)
  bound : greatest (map parameters_of ts) ≤ params
  levels : greatest (map levels_of ts) ≤ suc room

module _ (most params : ℕ) where
  -- the production gives such terms
  pub record Forms (room : ℕ) (H : Type 0) (g : G Term) : Type 0 where
    pub reads : (i : Input) (x : Term) (j : Input) → Derives Term g i x j → Formed most params room H i.state x j.state

  -- the production gives this term, and counts nothing
  record Same (t : Term) (g : G Term) : Type 0 where
    same : (i : Input) (x : Term) (j : Input) → Derives Term g i x j → (t ≡ x) × Quiet i.state j.state

  before : {room : ℕ} {H : Type 0} (s v : State) (t : Term) (u : State) → Quiet s v → Formed most params room H v t u → Formed most params room H s t u
  before s v t u q f = record {
    nodes = omega (arith, f.nodes, q.nodes);
    full = λ h. f.full (omega (arith, h, q.nodes));
    names = λ few. let r = f.names few in (omega (arith, r.0, q.names), r.1);
    bound = f.bound;
    levels = f.levels;
  }

  after : {room : ℕ} {H : Type 0} (s : State) (t : Term) (v u : State) → Formed most params room H s t v → Quiet v u → Formed most params room H s t u
  after s t v u f q = record {
    nodes = omega (arith, f.nodes, q.nodes);
    full = λ h. let r = f.full h in omega (arith, r, q.nodes);
    names = λ few. f.names (omega (arith, few, q.names));
    bound = f.bound;
    levels = f.levels;
  }

  forms_quiet : {room : ℕ} {H : Type 0} {A : Type 0} {p : G A} {f : A → G Term} → IsQuiet A p → ((x : A) → Forms room H (f x)) → Forms room H (bind A Term p f)
  forms_quiet {A = A} {p = p} b h = record { reads = λ i x j d. before i.state d.1.state x j.state (quiet_by A p b i d.0 d.1 d.2) ((h d.0).reads d.1 x j d.3) }

  forms_then : {room : ℕ} {H : Type 0} {p : G Term} {f : Term → G Term} → Forms room H p → ((t : Term) → Same t (f t)) → Forms room H (bind Term Term p f)
  forms_then {room} {H} h s = record {
    reads = λ i x j d.
        let e = (s d.0).same d.1 x j d.3 in
        subst (λ t. Formed most params room H i.state t j.state) e.0 (after i.state d.0 d.1.state j.state (h.reads i d.0 d.1 d.2) e.1);
  }

  same_quiet : {t : Term} {A : Type 0} {p : G A} {f : A → G Term} → IsQuiet A p → ((x : A) → Same t (f x)) → Same t (bind A Term p f)
  same_quiet {A = A} {p = p} b h = record { same = λ i x j d. let e = (h d.0).same d.1 x j d.3 in (e.0, quiet_on i.state d.1.state j.state (quiet_by A p b i d.0 d.1 d.2) e.1) }

  same_ret : (t : Term) → Same t (ret Term t)
  same_ret t = record { same = λ i x j d. (d.0, subst (λ k. Quiet i.state k.state) d.1 (quiet_here i.state)) }

  same_pass : (t : Term) → Same t (then_pass Term t)
  same_pass t = same_quiet refl (λ _. same_ret t)

  -- a term of one node
  leaf : (room : ℕ) (H : Type 0) (t : Term) (s u : State) → nodes_of t ≡ 1 → (H → names_of t ≤ most) → parameters_of t ≤ params → levels_of t ≡ 1 → Counted s u → Formed most params room H s t u
  leaf room H t s u n m p l c = record {
    nodes = omega (arith, c.nodes, n);
    full = λ h. c.full;
    names = λ few. (omega (arith, few, c.names), m);
    bound = p;
    levels = omega (arith, l);
  }

  -- a node, and then what gives a term of one node
  leaf_then : (room : ℕ) (H : Type 0) (t : Term) (p : G (Unit {0})) (g : G Term) → ((i : Input) (x : Unit {0}) (j : Input) → Derives (Unit {0}) p i x j → Counted i.state j.state)
      → Same t g → nodes_of t ≡ 1 → (H → names_of t ≤ most) → parameters_of t ≤ params → levels_of t ≡ 1 → Forms room H (bind (Unit {0}) Term p (λ _. g))
  leaf_then room H t p g c s n m b l = record {
    reads = λ i x j d.
        let e = s.same d.1 x j d.3 in
        subst (λ y. Formed most params room H i.state y j.state) e.0 (after i.state t d.1.state j.state (leaf room H t i.state d.1.state n m b l (c i d.0 d.1 d.2)) e.1);
  }

  none : (n : ℕ) → n ≡ 0 → n ≤ most
  none n e = omega (arith, e)

  builtin_word_forms : (room : ℕ) (H : Type 0) (b : Builtin) → Forms room H (spec.builtin_word b)
  unfolding spec.builtin_word
  builtin_word_forms room H b = leaf_then room H (term.Builtin b) node (then_pass Term (term.Builtin b)) node_counts (same_pass (term.Builtin b)) (nodes_of-Builtin b)
      (λ _. none (names_of (term.Builtin b)) (names_of-Builtin b)) (let e = parameters_of-Builtin b in omega (arith, e)) (levels_of-Builtin b)

  unnested_same : (t : Term) → Same t (spec.unnested t)
  unfolding spec.unnested
  unnested_same t = same_quiet tt (λ g. same_quiet (go (same_class spec.slash g.class)) (λ _. same_ret t))
    where
      go : (b : Bool) → IsQuiet (Unit {0}) (spec.not_nested b)
      go true = refl
      go false = tt

  builtin_name_forms : (room : ℕ) (H : Type 0) (b : Builtin) → Forms room H (spec.builtin_name b)
  unfolding spec.builtin_name
  builtin_name_forms room H b = forms_then (builtin_word_forms room H b) unnested_same

  unsigned_forms : (room : ℕ) (H : Type 0) → Forms room H spec.unsigned
  unfolding spec.unsigned
  unsigned_forms room H = forms_quiet refl (λ _. forms_quiet tt (λ g. go (unsigned_of g.class)))
    where
      go : (o : Option Builtin) → Forms room H (spec.unsigned_by o)
      go None = record { reads = λ i x j d. absurd d }
      go (Some b) = builtin_word_forms room H b

  module _ (rules : spec.Rules) (w : NumbersWell params rules) where
    parameter_forms : (room : ℕ) (H : Type 0) → Forms room H (spec.parameter rules)
    unfolding spec.parameter
    parameter_forms room H = go rules.has_parameters
      where
        by : (o : Option ℕ) → ((n : ℕ) → o ≡ Some n → n < params) → Forms room H (spec.parameter_by o)
        by None h = record { reads = λ i x j d. absurd d }
        by (Some place) h = leaf_then room H (term.Param place) node (then_pass Term (term.Param place)) node_counts (same_pass (term.Param place)) (nodes_of-Param place)
            (λ _. none (names_of (term.Param place)) (names_of-Param place)) (let e = parameters_of-Param place in let lt = h place refl in omega (arith, e, lt)) (levels_of-Param place)

        at : (g : Lookahead) (b : Bool) → Forms room H (spec.parameter_at rules b g)
        at g true = record { reads = λ i x j d. absurd d }
        at g false = by (rules.parameter g.class g.bytes) (w.place g.class g.bytes)

        go : (b : Bool) → Forms room H (spec.parameter_if rules b)
        go false = record { reads = λ i x j d. absurd d }
        go true = forms_quiet refl (λ _. forms_quiet tt (λ g. at g (same_class spec.bang g.class)))

    shown_at_quiet : (index : ℕ) (c : Option Cause) → IsQuiet (Unit {0}) (spec.shown_at index c)
    shown_at_quiet index None = tt
    shown_at_quiet index (Some cause) = refl

    module _ (room : ℕ) (more : ℕ → ℕ → G Term) (m : (index number : ℕ) → Forms room (number < most) (more index number)) where
      bare_forms : (index number : ℕ) → Forms room (number < most) (spec.bare rules index number)
      unfolding spec.bare
      bare_forms index number = forms_quiet (shown_at_quiet index (rules.arity number 0)) (λ _.
          leaf_then room (number < most) (term.Named number []) (node_at index) (spec.unnested (term.Named number [])) (node_at_counts index) (unnested_same (term.Named number []))
          (nodes_of-Named number []) (λ lt. let e = names_of-Named number [] in omega (arith, e, lt)) (let e = parameters_of-Named number [] in omega (arith, e)) (levels_of-Named number []))

      after_name_forms : (index number : ℕ) → Forms room (number < most) (spec.after_name rules more index number)
      unfolding spec.after_name
      after_name_forms index number = forms_quiet tt (λ g. go (same_class spec.less g.class))
        where
          go : (b : Bool) → Forms room (number < most) (spec.after_name_by rules more index number b)
          go true = m index number
          go false = bare_forms index number

      numbered_forms : (H : Type 0) (bytes : List ℕ) (index : ℕ) → Forms room H (bind ℕ Term (count ℕ (rules.resolve bytes)) (λ number. bind (Unit {0}) Term pass (λ _. spec.after_name rules more index number)))
      numbered_forms H bytes index = record { reads = go }
        where
          known : (s v u : State) (t : Term) (n : ℕ) → (v.nodes ≡ s.nodes) × (length s.names ≤ length v.names) × (n < length v.names) → Formed most params room (n < most) v t u → Formed most params room H s t u
          known s v u t n w f = record {
            nodes = let a = f.nodes in let b = w.0 in omega (arith, a, b);
            full = λ h. f.full (let b = w.0 in omega (arith, b, h));
            names = λ few. let r = f.names few in (omega (arith, r.0, w.1), λ _. r.1 (omega (arith, r.0, w.2)));
            bound = f.bound;
            levels = f.levels;
          }

          go : (i : Input) (x : Term) (j : Input) → Derives Term (bind ℕ Term (count ℕ (rules.resolve bytes)) (λ number. bind (Unit {0}) Term pass (λ _. spec.after_name rules more index number))) i x j → Formed most params room H i.state x j.state
          go i x j d =
              let f : Formed most params room (d.0 < most) d.1.state x j.state = (forms_quiet {p = pass} {f = λ _. spec.after_name rules more index d.0} refl (λ _. after_name_forms index d.0)).reads d.1 x j d.3 in
              known i.state d.2.0 j.state x d.0 (w.number bytes i.state d.2.0 d.0 d.2.1) (subst (λ s. Formed most params room (d.0 < most) s x j.state) (sym (ap (λ k. k.state) d.2.2)) f)

      resolved_forms : (H : Type 0) (index : ℕ) → Forms room H (spec.resolved_name rules more index)
      unfolding spec.resolved_name
      resolved_forms H index = forms_quiet (causes_spelled_name _ quiet refl refl) (λ bytes. numbered_forms H bytes index)

      named_forms : (H : Type 0) (scoped : Bool) → Forms room H (spec.named rules more scoped)
      unfolding spec.named
      named_forms H scoped = forms_quiet tt (λ h. go h (is_name h.class))
        where
          other : (b : Bool) (h : Lookahead) → Forms room H (spec.other_name rules more b h)
          other true h = record { reads = λ i x j d. absurd d }
          other false h = resolved_forms H h.index

          by : (h : Lookahead) (s : Special) → Forms room H (spec.named_by rules more scoped h s)
          by h (special.Builtin b) = builtin_name_forms room H b
          by h (special.Refused f) = record { reads = λ i x j d. absurd d }
          by h special.Nothing = other scoped h

          go : (h : Lookahead) (b : Bool) → Forms room H (spec.named_if rules more scoped h b)
          go h false = record { reads = λ i x j d. absurd d }
          go h true = by h (special_of h.bytes)

      bracketed_forms : (H : Type 0) → Forms room H (spec.bracketed rules more)
      unfolding spec.bracketed
      bracketed_forms H = forms_quiet (causes_name _ quiet refl refl) (λ n. forms_quiet (causes_expect _ quiet refl spec.right_bracket) (λ _. named_forms H true))

      scoped_forms : (H : Type 0) → Forms room H (spec.scoped rules more)
      unfolding spec.scoped
      scoped_forms H = forms_quiet refl (λ _. bracketed_forms H)

      keyworded_forms : (H : Type 0) → Forms room H (spec.keyworded rules more)
      unfolding spec.keyworded
      keyworded_forms H = forms_quiet refl (λ _. forms_quiet tt (λ g. go (same_class spec.left_bracket g.class)))
        where
          go : (b : Bool) → Forms room H (spec.keyworded_by rules more b)
          go true = scoped_forms H
          go false = named_forms H false

      started_forms : (H : Type 0) (s : Start) → Forms room H (spec.started rules more s)
      started_forms H start.Parameter = parameter_forms room H
      started_forms H start.Keyworded = keyworded_forms H
      started_forms H start.Scope = scoped_forms H
      started_forms H (start.Builtin b) = builtin_word_forms room H b
      started_forms H start.Unsigned = unsigned_forms room H
      started_forms H start.Name = named_forms H false
      started_forms H (start.Refused cause) = record { reads = λ i x j d. absurd d }

      suffixed_same : (t : Term) → Same t (spec.suffixed t)
      unfolding spec.suffixed
      suffixed_same t = same_quiet tt (λ g. go (suffix_of g.class))
        where
          go : (f : Option Form) → Same t (spec.suffixed_by t f)
          go None = same_ret t
          go (Some f) = record { same = λ i x j d. absurd d }

      type_by_forms : (H : Type 0) (only_named : Bool) → Forms room H (spec.type_by rules more only_named)
      unfolding spec.type_by
      type_by_forms H only_named = forms_quiet tt (λ h. forms_then (started_forms H (start_at only_named h.class)) suffixed_same)

      rest_forms : (H : Type 0) → Forms room H (bind Term Term (spec.bracketed rules more) spec.suffixed)
      rest_forms H = forms_then (bracketed_forms H) suffixed_same

    -- ---- lists of types

    joined : (room : ℕ) (s v u : State) (x : Term) (xs : List Term) → Formed most params room (Unit {0}) s x v → AllFormed most params room v xs u → AllFormed most params room s (x ∷ xs) u
    joined room s v u x xs f g = record {
      nodes = let a = f.nodes in let b = g.nodes in let c : sum (map nodes_of (x ∷ xs)) ≡ nodes_of x + sum (map nodes_of xs) = sum-map nodes_of (x ∷ xs) ∙ sum_by-cons nodes_of x xs ∙ ap (λ n. nodes_of x + n) (sym (sum-map nodes_of xs)) in omega (arith, a, b, c);
      full = λ h. g.full (f.full h);
      names = λ few. let r = g.names few in let q = f.names r.0 in (q.0, max-le (q.1 tt) r.1);
      bound = max-le f.bound g.bound;
      levels = max-le f.levels g.levels;
    }

    more_formed : (room : ℕ) (p : G Term) → Forms room (Unit {0}) p → (xs : List Term) (i j : Input) → MoreItems (Derives Term p) xs i j → AllFormed most params room i.state xs j.state
    more_formed room p h [] i j d = subst (λ k. AllFormed most params room i.state [] k.state) d (record { nodes = let z : sum (map nodes_of []) ≡ 0 = refl in omega (arith, z); full = λ f. f; names = λ few. (few, omega arith); bound = omega arith; levels = omega arith })
    more_formed room p h (x ∷ xs) i j d = joined room i.state d.1.state j.state x xs (h.reads (next i) x d.1 d.2) (more_formed room p h xs d.1 j d.3)

    all_formed : (room : ℕ) (p : G Term) → Forms room (Unit {0}) p → (xs : List Term) (i j : Input) → Items (Derives Term p) xs i j → AllFormed most params room i.state xs j.state
    all_formed room p h [] i j d = absurd d
    all_formed room p h (x ∷ xs) i j d = joined room i.state d.0.state j.state x xs (h.reads i x d.0 d.1) (more_formed room p h xs d.0 j d.2)

    closed_same : (index number : ℕ) (args : List Term) → Same (term.Named number args) (spec.closed rules index number args)
    unfolding spec.closed
    closed_same index number args = same_quiet (causes_must_see _ quiet refl spec.greater) (λ _.
        same_quiet (shown_at_quiet index (rules.arity number (length args))) (λ _. same_pass (term.Named number args)))

    with_args : (room number : ℕ) (args : List Term) (s v u : State) → Counted s v → AllFormed most params room v args u → Formed most params (suc room) (number < most) s (term.Named number args) u
    with_args room number args s v u c f = record {
      nodes = let a = nodes_of-Named number args in let b = f.nodes in let e = c.nodes in omega (arith, a, b, e);
      full = λ h. f.full c.full;
      names = λ few. let r = f.names few in (let e = c.names in omega (arith, r.0, e), λ lt. subst (λ n. n ≤ most) (sym (names_of-Named number args)) (max-le (omega (arith, lt)) r.1));
      bound = subst (λ n. n ≤ params) (sym (parameters_of-Named number args)) f.bound;
      levels = let a = levels_of-Named number args in let b = f.levels in omega (arith, a, b);
    }

    arguments_form : (room : ℕ) (argument : G Term) → Forms room (Unit {0}) argument → (index number : ℕ) → Forms (suc room) (number < most) (spec.arguments rules argument index number)
    unfolding spec.arguments
    arguments_form room argument h index number = record {
      reads = λ i x j d.
          let c = node_at_counts index i d.0 d.1 d.2 in
          let q = quiet_by (Unit {0}) pass refl d.1 d.3.0 d.3.1 d.3.2 in
          let args = d.3.3.0 in
          let f = all_formed room argument h args d.3.1 d.3.3.1 d.3.3.2.1 in
          let e = (closed_same index number args).same d.3.3.1 x j d.3.3.3 in
          let whole = with_args room number args i.state d.3.1.state d.3.3.1.state (counted_on i.state d.1.state d.3.1.state c q) f in
          subst (λ t. Formed most params (suc room) (number < most) i.state t j.state) e.0 (after i.state (term.Named number args) d.3.3.1.state j.state whole e.1);
    }

    none_form : (room : ℕ) (index number : ℕ) → Forms room (number < most) (spec.no_arguments index number)
    unfolding spec.no_arguments
    none_form room index number = record { reads = λ i x j d. absurd d.3 }

    type_forms : (room : ℕ) (only_named : Bool) → Forms room (Unit {0}) (spec.type_of rules room only_named)
    unfolding spec.type_of
    type_forms zero only_named = type_by_forms zero spec.no_arguments (none_form zero) (Unit {0}) only_named
    type_forms (suc room) only_named = type_by_forms (suc room) (spec.arguments rules (spec.type_of rules room false)) (arguments_form room (spec.type_of rules room false) (type_forms room false)) (Unit {0}) only_named

    -- the counts where a term begins
    no_nodes_from : (i : Input) (x : Unit {0}) (j : Input) → Derives (Unit {0}) no_nodes i x j → (j.state.nodes ≡ 0) × (length i.state.names ≤ length j.state.names)
    unfolding no_nodes
    no_nodes_from i x j d = subst (λ k. (k.state.nodes ≡ 0) × (length i.state.names ≤ length k.state.names)) d.2 (subst (λ s. (s.nodes ≡ 0) × (length i.state.names ≤ length s.names)) same (refl, omega arith))
      where
        same : with_nodes i.state 0 ≡ d.0
        same = let p : ◌≡◌ {A = Unit {0} × State} (tt, with_nodes i.state 0) (x, d.0) = cc in ap (λ t. t.1) p

    -- what a written term is, where there are so many names after it
    abbrev pub Written : State → Term → State → Type 0
    Written s t u = length u.names ≤ most → (length s.names ≤ most) × (names_of t ≤ most) × (parameters_of t ≤ params) × (levels_of t ≤ 16) × (nodes_of t ≤ 64)

    written_from : (s v u : State) (t : Term) → (v.nodes ≡ 0) × (length s.names ≤ length v.names) → Formed most params 15 (Unit {0}) v t u → Written s t u
    written_from s v u t z f few =
        let r = f.names few in
        let a = f.nodes in
        let b = f.full (let e = z.0 in omega (arith, e)) in
        let e = z.0 in
        (omega (arith, r.0, z.1), r.1 tt, f.bound, f.levels, omega (arith, a, b, e))

    pub written_forms : (only_named : Bool) (i : Input) (x : Term) (j : Input) → Derives Term (spec.written rules only_named) i x j → Written i.state x j.state
    unfolding spec.written
    written_forms only_named i x j d = written_from i.state d.1.state j.state x (no_nodes_from i d.0 d.1 d.2) ((type_forms 15 only_named).reads d.1 x j d.3)

    pub rest_forms_written : (i : Input) (x : Term) (j : Input) → Derives Term (spec.written_rest rules) i x j → Written i.state x j.state
    unfolding spec.written_rest
    rest_forms_written i x j d = written_from i.state d.1.state j.state x (no_nodes_from i d.0 d.1 d.2)
        ((rest_forms 15 (spec.arguments rules (spec.type_of rules 14 false)) (arguments_form 14 (spec.type_of rules 14 false) (type_forms 14 false)) (Unit {0})).reads d.1 x j d.3)
