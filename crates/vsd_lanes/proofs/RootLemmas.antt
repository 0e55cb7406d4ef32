-- A term of a script is closed, and each of its names is declared, with as many arguments as its declaration has parameters.
use Rattle.std.proofs.Common.{◌≡◌, ℕ, zero, suc, max, map, Bool, true, false, cond, ◌&&◌, eqb, IsTrue, List, [], ◌∷◌, length, position, Option, Some, None, Ok, refl, ap, sym, subst, ◌∙◌}
use Rattle.std.specs.Str.{bytes_eq}
use Rattle.std.proofs.lemmas.Bool.{and_from}
use Rattle.std.proofs.lemmas.List.{length-map}
use Rattle.vsd_terms.specs.declared.term.Term.{Term}
use Rattle.vsd_terms.specs.declared.term.Term.TheVariants as term
use Rattle.vsd_terms.specs.declared.term.Term.TheVariants.{rolls-Named, rolls-Builtin}
use Rattle.vsd_terms.specs.declared.term.Term.TheOpen as layer
use Rattle.vsd_terms.specs.declared.term.Term.TheFolds.{fold-roll-Term}
use Rattle.vsd_terms.specs.declared.term.Builtin.{Builtin}
use Rattle.vsd_terms.specs.Size.{greatest}
use Rattle.vsd_terms.specs.Substitution.{parameters_of}
use Rattle.vsd_terms.proofs.SubstitutionLemmas.{parameters_of-Named, parameters_of-Builtin}
use Rattle.vsd_ast.specs.declared.declarations.Decl.{Decl}
use Rattle.vsd_ast.specs.declared.declarations.Decls.{Decls}
use Rattle.vsd_ast.specs.Lookup.{declared, takes, all_true, is_lawful, lawful_step}
use Rattle.vsd_grammar.specs.declared.cause.Cause.{Cause}
use Rattle.vsd_grammar.specs.declared.cause.Cause.TheVariants.{Arity}
use Rattle.vsd_grammar.specs.declared.cause.Form.{Form}
use Rattle.vsd_grammar.specs.Input.{Input, State, same_class, next}
use Rattle.vsd_grammar.specs.Grammar.{G, Derives, Items, MoreItems}
use Rattle.vsd_grammar.specs.Productions.{is_name}
use Rattle.vsd_type_syntax.specs.declared.starts.Start.{Start}
use Rattle.vsd_type_syntax.specs.declared.starts.Start.TheVariants as start
use Rattle.vsd_type_syntax.specs.declared.starts.Special.{Special}
use Rattle.vsd_type_syntax.specs.declared.starts.Special.TheVariants as special
use Rattle.vsd_type_syntax.specs.Starts.{start_at, unsigned_of, special_of, suffix_of}
use Rattle.vsd_type_syntax.specs.Types as spec
use Rattle.vsd_type_syntax.specs.Limits.{CountsNoNodes}
use Rattle.vsd_type_syntax.proofs.Sizes.{written_small, open_small}
use Rattle.vsd_lanes.specs.Types.{numbered, numbered_by, resolved, arity_by, rules_of, IsRoot}

shown_none : (index : ℕ) (c : Option Cause) (i : Input) (u : Unit {0}) (j : Input) → Derives (Unit {0}) (spec.shown_at index c) i u j → c ≡ None
shown_none index None i u j g = refl
shown_none index (Some cause) i u j g = absurd g

resolved_some : (o : Option ℕ) (s u : State) (n : ℕ) → resolved o s ≡ Ok (n, u) → o ≡ Some n
resolved_some None s u n e = absurd cc
resolved_some (Some m) s u n e = let p : ◌≡◌ {A = ℕ × State} (m, s) (n, u) = cc in ap (λ (t : ℕ × State). Some t.0) p

no_arity : (b : Bool) → ◌≡◌ {A = Option Cause} (cond b None (Some Arity)) None → b ≡ true
no_arity true e = refl
no_arity false e = absurd cc

-- a term is closed, and names what is declared, with as many arguments as that has parameters
record IsNamed (ds : List Decl) (t : Term) : Type 0 where
  closed : parameters_of t ≡ 0
  lawful : IsTrue (is_lawful ds t)

module _ (d : Decls) where
  abbrev rules : spec.Rules
  rules = rules_of d

  -- whatever the production gives names what is declared
  abbrev Gives : G Term → Type 0
  Gives g = (i : Input) (x : Term) (j : Input) → Derives Term g i x j → IsNamed d.list x

  -- a type of this number is declared
  abbrev Known : ℕ → Type 0
  Known number = (y : Decl) × (declared d.list number ≡ Some y)

  abbrev AreRoots : List Term → Type 0
  AreRoots ts = (greatest (map parameters_of ts) ≡ 0) × (all_true (map (is_lawful d.list) ts) ≡ true)

  -- ---- terms

  is_lawful-Named : (number : ℕ) (args : List Term) → is_lawful d.list (term.Named number args) ≡ (takes (declared d.list number) (length (map (is_lawful d.list) args)) && all_true (map (is_lawful d.list) args))
  is_lawful-Named number args = ap (is_lawful d.list) (sym (rolls-Named number args)) ∙ fold-roll-Term Bool (lawful_step d.list) (layer.Named number args)

  builtin_root : (b : Builtin) → IsNamed d.list (term.Builtin b)
  builtin_root b = record {
    closed = parameters_of-Builtin b;
    lawful = ap (is_lawful d.list) (sym (rolls-Builtin b)) ∙ fold-roll-Term Bool (lawful_step d.list) (layer.Builtin b);
  }

  named_root : (number : ℕ) (args : List Term) → takes (declared d.list number) (length args) ≡ true → AreRoots args → IsNamed d.list (term.Named number args)
  named_root number args t r = record {
    closed = parameters_of-Named number args ∙ r.0;
    lawful = is_lawful-Named number args ∙ and_from (takes (declared d.list number) (length (map (is_lawful d.list) args))) (all_true (map (is_lawful d.list) args))
        (ap (takes (declared d.list number)) (length-map args (is_lawful d.list)) ∙ t) r.1;
  }

  roots_cons : (t : Term) (ts : List Term) → IsNamed d.list t → AreRoots ts → AreRoots (t ∷ ts)
  roots_cons t ts r rs = (
    ap (λ n. max n (greatest (map parameters_of ts))) r.closed ∙ ap (max 0) rs.0,
    and_from (is_lawful d.list t) (all_true (map (is_lawful d.list) ts)) r.lawful rs.1,
  )

  -- ---- numbers of names

  numbered_known : (o : Option ℕ) (n : ℕ) → numbered d.list o ≡ Some n → Known n
  numbered_known None n e = absurd cc
  numbered_known (Some m) n e = go (declared d.list m) refl e
    where
      go : (x : Option Decl) → declared d.list m ≡ x → numbered_by x m ≡ Some n → Known n
      go None f h = absurd cc
      go (Some y) f h = let same : m ≡ n = cc in (y, subst (λ k. declared d.list k ≡ Some y) same f)

  takes_from : (number count : ℕ) → Known number → arity_by (declared d.list number) count ≡ None → takes (declared d.list number) count ≡ true
  takes_from number count k e =
      let known : arity_by (Some k.0) count ≡ None = subst (λ (o : Option Decl). arity_by o count ≡ None) k.1 e in
      let fits : takes (Some k.0) count ≡ true = no_arity (eqb (length k.0.params) count) known in
      subst (λ (o : Option Decl). takes o count ≡ true) (sym k.1) fits

  -- ---- productions of one name

  word_gives : (b : Builtin) → Gives (spec.builtin_word b)
  unfolding spec.builtin_word
  word_gives b i x j g = subst (IsNamed d.list) g.3.3.0 (builtin_root b)

  unnested_same : (t : Term) (i : Input) (x : Term) (j : Input) → Derives Term (spec.unnested t) i x j → t ≡ x
  unfolding spec.unnested
  unnested_same t i x j g = g.3.3.0

  name_gives : (b : Builtin) → Gives (spec.builtin_name b)
  unfolding spec.builtin_name
  name_gives b i x j g = subst (IsNamed d.list) (unnested_same g.0 g.1 x j g.3) (word_gives b i g.0 g.1 g.2)

  unsigned_gives : Gives spec.unsigned
  unfolding spec.unsigned
  unsigned_gives i x j g = go (unsigned_of g.3.0.class) g.3.3
    where
      go : (o : Option Builtin) → Derives Term (spec.unsigned_by o) g.3.1 x j → IsNamed d.list x
      go None h = absurd h
      go (Some b) h = word_gives b g.3.1 x j h

  parameter_gives : Gives (spec.parameter rules)
  unfolding spec.parameter
  parameter_gives i x j g = absurd g

  bare_gives : (index number : ℕ) → Known number → Gives (spec.bare rules index number)
  unfolding spec.bare
  bare_gives index number k i x j g =
      let fits = takes_from number 0 k (shown_none index (arity_by (declared d.list number) 0) i g.0 g.1 g.2) in
      subst (IsNamed d.list) (unnested_same (term.Named number []) g.3.1 x j g.3.3) (named_root number [] fits (refl, refl))

  -- ---- named types, where `more` reads what follows a `<`

  module _ (more : ℕ → ℕ → G Term) (m : (index number : ℕ) → Known number → Gives (more index number)) where
    after_gives : (index number : ℕ) → Known number → Gives (spec.after_name rules more index number)
    unfolding spec.after_name
    after_gives index number k i x j g = go (same_class spec.less g.0.class) g.3
      where
        go : (b : Bool) → Derives Term (spec.after_name_by rules more index number b) g.1 x j → IsNamed d.list x
        go true h = m index number k g.1 x j h
        go false h = bare_gives index number k g.1 x j h

    resolved_gives : (index : ℕ) → Gives (spec.resolved_name rules more index)
    unfolding spec.resolved_name
    resolved_gives index i x j g =
        let place = position (bytes_eq g.0) d.names in
        let number = g.3.0 in
        let known = numbered_known place number (resolved_some (numbered d.list place) g.1.state g.3.2.0 number g.3.2.1) in
        after_gives index number known g.3.3.1 x j g.3.3.3

    named_gives : (scoped : Bool) → Gives (spec.named rules more scoped)
    unfolding spec.named
    named_gives scoped i x j g = go (is_name g.0.class) g.3
      where
        other : (b : Bool) → Derives Term (spec.other_name rules more b g.0) g.1 x j → IsNamed d.list x
        other true h = absurd h
        other false h = resolved_gives g.0.index g.1 x j h

        by : (s : Special) → Derives Term (spec.named_by rules more scoped g.0 s) g.1 x j → IsNamed d.list x
        by (special.Builtin b) h = name_gives b g.1 x j h
        by (special.Refused f) h = absurd h
        by special.Nothing h = other scoped h

        go : (b : Bool) → Derives Term (spec.named_if rules more scoped g.0 b) g.1 x j → IsNamed d.list x
        go false h = absurd h
        go true h = by (special_of g.0.bytes) h

    bracketed_gives : Gives (spec.bracketed rules more)
    unfolding spec.bracketed
    bracketed_gives i x j g = named_gives true g.3.1 x j g.3.3

    scoped_gives : Gives (spec.scoped rules more)
    unfolding spec.scoped
    scoped_gives i x j g = bracketed_gives g.1 x j g.3

    keyworded_gives : Gives (spec.keyworded rules more)
    unfolding spec.keyworded
    keyworded_gives i x j g = go (same_class spec.left_bracket g.3.0.class) g.3.3
      where
        go : (b : Bool) → Derives Term (spec.keyworded_by rules more b) g.3.1 x j → IsNamed d.list x
        go true h = scoped_gives g.3.1 x j h
        go false h = named_gives false g.3.1 x j h

    started_gives : (s : Start) → Gives (spec.started rules more s)
    started_gives start.Parameter i x j g = parameter_gives i x j g
    started_gives start.Keyworded i x j g = keyworded_gives i x j g
    started_gives start.Scope i x j g = scoped_gives i x j g
    started_gives (start.Builtin b) i x j g = word_gives b i x j g
    started_gives start.Unsigned i x j g = unsigned_gives i x j g
    started_gives start.Name i x j g = named_gives false i x j g
    started_gives (start.Refused cause) i x j g = absurd g

    type_by_gives : (only_named : Bool) → Gives (spec.type_by rules more only_named)
    unfolding spec.type_by spec.suffixed
    type_by_gives only_named i x j g =
        let t = g.3.0 in
        let r = started_gives (start_at only_named g.0.class) g.1 t g.3.1 g.3.2 in
        subst (IsNamed d.list) (go t (suffix_of g.3.3.0.class) g.3.3.1 g.3.3.3) r
      where
        go : (t : Term) (o : Option Form) (k : Input) → Derives Term (spec.suffixed_by t o) k x j → t ≡ x
        go t None k h = h.0
        go t (Some f) k h = absurd h

  -- ---- arguments

  more_roots : (p : G Term) → Gives p → (xs : List Term) (i j : Input) → MoreItems (Derives Term p) xs i j → AreRoots xs
  more_roots p h [] i j g = (refl, refl)
  more_roots p h (x ∷ xs) i j g = roots_cons x xs (h (next i) x g.1 g.2) (more_roots p h xs g.1 j g.3)

  all_roots : (p : G Term) → Gives p → (xs : List Term) (i j : Input) → Items (Derives Term p) xs i j → AreRoots xs
  all_roots p h [] i j g = absurd g
  all_roots p h (x ∷ xs) i j g = roots_cons x xs (h i x g.0 g.1) (more_roots p h xs g.0 j g.2)

  closed_gives : (index number : ℕ) (args : List Term) → Known number → AreRoots args → Gives (spec.closed rules index number args)
  unfolding spec.closed
  closed_gives index number args k r i x j g =
      let fits = takes_from number (length args) k (shown_none index (arity_by (declared d.list number) (length args)) g.1 g.3.0 g.3.1 g.3.2) in
      subst (IsNamed d.list) g.3.3.3.0 (named_root number args fits r)

  arguments_give : (argument : G Term) → Gives argument → (index number : ℕ) → Known number → Gives (spec.arguments rules argument index number)
  unfolding spec.arguments
  arguments_give argument h index number k i x j g =
      let args = g.3.3.0 in
      closed_gives index number args k (all_roots argument h args g.3.1 g.3.3.1 g.3.3.2.1) g.3.3.1 x j g.3.3.3

  none_given : (index number : ℕ) → Known number → Gives (spec.no_arguments index number)
  unfolding spec.no_arguments
  none_given index number k i x j g = absurd g.3

  -- ---- terms

  type_gives : (room : ℕ) (only_named : Bool) → Gives (spec.type_of rules room only_named)
  unfolding spec.type_of
  type_gives zero only_named = type_by_gives spec.no_arguments none_given only_named
  type_gives (suc room) only_named = type_by_gives (spec.arguments rules (spec.type_of rules room false)) (arguments_give (spec.type_of rules room false) (type_gives room false)) only_named

  written_gives : (only_named : Bool) → Gives (spec.written rules only_named)
  unfolding spec.written
  written_gives only_named i x j g = type_gives spec.most_below only_named g.1 x j g.3

  outermost_gives : Gives (spec.outermost rules)
  unfolding spec.outermost
  outermost_gives i x j g =
      started_gives (spec.more_of rules (Some 14)) (arguments_give (spec.type_of rules 14 false) (type_gives 14 false)) (start_at false g.0.class) g.1 x j g.3

  open_gives : Gives (spec.written_open rules)
  unfolding spec.written_open spec.suffixed_open
  open_gives i x j g =
      let t = g.3.0 in
      subst (IsNamed d.list) (go t (spec.open_suffix_by (same_class spec.left_bracket g.3.3.0.class) g.3.3.0.class) g.3.3.1 g.3.3.3) (outermost_gives g.1 t g.3.1 g.3.2)
    where
      go : (t : Term) (o : Option Form) (k : Input) → Derives Term (spec.suffixed_by t o) k x j → t ≡ x
      go t None k h = h.0
      go t (Some f) k h = absurd h

  -- ---- roots

  resolved_same : (o : Option ℕ) (s u : State) (n : ℕ) → resolved o s ≡ Ok (n, u) → u.nodes ≡ s.nodes
  resolved_same None s u n e = absurd cc
  resolved_same (Some m) s u n e = let p : ◌≡◌ {A = ℕ × State} (m, s) (n, u) = cc in ap (λ (t : ℕ × State). t.1.nodes) (sym p)

  no_nodes_counted : CountsNoNodes rules
  no_nodes_counted bytes s u n e = resolved_same (numbered d.list (position (bytes_eq bytes) d.names)) s u n e

  pub written_root : (only_named : Bool) (i : Input) (t : Term) (j : Input) → Derives Term (spec.written rules only_named) i t j → IsRoot d.list t
  written_root only_named i t j g =
      let named = written_gives only_named i t j g in
      record { closed = named.closed; lawful = named.lawful; small = written_small rules no_nodes_counted only_named i t j g }

  pub open_root : (i : Input) (t : Term) (j : Input) → Derives Term (spec.written_open rules) i t j → IsRoot d.list t
  open_root i t j g =
      let named = open_gives i t j g in
      record { closed = named.closed; lawful = named.lawful; small = open_small rules no_nodes_counted i t j g }
