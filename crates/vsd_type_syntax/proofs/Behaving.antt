-- How types behave: their causes, and that no name is forgotten.
use Rattle.std.proofs.Common.{ℕ, zero, suc, Bool, true, false, cond, eqb, IsTrue, List, [], length, Option, Some, None, IfSome}
use Rattle.vsd_terms.specs.declared.term.Term.{Term}
use Rattle.vsd_terms.specs.declared.term.Term.TheVariants as term
use Rattle.vsd_terms.specs.declared.term.Builtin.{Builtin}
use Rattle.vsd_grammar.specs.declared.cause.Cause.{Cause}
use Rattle.vsd_grammar.specs.declared.cause.Cause.TheVariants.{Unexpected}
use Rattle.vsd_grammar.specs.declared.cause.Form.{Form}
use Rattle.vsd_grammar.specs.Input.{Lookahead, same_class}
use Rattle.vsd_grammar.specs.Grammar.{G}
use Rattle.vsd_grammar.specs.Productions.{is_name}
use Rattle.vsd_grammar.specs.Laws.{Behaves}
use Rattle.vsd_grammar.proofs.Behaving.{grows, causes_expect, causes_must_see, causes_then_pass, causes_spelled_name, causes_name, causes_node, causes_node_at, causes_no_nodes}
use Rattle.vsd_type_syntax.specs.declared.starts.Start.{Start}
use Rattle.vsd_type_syntax.specs.declared.starts.Start.TheVariants as start
use Rattle.vsd_type_syntax.specs.declared.starts.Special.{Special}
use Rattle.vsd_type_syntax.specs.declared.starts.Special.TheVariants as special
use Rattle.vsd_type_syntax.specs.Starts.{start_at, unsigned_of, special_of, suffix_of}
use Rattle.vsd_type_syntax.specs.Types as spec
use Rattle.vsd_type_syntax.specs.Behaving.{TypesPass, RulesPass, StartPasses}
use Rattle.vsd_type_syntax.proofs.StartBehaving.{start_passes}

module _ (test : Cause → Bool) (p : TypesPass test) where
  causes_shown_at : (index : ℕ) (c : Option Cause) → IfSome c (λ cause. IsTrue (test cause)) → Behaves test grows (Unit {0}) (spec.shown_at index c)
  causes_shown_at index None t = tt
  causes_shown_at index (Some cause) t = t

  causes_unnested : (t : Term) → Behaves test grows Term (spec.unnested t)
  unfolding spec.unnested
  causes_unnested t = (tt, λ g. (go (same_class spec.slash g.class), λ x. tt))
    where
      go : (b : Bool) → Behaves test grows (Unit {0}) (spec.not_nested b)
      go true = p.forms _
      go false = tt

  causes_builtin_word : (b : Builtin) → Behaves test grows Term (spec.builtin_word b)
  unfolding spec.builtin_word
  causes_builtin_word b = (causes_node test p.deep, λ x. causes_then_pass test grows p.unexpected Term (term.Builtin b))

  causes_builtin_name : (b : Builtin) → Behaves test grows Term (spec.builtin_name b)
  unfolding spec.builtin_name
  causes_builtin_name b = (causes_builtin_word b, causes_unnested)

  causes_unsigned : Behaves test grows Term spec.unsigned
  unfolding spec.unsigned
  causes_unsigned = (p.unexpected, λ x. (tt, λ g. go (unsigned_of g.class)))
    where
      go : (b : Option Builtin) → Behaves test grows Term (spec.unsigned_by b)
      go None = p.unexpected
      go (Some b) = causes_builtin_word b

  module _ (rules : spec.Rules) (r : RulesPass test grows rules) where
    causes_parameter : Behaves test grows Term (spec.parameter rules)
    unfolding spec.parameter
    causes_parameter = go rules.has_parameters
      where
        place : (n : Option ℕ) → Behaves test grows Term (spec.parameter_by n)
        place None = p.unexpected
        place (Some n) = (causes_node test p.deep, λ x. causes_then_pass test grows p.unexpected Term (term.Param n))

        after : (b : Bool) (g : Lookahead) → Behaves test grows Term (spec.parameter_at rules b g)
        after true g = p.forms _
        after false g = place (rules.parameter g.class g.bytes)

        go : (b : Bool) → Behaves test grows Term (spec.parameter_if rules b)
        go false = p.unexpected
        go true = (p.unexpected, λ x. (tt, λ g. after (same_class spec.bang g.class) g))

    causes_bare : (index number : ℕ) → Behaves test grows Term (spec.bare rules index number)
    unfolding spec.bare
    causes_bare index number = (causes_shown_at index (rules.arity number 0) (r.arity number 0), λ x. (causes_node_at test p.deep index, λ y. causes_unnested (term.Named number [])))

    module _ (more : ℕ → ℕ → G Term) (m : (index number : ℕ) → Behaves test grows Term (more index number)) where
      causes_after_name : (index number : ℕ) → Behaves test grows Term (spec.after_name rules more index number)
      unfolding spec.after_name
      causes_after_name index number = (tt, λ g. go (same_class spec.less g.class))
        where
          go : (b : Bool) → Behaves test grows Term (spec.after_name_by rules more index number b)
          go true = m index number
          go false = causes_bare index number

      causes_resolved_name : (index : ℕ) → Behaves test grows Term (spec.resolved_name rules more index)
      unfolding spec.resolved_name
      causes_resolved_name index = (causes_spelled_name test grows p.unexpected p.long, λ bytes. (r.resolve bytes, λ number. (p.unexpected, λ x. causes_after_name index number)))

      causes_named : (scoped : Bool) → Behaves test grows Term (spec.named rules more scoped)
      unfolding spec.named
      causes_named scoped = (tt, λ h. go h (is_name h.class))
        where
          foreign : (empty : Bool) (bytes : List ℕ) → IsTrue (test (cond empty Unexpected (rules.foreign bytes)))
          foreign true bytes = p.unexpected
          foreign false bytes = r.foreign bytes

          other : (b : Bool) (h : Lookahead) → Behaves test grows Term (spec.other_name rules more b h)
          other true h = foreign (eqb (length h.bytes) 0) h.bytes
          other false h = causes_resolved_name h.index

          by : (h : Lookahead) (s : Special) → Behaves test grows Term (spec.named_by rules more scoped h s)
          by h (special.Builtin b) = causes_builtin_name b
          by h (special.Refused f) = p.forms f
          by h special.Nothing = other scoped h

          go : (h : Lookahead) (b : Bool) → Behaves test grows Term (spec.named_if rules more scoped h b)
          go h false = p.unexpected
          go h true = by h (special_of h.bytes)

      causes_bracketed : Behaves test grows Term (spec.bracketed rules more)
      unfolding spec.bracketed
      causes_bracketed = (causes_name test grows p.unexpected p.long, λ n. (causes_expect test grows p.unexpected spec.right_bracket, λ x. causes_named true))

      causes_scoped : Behaves test grows Term (spec.scoped rules more)
      unfolding spec.scoped
      causes_scoped = (p.unexpected, λ x. causes_bracketed)

      causes_keyworded : Behaves test grows Term (spec.keyworded rules more)
      unfolding spec.keyworded
      causes_keyworded = (p.unexpected, λ x. (tt, λ g. go (same_class spec.left_bracket g.class)))
        where
          go : (b : Bool) → Behaves test grows Term (spec.keyworded_by rules more b)
          go true = causes_scoped
          go false = causes_named false

      causes_started : (s : Start) → StartPasses test s → Behaves test grows Term (spec.started rules more s)
      causes_started start.Parameter t = causes_parameter
      causes_started start.Keyworded t = causes_keyworded
      causes_started start.Scope t = causes_scoped
      causes_started (start.Builtin b) t = causes_builtin_word b
      causes_started start.Unsigned t = causes_unsigned
      causes_started start.Name t = causes_named false
      causes_started (start.Refused cause) t = t

    causes_suffixed : (t : Term) → Behaves test grows Term (spec.suffixed t)
    unfolding spec.suffixed
    causes_suffixed t = (tt, λ g. go (suffix_of g.class))
      where
        go : (f : Option Form) → Behaves test grows Term (spec.suffixed_by t f)
        go None = tt
        go (Some f) = p.forms f

    causes_type_by : (more : ℕ → ℕ → G Term) → ((index number : ℕ) → Behaves test grows Term (more index number)) → (only_named : Bool) → Behaves test grows Term (spec.type_by rules more only_named)
    unfolding spec.type_by
    causes_type_by more m only_named = (tt, λ h. (causes_started more m (start_at only_named h.class) (start_passes test p only_named h.class), causes_suffixed))

    causes_closed : (index number : ℕ) (args : List Term) → Behaves test grows Term (spec.closed rules index number args)
    unfolding spec.closed
    causes_closed index number args =
        (causes_must_see test grows p.unexpected spec.greater, λ x. (causes_shown_at index (rules.arity number (length args)) (r.arity number (length args)), λ y. causes_then_pass test grows p.unexpected Term (term.Named number args)))

    causes_arguments : (argument : G Term) → Behaves test grows Term argument → (index number : ℕ) → Behaves test grows Term (spec.arguments rules argument index number)
    unfolding spec.arguments
    causes_arguments argument a index number = (causes_node_at test p.deep index, λ x. (p.unexpected, λ y. ((a, p.deep, λ q bytes. tt), λ args. causes_closed index number args)))

    causes_no_arguments : (index number : ℕ) → Behaves test grows Term (spec.no_arguments index number)
    unfolding spec.no_arguments
    causes_no_arguments index number = (causes_node_at test p.deep index, λ x. p.deep)

    causes_type_of : (room : ℕ) (only_named : Bool) → Behaves test grows Term (spec.type_of rules room only_named)
    unfolding spec.type_of
    causes_type_of zero only_named = causes_type_by spec.no_arguments causes_no_arguments only_named
    causes_type_of (suc room) only_named = causes_type_by (spec.arguments rules (spec.type_of rules room false)) (causes_arguments (spec.type_of rules room false) (causes_type_of room false)) only_named

    pub causes_written : (only_named : Bool) → Behaves test grows Term (spec.written rules only_named)
    unfolding spec.written
    causes_written only_named = (causes_no_nodes test, λ x. causes_type_of 15 only_named)

    pub causes_written_rest : Behaves test grows Term (spec.written_rest rules)
    unfolding spec.written_rest
    causes_written_rest = (
      causes_no_nodes test,
      λ x. (causes_bracketed (spec.more_of rules (Some 14)) (causes_arguments (spec.type_of rules 14 false) (causes_type_of 14 false)), causes_suffixed),
    )
