-- Where only a named type or a built-in class may stand, that is what is read.
use Rattle.std.proofs.Common.{◌≡◌, ℕ, Bool, true, false, cond, List, [], Option, Some, None, refl, ap, sym, subst, ◌∙◌}
use Rattle.std.specs.Str.{bytes_eq}
use Rattle.std.specs.Prelude.{codes}
use Rattle.vsd_terms.specs.declared.term.Term.{Term}
use Rattle.vsd_terms.specs.declared.term.Term.TheVariants as term
use Rattle.vsd_terms.specs.declared.term.Term.TheVariants.{rolls-Named, rolls-Builtin}
use Rattle.vsd_terms.specs.declared.term.Term.TheOpen as layer
use Rattle.vsd_terms.specs.declared.term.Term.TheFolds.{fold-roll-Term}
use Rattle.vsd_terms.specs.declared.term.Builtin.{Builtin}
use Rattle.vsd_terms.specs.declared.term.Builtin.TheVariants as builtin
use Rattle.vsd_ast.specs.Lookup.{Head, head_of, head_step}
use Rattle.vsd_ast.specs.Lookup as heads
use Rattle.vsd_ast.specs.WellFormed.{IsClassBuiltin, IsClassHead}
use Rattle.vsd_grammar.specs.declared.cause.Cause.TheVariants.{Unexpected}
use Rattle.vsd_grammar.specs.declared.cause.Form.{Form}
use Rattle.vsd_grammar.specs.declared.cause.Form.TheVariants as form
use Rattle.vsd_grammar.specs.Input.{Input, Lookahead, same_class}
use Rattle.vsd_grammar.specs.Grammar.{G, ret, bind, Derives}
use Rattle.vsd_grammar.specs.Productions.{is_name}
use Rattle.vsd_type_syntax.specs.declared.starts.Start.{Start}
use Rattle.vsd_type_syntax.specs.declared.starts.Start.TheVariants as start
use Rattle.vsd_type_syntax.specs.declared.starts.Special.{Special}
use Rattle.vsd_type_syntax.specs.declared.starts.Special.TheVariants as special
use Rattle.vsd_type_syntax.specs.Starts.{start_of, named_start, is_class, special_of, suffix_of}
use Rattle.vsd_type_syntax.specs.Types as spec

head_of-Named : (name : ℕ) (args : List Term) → head_of (term.Named name args) ≡ heads.named name
head_of-Named name args = ap head_of (sym (rolls-Named name args)) ∙ fold-roll-Term Head head_step (layer.Named name args)

head_of-Builtin : (b : Builtin) → head_of (term.Builtin b) ≡ heads.built_in b
head_of-Builtin b = ap head_of (sym (rolls-Builtin b)) ∙ fold-roll-Term Head head_step (layer.Builtin b)

-- each term that the production gives is a named type or a built-in class
pub record GivesClasses (g : G Term) : Type 0 where
  pub gives : (i : Input) (x : Term) (j : Input) → Derives Term g i x j → IsClassHead (head_of x)

named_is_class : (number : ℕ) (args : List Term) → IsClassHead (head_of (term.Named number args))
named_is_class number args = subst IsClassHead (sym (head_of-Named number args)) tt

builtin_is_class : (b : Builtin) → IsClassBuiltin b → IsClassHead (head_of (term.Builtin b))
builtin_is_class b h = subst IsClassHead (sym (head_of-Builtin b)) h

then_classes : {A : Type 0} {p : G A} {f : A → G Term} → ((x : A) → GivesClasses (f x)) → GivesClasses (bind A Term p f)
then_classes h = record { gives = λ i x j d. (h d.0).gives d.1 x j d.3 }

after_classes : {p : G Term} {f : Term → G Term} → GivesClasses p → ((t : Term) → IsClassHead (head_of t) → GivesClasses (f t)) → GivesClasses (bind Term Term p f)
after_classes h k = record { gives = λ i x j d. (k d.0 (h.gives i d.0 d.1 d.2)).gives d.1 x j d.3 }

ret_classes : (t : Term) → IsClassHead (head_of t) → GivesClasses (ret Term t)
ret_classes t h = record { gives = λ i x j d. subst (λ u. IsClassHead (head_of u)) d.0 h }

unnested_classes : (t : Term) → IsClassHead (head_of t) → GivesClasses (spec.unnested t)
unfolding spec.unnested
unnested_classes t h = then_classes (λ g. then_classes (λ _. ret_classes t h))

suffixed_classes : (t : Term) → IsClassHead (head_of t) → GivesClasses (spec.suffixed t)
unfolding spec.suffixed
suffixed_classes t h = then_classes (λ g. go (suffix_of g.class))
  where
    go : (f : Option Form) → GivesClasses (spec.suffixed_by t f)
    go None = ret_classes t h
    go (Some f) = record { gives = λ i x j d. absurd d }

builtin_word_classes : (b : Builtin) → IsClassBuiltin b → GivesClasses (spec.builtin_word b)
unfolding spec.builtin_word
builtin_word_classes b h = then_classes (λ _. then_classes (λ _. ret_classes (term.Builtin b) (builtin_is_class b h)))

builtin_name_classes : (b : Builtin) → IsClassBuiltin b → GivesClasses (spec.builtin_name b)
unfolding spec.builtin_name
builtin_name_classes b h = after_classes (builtin_word_classes b h) unnested_classes

-- the built-in types that have a name of their own are classes
abbrev SpecialClass : Special → Type 0
SpecialClass (special.Builtin b) = IsClassBuiltin b
SpecialClass (special.Refused f) = Unit {0}
SpecialClass special.Nothing = Unit {0}

special_class : (name : List ℕ) → SpecialClass (special_of name)
unfolding special_of
special_class name = go (bytes_eq name (codes "System.Object")) (bytes_eq name (codes "System.String")) (bytes_eq name (codes "System.ValueType"))
    (bytes_eq name (codes "System.Enum")) (bytes_eq name (codes "System.MulticastDelegate")) (bytes_eq name (codes "System.Delegate"))
  where
    go : (a b c d e f : Bool) → SpecialClass (cond a (special.Builtin builtin.Object) (cond b (special.Builtin builtin.String) (cond c (special.Builtin builtin.ValueType)
        (cond d (special.Refused form.Enum) (cond e (special.Refused form.Delegate) (cond f (special.Refused form.Delegate) special.Nothing))))))
    go true b c d e f = tt
    go false true c d e f = tt
    go false false true d e f = tt
    go false false false true e f = tt
    go false false false false true f = tt
    go false false false false false true = tt
    go false false false false false false = tt

class_builtin : (b : Builtin) → is_class b ≡ true → IsClassBuiltin b
class_builtin builtin.Object e = tt
class_builtin builtin.String e = tt
class_builtin builtin.ValueType e = tt
class_builtin _ e = absurd cc

module _ (rules : spec.Rules) where
  module _ (more : ℕ → ℕ → G Term) (m : (index number : ℕ) → GivesClasses (more index number)) where
    after_name_classes : (index number : ℕ) → GivesClasses (spec.after_name rules more index number)
    unfolding spec.after_name spec.bare
    after_name_classes index number = then_classes (λ g. go (same_class spec.less g.class))
      where
        go : (b : Bool) → GivesClasses (spec.after_name_by rules more index number b)
        go true = m index number
        go false = then_classes (λ _. then_classes (λ _. unnested_classes (term.Named number []) (named_is_class number [])))

    resolved_classes : (index : ℕ) → GivesClasses (spec.resolved_name rules more index)
    unfolding spec.resolved_name
    resolved_classes index = then_classes (λ bytes. then_classes (λ number. then_classes (λ _. after_name_classes index number)))

    named_classes : (scoped : Bool) → GivesClasses (spec.named rules more scoped)
    unfolding spec.named
    named_classes scoped = then_classes (λ h. go h (is_name h.class))
      where
        other : (b : Bool) (h : Lookahead) → GivesClasses (spec.other_name rules more b h)
        other true h = record { gives = λ i x j d. absurd d }
        other false h = resolved_classes h.index

        by : (h : Lookahead) (s : Special) → SpecialClass s → GivesClasses (spec.named_by rules more scoped h s)
        by h (special.Builtin b) k = builtin_name_classes b k
        by h (special.Refused f) k = record { gives = λ i x j d. absurd d }
        by h special.Nothing k = other scoped h

        go : (h : Lookahead) (b : Bool) → GivesClasses (spec.named_if rules more scoped h b)
        go h false = record { gives = λ i x j d. absurd d }
        go h true = by h (special_of h.bytes) (special_class h.bytes)

    scoped_classes : GivesClasses (spec.scoped rules more)
    unfolding spec.scoped spec.bracketed
    scoped_classes = then_classes (λ _. then_classes (λ _. then_classes (λ _. named_classes true)))

    keyworded_classes : GivesClasses (spec.keyworded rules more)
    unfolding spec.keyworded
    keyworded_classes = then_classes (λ _. then_classes (λ g. go (same_class spec.left_bracket g.class)))
      where
        go : (b : Bool) → GivesClasses (spec.keyworded_by rules more b)
        go true = scoped_classes
        go false = named_classes false

    started_classes : (s : Start) → GivesClasses (spec.started rules more (named_start s))
    started_classes start.Parameter = record { gives = λ i x j d. absurd d }
    started_classes start.Keyworded = keyworded_classes
    started_classes start.Scope = scoped_classes
    started_classes (start.Builtin b) = go (is_class b) refl
      where
        go : (c : Bool) → is_class b ≡ c → GivesClasses (spec.started rules more (cond c (start.Builtin b) (start.Refused Unexpected)))
        go true e = builtin_word_classes b (class_builtin b e)
        go false e = record { gives = λ i x j d. absurd d }
    started_classes start.Unsigned = record { gives = λ i x j d. absurd d }
    started_classes start.Name = named_classes false
    started_classes (start.Refused cause) = record { gives = λ i x j d. absurd d }

    type_classes : GivesClasses (spec.type_by rules more true)
    unfolding spec.type_by
    type_classes = then_classes (λ h. after_classes (started_classes (start_of h.class)) suffixed_classes)

  arguments_classes : (argument : G Term) (index number : ℕ) → GivesClasses (spec.arguments rules argument index number)
  unfolding spec.arguments spec.closed
  arguments_classes argument index number = then_classes (λ _. then_classes (λ _. then_classes (λ args. then_classes (λ _. then_classes (λ _. then_classes (λ _. ret_classes (term.Named number args) (named_is_class number args)))))))

  pub written_classes : GivesClasses (spec.written rules true)
  unfolding spec.written spec.type_of
  written_classes = then_classes (λ _. type_classes (spec.arguments rules (spec.type_of rules 14 false)) (arguments_classes (spec.type_of rules 14 false)))
