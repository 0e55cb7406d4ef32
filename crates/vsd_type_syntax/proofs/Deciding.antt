-- Types are read in one way, whatever follows them.
use Rattle.std.proofs.Common.{◌≡◌, ℕ, zero, suc, Bool, true, false, List, Option, Some, None, IsTrue, refl, ap, sym}
use Rattle.std.proofs.lemmas.Bool.{eqb-true}
use Rattle.vsd_terms.specs.declared.term.Term.{Term}
use Rattle.vsd_terms.specs.declared.term.Builtin.{Builtin}
use Rattle.vsd_grammar.specs.declared.token_class.TokenClass.{TokenClass}
use Rattle.vsd_grammar.specs.declared.token_class.TokenClass.TheVariants as class
use Rattle.vsd_grammar.specs.declared.cause.Cause.{Cause}
use Rattle.vsd_grammar.specs.declared.cause.Form.{Form}
use Rattle.vsd_grammar.specs.Input.{Input, Lookahead, class_at, same_class, is_comma}
use Rattle.vsd_grammar.specs.Grammar.{G, Derives, Decides}
use Rattle.vsd_grammar.specs.Productions.{is_name}
use Rattle.vsd_grammar.proofs.Deciding.{anything, decides_expect, decides_must_see, decides_node, decides_node_at, decides_no_nodes, decides_spelled_name, decides_then_pass, decides_name, must_see_begins}
use Rattle.vsd_type_syntax.specs.declared.starts.Start.{Start}
use Rattle.vsd_type_syntax.specs.declared.starts.Start.TheVariants as start
use Rattle.vsd_type_syntax.specs.declared.starts.Special.{Special}
use Rattle.vsd_type_syntax.specs.declared.starts.Special.TheVariants as special
use Rattle.vsd_type_syntax.specs.Starts.{start_at, unsigned_of, special_of, suffix_of}
use Rattle.vsd_type_syntax.specs.Types as spec

decides_shown_at : (index : ℕ) (c : Option Cause) (F : TokenClass → Bool) → Decides (Unit {0}) (spec.shown_at index c) F
decides_shown_at index None F = tt
decides_shown_at index (Some cause) F = tt

decides_unnested : (t : Term) (F : TokenClass → Bool) → Decides Term (spec.unnested t) F
unfolding spec.unnested
decides_unnested t F = (anything, tt, λ g. ((anything, go (same_class spec.slash g.class), λ u. (tt, λ i y j e h. refl)), λ i y j e h. refl))
  where
    go : (b : Bool) → Decides (Unit {0}) (spec.not_nested b) anything
    go true = tt
    go false = tt

decides_builtin_word : (b : Builtin) (F : TokenClass → Bool) → Decides Term (spec.builtin_word b) F
unfolding spec.builtin_word
decides_builtin_word b F = (anything, decides_node anything, λ u. (decides_then_pass Term _ F, λ i y j e h. refl))

decides_builtin_name : (b : Builtin) (F : TokenClass → Bool) → Decides Term (spec.builtin_name b) F
unfolding spec.builtin_name
decides_builtin_name b F = (anything, decides_builtin_word b anything, λ t. (decides_unnested t F, λ i y j e h. refl))

decides_unsigned : (F : TokenClass → Bool) → Decides Term spec.unsigned F
unfolding spec.unsigned
decides_unsigned F = (anything, tt, λ u. ((anything, tt, λ g. (go (unsigned_of g.class), λ i y j e h. refl)), λ i y j e h. refl))
  where
    go : (b : Option Builtin) → Decides Term (spec.unsigned_by b) F
    go None = tt
    go (Some b) = decides_builtin_word b F

decides_parameter : (rules : spec.Rules) (F : TokenClass → Bool) → Decides Term (spec.parameter rules) F
unfolding spec.parameter
decides_parameter rules F = go rules.has_parameters
  where
    place : (n : Option ℕ) → Decides Term (spec.parameter_by n) F
    place None = tt
    place (Some n) = (anything, decides_node anything, λ u. (decides_then_pass Term _ F, λ i y j e h. refl))

    after : (b : Bool) (g : Lookahead) → Decides Term (spec.parameter_at rules b g) F
    after true g = tt
    after false g = place (rules.parameter g.class g.bytes)

    go : (b : Bool) → Decides Term (spec.parameter_if rules b) F
    go false = tt
    go true = (anything, tt, λ u. ((anything, tt, λ g. (after (same_class spec.bang g.class) g, λ i y j e h. refl)), λ i y j e h. refl))

decides_bare : (rules : spec.Rules) (index number : ℕ) (F : TokenClass → Bool) → Decides Term (spec.bare rules index number) F
unfolding spec.bare
decides_bare rules index number F = (
  anything,
  decides_shown_at index (rules.arity number 0) anything,
  λ u. ((anything, decides_node_at index anything, λ v. (decides_unnested _ F, λ i y j e h. refl)), λ i y j e h. refl),
)

-- ---- what goes on after a name is decided

module _ (rules : spec.Rules) (more : ℕ → ℕ → G Term) (decided : (index number : ℕ) (F : TokenClass → Bool) → Decides Term (more index number) F) where
  decides_after_name : (index number : ℕ) (F : TokenClass → Bool) → Decides Term (spec.after_name rules more index number) F
  unfolding spec.after_name
  decides_after_name index number F = (anything, tt, λ g. (go (same_class spec.less g.class), λ i y j e h. refl))
    where
      go : (b : Bool) → Decides Term (spec.after_name_by rules more index number b) F
      go true = decided index number F
      go false = decides_bare rules index number F

  decides_resolved_name : (index : ℕ) (F : TokenClass → Bool) → Decides Term (spec.resolved_name rules more index) F
  unfolding spec.resolved_name
  decides_resolved_name index F = (
    anything,
    decides_spelled_name anything,
    λ bytes. (
      (anything, tt, λ number. ((anything, tt, λ u. (decides_after_name index number F, λ i y j e h. refl)), λ i y j e h. refl)),
      λ i y j e h. refl,
    ),
  )

  decides_named : (scoped : Bool) (F : TokenClass → Bool) → Decides Term (spec.named rules more scoped) F
  unfolding spec.named
  decides_named scoped F = (anything, tt, λ h. (go h (is_name h.class), λ i y j e g. refl))
    where
      other : (b : Bool) (h : Lookahead) → Decides Term (spec.other_name rules more b h) F
      other true h = tt
      other false h = decides_resolved_name h.index F

      by : (h : Lookahead) (s : Special) → Decides Term (spec.named_by rules more scoped h s) F
      by h (special.Builtin b) = decides_builtin_name b F
      by h (special.Refused f) = tt
      by h special.Nothing = other scoped h

      go : (h : Lookahead) (b : Bool) → Decides Term (spec.named_if rules more scoped h b) F
      go h false = tt
      go h true = by h (special_of h.bytes)

  decides_bracketed : (F : TokenClass → Bool) → Decides Term (spec.bracketed rules more) F
  unfolding spec.bracketed
  decides_bracketed F = (
    anything,
    decides_name anything,
    λ n. ((anything, decides_expect spec.right_bracket anything, λ v. (decides_named true F, λ i y j e h. refl)), λ i y j e h. refl),
  )

  decides_scoped : (F : TokenClass → Bool) → Decides Term (spec.scoped rules more) F
  unfolding spec.scoped
  decides_scoped F = (anything, tt, λ u. (decides_bracketed F, λ i y j e h. refl))

  decides_keyworded : (F : TokenClass → Bool) → Decides Term (spec.keyworded rules more) F
  unfolding spec.keyworded
  decides_keyworded F = (anything, tt, λ u. ((anything, tt, λ g. (go (same_class spec.left_bracket g.class), λ i y j e h. refl)), λ i y j e h. refl))
    where
      go : (b : Bool) → Decides Term (spec.keyworded_by rules more b) F
      go true = decides_scoped F
      go false = decides_named false F

  decides_started : (s : Start) (F : TokenClass → Bool) → Decides Term (spec.started rules more s) F
  decides_started start.Parameter F = decides_parameter rules F
  decides_started start.Keyworded F = decides_keyworded F
  decides_started start.Scope F = decides_scoped F
  decides_started (start.Builtin b) F = decides_builtin_word b F
  decides_started start.Unsigned F = decides_unsigned F
  decides_started start.Name F = decides_named false F
  decides_started (start.Refused cause) F = tt

  decides_suffixed : (t : Term) (F : TokenClass → Bool) → Decides Term (spec.suffixed t) F
  unfolding spec.suffixed
  decides_suffixed t F = (anything, tt, λ g. (go (suffix_of g.class), λ i y j e h. refl))
    where
      go : (f : Option Form) → Decides Term (spec.suffixed_by t f) F
      go None = tt
      go (Some f) = tt

  decides_type_by : (only_named : Bool) (F : TokenClass → Bool) → Decides Term (spec.type_by rules more only_named) F
  unfolding spec.type_by
  decides_type_by only_named F = (
    anything,
    tt,
    λ h. ((anything, decides_started (start_at only_named h.class) anything, λ t. (decides_suffixed t F, λ i y j e g. refl)), λ i y j e g. refl),
  )

-- ---- arguments

decides_closed : (rules : spec.Rules) (index number : ℕ) (args : List Term) (F : TokenClass → Bool) → Decides Term (spec.closed rules index number args) F
unfolding spec.closed
decides_closed rules index number args F = (
  anything,
  decides_must_see spec.greater anything,
  λ u. ((anything, decides_shown_at index _ anything, λ v. (decides_then_pass Term _ F, λ i y j e h. refl)), λ i y j e h. refl),
)

closed_begins : (rules : spec.Rules) (index number : ℕ) (args : List Term) (i : Input) (x : Term) (j : Input) → Derives Term (spec.closed rules index number args) i x j
    → same_class spec.greater (class_at i) ≡ true
unfolding spec.closed
closed_begins rules index number args i x j d = must_see_begins spec.greater i d.0 d.1 d.2

greater_alone : (q : TokenClass) → IsTrue (same_class spec.greater q) → is_comma q ≡ false
greater_alone class.End e = refl
greater_alone (class.Word k) e = refl
greater_alone (class.Directive k) e = refl
greater_alone class.Quoted e = refl
greater_alone class.Number e = refl
greater_alone class.Text e = refl
greater_alone (class.Symbol b) e = ap (λ n. is_comma (class.Symbol n)) (sym (eqb-true 62 b e))
greater_alone class.Colons e = refl
greater_alone class.Percents e = refl

decides_arguments : (rules : spec.Rules) (argument : G Term) → ((F : TokenClass → Bool) → Decides Term argument F) → (index number : ℕ) (F : TokenClass → Bool)
    → Decides Term (spec.arguments rules argument index number) F
unfolding spec.arguments
decides_arguments rules argument decided index number F = (
  anything,
  decides_node_at index anything,
  λ u. (
    (
      anything,
      tt,
      λ v. (
        (
          same_class spec.greater,
          (decided _, greater_alone, λ i x j d. refl),
          λ args. (decides_closed rules index number args F, λ i y j e h. closed_begins rules index number args i y j e),
        ),
        λ i y j e h. refl,
      ),
    ),
    λ i y j e h. refl,
  ),
)

decides_no_arguments : (index number : ℕ) (F : TokenClass → Bool) → Decides Term (spec.no_arguments index number) F
unfolding spec.no_arguments
decides_no_arguments index number F = (anything, decides_node_at index anything, λ u. (tt, λ i y j e h. refl))

decides_type_of : (rules : spec.Rules) (room : ℕ) (only_named : Bool) (F : TokenClass → Bool) → Decides Term (spec.type_of rules room only_named) F
unfolding spec.type_of
decides_type_of rules zero only_named F = decides_type_by rules spec.no_arguments decides_no_arguments only_named F
decides_type_of rules (suc room) only_named F =
    decides_type_by rules (spec.arguments rules (spec.type_of rules room false)) (decides_arguments rules (spec.type_of rules room false) (decides_type_of rules room false)) only_named F

pub decides_written : (rules : spec.Rules) (only_named : Bool) (F : TokenClass → Bool) → Decides Term (spec.written rules only_named) F
unfolding spec.written
decides_written rules only_named F = (anything, decides_no_nodes anything, λ u. (decides_type_of rules 15 only_named F, λ i y j e h. refl))

pub decides_written_rest : (rules : spec.Rules) (F : TokenClass → Bool) → Decides Term (spec.written_rest rules) F
unfolding spec.written_rest
decides_written_rest rules F = (
  anything,
  decides_no_nodes anything,
  λ u. (
    (
      anything,
      decides_bracketed rules (spec.more_of rules (Some 14)) (decides_arguments rules (spec.type_of rules 14 false) (decides_type_of rules 14 false)) anything,
      λ t. (decides_suffixed rules spec.no_arguments decides_no_arguments t F, λ i y j e h. refl),
    ),
    λ i y j e h. refl,
  ),
)

pub decides_written_open : (rules : spec.Rules) (F : TokenClass → Bool) → Decides Term (spec.written_open rules) F
unfolding spec.written_open spec.outermost spec.suffixed_open
decides_written_open rules F = (
  anything,
  decides_no_nodes anything,
  λ u. (
    (
      anything,
      (
        anything,
        tt,
        λ h. (
          decides_started rules (spec.more_of rules (Some 14)) (decides_arguments rules (spec.type_of rules 14 false) (decides_type_of rules 14 false)) (start_at false h.class) anything,
          λ i y j e g. refl,
        ),
      ),
      λ t. ((anything, tt, λ g. (go t (spec.open_suffix_by (same_class spec.left_bracket g.class) g.class), λ i y j e h. refl)), λ i y j e h. refl),
    ),
    λ i y j e h. refl,
  ),
)
  where
    go : (t : Term) (f : Option Form) → Decides Term (spec.suffixed_by t f) F
    go t None = tt
    go t (Some f) = tt
