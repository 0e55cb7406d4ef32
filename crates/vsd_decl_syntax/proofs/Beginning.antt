-- What the items of lists begin with.
use Rattle.std.proofs.Common.{◌≡◌, ℕ, zero, suc, ◌<◌, Bool, true, false, cond, List, length, eqb, IsTrue, Option, Some, None, Result, Ok, Err, refl, ap, sym, subst, ◌∙◌}
use Rattle.std.proofs.lemmas.Bool.{eqb-true}
use Rattle.vsd_terms.specs.declared.term.Term.{Term}
use Rattle.vsd_ast.specs.declared.declarations.Param.{Param}
use Rattle.vsd_ast.specs.declared.declarations.Located.{Located}
use Rattle.vsd_ast.specs.declared.declarations.Sign.{Sign}
use Rattle.vsd_ast.specs.declared.declarations.Sign.TheVariants as sign
use Rattle.vsd_grammar.specs.declared.token_class.TokenClass.{TokenClass}
use Rattle.vsd_grammar.specs.declared.token_class.TokenClass.TheVariants as class
use Rattle.vsd_grammar.specs.declared.turn.Turn.{Turn}
use Rattle.vsd_grammar.specs.declared.turn.Turn.TheVariants as turn
use Rattle.vsd_grammar.specs.declared.cause.Cause.{Cause}
use Rattle.vsd_grammar.specs.declared.cause.Cause.TheVariants.{Unexpected, Unsupported}
use Rattle.vsd_grammar.specs.declared.cause.Form.TheVariants as form
use Rattle.vsd_grammar.specs.Input.{Input, Lookahead, class_at, bytes_at, lookahead_of, same_class}
use Rattle.vsd_grammar.specs.Grammar.{G, bind, lookahead, Derives, Turns, tried}
use Rattle.vsd_grammar.specs.Productions.{is_name, name, spelled_name, checked, name_by, scan, scan_step, is_stop}
use Rattle.vsd_grammar.proofs.Spelling.{name_some}
use Rattle.vsd_type_syntax.specs.Types.{Rules, written, first_cause, left_bracket}
use Rattle.vsd_type_syntax.proofs.Beginning.{written_begins}
use Rattle.vsd_decl_syntax.specs.declared.arguments.Marks.{Marks}
use Rattle.vsd_decl_syntax.specs.declared.arguments.Marks.TheVariants as marks
use Rattle.vsd_decl_syntax.specs.Parameters.{rules_of, is_constraint, unconstrained, param_name, sign_of, signed, param, name_first, first_by, param_first}
use Rattle.vsd_decl_syntax.specs.Signatures.{mark_turn, marked, not_ellipsis, ellipsis, argument_start, argument_type, argument, argument_first}
use Rattle.vsd_decl_syntax.specs.Classes.{located}

-- ---- parameters

param_name_begins : (s : Sign) (i : Input) (x : Param) (j : Input) → Derives Param (param_name s) i x j → name_first (class_at i) (bytes_at i) ≡ None
unfolding param_name
param_name_begins s i x j d = subst (λ h. name_first h.class (bytes_at i) ≡ None) (sym d.2.0) (go (is_constraint d.0.class) refl d.3)
  where
    tests : (n e : Bool) → n ≡ true → e ≡ false → cond {A = Option Cause} n (cond e (Some Unexpected) None) (Some Unexpected) ≡ None
    tests true false f g = refl
    tests true true f g = absurd cc
    tests false e f g = absurd cc

    constrained : (c : Bool) → c ≡ false → (o : Option Cause) → o ≡ None → cond {A = Option Cause} c (Some (Unsupported form.Constraint)) o ≡ None
    constrained false f o g = g
    constrained true f o g = absurd cc

    go : (c : Bool) → is_constraint d.0.class ≡ c → Derives Param (unconstrained s c) d.1 x j → name_first d.0.class (bytes_at i) ≡ None
    go true e g = absurd g
    go false e g =
        let w = name_some d.1 g.0 g.1 g.2 in
        let named : is_name d.0.class ≡ true = ap (λ h. is_name h.class) (sym d.2.0) ∙ ap (λ k. is_name (class_at k)) d.2.1 ∙ w.0 in
        let some : eqb (length (bytes_at i)) 0 ≡ false = ap (λ k. eqb (length (bytes_at k)) 0) d.2.1 ∙ w.1 in
        constrained (is_constraint d.0.class) e _ (tests (is_name d.0.class) (eqb (length (bytes_at i)) 0) named some)

pub param_begins : (i : Input) (x : Param) (j : Input) → Derives Param param i x j → tried param_first i ≡ None
unfolding param
param_begins i x j d = ap (λ h. first_by (sign_of h.class) h.class (bytes_at i)) d.2.0 ∙ go (sign_of d.0.class) d.3
  where
    go : (s : Option Sign) → Derives Param (signed s) d.1 x j → first_by s d.0.class (bytes_at i) ≡ None
    go (Some s) g = refl
    go None g =
        let below = param_name_begins sign.Plain d.1 x j g in
        let here : class_at d.1 ≡ d.0.class = ap class_at (sym d.2.1) ∙ ap (λ h. h.class) d.2.0 in
        ap (λ q. name_first q (bytes_at i)) (sym here) ∙ ap (λ k. name_first (class_at d.1) (bytes_at k)) d.2.1 ∙ below

-- ---- a base or an interface

pub located_begins : (ps : List Param) (i : Input) (x : Located) (j : Input) → Derives Located (located ps) i x j → tried (first_cause true) i ≡ None
unfolding located class_at bytes_at
located_begins ps i x j d = ap (λ k. tried (first_cause true) k) d.2.1 ∙ written_begins (rules_of false ps) true d.1 d.3.0 d.3.1 d.3.2

-- ---- arguments

bracket_first : (q : TokenClass) (bytes : List ℕ) → same_class left_bracket q ≡ true → argument_first q bytes ≡ None
unfolding first_cause
bracket_first class.End bytes e = absurd cc
bracket_first (class.Word k) bytes e = absurd cc
bracket_first (class.Directive k) bytes e = absurd cc
bracket_first class.Quoted bytes e = absurd cc
bracket_first class.Number bytes e = absurd cc
bracket_first class.Text bytes e = absurd cc
bracket_first (class.Symbol b) bytes e = ap (λ n. argument_first (class.Symbol n) bytes) (sym (eqb-true 91 b e))
bracket_first class.Colons bytes e = absurd cc
bracket_first class.Percents bytes e = absurd cc

opens : (q : TokenClass) (w : Turn Marks) → mark_turn q marks.Between ≡ w → is_stop w ≡ false → same_class left_bracket q ≡ true
opens q w e f = go (same_class left_bracket q) refl (ap is_stop e ∙ f)
  where
    go : (b : Bool) → same_class left_bracket q ≡ b → is_stop (cond {A = Turn Marks} b (turn.Pass marks.Opened) turn.Stop) ≡ false → same_class left_bracket q ≡ true
    go true g h = g
    go false g h = absurd cc

argument_start_begins : (rules : Rules) (i : Input) (x : Term) (j : Input) → Derives Term (argument_start rules) i x j → tried argument_first i ≡ None
unfolding argument_start class_at bytes_at
argument_start_begins rules i x j d = subst (λ h. cond {A = Option Cause} (same_class ellipsis h.class) (Some (Unsupported form.Vararg)) (tried (first_cause false) i) ≡ None) (sym d.2.0) (go (same_class ellipsis d.0.class) d.3)
  where
    go : (b : Bool) → Derives Term (not_ellipsis rules b) d.1 x j → cond {A = Option Cause} b (Some (Unsupported form.Vararg)) (tried (first_cause false) i) ≡ None
    go true g = absurd g
    go false g = ap (λ k. tried (first_cause false) k) d.2.1 ∙ written_begins rules false d.1 x j g

pub argument_begins : (rules : Rules) (i : Input) (x : Term) (j : Input) → Derives Term (argument rules) i x j → tried argument_first i ≡ None
unfolding argument marked scan
argument_begins rules i x j d = go d.2.0 d.2.1
  where
    go : (n : ℕ) → Turns (λ q s. is_stop (mark_turn q s)) (λ s. Derives Marks (bind Lookahead Marks lookahead (λ h. scan_step Marks (mark_turn h.class s)))) n marks.Between i d.0 d.1
        → tried argument_first i ≡ None
    go zero t =
        let start : Derives Term (argument_type rules marks.Between) d.1 d.3.0 d.3.1 = subst (λ s. Derives Term (argument_type rules s) d.1 d.3.0 d.3.1) (sym t.1) d.3.2 in
        ap (λ k. tried argument_first k) t.2 ∙ argument_start_begins rules d.1 d.3.0 d.3.1 start
    go (suc n) t = bracket_first (class_at i) (bytes_at i) (opens (class_at i) (mark_turn (class_at i) marks.Between) refl t.0)
