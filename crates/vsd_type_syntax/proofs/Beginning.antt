-- What a type begins with.
use Rattle.std.proofs.Common.{◌≡◌, ℕ, zero, suc, Bool, true, false, cond, length, eqb, Some, None, refl, ap, sym, subst, ◌∙◌}
use Rattle.vsd_terms.specs.declared.term.Term.{Term}
use Rattle.vsd_grammar.specs.declared.cause.Cause.TheVariants.{Unexpected}
use Rattle.vsd_grammar.specs.Input.{Input, class_at, bytes_at}
use Rattle.vsd_grammar.specs.Grammar.{G, Derives, tried}
use Rattle.vsd_grammar.specs.Productions.{is_name, no_nodes}
use Rattle.vsd_grammar.proofs.Spelling.{spelled_some}
use Rattle.vsd_type_syntax.specs.declared.starts.Start.{Start}
use Rattle.vsd_type_syntax.specs.declared.starts.Start.TheVariants as start
use Rattle.vsd_type_syntax.specs.declared.starts.Special.{Special}
use Rattle.vsd_type_syntax.specs.declared.starts.Special.TheVariants as special
use Rattle.vsd_type_syntax.specs.Starts.{start_at, special_of}
use Rattle.vsd_type_syntax.specs.Types as spec

named_begins : (rules : spec.Rules) (more : ℕ → ℕ → G Term) (i : Input) (x : Term) (j : Input) → Derives Term (spec.named rules more false) i x j
    → spec.name_cause (eqb (length (bytes_at i)) 0) (special_of (bytes_at i)) ≡ None
unfolding spec.named spec.resolved_name
named_begins rules more i x j d = subst (λ h. spec.name_cause (eqb (length (bytes_at i)) 0) (special_of h.bytes) ≡ None) (sym d.2.0) (go (is_name d.0.class) d.3)
  where
    by : (s : Special) → Derives Term (spec.named_by rules more false d.0 s) d.1 x j → spec.name_cause (eqb (length (bytes_at i)) 0) s ≡ None
    by (special.Builtin b) g = refl
    by (special.Refused f) g = absurd g
    by special.Nothing g =
        let some = ap (λ k. eqb (length (bytes_at k)) 0) d.2.1 ∙ spelled_some d.1 g.0 g.1 g.2 in
        ap (λ b. cond b (Some Unexpected) None) some

    go : (b : Bool) → Derives Term (spec.named_if rules more false d.0 b) d.1 x j → spec.name_cause (eqb (length (bytes_at i)) 0) (special_of d.0.bytes) ≡ None
    go false g = absurd g
    go true g = by (special_of d.0.bytes) g

type_by_begins : (rules : spec.Rules) (more : ℕ → ℕ → G Term) (only_named : Bool) (i : Input) (x : Term) (j : Input) → Derives Term (spec.type_by rules more only_named) i x j
    → tried (spec.first_cause only_named) i ≡ None
unfolding spec.type_by spec.first_cause
type_by_begins rules more only_named i x j d =
    ap (λ h. spec.start_cause (start_at only_named h.class) (bytes_at i)) d.2.0 ∙ go (start_at only_named d.0.class) d.3.2
  where
    go : (s : Start) → Derives Term (spec.started rules more s) d.1 d.3.0 d.3.1 → spec.start_cause s (bytes_at i) ≡ None
    go start.Name g = subst (λ k. spec.name_cause (eqb (length (bytes_at k)) 0) (special_of (bytes_at k)) ≡ None) (sym d.2.1) (named_begins rules more d.1 d.3.0 d.3.1 g)
    go (start.Refused cause) g = absurd g
    go start.Parameter g = refl
    go start.Keyworded g = refl
    go start.Scope g = refl
    go (start.Builtin b) g = refl
    go start.Unsigned g = refl

type_of_begins : (rules : spec.Rules) (room : ℕ) (only_named : Bool) (i : Input) (x : Term) (j : Input) → Derives Term (spec.type_of rules room only_named) i x j
    → tried (spec.first_cause only_named) i ≡ None
unfolding spec.type_of
type_of_begins rules zero only_named i x j d = type_by_begins rules spec.no_arguments only_named i x j d
type_of_begins rules (suc room) only_named i x j d = type_by_begins rules (spec.arguments rules (spec.type_of rules room false)) only_named i x j d

pub written_begins : (rules : spec.Rules) (only_named : Bool) (i : Input) (x : Term) (j : Input) → Derives Term (spec.written rules only_named) i x j
    → tried (spec.first_cause only_named) i ≡ None
unfolding spec.written no_nodes class_at bytes_at
written_begins rules only_named i x j d = subst (λ k. tried (spec.first_cause only_named) k ≡ None → tried (spec.first_cause only_named) i ≡ None) d.2.2 (λ e. e) (type_of_begins rules 15 only_named d.1 x j d.3)
