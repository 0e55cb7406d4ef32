-- What the small productions read.
use Rattle.std.proofs.Common.{◌≡◌, Bool, true, false, cond, Ok, Err, refl, ap, sym, ◌∙◌}
use Rattle.vsd_grammar.specs.declared.token_class.TokenClass.{TokenClass}
use Rattle.vsd_grammar.specs.declared.token_class.TokenClass.TheVariants as class
use Rattle.vsd_grammar.specs.declared.cause.Cause.TheVariants.{Unexpected}
use Rattle.vsd_grammar.specs.Input.{Input, class_at, next, is_end, same_class}
use Rattle.vsd_grammar.specs.Grammar.{Outcome, and_then, run, syntax_error}
use Rattle.vsd_grammar.specs.Productions.{eat, eaten}

same_is_some : (p q : TokenClass) → same_class p q ≡ true → is_end p ≡ false → is_end q ≡ false
same_is_some p class.End e h = go p e h
  where
    go : (p : TokenClass) → same_class p class.End ≡ true → is_end p ≡ false → is_end class.End ≡ false
    go class.End e h = h
    go (class.Word k) e h = sym e
    go (class.Directive k) e h = sym e
    go class.Quoted e h = sym e
    go class.Number e h = sym e
    go class.Text e h = sym e
    go (class.Symbol b) e h = sym e
    go class.Colons e h = sym e
    go class.Percents e h = sym e
same_is_some p _ e h = refl

-- a token of a class that isn't that of the end is there
pub seen_is_some : (wanted : TokenClass) (i : Input) → same_class wanted (class_at i) ≡ true → is_end wanted ≡ false → is_end (class_at i) ≡ false
seen_is_some wanted i e h = same_is_some wanted (class_at i) e h

pub eaten_token : (wanted : TokenClass) (i : Input) → same_class wanted (class_at i) ≡ true → is_end wanted ≡ false → run Bool (eat wanted) i ≡ Ok (true, next i)
unfolding eat
eaten_token wanted i e h =
    let done : Outcome Bool = Ok (true, next i) in
    let f : Bool → Outcome Bool = λ b. cond b (Err (syntax_error i Unexpected)) done in
    let passed : run Bool (eaten true) i ≡ f (is_end (class_at i)) = pass_then (is_end (class_at i)) i in
    ap (λ b. run Bool (eaten b) i) e ∙ passed ∙ ap f (seen_is_some wanted i e h)
  where
    pass_then : (b : Bool) (i : Input) → and_then {A = Unit {0}} {B = Bool} (cond b (Err (syntax_error i Unexpected)) (Ok (tt {0}, next i))) (λ x k. Ok (true, k)) ≡ cond b (Err (syntax_error i Unexpected)) (Ok (true, next i))
    pass_then true i = refl
    pass_then false i = refl

pub nothing_eaten : (wanted : TokenClass) (i : Input) → same_class wanted (class_at i) ≡ false → run Bool (eat wanted) i ≡ Ok (false, i)
unfolding eat
nothing_eaten wanted i e = ap (λ b. run Bool (eaten b) i) e
