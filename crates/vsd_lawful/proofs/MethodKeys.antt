-- Keys are equal where their methods have one name and one signature.
use Rattle.std.proofs.Common.{◌≡◌, ℕ, ◌+◌, Bool, true, false, ◌&&◌, not, cond, List, Option, Some, None, inl, inr, refl, sym, ap, ◌∙◌, nat_eq, Bor}
use Rattle.std.specs.Bool.{Decides}
use Rattle.std.specs.Cmp.Lexicographic.{pointwise}
use Rattle.std.specs.List.{slice_get}
use Rattle.std.specs.Option.{option_eq, option_copied}
use Rattle.std.proofs.lemmas.Bool.Decides.{Decides-and}
use Rattle.std.proofs.lemmas.Bool.{false≢true}
use Rattle.std.proofs.lemmas.Slice.Eq.{slice_eq-Decides}
use Rattle.std.specs.Cmp.{unsigned_Decides}
use Rattle.vsd_terms.specs.Equality.{term_eq, term_eq-Decides}
use Rattle.vsd_terms.specs.declared.term.Term.{Term}
use Rattle.vsd_ast.specs.declared.declarations.Method.{Method}
use Rattle.vsd_ast.specs.declared.declarations.Signature.{Signature}
use Rattle.vsd_lawful.specs.declared.methods.Key.{Key}
use Rattle.vsd_lawful.specs.Keys.{IsKeyOf}
use Rattle.vsd_lawful.specs.Twice.{Repeats, SameMethod}
use Rattle.vsd_lawful.proofs.RepeatLemmas.{Repeats-start, Repeats-next, Repeats-later, Repeats-here}

-- what `==` of two keys computes
abbrev pub key_eq : Key → Key → Bool
key_eq a b = pointwise nat_eq a.name.now b.name.now && (option_eq (λ (x y : Bor Term). term_eq x.now y.now) a.result b.result && pointwise term_eq a.arguments.now b.arguments.now)

result_eq-Decides : (a b : Option (Bor Term)) (x y : Option Term) → option_copied a ≡ x → option_copied b ≡ y → Decides (option_eq (λ (s t : Bor Term). term_eq s.now t.now) a b) (x ≡ y)
result_eq-Decides None None x y p q = (λ _. sym p ∙ q, λ _. refl)
result_eq-Decides None (Some b) x y p q = (λ h. absurd cc, λ e. absurd cc)
result_eq-Decides (Some a) None x y p q = (λ h. absurd cc, λ e. absurd cc)
result_eq-Decides (Some a) (Some b) x y p q = let d = term_eq-Decides a.now b.now in (λ h. sym p ∙ ap Some (d.0 h) ∙ q, λ e. d.1 cc)

same_signature : (s t : Signature) → s.result ≡ t.result → s.arguments ≡ t.arguments → s ≡ t
same_signature s t results arguments =
    let made : Option Term → List Term → Signature = λ r a. record { result = r; arguments = a } in
    ap (λ r. made r s.arguments) results ∙ ap (made t.result) arguments

pub key_eq-Decides : (a b : Key) (m n : Method) → IsKeyOf a m → IsKeyOf b n → Decides (key_eq a b) (SameMethod m n)
key_eq-Decides a b m n p q =
    let names = slice_eq-Decides unsigned_Decides a.name.now b.name.now (pointwise nat_eq a.name.now b.name.now) refl in
    let results = result_eq-Decides a.result b.result m.signature.result n.signature.result p.result q.result in
    let arguments = slice_eq-Decides term_eq-Decides a.arguments.now b.arguments.now (pointwise term_eq a.arguments.now b.arguments.now) refl in
    let all = Decides-and _ _ names (Decides-and _ _ results arguments) in (
      λ h. let w = all.0 h in (sym p.name ∙ w.0 ∙ q.name, same_signature m.signature n.signature w.1.0 (sym p.arguments ∙ w.1.1 ∙ q.arguments)),
      λ s. all.1 (p.name ∙ s.0 ∙ sym q.name, (ap (λ (s : Signature). s.result) s.1, p.arguments ∙ ap (λ (s : Signature). s.arguments) s.1 ∙ sym q.arguments)),
    )

-- the keys that a test finds are those of the methods before place i
pub record AreSeen (methods : List Method) (i : ℕ) (test : Key → Bool) : Type 0 where
  pub each : (q : Key) (m : Method) → IsKeyOf q m → Decides (test q) (Repeats SameMethod methods i m)

pub AreSeen-start : (methods : List Method) (test : Key → Bool) → ((q : Key) → test q ≡ false) → AreSeen methods 0 test
AreSeen-start methods test none = record { each = λ q m is. (λ h. absurd (false≢true (sym (none q) ∙ h)), λ r. absurd (Repeats-start SameMethod methods m r)) }

pub AreSeen-next : (methods : List Method) (i : ℕ) (x : Method) (k : Key) (old new : Key → Bool) → slice_get methods i ≡ Some x → IsKeyOf k x → ((q : Key) → new q ≡ cond (key_eq k q) true (old q)) → AreSeen methods i old → AreSeen methods (i + 1) new
AreSeen-next methods i x k old new here key updates before = record {
  each = λ q m is.
      let d = key_eq-Decides k q x m key is in
      let e = before.each q m is in (
        λ h. found q m (key_eq k q) refl d e (sym (updates q) ∙ h),
        λ r. updates q ∙ elim (Repeats-next SameMethod methods i x m here r) [ inl early ↦ any (key_eq k q) (old q) (e.1 early) | inr same ↦ ap (λ b. cond b true (old q)) (d.1 same) ],
      );
}
  where
    any : (b c : Bool) → c ≡ true → cond b true c ≡ true
    any true c e = refl
    any false c e = e

    found : (q : Key) (m : Method) (b : Bool) → key_eq k q ≡ b → Decides (key_eq k q) (SameMethod x m) → Decides (old q) (Repeats SameMethod methods i m) → cond b true (old q) ≡ true → Repeats SameMethod methods (i + 1) m
    found q m true is d e h = Repeats-here SameMethod methods i x m here (d.0 is)
    found q m false is d e h = Repeats-later SameMethod methods i m (e.0 h)

-- a key that isn't new is that of a method like an earlier one
pub AreSeen-known : (methods : List Method) (i : ℕ) (test : Key → Bool) (k : Key) (m : Method) (new : Bool) → IsKeyOf k m → new ≡ not (test k) → AreSeen methods i test → Decides (not new) (Repeats SameMethod methods i m)
AreSeen-known methods i test k m new key is seen =
    let d = seen.each k m key in
    (λ h. d.0 (twice (test k) ∙ ap not (sym is) ∙ h), λ r. ap not is ∙ sym (twice (test k)) ∙ d.1 r)
  where
    twice : (b : Bool) → b ≡ not (not b)
    twice true = refl
    twice false = refl
