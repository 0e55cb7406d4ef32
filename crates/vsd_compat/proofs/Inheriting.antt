-- What is compatible with a type is compatible with what lies right above that type.
use Rattle.std.proofs.Common.{◌≡◌, ℕ, true, List, Some, Contains, refl, sym, ap, ◌∙◌, subst}
use Rattle.vsd_terms.specs.declared.term.Term.{Term}
use Rattle.vsd_ast.specs.declared.declarations.Decl.{Decl}
use Rattle.vsd_ast.specs.declared.declarations.Sign.{Sign}
use Rattle.vsd_types.specs.Types.{base_of, is_interface_type, named_of, object}
use Rattle.vsd_compat.specs.Compatibility.{AreSameInterface, IsCompatible, IsParameter, same, to_object, by_base, by_interface, by_variance}
use Rattle.vsd_compat.specs.Rules.{KeepsRules, VariesAs}
use Rattle.vsd_compat.proofs.Arguments.{lawful-at}
use Rattle.vsd_compat.proofs.Below.{IsBelow, by_signs, below-compatible}
use Rattle.vsd_compat.proofs.Heads.{IsLawful, interface-no_base, lawful-base, lawful-interface, object-names_nothing, object-no_base, object-no_interface, turned_interface}
use Rattle.vsd_compat.proofs.Least.{least}
use Rattle.vsd_compat.proofs.Orderly.{AreOrderly}
use Rattle.vsd_compat.proofs.Spreading.{required_below}

-- `object` is compatible with itself alone
pub object-alone : (ds : List Decl) {t c : Term} → t ≡ object → IsCompatible ds t c → c ≡ object
object-alone ds is (same e) = sym e ∙ is
object-alone ds is (to_object e) = e
object-alone ds is (by_base b at rest) = absurd (object-no_base ds b (ap (base_of ds) (sym is) ∙ at))
object-alone ds is (by_interface i has rest) =
    absurd (object-names_nothing ds i (subst (λ z. Contains (named_of ds z) i) is has))
object-alone ds is (by_variance generic at) =
    absurd (object-no_interface ds (subst (λ z. is_interface_type ds z ≡ true) is generic.interface))

module _ (ds : List Decl) (orderly : AreOrderly ds) where
  abbrev Lawful : Term → Type 0
  Lawful = IsLawful ds

  -- the first is compatible with the second, and with what the second has right above itself
  pub record Inherits (t u : Term) : Type 0 where
    pub itself : IsCompatible ds t u
    pub base : (b : Term) → base_of ds u ≡ Some b → IsCompatible ds t b
    pub interface : (i : Term) → Contains (named_of ds u) i → IsCompatible ds t i

  abbrev pub InheritsLawfully : Term → Term → Type 0
  InheritsLawfully t u = Lawful t → Lawful u → Inherits t u

  inherits-below : {a b : Term} → IsBelow ds Inherits a b → IsCompatible ds a b
  inherits-below = below-compatible ds Inherits orderly (λ a b up. up.itself)

  inherits-variance : (t u : Term) → AreSameInterface ds t u → ((place : ℕ) (s : Sign) (x y : Term) → IsParameter ds t u place s x y → VariesAs ds InheritsLawfully s x y) → InheritsLawfully t u
  inherits-variance t u generic at lawful_t lawful_u =
      let differ = lawful-at ds Inherits t u lawful_t lawful_u at in
      record {
        itself = inherits-below (by_signs generic differ);
        base = λ b is. let none = interface-no_base ds u (turned_interface ds t u generic).interface in absurd cc;
        interface = λ i has.
            let found = required_below ds Inherits orderly t u lawful_t lawful_u generic differ i has in
            by_interface found.0 found.1 (inherits-below found.2);
      }

  inherits-rules : KeepsRules ds InheritsLawfully
  inherits-rules = record {
    itself = λ t lawful_t lawful_u. record {
      itself = same refl;
      base = λ b is. by_base b is (same refl);
      interface = λ i has. by_interface i has (same refl);
    };
    to_object = λ t lawful_t lawful_u. record {
      itself = to_object refl;
      base = λ b is. absurd (object-no_base ds b is);
      interface = λ i has. absurd (object-names_nothing ds i has);
    };
    base = λ t b u is related lawful_t lawful_u.
        let up = related (lawful-base ds orderly t b lawful_t is) lawful_u in
        record {
          itself = by_base b is up.itself;
          base = λ c at. by_base b is (up.base c at);
          interface = λ i has. by_base b is (up.interface i has);
        };
    interface = λ t i u has related lawful_t lawful_u.
        let up = related (lawful-interface ds orderly t i lawful_t has) lawful_u in
        record {
          itself = by_interface i has up.itself;
          base = λ c at. by_interface i has (up.base c at);
          interface = λ j at. by_interface i has (up.interface j at);
        };
    variance = inherits-variance;
  }

  pub inherits : {t u : Term} → IsCompatible ds t u → InheritsLawfully t u
  inherits = least ds InheritsLawfully inherits-rules
