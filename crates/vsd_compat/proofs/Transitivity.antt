-- Why compatibility is transitive over lawful declarations. A step is carried over a derivation that comes before it or
-- behind it, and the arguments of a step by variance are steps again.
use Rattle.std.proofs.Common.{◌≡◌, ℕ, true, inl, inr, List, Some, Contains, refl, sym, subst}
use Rattle.std.specs.List.{slice_get}
use Rattle.vsd_terms.specs.declared.term.Term.{Term}
use Rattle.vsd_ast.specs.declared.declarations.Decl.{Decl}
use Rattle.vsd_ast.specs.declared.declarations.Sign.{Sign}
use Rattle.vsd_ast.specs.declared.declarations.Sign.TheVariants.{Plus, Minus, Plain}
use Rattle.vsd_types.specs.Types.{args_of, base_of, is_reference_type, named_of}
use Rattle.vsd_compat.specs.Compatibility.{AreSameInterface, IsCompatible, IsParameter, Varies, same, to_object, by_base, by_interface, by_variance, covariant, contravariant}
use Rattle.vsd_compat.specs.Rules.{KeepsRules, VariesAs}
use Rattle.vsd_compat.proofs.Arguments.{argument-lawful, joined_interface, lawful-at, middle}
use Rattle.vsd_compat.proofs.Below.{IsBelow, alike, known, by_signs, Differs, unchanged, below-compatible, below-references, differs-varies, minus-below, plus-below}
use Rattle.vsd_compat.proofs.Heads.{IsLawful, interface-no_base, lawful-base, lawful-interface, turned_interface}
use Rattle.vsd_compat.proofs.Inheriting.{inherits, object-alone}
use Rattle.vsd_compat.proofs.Least.{least}
use Rattle.vsd_compat.proofs.Orderly.{AreOrderly}
use Rattle.vsd_compat.proofs.Spreading.{required_below}

module _ (ds : List Decl) (orderly : AreOrderly ds) where
  abbrev Lawful : Term → Type 0
  Lawful = IsLawful ds

  -- ---- a derivation over which steps are carried, and steps that are carried over derivations

  -- what the second is compatible with the first is, and what is compatible with the first is with the second
  record Carries (t u : Term) : Type 0 where
    itself : IsCompatible ds t u
    before : (c : Term) → Lawful c → IsCompatible ds u c → IsCompatible ds t c
    behind : (c : Term) → Lawful c → IsCompatible ds c t → IsCompatible ds c u

  abbrev CarriesLawfully : Term → Term → Type 0
  CarriesLawfully t u = Lawful t → Lawful u → Carries t u

  abbrev Below : Term → Term → Type 0
  Below = IsBelow ds Carries

  carries-below : {a b : Term} → Below a b → IsCompatible ds a b
  carries-below = below-compatible ds Carries orderly (λ a b step. step.itself)

  -- what is below the first is compatible with the second, and the first with what the second is below
  record Moves (t u : Term) : Type 0 where
    left : (a : Term) → Lawful a → Below a t → IsCompatible ds a u
    right : (c : Term) → Lawful c → Below u c → IsCompatible ds t c

  abbrev MovesLawfully : Term → Term → Type 0
  MovesLawfully t u = Lawful t → Lawful u → Moves t u

  -- only a step by variance is left to show
  left-cases : {a t : Term} (u : Term) → Lawful u → IsCompatible ds t u → (AreSameInterface ds a t → ((place : ℕ) (s : Sign) (x y : Term) → IsParameter ds a t place s x y → Differs ds Carries s x y) → IsCompatible ds a u) → Below a t → IsCompatible ds a u
  left-cases u lawful rest inner (alike e) = subst (λ z. IsCompatible ds z u) (sym e) rest
  left-cases u lawful rest inner (known references step) = step.before u lawful rest
  left-cases u lawful rest inner (by_signs generic at) = inner generic at

  right-cases : {u c : Term} (t : Term) → Lawful t → IsCompatible ds t u → (AreSameInterface ds u c → ((place : ℕ) (s : Sign) (x y : Term) → IsParameter ds u c place s x y → Differs ds Carries s x y) → IsCompatible ds t c) → Below u c → IsCompatible ds t c
  right-cases t lawful rest inner (alike e) = subst (IsCompatible ds t) e rest
  right-cases t lawful rest inner (known references step) = step.behind t lawful rest
  right-cases t lawful rest inner (by_signs generic at) = inner generic at

  -- ---- arguments, one step after the other

  below-first : {a b : Term} → Below a b → is_reference_type ds b ≡ true → is_reference_type ds a ≡ true
  below-first below is = elim (below-references ds Carries orderly below) [
    | inl e ↦ subst (λ z. is_reference_type ds z ≡ true) (sym e) is
    | inr references ↦ references.first
  ]

  below-second : {a b : Term} → Below a b → is_reference_type ds a ≡ true → is_reference_type ds b ≡ true
  below-second below is = elim (below-references ds Carries orderly below) [
    | inl e ↦ subst (λ z. is_reference_type ds z ≡ true) e is
    | inr references ↦ references.second
  ]

  carries-varies : {s : Sign} {x y : Term} → Differs ds Carries s x y → Varies ds s x y
  carries-varies = differs-varies ds Carries orderly (λ a b step. step.itself)

  join-left : (s : Sign) (x y z : Term) → Lawful x → Lawful y → Lawful z → Differs ds Carries s x y → VariesAs ds MovesLawfully s y z → Varies ds s x z
  join-left s x y z lawful_x lawful_y lawful_z d (inl e) =
      subst (λ (v : Term). Varies ds s x v) e (carries-varies d)
  join-left Plus x y z lawful_x lawful_y lawful_z d (inr w) =
      let below = plus-below ds Carries refl d in
      covariant refl (record { first = below-first below w.0.first; second = w.0.second }) ((w.1 lawful_y lawful_z).left x lawful_x below)
  join-left Minus x y z lawful_x lawful_y lawful_z d (inr w) =
      let below = minus-below ds Carries refl d in
      contravariant refl (record { first = below-second below w.0.first; second = w.0.second }) ((w.1 lawful_z lawful_y).right x lawful_x below)
  join-left Plain x y z lawful_x lawful_y lawful_z d (inr w) = absurd w.1

  join-right : (s : Sign) (x y z : Term) → Lawful x → Lawful y → Lawful z → VariesAs ds MovesLawfully s x y → Differs ds Carries s y z → Varies ds s x z
  join-right s x y z lawful_x lawful_y lawful_z (inl e) d =
      subst (λ (v : Term). Varies ds s v z) (sym e) (carries-varies d)
  join-right Plus x y z lawful_x lawful_y lawful_z (inr w) d =
      let below = plus-below ds Carries refl d in
      covariant refl (record { first = w.0.first; second = below-second below w.0.second }) ((w.1 lawful_x lawful_y).right z lawful_z below)
  join-right Minus x y z lawful_x lawful_y lawful_z (inr w) d =
      let below = minus-below ds Carries refl d in
      contravariant refl (record { first = w.0.first; second = below-first below w.0.second }) ((w.1 lawful_y lawful_x).left z lawful_z below)
  join-right Plain x y z lawful_x lawful_y lawful_z (inr w) d = absurd w.1

  -- ---- each derivation is one over which steps are carried

  moves-base : (t b u : Term) → base_of ds t ≡ Some b → MovesLawfully b u → MovesLawfully t u
  moves-base t b u is related lawful_t lawful_u =
      let lawful_b = lawful-base ds orderly t b lawful_t is in
      let up = related lawful_b lawful_u in
      let whole = by_base b is (up.left b lawful_b (alike refl)) in
      record {
        left = λ a lawful_a below. left-cases u lawful_u whole (λ generic at. let none = interface-no_base ds t (turned_interface ds a t generic).interface in absurd cc) below;
        right = λ c lawful_c below. by_base b is (up.right c lawful_c below);
      }

  moves-interface : (t i u : Term) → Contains (named_of ds t) i → MovesLawfully i u → MovesLawfully t u
  moves-interface t i u has related lawful_t lawful_u =
      let lawful_i = lawful-interface ds orderly t i lawful_t has in
      let up = related lawful_i lawful_u in
      let whole = by_interface i has (up.left i lawful_i (alike refl)) in
      record {
        left = λ a lawful_a below. left-cases u lawful_u whole (λ generic at.
            let found = required_below ds Carries orderly a t lawful_a lawful_t generic at i has in
            by_interface found.0 found.1 (up.left found.0 (lawful-interface ds orderly a found.0 lawful_a found.1) found.2)) below;
        right = λ c lawful_c below. by_interface i has (up.right c lawful_c below);
      }

  moves-variance : (t u : Term) → AreSameInterface ds t u → ((place : ℕ) (s : Sign) (x y : Term) → IsParameter ds t u place s x y → VariesAs ds MovesLawfully s x y) → MovesLawfully t u
  moves-variance t u generic at lawful_t lawful_u = record {
    left = λ a lawful_a below. left-cases u lawful_u whole (λ first differ.
        by_variance (joined_interface ds a t u first generic) (λ place s x z p.
        let m = middle ds a t u lawful_a lawful_t first place s x z p in
        join-left s x m.0 z (of a lawful_a place x p.first) (of t lawful_t place m.0 m.1.second) (of u lawful_u place z p.second) (differ place s x m.0 m.1) (at place s m.0 z m.2))) below;
    right = λ c lawful_c below. right-cases t lawful_t whole (λ second differ.
        by_variance (joined_interface ds t u c generic second) (λ place s x z p.
        let m = middle ds t u c lawful_t lawful_u generic place s x z p in
        join-right s x m.0 z (of t lawful_t place x p.first) (of u lawful_u place m.0 m.1.second) (of c lawful_c place z p.second) (at place s x m.0 m.1) (differ place s m.0 z m.2))) below;
  }
    where
      of : (v : Term) → Lawful v → (place : ℕ) (x : Term) → slice_get (args_of v) place ≡ Some x → Lawful x
      of = argument-lawful ds

      whole : IsCompatible ds t u
      whole = by_variance generic (λ place s x y p.
          let lawful_x = of t lawful_t place x p.first in
          join-left s x x y lawful_x lawful_x (of u lawful_u place y p.second) (unchanged refl) (at place s x y p))

  moves-rules : KeepsRules ds MovesLawfully
  moves-rules = record {
    itself = λ t lawful_t lawful_u. record {
      left = λ a lawful_a below. carries-below below;
      right = λ c lawful_c below. carries-below below;
    };
    to_object = λ t lawful_t lawful_u. record {
      left = λ a lawful_a below. to_object refl;
      right = λ c lawful_c below. to_object (object-alone ds refl (carries-below below));
    };
    base = moves-base;
    interface = moves-interface;
    variance = moves-variance;
  }

  moves : {t u : Term} → IsCompatible ds t u → MovesLawfully t u
  moves = least ds MovesLawfully moves-rules

  -- ---- each step is carried over derivations

  carries-variance : (t u : Term) → AreSameInterface ds t u → ((place : ℕ) (s : Sign) (x y : Term) → IsParameter ds t u place s x y → VariesAs ds CarriesLawfully s x y) → CarriesLawfully t u
  carries-variance t u generic at lawful_t lawful_u =
      let below : Below t u = by_signs generic (lawful-at ds Carries t u lawful_t lawful_u at) in
      record {
        itself = carries-below below;
        before = λ c lawful_c rest. (moves rest lawful_u lawful_c).left t lawful_t below;
        behind = λ c lawful_c rest. (moves rest lawful_c lawful_t).right u lawful_u below;
      }

  carries-rules : KeepsRules ds CarriesLawfully
  carries-rules = record {
    itself = λ t lawful_t lawful_u. record {
      itself = same refl;
      before = λ c lawful_c rest. rest;
      behind = λ c lawful_c rest. rest;
    };
    to_object = λ t lawful_t lawful_u. record {
      itself = to_object refl;
      before = λ c lawful_c rest. to_object (object-alone ds refl rest);
      behind = λ c lawful_c rest. to_object refl;
    };
    base = λ t b u is related lawful_t lawful_u.
        let up = related (lawful-base ds orderly t b lawful_t is) lawful_u in
        record {
          itself = by_base b is up.itself;
          before = λ c lawful_c rest. by_base b is (up.before c lawful_c rest);
          behind = λ c lawful_c rest. up.behind c lawful_c ((inherits ds orderly rest lawful_c lawful_t).base b is);
        };
    interface = λ t i u has related lawful_t lawful_u.
        let up = related (lawful-interface ds orderly t i lawful_t has) lawful_u in
        record {
          itself = by_interface i has up.itself;
          before = λ c lawful_c rest. by_interface i has (up.before c lawful_c rest);
          behind = λ c lawful_c rest. up.behind c lawful_c ((inherits ds orderly rest lawful_c lawful_t).interface i has);
        };
    variance = carries-variance;
  }

  -- a type that is compatible with a second, and that with a third, is compatible with the third
  pub transitive : (t u w : Term) → Lawful t → Lawful u → Lawful w → IsCompatible ds t u → IsCompatible ds u w → IsCompatible ds t w
  transitive t u w lawful_t lawful_u lawful_w first second =
      (least ds CarriesLawfully carries-rules first lawful_t lawful_u).before w lawful_w second
