-- What differs in the arguments of an interface differs in what it requires the way its place says, and so what it
-- requires at the one is below what it requires at the other.
use Rattle.std.proofs.Common.{◌≡◌, ◌<◌, ℕ, zero, suc, ◌+◌, Bool, true, false, inl, inr, List, [], ◌∷◌, length, map, get_or, slice_index_or, Some, Contains, refl, sym, ap, ◌∙◌, subst, arith}
use Rattle.std.specs.Cmp.{first_so, second_so}
use Rattle.std.specs.List.{slice_get}
use Rattle.std.proofs.lemmas.Bool.{cases_lt, false≢true}
use Rattle.std.proofs.lemmas.List.{get_or_past, length-map, same_lists}
use Rattle.std.proofs.lemmas.List.Elements.{All-contains}
use Rattle.std.proofs.lemmas.Option.{slice_get-get_or}
use Rattle.vsd_terms.specs.Substitution.{subst_of}
use Rattle.vsd_terms.specs.declared.term.Term.{Term}
use Rattle.vsd_terms.specs.declared.term.Term.TheVariants.{Named, Param}
use Rattle.vsd_terms.proofs.Induction.{term_induction}
use Rattle.vsd_terms.proofs.SubstitutionLemmas.{subst_of-Named, subst_of-Param, subst_of-Builtin}
use Rattle.vsd_ast.specs.Lookup.{all_true, declared, head_of, is_lawful, takes}
use Rattle.vsd_ast.specs.declared.declarations.Decl.{Decl}
use Rattle.vsd_ast.specs.declared.declarations.Located.{Located}
use Rattle.vsd_ast.specs.declared.declarations.Param.{Param as TypeParam}
use Rattle.vsd_ast.specs.declared.declarations.Sign.{Sign}
use Rattle.vsd_ast.specs.declared.declarations.Sign.TheVariants.{Plus, Minus, Plain}
use Rattle.vsd_roots.specs.Variance.{arguments_valid, inside, interface_sign, is_valid, may_stand, parameter_sign, sign_of}
use Rattle.vsd_roots.specs.declared.variance.Position.{Position}
use Rattle.vsd_roots.specs.declared.variance.Position.TheVariants.{Positive, Negative, Invariant}
use Rattle.vsd_roots.proofs.VarianceLaws.{is_valid-Named, is_valid-Param, inside-invariant}
use Rattle.vsd_types.specs.Types.{args_of, declaration_of, declaration_of_head, declared_interfaces, declared_signs, is_declared_interface, is_interface_type, named_of, signs_of}
use Rattle.vsd_types.proofs.BaseLemmas.{lawful-declared}
use Rattle.vsd_types.proofs.Declared.{args_of-Named, head_of-Named, is_lawful-Named}
use Rattle.vsd_compat.specs.Compatibility.{AreSameInterface, IsParameter}
use Rattle.vsd_compat.proofs.Below.{IsBelow, by_signs, Differs, unchanged, with_plus, with_minus, opposite, differs-turned, plain-unchanged, plus-below}
use Rattle.vsd_compat.proofs.Heads.{IsLawful, interface_declaration, lawful-count, named_head}
use Rattle.vsd_compat.proofs.Orderly.{AreOrderly}

-- the sign at which types in a place differ
abbrev toward : Position → Sign
toward Positive = Plus
toward Negative = Minus
toward Invariant = Plain

toward-positive : (s : Sign) → toward (inside s Positive) ≡ s
toward-positive Plus = refl
toward-positive Minus = refl
toward-positive Plain = refl

toward-negative : (s : Sign) → opposite (toward (inside s Negative)) ≡ s
toward-negative Plus = refl
toward-negative Minus = refl
toward-negative Plain = refl

toward-invariant : (s : Sign) → toward (inside s Invariant) ≡ Plain
toward-invariant s = ap toward (inside-invariant s)

-- ---- lists

all_unchanged : (us vs : List Term) → length us ≡ length vs → ((k : ℕ) (u v : Term) → slice_get us k ≡ Some u → slice_get vs k ≡ Some v → u ≡ v) → us ≡ vs
all_unchanged us vs long each =
    same_lists us vs long (λ k d within. each k (get_or us k d) (get_or vs k d) (slice_get-get_or us k d within) (slice_get-get_or vs k d (omega arith)))

from_map : {A B : Type 0} (f : A → B) (xs : List A) (y : B) (k : ℕ) → k < length (map f xs) → get_or (map f xs) k y ≡ y → (x : A) × Contains xs x × (f x ≡ y)
from_map f [] y k within at = absurd (omega arith)
from_map f (x ∷ xs) y zero within at = (x, (0, omega arith, refl), at)
from_map f (x ∷ xs) y (suc k) within at =
    let rest = from_map f xs y k (omega arith) at in
    (rest.0, (suc rest.1.0, omega (arith, rest.1.1), rest.1.2), rest.2)

to_map : {A B : Type 0} (f : A → B) (xs : List A) (x : A) (k : ℕ) → k < length xs → get_or xs k x ≡ x → Contains (map f xs) (f x)
to_map f [] x k within at = absurd (omega arith)
to_map f (y ∷ xs) x zero within at = (0, omega arith, ap f at)
to_map f (y ∷ xs) x (suc k) within at =
    let rest = to_map f xs x k (omega arith) at in
    (suc rest.0, omega (arith, rest.1), rest.2)

-- the signs of parameters
sign_there : (ps : List TypeParam) (n : ℕ) → n < length ps → slice_get (map (λ (p : TypeParam). p.sign) ps) n ≡ Some (sign_of (slice_get ps n))
sign_there [] n within = absurd (omega arith)
sign_there (p ∷ ps) zero within = refl
sign_there (p ∷ ps) (suc n) within = sign_there ps n (omega arith)

sign_found : (ps : List TypeParam) (n : ℕ) (s : Sign) → slice_get (map (λ (p : TypeParam). p.sign) ps) n ≡ Some s → sign_of (slice_get ps n) ≡ s
sign_found [] n s here = absurd cc
sign_found (p ∷ ps) zero s here = cc
sign_found (p ∷ ps) (suc n) s here = sign_found ps n s here

module _ (ds : List Decl) (Known : Term → Term → Type 0) where
  -- ---- a generic type at arguments that differ

  module _ (name : ℕ) (x : Decl) (is : declared ds name ≡ Some x) where
    interface-Named : (args : List Term) → is_interface_type ds (Named name args) ≡ x.is_interface
    interface-Named args = ap (λ h. is_declared_interface (declaration_of_head ds h)) (head_of-Named name args) ∙ ap is_declared_interface is

    signs-Named : (args : List Term) → signs_of ds (Named name args) ≡ map (λ (p : TypeParam). p.sign) x.params
    signs-Named args = ap (λ h. declared_signs (declaration_of_head ds h)) (head_of-Named name args) ∙ ap declared_signs is

    same-Named : x.is_interface ≡ true → (us vs : List Term) → AreSameInterface ds (Named name us) (Named name vs)
    same-Named interface us vs = record {
      interface = interface-Named us ∙ interface;
      generic = head_of-Named name us ∙ sym (head_of-Named name vs);
    }

    parameter-Named : x.is_interface ≡ true → (us vs : List Term) (k : ℕ) (s : Sign) (u v : Term) → IsParameter ds (Named name us) (Named name vs) k s u v → (parameter_sign (declared ds name) k ≡ s) × (slice_get us k ≡ Some u) × (slice_get vs k ≡ Some v)
    parameter-Named interface us vs k s u v p = (
      ap (λ o. parameter_sign o k) is ∙ ap (λ b. interface_sign b (sign_of (slice_get x.params k))) interface ∙ sign_found x.params k s (ap (λ l. slice_get l k) (sym (signs-Named us)) ∙ p.sign),
      ap (λ l. slice_get l k) (sym (args_of-Named name us)) ∙ p.first,
      ap (λ l. slice_get l k) (sym (args_of-Named name vs)) ∙ p.second,
    )

    module _ (us vs : List Term) (long : length us ≡ length vs) where
      abbrev DifferIn : Position → Type 0
      DifferIn place = (k : ℕ) (u v : Term) → slice_get us k ≡ Some u → slice_get vs k ≡ Some v → Differs ds Known (toward (inside (parameter_sign (declared ds name) k) place)) u v

      class-differs : x.is_interface ≡ false → (place : Position) → DifferIn place → Named name us ≡ Named name vs
      class-differs class place each =
          ap (Named name) (all_unchanged us vs long (λ k u v at_u at_v. plain-unchanged ds Known (none k) (each k u v at_u at_v)))
        where
          none : (k : ℕ) → toward (inside (parameter_sign (declared ds name) k) place) ≡ Plain
          none k = ap (λ o. toward (inside (parameter_sign o k) place)) is ∙ ap (λ b. toward (inside (interface_sign b (sign_of (slice_get x.params k))) place)) class

      interface-differs : x.is_interface ≡ true → (place : Position) → DifferIn place → Differs ds Known (toward place) (Named name us) (Named name vs)
      interface-differs interface Positive each = with_plus refl (by_signs (same-Named interface us vs) (λ k s u v p.
          let q = parameter-Named interface us vs k s u v p in
          subst (λ (z : Sign). Differs ds Known z u v) (ap (λ (z : Sign). toward (inside z Positive)) q.0 ∙ toward-positive s) (each k u v q.1 q.2)))
      interface-differs interface Negative each = with_minus refl (by_signs (same-Named interface vs us) (λ k s v u p.
          let q = parameter-Named interface vs us k s v u p in
          subst (λ (z : Sign). Differs ds Known z v u) (ap (λ (z : Sign). opposite (toward (inside z Negative))) q.0 ∙ toward-negative s) (differs-turned ds Known (each k u v q.2 q.1))))
      interface-differs interface Invariant each =
          unchanged (ap (Named name) (all_unchanged us vs long (λ k u v at_u at_v. plain-unchanged ds Known (toward-invariant (parameter_sign (declared ds name) k)) (each k u v at_u at_v))))

      differs-Named : (place : Position) → DifferIn place → Differs ds Known (toward place) (Named name us) (Named name vs)
      differs-Named place each = by x.is_interface refl
        where
          by : (interface : Bool) → x.is_interface ≡ interface → Differs ds Known (toward place) (Named name us) (Named name vs)
          by true e = interface-differs e place each
          by false e = unchanged (class-differs e place each)

  -- ---- a term in parameters that differ

  -- a parameter that may stand in a place differs the way of the place
  at_place : (s : Sign) (place : Position) (x y : Term) → may_stand s place ≡ true → Differs ds Known s x y → Differs ds Known (toward place) x y
  at_place Plain place x y stands d = unchanged (plain-unchanged ds Known refl d)
  at_place Plus Positive x y stands d = d
  at_place Plus Negative x y stands d = absurd (false≢true stands)
  at_place Plus Invariant x y stands d = absurd (false≢true stands)
  at_place Minus Positive x y stands d = absurd (false≢true stands)
  at_place Minus Negative x y stands d = d
  at_place Minus Invariant x y stands d = absurd (false≢true stands)

  module _ (xs ys : List Term) (own : List TypeParam) (differ : (n : ℕ) → Differs ds Known (sign_of (slice_get own n)) (slice_index_or xs n (Param n)) (slice_index_or ys n (Param n))) where
    abbrev Spreads : Term → Type 0
    Spreads t = (place : Position) → IsLawful ds t → is_valid ds own t place ≡ true → Differs ds Known (toward place) (subst_of xs t) (subst_of ys t)

    all_spread : (name i : ℕ) (es : List ((t : Term) × Spreads t)) (place : Position) → all_true (map (is_lawful ds) (map (λ e. e.0) es)) ≡ true → arguments_valid ds name i (map (is_valid ds own) (map (λ e. e.0) es)) place ≡ true → (k : ℕ) (u v : Term) → slice_get (map (subst_of xs) (map (λ e. e.0) es)) k ≡ Some u → slice_get (map (subst_of ys) (map (λ e. e.0) es)) k ≡ Some v → Differs ds Known (toward (inside (parameter_sign (declared ds name) (i + k)) place)) u v
    all_spread name i [] place lawful valid k u v at_u at_v = absurd cc
    all_spread name i (e ∷ es) place lawful valid zero u v at_u at_v =
        let ts = map (λ e. e.0) es in
        let here = first_so (is_valid ds own e.0 (inside (parameter_sign (declared ds name) i) place)) (arguments_valid ds name (i + 1) (map (is_valid ds own) ts) place) valid in
        let d = e.1 (inside (parameter_sign (declared ds name) i) place) (first_so (is_lawful ds e.0) (all_true (map (is_lawful ds) ts)) lawful) here in
        let is_u : subst_of xs e.0 ≡ u = cc in
        let is_v : subst_of ys e.0 ≡ v = cc in
        let at : i ≡ i + 0 = omega arith in
        subst (λ n. Differs ds Known (toward (inside (parameter_sign (declared ds name) n) place)) u v) at (subst (λ z. Differs ds Known (toward (inside (parameter_sign (declared ds name) i) place)) u z) is_v (subst (λ z. Differs ds Known (toward (inside (parameter_sign (declared ds name) i) place)) z (subst_of ys e.0)) is_u d))
    all_spread name i (e ∷ es) place lawful valid (suc k) u v at_u at_v =
        let ts = map (λ e. e.0) es in
        let rest = second_so (is_valid ds own e.0 (inside (parameter_sign (declared ds name) i) place)) (arguments_valid ds name (i + 1) (map (is_valid ds own) ts) place) valid in
        let d = all_spread name (i + 1) es place (second_so (is_lawful ds e.0) (all_true (map (is_lawful ds) ts)) lawful) rest k u v at_u at_v in
        let at : i + 1 + k ≡ i + suc k = omega arith in
        subst (λ n. Differs ds Known (toward (inside (parameter_sign (declared ds name) n) place)) u v) at d

    spread-Named : (name : ℕ) (es : List ((t : Term) × Spreads t)) → Spreads (Named name (map (λ e. e.0) es))
    spread-Named name es place lawful valid =
        let ts = map (λ e. e.0) es in
        let us = map (subst_of xs) ts in
        let vs = map (subst_of ys) ts in
        let found = lawful-declared ds name ts lawful in
        let parts = second_so (takes (declared ds name) (length (map (is_lawful ds) ts))) (all_true (map (is_lawful ds) ts)) (sym (is_lawful-Named ds name ts) ∙ lawful) in
        let long : length us ≡ length vs = length-map ts (subst_of xs) ∙ sym (length-map ts (subst_of ys)) in
        let each : DifferIn name found.0 found.1 us vs long place = λ k u v at_u at_v. subst (λ n. Differs ds Known (toward (inside (parameter_sign (declared ds name) n) place)) u v) (zero_more k) (all_spread name 0 es place parts (sym (is_valid-Named ds own name ts place) ∙ valid) k u v at_u at_v) in
        let d = differs-Named name found.0 found.1 us vs long place each in
        subst (λ z. Differs ds Known (toward place) (subst_of xs (Named name ts)) z) (sym (subst_of-Named ys name ts)) (subst (λ z. Differs ds Known (toward place) z (Named name vs)) (sym (subst_of-Named xs name ts)) d)
      where
        zero_more : (k : ℕ) → 0 + k ≡ k
        zero_more k = omega arith

    spread-Param : (n : ℕ) → Spreads (Param n)
    spread-Param n place lawful valid =
        let d = at_place (sign_of (slice_get own n)) place _ _ (sym (is_valid-Param ds own n place) ∙ valid) (differ n) in
        subst (λ z. Differs ds Known (toward place) (subst_of xs (Param n)) z) (sym (subst_of-Param ys n)) (subst (λ z. Differs ds Known (toward place) z (slice_index_or ys n (Param n))) (sym (subst_of-Param xs n)) d)

    spread : (t : Term) → Spreads t
    spread = term_induction Spreads spread-Named spread-Param (λ b place lawful valid. unchanged (subst_of-Builtin xs b ∙ sym (subst_of-Builtin ys b)))

  -- ---- what an interface requires

  module _ (orderly : AreOrderly ds) (a b : Term) (lawful_a : IsLawful ds a) (lawful_b : IsLawful ds b) (generic : AreSameInterface ds a b) (at : (place : ℕ) (s : Sign) (x y : Term) → IsParameter ds a b place s x y → Differs ds Known s x y) where
    arguments_differ : (x : Decl) → declaration_of ds a ≡ Some x → declaration_of ds b ≡ Some x → (n : ℕ) → Differs ds Known (sign_of (slice_get x.params n)) (slice_index_or (args_of a) n (Param n)) (slice_index_or (args_of b) n (Param n))
    arguments_differ x is_a is_b n =
        let long_a = lawful-count ds a x lawful_a is_a in
        let long_b = lawful-count ds b x lawful_b is_b in
        elim (cases_lt n (length x.params)) [
          | inl within ↦ at n (sign_of (slice_get x.params n)) _ _ (record {
            sign = ap (λ o. slice_get (declared_signs o) n) is_a ∙ sign_there x.params n within;
            first = slice_get-get_or (args_of a) n (Param n) (omega (arith, long_a, within));
            second = slice_get-get_or (args_of b) n (Param n) (omega (arith, long_b, within));
          })
          | inr past ↦ unchanged (get_or_past (args_of a) n (Param n) (omega (arith, long_a, past)) ∙ sym (get_or_past (args_of b) n (Param n) (omega (arith, long_b, past))))
        ]

    -- what the second requires, the first requires something below
    pub required_below : (i : Term) → Contains (named_of ds b) i → (j : Term) × Contains (named_of ds a) j × IsBelow ds Known j i
    required_below i has =
        let found = interface_declaration ds a generic.interface in
        let x = found.0 in
        let is_b : declaration_of ds b ≡ Some x = ap (declaration_of_head ds) (sym generic.generic) ∙ found.1 in
        let head = named_head ds (head_of a) x found.1 in
        let good = orderly head.0 x head.2 in
        let names_a : named_of ds a ≡ map (λ (l : Located). subst_of (args_of a) l.term) x.interfaces = ap (declared_interfaces (args_of a)) found.1 in
        let names_b : named_of ds b ≡ map (λ (l : Located). subst_of (args_of b) l.term) x.interfaces = ap (declared_interfaces (args_of b)) is_b in
        let there = subst (λ l. Contains l i) names_b has in
        let l = from_map (λ (l : Located). subst_of (args_of b) l.term) x.interfaces i there.0 there.1 there.2 in
        let lawful = All-contains (λ (l : Located). is_lawful ds l.term ≡ true) x.interfaces l.0 good.interfaces l.1 in
        let valid = All-contains (λ (l : Located). is_valid ds x.params l.term Positive ≡ true) x.interfaces l.0 (good.valid found.2) l.1 in
        let d = spread (args_of a) (args_of b) x.params (arguments_differ x found.1 is_b) l.0.term Positive lawful valid in
        let j = subst_of (args_of a) l.0.term in
        (j, subst (λ z. Contains z j) (sym names_a) (to_map (λ (l : Located). subst_of (args_of a) l.term) x.interfaces l.0 l.1.0 l.1.1 l.1.2), plus-below ds Known refl (subst (λ z. Differs ds Known Plus j z) l.2 d))
