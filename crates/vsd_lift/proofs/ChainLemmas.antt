-- A step from a declaration to the one that it extends, and what a chain of such steps has.
use Rattle.std.proofs.Common.{◌≡◌, ℕ, zero, suc, ◌+◌, ◌-◌, ◌<◌, ◌≤◌, List, [], ◌∷◌, ◌++◌, length, map, get_or, refl, sym, ap, ◌∙◌, subst, Option, Some, None, IfSome, All, IsTrue, inl, inr, add-one, arith}
use Rattle.std.specs.List.{slice_get}
use Rattle.std.specs.Option.{option_map}
use Rattle.std.proofs.lemmas.Bool.{cases_lt, cases_order}
use Rattle.std.proofs.lemmas.List.{length-map, length_push}
use Rattle.std.proofs.lemmas.List.Elements.{All-from_get_or}
use Rattle.std.proofs.lemmas.Option.{get_or_from_slice_get, slice_get-get_or, slice_get-map, slice_get_cases, slice_get_past, slice_get_within}
use Rattle.vsd_terms.specs.declared.term.Term.{Term}
use Rattle.vsd_terms.specs.declared.term.Term.TheVariants.{Named}
use Rattle.vsd_terms.specs.Size.{greatest}
use Rattle.vsd_terms.specs.Substitution.{parameters_of}
use Rattle.vsd_terms.specs.Text.{names_of}
use Rattle.vsd_terms.proofs.SubstitutionLemmas.{parameters_of-Named}
use Rattle.vsd_ast.specs.declared.declarations.Decl.{Decl}
use Rattle.vsd_ast.specs.declared.declarations.Located.{Located}
use Rattle.vsd_ast.specs.Hierarchy.{IsHierarchy, IsPlaced, above, base_terms, number_for}
use Rattle.vsd_ast.specs.Lookup.{Head, head_of, is_lawful, place_of}
use Rattle.vsd_ast.specs.WellFormed.{IsClassWritten, IsDeclaration}
use Rattle.vsd_lift.specs.Chain.{IsChain, arguments_at, arguments_of, given_to, envs_of, place_above, base_name, head_name}
use Rattle.vsd_lift.specs.Lift.{HasRoom, IsLadder, env_at}
use Rattle.vsd_lift.specs.Settled.{IsSettled}
use Rattle.vsd_lift.proofs.Forms.{Form, form_of, is_named, is_param, is_builtin, arguments_of-Named, arguments_of-Param, arguments_of-Builtin}
use Rattle.vsd_lift.proofs.PlaceLemmas.{All-at, names_of-Named, head_of-Named, head_of-Param, head_of-Builtin, lawful-declared}

-- the declaration at n extends the one at m, and gives it as many arguments as it has parameters
pub record Extends (ds : List Decl) (depths : List ℕ) (n m : ℕ) : Type 0 where
  pub lower : Decl
  pub is_lower : slice_get ds n ≡ Some lower
  pub upper : Decl
  pub is_upper : slice_get ds m ≡ Some upper
  pub given : length (arguments_at (Some lower)) ≡ length upper.params
  pub deeper : get_or depths m 0 < get_or depths n 0

module _ (ds : List Decl) (depths : List ℕ) (lawful : IsHierarchy ds depths) where
  -- by the name of a base that is declared
  extends_named : (n name : ℕ) (args : List Term) (x : Decl) (b : Located) → slice_get ds n ≡ Some x → x.base ≡ Some b → b.term ≡ Named name args → Extends ds depths n (place_of ds name)
  extends_named n name args x b here based is =
      let placed : IsPlaced ds x = All-at (IsPlaced ds) ds n x here lawful.each in
      let P : Option Located → Type 0 = λ o. All (λ t. IsTrue (is_lawful ds t)) (base_terms o ++ map (λ (i : Located). i.term) x.interfaces) in
      let all : P (Some b) = subst P based placed.lawful in
      let declared = lawful-declared ds name args (subst (λ (t : Term). IsTrue (is_lawful ds t)) is (all 0 b.term (omega arith))) in
      let Q : Option Located → Type 0 = λ o. get_or depths n 0 ≡ suc (greatest (map (λ t. number_for ds depths (head_of t)) (base_terms o ++ map (λ (i : Located). i.term) x.interfaces))) in
      let deep : Q (Some b) = subst Q based (lawful.deep.each n x here) in
      let number : number_for ds depths (head_of b.term) ≡ get_or depths (place_of ds name) 0 = ap (λ (t : Term). number_for ds depths (head_of t)) is ∙ ap (number_for ds depths) (head_of-Named name args) in
      let given : arguments_at (Some x) ≡ args = ap given_to based ∙ ap arguments_of is ∙ arguments_of-Named name args in
      record {
        lower = x;
        is_lower = here;
        upper = declared.0;
        is_upper = declared.1;
        given = ap length given ∙ sym declared.2;
        deeper = omega (arith, deep, number);
      }

  pub extends : (n m : ℕ) (x : Decl) → slice_get ds n ≡ Some x → place_above ds (Some x) ≡ Some m → Extends ds depths n m
  extends n m x here is = by_base x.base refl
    where
      by_form : (b : Located) → x.base ≡ Some b → Form b.term → Extends ds depths n m
      by_form b based (is_named name args e) =
          let place : place_above ds (Some x) ≡ Some (place_of ds name) = ap (λ (o : Option Located). option_map (place_of ds) (base_name o)) based ∙ ap (λ (t : Term). option_map (place_of ds) (head_name (head_of t))) e ∙ ap (λ (h : Head). option_map (place_of ds) (head_name h)) (head_of-Named name args) in
          let same : place_of ds name ≡ m = let both = sym place ∙ is in cc in
          subst (Extends ds depths n) same (extends_named n name args x b here based e)
      by_form b based (is_param place e) =
          let none : place_above ds (Some x) ≡ None = ap (λ (o : Option Located). option_map (place_of ds) (base_name o)) based ∙ ap (λ (t : Term). option_map (place_of ds) (head_name (head_of t))) e ∙ ap (λ (h : Head). option_map (place_of ds) (head_name h)) (head_of-Param place) in
          absurd (let both = sym none ∙ is in cc)
      by_form b based (is_builtin k e) =
          let none : place_above ds (Some x) ≡ None = ap (λ (o : Option Located). option_map (place_of ds) (base_name o)) based ∙ ap (λ (t : Term). option_map (place_of ds) (head_name (head_of t))) e ∙ ap (λ (h : Head). option_map (place_of ds) (head_name h)) (head_of-Builtin k) in
          absurd (let both = sym none ∙ is in cc)

      by_base : (o : Option Located) → x.base ≡ o → Extends ds depths n m
      by_base None based = absurd (let both = sym (ap (λ (o : Option Located). option_map (place_of ds) (base_name o)) based) ∙ is in cc)
      by_base (Some b) based = by_form b based (form_of b.term)

-- the name of a written base is among the names
pub base_name-within : (names name : ℕ) (x : Decl) → IsDeclaration names x → base_name x.base ≡ Some name → name < names
base_name-within names name x written is = by_base x.base refl
  where
    by_form : (b : Located) → IsClassWritten names (length x.params) b.term → head_name (head_of b.term) ≡ Some name → Form b.term → name < names
    by_form b base named (is_named other args e) =
        let same : other ≡ name = let both = sym (ap (λ (t : Term). head_name (head_of t)) e ∙ ap head_name (head_of-Named other args)) ∙ named in cc in
        omega (arith, base.written.named, ap names_of e, names_of-Named other args)
    by_form b base named (is_param place e) =
        absurd (let both = sym (ap (λ (t : Term). head_name (head_of t)) e ∙ ap head_name (head_of-Param place)) ∙ named in cc)
    by_form b base named (is_builtin k e) =
        absurd (let both = sym (ap (λ (t : Term). head_name (head_of t)) e ∙ ap head_name (head_of-Builtin k)) ∙ named in cc)

    by_base : (o : Option Located) → x.base ≡ o → name < names
    by_base None e = absurd (let both = sym (ap base_name e) ∙ is in cc)
    by_base (Some b) e =
        let P : Option Located → Type 0 = λ o. IfSome o (λ (l : Located). IsClassWritten names (length x.params) l.term) in
        by_form b (subst P e written.base) (sym (ap base_name e) ∙ is) (form_of b.term)

-- the arguments of a term name no parameters but the term's
greatest-arguments_of : (t : Term) → greatest (map parameters_of (arguments_of t)) ≤ parameters_of t
greatest-arguments_of t = by (form_of t)
  where
    by : Form t → greatest (map parameters_of (arguments_of t)) ≤ parameters_of t
    by (is_named name args e) = omega (arith, ap (λ (s : Term). greatest (map parameters_of (arguments_of s))) e, ap (λ (l : List Term). greatest (map parameters_of l)) (arguments_of-Named name args), ap parameters_of e, parameters_of-Named name args)
    by (is_param place e) = omega (arith, ap (λ (s : Term). greatest (map parameters_of (arguments_of s))) e, ap (λ (l : List Term). greatest (map parameters_of l)) (arguments_of-Param place))
    by (is_builtin k e) = omega (arith, ap (λ (s : Term). greatest (map parameters_of (arguments_of s))) e, ap (λ (l : List Term). greatest (map parameters_of l)) (arguments_of-Builtin k))

-- what a declaration gives its base is in its own parameters
given_within : (names : ℕ) (x : Decl) → IsDeclaration names x → greatest (map parameters_of (given_to x.base)) ≤ length x.params
given_within names x written = by x.base refl
  where
    by : (o : Option Located) → x.base ≡ o → greatest (map parameters_of (given_to o)) ≤ length x.params
    by None e = omega arith
    by (Some b) e =
        let P : Option Located → Type 0 = λ o. IfSome o (λ (l : Located). IsClassWritten names (length x.params) l.term) in
        let base : P (Some b) = subst P e written.base in
        omega (arith, base.written.bound, greatest-arguments_of b.term)

module _ (ds : List Decl) (places depths : List ℕ) (from : ℕ) (chain : List ℕ) (settled : IsSettled ds places depths) (within : from < length ds) (is : IsChain ds from chain) where
  -- a declaration of a chain extends the next
  step_at : (level n m : ℕ) (x : Decl) → slice_get chain level ≡ Some n → slice_get chain (suc level) ≡ Some m → slice_get ds n ≡ Some x → Extends ds depths n m
  step_at level n m x here next there =
      let above = is.next level n here in
      extends ds depths settled.hierarchy n m x there (ap (place_above ds) (sym there) ∙ above ∙ ap (slice_get chain) (add-one level) ∙ next)

  -- each declaration of a chain is there
  pub chain-declared : (level n : ℕ) → slice_get chain level ≡ Some n → (x : Decl) × (slice_get ds n ≡ Some x)
  chain-declared zero n here =
      let same : from ≡ n = let both = sym is.first ∙ here in cc in
      let d = slice_get_cases ds n in
      elim d.1 [ inl w ↦ (w.0, w.2) | inr past ↦ absurd (omega (arith, past.0)) ]
  chain-declared (suc level) m next =
      elim (slice_get_cases chain level).1 [
        | inl w ↦ (let x = chain-declared level w.0 w.2 in let e = step_at level w.0 m x.0 w.2 next x.1 in (e.upper, e.is_upper))
        | inr past ↦ absurd (omega (arith, past.0, slice_get_within chain (suc level) m next))
      ]

  pub chain-step : (level n m : ℕ) → slice_get chain level ≡ Some n → slice_get chain (suc level) ≡ Some m → Extends ds depths n m
  chain-step level n m here next = let x = chain-declared level n here in step_at level n m x.0 here next x.1

  -- below a declaration of a chain there are arguments for as many parameters as it has
  pub chain-room : (level n : ℕ) (x : Decl) (count : ℕ) → slice_get chain level ≡ Some n → slice_get ds n ≡ Some x → count ≤ length x.params → HasRoom (envs_of ds chain) level count
  chain-room zero n x count here there few = λ above. absurd (omega arith)
  chain-room (suc level) m x count next there few = λ above.
      elim (slice_get_cases chain level).1 [
        | inl w ↦ (
            let e = chain-step level w.0 m w.2 next in
            let same : e.upper ≡ x = let both = sym e.is_upper ∙ there in cc in
            let given : get_or (envs_of ds chain) level [] ≡ arguments_at (Some e.lower) = get_or_from_slice_get (envs_of ds chain) level (arguments_at (Some e.lower)) [] (slice_get-map (λ (k : ℕ). arguments_at (slice_get ds k)) chain level ∙ ap (option_map (λ (k : ℕ). arguments_at (slice_get ds k))) w.2 ∙ ap (λ (o : Option Decl). Some (arguments_at o)) e.is_lower) in
            let one : suc level - 1 ≡ level = omega arith in
            rw one (omega (arith, ap length given, e.given, ap (λ (y : Decl). length y.params) same))
            )
        | inr past ↦ absurd (omega (arith, past.0, slice_get_within chain (suc level) m next))
      ]

  -- the higher of two declarations of a chain is the less deep
  pub chain-deeper : (k l n m : ℕ) → slice_get chain k ≡ Some n → slice_get chain l ≡ Some m → k < l → get_or depths m 0 < get_or depths n 0
  chain-deeper k zero n m at_n at_m below = absurd (omega arith)
  chain-deeper k (suc l) n m at_n at_m below =
      elim (slice_get_cases chain l).1 [
        | inl w ↦ (
            let last = (chain-step l w.0 m w.2 at_m).deeper in
            elim (cases_lt k l) [
              | inl lt ↦ omega (arith, last, chain-deeper k l n w.0 at_n w.2 lt)
              | inr ge ↦ (
                  let same_level : k ≡ l = omega arith in
                  let same : n ≡ w.0 = let both = sym at_n ∙ ap (slice_get chain) same_level ∙ w.2 in cc in
                  omega (arith, last, ap (λ (i : ℕ). get_or depths i 0) same)
                  )
            ]
            )
        | inr past ↦ absurd (omega (arith, past.0, slice_get_within chain (suc l) m at_m))
      ]

  -- a declaration stands once in a chain
  pub chain-distinct : (k l n : ℕ) → slice_get chain k ≡ Some n → slice_get chain l ≡ Some n → k ≡ l
  chain-distinct k l n at_k at_l =
      elim (cases_order k l) [
        | inl same ↦ same
        | inr other ↦ (
            elim other [
              | inl lt ↦ absurd (omega (arith, chain-deeper k l n n at_k at_l lt))
              | inr gt ↦ absurd (omega (arith, chain-deeper l k n n at_l at_k gt))
            ]
            )
      ]

  -- terms can be lifted along a chain
  pub chain-ladder : IsLadder ds chain
  chain-ladder = record {
    declared = All-from_get_or (λ (n : ℕ). n < length ds) chain 0 (λ level inside. let x = chain-declared level (get_or chain level 0) (slice_get-get_or chain level 0 inside) in slice_get_within ds (get_or chain level 0) x.0 x.1);
    envs = λ level inside.
        let inside_chain : level < length chain = omega (arith, length-map chain (λ (k : ℕ). arguments_at (slice_get ds k))) in
        let n = get_or chain level 0 in
        let here = slice_get-get_or chain level 0 inside_chain in
        let x = chain-declared level n here in
        let given : get_or (envs_of ds chain) level [] ≡ arguments_at (Some x.0) = get_or_from_slice_get (envs_of ds chain) level (arguments_at (Some x.0)) [] (slice_get-map (λ (k : ℕ). arguments_at (slice_get ds k)) chain level ∙ ap (option_map (λ (k : ℕ). arguments_at (slice_get ds k))) here ∙ ap (λ (o : Option Decl). Some (arguments_at o)) x.1) in
        let few : greatest (map parameters_of (env_at (envs_of ds chain) level)) ≤ length x.0.params = omega (arith, ap (λ (l : List Term). greatest (map parameters_of l)) given, given_within (length places) x.0 (All-at (IsDeclaration (length places)) ds n x.0 x.1 settled.each)) in
        chain-room level n x.0 (greatest (map parameters_of (env_at (envs_of ds chain) level))) here x.1 few;
  }

-- ---- a chain, made from its first declaration upward

pub slice_get-left : {A : Type 0} (xs ys : List A) (i : ℕ) → i < length xs → slice_get (xs ++ ys) i ≡ slice_get xs i
slice_get-left [] ys i within = absurd (omega arith)
slice_get-left (x ∷ xs) ys zero within = refl
slice_get-left (x ∷ xs) ys (suc i) within = slice_get-left xs ys i (omega arith)

pub slice_get-seam : {A : Type 0} (xs : List A) (x : A) (i : ℕ) → i ≡ length xs → slice_get (xs ++ x ∷ []) i ≡ Some x
slice_get-seam [] x i e = ap (slice_get (x ∷ [])) e
slice_get-seam (y ∷ xs) x zero e = absurd (omega arith)
slice_get-seam (y ∷ xs) x (suc i) e = slice_get-seam xs x i (omega arith)

-- each declaration so far extends the next, and the last is at this number
pub record IsPartial (ds : List Decl) (from : ℕ) (chain : List ℕ) (at : ℕ) : Type 0 where
  pub within : at < length ds
  pub some : 0 < length chain
  pub first : slice_get chain 0 ≡ Some from
  pub last : slice_get chain (length chain - 1) ≡ Some at
  pub next : (level n : ℕ) → level + 1 < length chain → slice_get chain level ≡ Some n → place_above ds (slice_get ds n) ≡ slice_get chain (level + 1)

pub IsPartial-start : (ds : List Decl) (from : ℕ) (chain : List ℕ) → chain ≡ from ∷ [] → from < length ds → IsPartial ds from chain from
IsPartial-start ds from chain is within =
    let P : List ℕ → Type 0 = λ l. IsPartial ds from l from in
    subst P (sym is) (record { within = within; some = omega arith; first = refl; last = refl; next = λ level n above. absurd (omega arith) })

pub IsPartial-more : (ds : List Decl) (from : ℕ) (chain more : List ℕ) (at m : ℕ) → more ≡ chain ++ m ∷ [] → IsPartial ds from chain at → place_above ds (slice_get ds at) ≡ Some m → m < length ds → IsPartial ds from more m
IsPartial-more ds from chain more at m is so_far above within =
    let P : List ℕ → Type 0 = λ l. IsPartial ds from l m in
    let long : length (chain ++ m ∷ []) ≡ length chain + 1 = length_push chain m in
    let some = so_far.some in
    subst P (sym is) (record {
      within = within;
      some = omega arith;
      first = slice_get-left chain (m ∷ []) 0 some ∙ so_far.first;
      last = slice_get-seam chain m (length (chain ++ m ∷ []) - 1) (omega arith);
      next = λ level n inside here.
          let here_before : slice_get chain level ≡ Some n = sym (slice_get-left chain (m ∷ []) level (omega arith)) ∙ here in
          elim (cases_lt (level + 1) (length chain)) [
            | inl lt ↦ so_far.next level n lt here_before ∙ sym (slice_get-left chain (m ∷ []) (level + 1) lt)
            | inr ge ↦ (
                let end : level ≡ length chain - 1 = omega arith in
                let same : at ≡ n = let both = sym so_far.last ∙ sym (ap (slice_get chain) end) ∙ here_before in cc in
                ap (λ (k : ℕ). place_above ds (slice_get ds k)) (sym same) ∙ above ∙ sym (slice_get-seam chain m (level + 1) (omega arith))
                )
          ];
    })

pub IsPartial-end : (ds : List Decl) (from : ℕ) (chain : List ℕ) (at : ℕ) → IsPartial ds from chain at → place_above ds (slice_get ds at) ≡ None → IsChain ds from chain
IsPartial-end ds from chain at whole above = record {
  first = whole.first;
  next = λ level n here.
      let inside = slice_get_within chain level n here in
      elim (cases_lt (level + 1) (length chain)) [
        | inl lt ↦ whole.next level n lt here
        | inr ge ↦ (
            let end : level ≡ length chain - 1 = omega arith in
            let same : at ≡ n = let both = sym whole.last ∙ sym (ap (slice_get chain) end) ∙ here in cc in
            ap (λ (k : ℕ). place_above ds (slice_get ds k)) (sym same) ∙ above ∙ sym (slice_get_past chain (level + 1) ge)
            )
      ];
}

-- a declaration has one chain
pub chain-same : (ds : List Decl) (from : ℕ) (one other : List ℕ) → IsChain ds from one → IsChain ds from other → (level : ℕ) → slice_get one level ≡ slice_get other level
chain-same ds from one other is is' zero = is.first ∙ sym is'.first
chain-same ds from one other is is' (suc level) =
    let before = chain-same ds from one other is is' level in
    elim (slice_get_cases one level).1 [
      | inl w ↦ (
          let here : slice_get other level ≡ Some w.0 = sym before ∙ w.2 in
          ap (slice_get one) (sym (add-one level)) ∙ sym (is.next level w.0 w.2) ∙ is'.next level w.0 here ∙ ap (slice_get other) (add-one level)
          )
      | inr past ↦ (
          let there : slice_get other level ≡ None = sym before ∙ past.1 in
          elim (slice_get_cases other level).1 [
            | inl w ↦ absurd (let both = sym there ∙ w.2 in cc)
            | inr gone ↦ slice_get_past one (suc level) (omega (arith, past.0)) ∙ sym (slice_get_past other (suc level) (omega (arith, gone.0)))
          ]
          )
    ]

-- two lists with the same element at each place are one
pub same_list : (xs ys : List ℕ) → ((i : ℕ) → slice_get xs i ≡ slice_get ys i) → xs ≡ ys
same_list [] [] same = refl
same_list [] (y ∷ ys) same = absurd (let first = same 0 in cc)
same_list (x ∷ xs) [] same = absurd (let first = same 0 in cc)
same_list (x ∷ xs) (y ∷ ys) same =
    let first = same 0 in
    let rest = same_list xs ys (λ i. same (suc i)) in
    cc

pub chain-unique : (ds : List Decl) (from : ℕ) (one other : List ℕ) → IsChain ds from one → IsChain ds from other → one ≡ other
chain-unique ds from one other is is' = same_list one other (chain-same ds from one other is is')
