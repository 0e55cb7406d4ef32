-- The arguments of lawful types, and of types of one interface.
use Rattle.std.proofs.Common.{◌≡◌, ◌<◌, ℕ, inl, inr, List, length, get_or, Some, refl, sym, ap, ◌∙◌, arith}
use Rattle.std.specs.List.{slice_get}
use Rattle.std.proofs.lemmas.List.Elements.{All-contains}
use Rattle.std.proofs.lemmas.Option.{get_or_from_slice_get, slice_get-get_or, slice_get_within}
use Rattle.vsd_terms.specs.declared.term.Term.{Term}
use Rattle.vsd_ast.specs.declared.declarations.Decl.{Decl}
use Rattle.vsd_ast.specs.declared.declarations.Sign.{Sign}
use Rattle.vsd_ast.specs.declared.declarations.Sign.TheVariants.{Plus, Minus, Plain}
use Rattle.vsd_types.specs.Types.{args_of, declaration_of_head, declared_signs, signs_of}
use Rattle.vsd_compat.specs.Compatibility.{AreSameInterface, IsParameter}
use Rattle.vsd_compat.specs.Rules.{VariesAs}
use Rattle.vsd_compat.proofs.Below.{known, Differs, unchanged, with_plus, with_minus}
use Rattle.vsd_compat.proofs.Heads.{IsLawful, interface_declaration, lawful-arguments, lawful-count}

module _ (ds : List Decl) where
  abbrev Lawful : Term → Type 0
  Lawful = IsLawful ds

  -- an argument of a lawful type is lawful
  pub argument-lawful : (t : Term) → Lawful t → (place : ℕ) (x : Term) → slice_get (args_of t) place ≡ Some x → Lawful x
  argument-lawful t lawful place x at =
      All-contains Lawful (args_of t) x (lawful-arguments ds t lawful) (place, slice_get_within (args_of t) place x at, get_or_from_slice_get (args_of t) place x x at)

  -- types of one interface have an argument at each of its parameters
  pub middle : (t u w : Term) → Lawful t → Lawful u → AreSameInterface ds t u → (place : ℕ) (s : Sign) (x z : Term) → IsParameter ds t w place s x z → (y : Term) × IsParameter ds t u place s x y × IsParameter ds u w place s y z
  middle t u w lawful_t lawful_u generic place s x z p =
      let found = interface_declaration ds t generic.interface in
      let is_u = ap (declaration_of_head ds) (sym generic.generic) ∙ found.1 in
      let long = lawful-count ds t found.0 lawful_t found.1 ∙ sym (lawful-count ds u found.0 lawful_u is_u) in
      let within : place < length (args_of u) = omega (arith, long, slice_get_within (args_of t) place x p.first) in
      let at = slice_get-get_or (args_of u) place x within in
      let signs : signs_of ds t ≡ signs_of ds u = ap (λ h. declared_signs (declaration_of_head ds h)) generic.generic in
      (get_or (args_of u) place x, record { sign = p.sign; first = p.first; second = at }, record { sign = ap (λ l. slice_get l place) (sym signs) ∙ p.sign; first = at; second = p.second })

  pub joined_interface : (t u w : Term) → AreSameInterface ds t u → AreSameInterface ds u w → AreSameInterface ds t w
  joined_interface t u w first second = record { interface = first.interface; generic = first.generic ∙ second.generic }

  -- arguments that are related wherever both are lawful
  lawful-differs : (Known : Term → Term → Type 0) (s : Sign) (x y : Term) → Lawful x → Lawful y → VariesAs ds (λ t u. Lawful t → Lawful u → Known t u) s x y → Differs ds Known s x y
  lawful-differs Known s x y lawful_x lawful_y (inl e) = unchanged e
  lawful-differs Known Plus x y lawful_x lawful_y (inr w) = with_plus refl (known w.0 (w.1 lawful_x lawful_y))
  lawful-differs Known Minus x y lawful_x lawful_y (inr w) =
      with_minus refl (known (record { first = w.0.second; second = w.0.first }) (w.1 lawful_y lawful_x))
  lawful-differs Known Plain x y lawful_x lawful_y (inr w) = absurd w.1

  pub lawful-at : (Known : Term → Term → Type 0) (t u : Term) → Lawful t → Lawful u → ((place : ℕ) (s : Sign) (x y : Term) → IsParameter ds t u place s x y → VariesAs ds (λ t u. Lawful t → Lawful u → Known t u) s x y) → (place : ℕ) (s : Sign) (x y : Term) → IsParameter ds t u place s x y → Differs ds Known s x y
  lawful-at Known t u lawful_t lawful_u at place s x y p =
      lawful-differs Known s x y (argument-lawful t lawful_t place x p.first) (argument-lawful u lawful_u place y p.second) (at place s x y p)
