-- Declarations that are read are well formed.
use Rattle.std.proofs.Common.{◌≡◌, ℕ, ◌+◌, ◌<◌, ◌≤◌, Bool, true, false, not, cond, ltb, List, [], ◌∷◌, ◌++◌, length, Option, All, IfSome, refl, ap, sym, subst, arith}
use Rattle.std.proofs.lemmas.Bool.{ltb-true}
use Rattle.std.proofs.lemmas.List.{length_push}
use Rattle.std.proofs.lemmas.List.Elements.{All-nil, All-push, All-weaker}
use Rattle.vsd_text.specs.declared.tokens.Token.{Token}
use Rattle.vsd_ast.specs.declared.declarations.Decl.{Decl}
use Rattle.vsd_ast.specs.declared.declarations.Decls.{Decls}
use Rattle.vsd_ast.specs.declared.declarations.Implementer.{Implementer}
use Rattle.vsd_ast.specs.declared.declarations.Implementer.TheVariants as implementer
use Rattle.vsd_ast.specs.declared.declarations.Located.{Located}
use Rattle.vsd_ast.specs.declared.declarations.Method.{Method}
use Rattle.vsd_ast.specs.declared.declarations.Override.{Override}
use Rattle.vsd_ast.specs.declared.declarations.Param.{Param}
use Rattle.vsd_ast.specs.WellFormed.{IsName, IsClassWritten, IsMethod, IsImplementer, IsOverride, IsDeclaration, AreWellFormed}
use Rattle.vsd_grammar.specs.declared.keyword.Keyword.TheVariants as key
use Rattle.vsd_grammar.specs.declared.token_class.TokenClass.TheVariants as class
use Rattle.vsd_grammar.specs.Input.{Lookahead, same_class}
use Rattle.vsd_grammar.specs.Grammar.{ret, bind}
use Rattle.vsd_grammar.specs.Skipping.{opening, closing}
use Rattle.vsd_grammar.specs.Laws.{any_cause}
use Rattle.vsd_grammar.proofs.Behaving.{causes_plain_words, causes_spelled_number}
use Rattle.vsd_type_syntax.specs.Types.{less}
use Rattle.vsd_decl_syntax.specs.declared.classes.ClassAttributes.{ClassAttributes}
use Rattle.vsd_decl_syntax.specs.declared.methods.MethodAttributes.{MethodAttributes}
use Rattle.vsd_decl_syntax.specs.declared.methods.Choice.{Choice}
use Rattle.vsd_decl_syntax.specs.declared.methods.Choice.TheVariants as choice
use Rattle.vsd_decl_syntax.specs.declared.members.Members.{Members}
use Rattle.vsd_decl_syntax.specs.declared.members.Kind.{Kind}
use Rattle.vsd_decl_syntax.specs.declared.members.Kind.TheVariants as kind
use Rattle.vsd_decl_syntax.specs.Signatures.{word}
use Rattle.vsd_decl_syntax.specs.Methods as methods
use Rattle.vsd_decl_syntax.specs.Members as members
use Rattle.vsd_decl_syntax.specs.Classes as classes
use Rattle.vsd_decls.specs.declared.declarations.Item.{Item}
use Rattle.vsd_decls.specs.declared.declarations.Item.TheVariants as item
use Rattle.vsd_decls.specs.Grammar as spec
use Rattle.vsd_decls.specs.Declarations.{beginning, AreDeclarations}
use Rattle.vsd_decls.proofs.Quiet.{quiet, IsQuiet}
use Rattle.vsd_decls.proofs.Yields.{Yields, yields_nothing, yields_ret, yields_then, yields_quiet, yields_weaker, yields_list, yields_until, yields_name, yields_numbered, scan_quiet}
use Rattle.vsd_decls.proofs.Members.{expect_quiet, skip_quiet, call_form_quiet, class_yields, params_yield, result_yields, arguments_yield, Kept, body_override_yields, class_override_yields}

-- ---- a method is kept only where there is room for it

abbrev ChoiceOk : Bool → Choice → Type 0
ChoiceOk room choice.Kept = room ≡ true
ChoiceOk room choice.Passed = Unit {0}
ChoiceOk room (choice.Refused cause) = Unit {0}

kept_ok : (room : Bool) → ChoiceOk room (methods.kept_if room)
kept_ok true = refl
kept_ok false = tt

cond_ok : (room b : Bool) (c d : Choice) → ChoiceOk room c → ChoiceOk room d → ChoiceOk room (cond b c d)
cond_ok room true c d h k = h
cond_ok room false c d h k = k

choice_ok : (is_interface : Bool) (a : MethodAttributes) (room : Bool) → ChoiceOk room (methods.choice_of is_interface a room)
choice_ok is_interface a room = cond_ok room is_interface (methods.interface_choice a room) (methods.class_choice a room)
    (cond_ok room a.is_static _ _ tt (cond_ok room (not a.is_abstract) _ _ tt (cond_ok room (not a.is_virtual) _ (methods.kept_if room) tt (kept_ok room))))
    (cond_ok room a.is_virtual _ _ (cond_ok room a.is_static _ (methods.kept_if room) tt (kept_ok room)) (cond_ok room a.is_abstract _ choice.Passed tt tt))

module _ (most : ℕ) where
  module _ (ps : List Param) where
    -- ---- members

    body_item_yields : (own count : ℕ) → own < count → (found : List Override) → Yields most (List Override) (methods.body_item ps own found) (λ os. Kept most ps count found → Kept most ps count os)
    unfolding methods.body_item
    body_item_yields own count lt found = yields_quiet tt (λ h. go (methods.is_override h.class))
      where
        go : (b : Bool) → Yields most (List Override) (methods.body_item_by ps own b found) (λ os. Kept most ps count found → Kept most ps count os)
        go true = body_override_yields most ps own count lt found
        go false = yields_quiet (skip_quiet methods.is_override) (λ _. yields_ret (λ k. k))

    body_yields : (own count : ℕ) → own < count → (found : List Override) → Yields most (List Override) (methods.body ps own found) (λ os. Kept most ps count found → Kept most ps count os)
    unfolding methods.body methods.body_items
    body_yields own count lt found = yields_quiet (expect_quiet opening) (λ _. yields_then
        (yields_until {I = λ os. Kept most ps count found → Kept most ps count os} (λ s. yields_weaker (λ u f g k. f (g k)) (body_item_yields own count lt s)) (λ k. k))
        (λ os. yields_quiet (expect_quiet closing) (λ _. yields_ret (λ f. f))))

    no_generic_quiet : IsQuiet (Unit {0}) methods.no_generic
    unfolding methods.no_generic
    no_generic_quiet = (tt, λ h. go (same_class less h.class))
      where
        go : (b : Bool) → IsQuiet (Unit {0}) (methods.not_generic b)
        go true = refl
        go false = tt

    header_yields : (line : ℕ) (a : MethodAttributes) → Yields most Method (methods.header ps line a) (IsMethod most (length ps))
    unfolding methods.header
    header_yields line a = yields_quiet call_form_quiet (λ _. yields_then (result_yields most false ps) (λ result. yields_then yields_name (λ bytes.
        yields_quiet no_generic_quiet (λ _. yields_then (arguments_yield most false ps) (λ args. yields_quiet (causes_plain_words any_cause quiet refl) (λ _.
        yields_ret (λ l n r. record { name = n; signature = record { result = r; few = l.0; arguments = l.1 } })))))))

    -- what is kept of a declaration with these parameters
    record AreMembers (ms : Members) : Type 0 where
      few : length ms.methods ≤ 256
      methods : All (IsMethod most (length ps)) ms.methods
      kept : Kept most ps (length ms.methods) ms.overrides

    for_more : (m n : ℕ) → m ≤ n → (o : Override) → IsOverride most (length ps) m o → IsOverride most (length ps) n o
    for_more m n le o w = record { owner = w.owner; name = w.name; signature = w.signature; body = go o.body w.body }
      where
        go : (b : Implementer) → IsImplementer most (length ps) m b → IsImplementer most (length ps) n b
        go (implementer.Own place) h = omega (arith, h, le)
        go (implementer.Named owner name signature) h = h

    another_method : (found : Members) (m : Method) (os : List Override) → length found.methods < 256 → IsMethod most (length ps) m
        → (Kept most ps (length found.methods + 1) found.overrides → Kept most ps (length found.methods + 1) os) → AreMembers found → AreMembers (record { methods = found.methods ++ m ∷ []; overrides = os })
    another_method found m os few w f h = record {
      few = let l = length_push found.methods m in omega (arith, few, l);
      methods = All-push (IsMethod most (length ps)) found.methods m h.methods w;
      kept = subst (λ n. Kept most ps n os) (sym (length_push found.methods m))
          (f (h.kept.0, All-weaker (IsOverride most (length ps) (length found.methods)) (IsOverride most (length ps) (length found.methods + 1)) (for_more (length found.methods) (length found.methods + 1) (omega arith)) found.overrides h.kept.1));
    }

    kept_yields : (line : ℕ) (a : MethodAttributes) (found : Members) → length found.methods < 256 → Yields most Members (methods.kept ps line a found) (λ ms. AreMembers found → AreMembers ms)
    unfolding methods.kept
    kept_yields line a found few = yields_then (header_yields line a) (λ m. yields_then (body_yields (length found.methods) (length found.methods + 1) (omega arith) found.overrides) (λ os.
        yields_ret (λ f w h. another_method found m os few w f h)))

    method_yields : (is_interface : Bool) (found : Members) → Yields most Members (methods.method is_interface ps found) (λ ms. AreMembers found → AreMembers ms)
    unfolding methods.method methods.method_attributes
    method_yields is_interface found = yields_quiet tt (λ h. yields_quiet refl (λ _. yields_quiet (scan_quiet MethodAttributes methods.method_turn methods.no_attributes) (λ a.
        go h a (methods.choice_of is_interface a (ltb (length found.methods) 256)) (choice_ok is_interface a (ltb (length found.methods) 256)))))
      where
        go : (h : Lookahead) (a : MethodAttributes) (c : Choice) → ChoiceOk (ltb (length found.methods) 256) c → Yields most Members (methods.chosen ps h a found c) (λ ms. AreMembers found → AreMembers ms)
        go h a (choice.Refused cause) k = yields_nothing (λ i x j d. d)
        go h a choice.Passed k = yields_quiet (skip_quiet methods.ends_item) (λ _. yields_ret (λ m. m))
        go h a choice.Kept k = kept_yields h.line a found (ltb-true (length found.methods) 256 k)

    with_overrides : (found : Members) (os : List Override) → (Kept most ps (length found.methods) found.overrides → Kept most ps (length found.methods) os) → AreMembers found → AreMembers (record { methods = found.methods; overrides = os })
    with_overrides found os f h = record { few = h.few; methods = h.methods; kept = f h.kept }

    member_yields : (is_interface : Bool) (found : Members) → Yields most Members (members.member is_interface ps found) (λ ms. AreMembers found → AreMembers ms)
    unfolding members.member members.overridden members.passed
    member_yields is_interface found = yields_quiet tt (λ h. go (members.kind_of h.class))
      where
        go : (k : Kind) → Yields most Members (members.member_by is_interface ps found k) (λ ms. AreMembers found → AreMembers ms)
        go kind.Method = method_yields is_interface found
        go kind.Override = yields_then (class_override_yields most ps (length found.methods) found.overrides) (λ os. yields_ret (λ f h. with_overrides found os f h))
        go kind.Passed = yields_quiet (refl, λ _. (skip_quiet methods.ends_item, λ _. tt)) (λ _. yields_ret (λ m. m))
        go (kind.Refused cause) = yields_nothing (λ i x j d. d)

    block_yields : (is_interface : Bool) → Yields most Members (classes.block is_interface ps) AreMembers
    unfolding classes.block members.members
    block_yields is_interface = yields_quiet (expect_quiet opening) (λ _. yields_then (yields_until (member_yields is_interface)
        (record { few = omega arith; methods = All-nil (IsMethod most (length ps)); kept = (omega arith, All-nil (IsOverride most (length ps) 0)) }))
        (λ ms. yields_quiet (expect_quiet closing) (λ _. yields_ret (λ h. h))))

    -- ---- classes

    located_yields : Yields most Located (classes.located ps) (λ t. IsClassWritten most (length ps) t.term)
    unfolding classes.located
    located_yields = yields_quiet tt (λ h. yields_then (class_yields most ps) (λ t. yields_ret (λ w. w)))

    base_yields : Yields most (Option Located) (classes.base ps) (λ b. IfSome b (λ (t : Located). IsClassWritten most (length ps) t.term))
    unfolding classes.base
    base_yields = yields_quiet tt (λ h. go (same_class (word key.Extends) h.class))
      where
        go : (b : Bool) → Yields most (Option Located) (classes.base_by ps b) (λ b. IfSome b (λ (t : Located). IsClassWritten most (length ps) t.term))
        go false = yields_ret tt
        go true = yields_quiet refl (λ _. yields_then located_yields (λ t. yields_ret (λ w. w)))

    interfaces_yield : Yields most (List Located) (classes.interfaces ps) (λ is. (length is ≤ 64) × All (λ (t : Located). IsClassWritten most (length ps) t.term) is)
    unfolding classes.interfaces classes.interface_list
    interfaces_yield = yields_quiet tt (λ h. go (same_class (word key.Implements) h.class))
      where
        go : (b : Bool) → Yields most (List Located) (classes.interfaces_by ps b) (λ is. (length is ≤ 64) × All (λ (t : Located). IsClassWritten most (length ps) t.term) is)
        go false = yields_ret (omega arith, All-nil (λ (t : Located). IsClassWritten most (length ps) t.term))
        go true = yields_quiet refl (λ _. yields_list located_yields)

    class_from_yields : (line : ℕ) (a : ClassAttributes) (name : ℕ) → Yields most Decl (classes.class_from line a name ps) (λ x. name < most → (length ps ≤ 8) × All (λ (p : Param). IsName p.name) ps → IsDeclaration most x)
    unfolding classes.class_from
    class_from_yields line a name = yields_then base_yields (λ b. yields_then interfaces_yield (λ is. yields_then (block_yields a.is_interface) (λ ms.
        yields_ret (λ m i b n p. record {
          name = n;
          few_params = p.0;
          few_interfaces = i.0;
          few_methods = m.few;
          few_overrides = m.kept.0;
          params = p.1;
          base = b;
          interfaces = i.1;
          methods = m.methods;
          overrides = m.kept.1;
        }))))

  no_extern_quiet : IsQuiet (Unit {0}) classes.no_extern
  unfolding classes.no_extern
  no_extern_quiet = (tt, λ h. go (same_class (word key.Extern) h.class))
    where
      go : (b : Bool) → IsQuiet (Unit {0}) (classes.not_extern b)
      go true = refl
      go false = tt

  class_declares : Yields most Decl classes.class_ (IsDeclaration most)
  unfolding classes.class_ classes.class_attributes
  class_declares = yields_quiet tt (λ h. yields_quiet refl (λ _. yields_quiet no_extern_quiet (λ _. yields_quiet (scan_quiet ClassAttributes classes.class_turn classes.no_attributes) (λ a.
      yields_then yields_numbered (λ n. yields_then (params_yield most) (λ ps. yields_weaker (λ x f p n. f n p) (class_from_yields ps h.line a n)))))))

  -- ---- a text

  abbrev AreDeclared : List Decl → Type 0
  AreDeclared ds = (length ds ≤ 1024) × All (IsDeclaration most) ds

  another_yields : (found : List Decl) → Yields most (List Decl) (spec.another found) (λ ds. AreDeclared found → AreDeclared ds)
  unfolding spec.another
  another_yields found = go (ltb (length found) 1024) refl
    where
      go : (b : Bool) → ltb (length found) 1024 ≡ b → Yields most (List Decl) (bind (Unit {0}) (List Decl) (spec.room_for_class b) (λ _. bind Decl (List Decl) classes.class_ (λ d. ret (List Decl) (found ++ d ∷ []))))
          (λ ds. AreDeclared found → AreDeclared ds)
      go true e = yields_quiet tt (λ _. yields_then class_declares (λ d. yields_ret (λ w h.
          (let l = length_push found d in let lt = ltb-true (length found) 1024 e in omega (arith, l, lt), All-push (IsDeclaration most) found d h.1 w))))
      go false e = yields_nothing (λ i x j d. d.2)

  item_yields : (found : List Decl) → Yields most (List Decl) (spec.one_item found) (λ ds. AreDeclared found → AreDeclared ds)
  unfolding spec.one_item members.passed
  item_yields found = yields_quiet tt (λ h. go (spec.item_of h.class))
    where
      go : (k : Item) → Yields most (List Decl) (spec.item_by found k) (λ ds. AreDeclared found → AreDeclared ds)
      go item.Class = another_yields found
      go item.Passed = yields_quiet (refl, λ _. (skip_quiet methods.ends_item, λ _. tt)) (λ _. yields_ret (λ h. h))
      go (item.Refused cause) = yields_nothing (λ i x j d. d)

  declarations_yield : Yields most (List Decl) spec.declarations AreDeclared
  unfolding spec.declarations spec.items spec.heading
  declarations_yield = yields_quiet (expect_quiet (word key.Vsd), λ _. (causes_spelled_number any_cause quiet refl 1 1 1, λ _. refl)) (λ _.
      yields_then (yields_until {I = AreDeclared} item_yields (omega arith, All-nil (IsDeclaration most))) (λ ds. yields_quiet (expect_quiet class.Percents) (λ _. yields_ret (λ h. h))))

pub are_well_formed : (text : List ℕ) (tokens : List Token) (d : Decls) → AreDeclarations text tokens d → AreWellFormed d
are_well_formed text tokens d a =
    let same : length a.end.state.names ≡ length d.names = ap length a.names in
    let h = (declarations_yield (length d.names)).reads (beginning text tokens) d.list a.end a.derived (omega (arith, same)) in
    record { few = h.1.0; each = h.1.1 }
