-- Declarations are read in one way.
use Rattle.std.proofs.Common.{◌≡◌, ℕ, nat_lt, Bool, true, false, List, length, Option, Some, None, IsTrue, refl, ap, sym, subst}
use Rattle.std.proofs.lemmas.Bool.{eqb-true}
use Rattle.vsd_terms.specs.declared.term.Term.{Term}
use Rattle.vsd_ast.specs.declared.declarations.Decl.{Decl}
use Rattle.vsd_ast.specs.declared.declarations.Implementer.{Implementer}
use Rattle.vsd_ast.specs.declared.declarations.Located.{Located}
use Rattle.vsd_ast.specs.declared.declarations.Method.{Method}
use Rattle.vsd_ast.specs.declared.declarations.Override.{Override}
use Rattle.vsd_ast.specs.declared.declarations.Param.{Param}
use Rattle.vsd_ast.specs.declared.declarations.Sign.{Sign}
use Rattle.vsd_ast.specs.declared.declarations.Sign.TheVariants as sign
use Rattle.vsd_grammar.specs.declared.token_class.TokenClass.{TokenClass}
use Rattle.vsd_grammar.specs.declared.token_class.TokenClass.TheVariants as class
use Rattle.vsd_grammar.specs.declared.keyword.Keyword.TheVariants as key
use Rattle.vsd_grammar.specs.Input.{Input, Lookahead, class_at, same_class, is_comma}
use Rattle.vsd_grammar.specs.Grammar.{G, Derives, Decides}
use Rattle.vsd_grammar.specs.Productions.{is_name}
use Rattle.vsd_grammar.specs.Skipping.{opening, closing}
use Rattle.vsd_grammar.proofs.Deciding.{anything, decides_expect, decides_eat, decides_scan, decides_skip, decides_name, decides_numbered_name, decides_plain_words, expect_begins}
use Rattle.vsd_type_syntax.specs.Types.{Rules, less, greater}
use Rattle.vsd_type_syntax.proofs.Deciding.{decides_written, decides_written_rest}
use Rattle.vsd_decl_syntax.specs.declared.arguments.Marks.{Marks}
use Rattle.vsd_decl_syntax.specs.declared.arguments.Marks.TheVariants as marks
use Rattle.vsd_decl_syntax.specs.declared.classes.ClassAttributes.{ClassAttributes}
use Rattle.vsd_decl_syntax.specs.declared.methods.MethodAttributes.{MethodAttributes}
use Rattle.vsd_decl_syntax.specs.declared.methods.Choice.{Choice}
use Rattle.vsd_decl_syntax.specs.declared.methods.Choice.TheVariants as choice
use Rattle.vsd_decl_syntax.specs.declared.members.Members.{Members}
use Rattle.vsd_decl_syntax.specs.declared.members.Kind.{Kind}
use Rattle.vsd_decl_syntax.specs.declared.members.Kind.TheVariants as kind
use Rattle.vsd_decl_syntax.specs.declared.overrides.Target.{Target}
use Rattle.vsd_decl_syntax.specs.declared.overrides.MethodRef.{MethodRef}
use Rattle.vsd_decl_syntax.specs.Parameters as parameters
use Rattle.vsd_decl_syntax.specs.Signatures as signatures
use Rattle.vsd_decl_syntax.specs.Overrides as overrides
use Rattle.vsd_decl_syntax.specs.Methods as methods
use Rattle.vsd_decl_syntax.specs.Members as members
use Rattle.vsd_decl_syntax.specs.Classes as classes
use Rattle.vsd_decl_syntax.proofs.Beginning.{param_begins, located_begins, argument_begins}

-- a symbol that is no comma
no_comma : (b : ℕ) → is_comma (class.Symbol b) ≡ false → (q : TokenClass) → IsTrue (same_class (class.Symbol b) q) → is_comma q ≡ false
no_comma b apart class.End e = refl
no_comma b apart (class.Word k) e = refl
no_comma b apart (class.Directive k) e = refl
no_comma b apart class.Quoted e = refl
no_comma b apart class.Number e = refl
no_comma b apart class.Text e = refl
no_comma b apart (class.Symbol c) e = subst (λ n. is_comma (class.Symbol n) ≡ false) (eqb-true b c e) apart
no_comma b apart class.Colons e = refl
no_comma b apart class.Percents e = refl

-- ---- parameters

decides_param_name : (s : Sign) (F : TokenClass → Bool) → Decides Param (parameters.param_name s) F
unfolding parameters.param_name
decides_param_name s F = (anything, tt, λ h. (go (parameters.is_constraint h.class), λ i y j e g. refl))
  where
    go : (b : Bool) → Decides Param (parameters.unconstrained s b) F
    go true = tt
    go false = (anything, decides_name anything, λ bytes. (tt, λ i y j e g. refl))

decides_param : (F : TokenClass → Bool) → Decides Param parameters.param F
unfolding parameters.param
decides_param F = (anything, tt, λ h. (go (parameters.sign_of h.class), λ i y j e g. refl))
  where
    go : (s : Option Sign) → Decides Param (parameters.signed s) F
    go None = decides_param_name sign.Plain F
    go (Some s) = (anything, tt, λ u. (decides_param_name s F, λ i y j e g. refl))

decides_params : (F : TokenClass → Bool) → Decides (List Param) parameters.params F
unfolding parameters.params parameters.param_list
decides_params F = (anything, tt, λ h. (go (same_class less h.class), λ i y j e g. refl))
  where
    go : (b : Bool) → Decides (List Param) (parameters.params_by b) F
    go false = tt
    go true = (
      anything,
      tt,
      λ u. (
        (
          same_class greater,
          (decides_param _, no_comma 62 refl, param_begins),
          λ ps. ((anything, decides_expect greater anything, λ v. (tt, λ i y j e g. refl)), λ i y j e g. expect_begins greater i e.0 e.1 e.2),
        ),
        λ i y j e g. refl,
      ),
    )

-- ---- signatures

decides_no_vararg : (F : TokenClass → Bool) → Decides (Unit {0}) signatures.no_vararg F
unfolding signatures.no_vararg
decides_no_vararg F = (anything, tt, λ h. (go (same_class (signatures.word key.Vararg) h.class), λ i y j e g. refl))
  where
    go : (b : Bool) → Decides (Unit {0}) (signatures.not_vararg b) F
    go true = tt
    go false = tt

decides_instance : (F : TokenClass → Bool) → Decides (Unit {0}) signatures.instance F
unfolding signatures.instance
decides_instance F = (anything, decides_eat (signatures.word key.Instance) anything, λ b. (decides_no_vararg F, λ i y j e g. refl))

decides_call_form : (F : TokenClass → Bool) → Decides (Unit {0}) signatures.call_form F
unfolding signatures.call_form
decides_call_form F = (
  anything,
  decides_eat (signatures.word key.Instance) anything,
  λ b. ((anything, decides_eat (signatures.word key.Default) anything, λ c. (decides_no_vararg F, λ i y j e g. refl)), λ i y j e g. refl),
)

decides_result_type : (rules : Rules) (F : TokenClass → Bool) → Decides (Option Term) (signatures.result_type rules) F
unfolding signatures.result_type
decides_result_type rules F = (anything, tt, λ h. (go (same_class (signatures.word key.Void) h.class), λ i y j e g. refl))
  where
    go : (b : Bool) → Decides (Option Term) (signatures.result_by rules b) F
    go true = (anything, tt, λ u. (tt, λ i y j e g. refl))
    go false = (anything, decides_written rules false anything, λ t. (tt, λ i y j e g. refl))

decides_argument_start : (rules : Rules) (F : TokenClass → Bool) → Decides Term (signatures.argument_start rules) F
unfolding signatures.argument_start
decides_argument_start rules F = (anything, tt, λ h. (go (same_class signatures.ellipsis h.class), λ i y j e g. refl))
  where
    go : (b : Bool) → Decides Term (signatures.not_ellipsis rules b) F
    go true = tt
    go false = decides_written rules false F

decides_then_name : (t : Term) (F : TokenClass → Bool) → Decides Term (signatures.then_name t) F
unfolding signatures.then_name
decides_then_name t F = (anything, tt, λ h. (go (is_name h.class), λ i y j e g. refl))
  where
    go : (b : Bool) → Decides Term (signatures.name_if t b) F
    go true = (anything, decides_name anything, λ n. (tt, λ i y j e g. refl))
    go false = tt

decides_argument : (rules : Rules) (F : TokenClass → Bool) → Decides Term (signatures.argument rules) F
unfolding signatures.argument signatures.marked
decides_argument rules F = (
  anything,
  decides_scan Marks signatures.mark_turn marks.Between anything,
  λ s. ((anything, go s, λ t. (decides_then_name t F, λ i y j e g. refl)), λ i y j e g. refl),
)
  where
    go : (s : Marks) → Decides Term (signatures.argument_type rules s) anything
    go marks.Between = decides_argument_start rules anything
    go marks.Opened = decides_written_rest rules anything
    go marks.Marked = tt

decides_arguments : (rules : Rules) (F : TokenClass → Bool) → Decides (List Term) (signatures.arguments rules) F
unfolding signatures.arguments signatures.argument_list
decides_arguments rules F = (
  anything,
  decides_expect signatures.left_paren anything,
  λ u. ((anything, tt, λ h. (go (same_class signatures.right_paren h.class), λ i y j e g. refl)), λ i y j e g. refl),
)
  where
    go : (b : Bool) → Decides (List Term) (signatures.arguments_by rules b) F
    go true = (anything, tt, λ u. (tt, λ i y j e g. refl))
    go false = (
      same_class signatures.right_paren,
      (decides_argument rules _, no_comma 41 refl, argument_begins rules),
      λ args. (
        (anything, decides_expect signatures.right_paren anything, λ v. (tt, λ i y j e g. refl)),
        λ i y j e g. expect_begins signatures.right_paren i e.0 e.1 e.2,
      ),
    )

-- ---- overrides

decides_method_ref : (own signed : Rules) (F : TokenClass → Bool) → Decides MethodRef (overrides.method_ref own signed) F
unfolding overrides.method_ref
decides_method_ref own signed F = (
  anything,
  decides_instance anything,
  λ u. (
    (
      anything,
      decides_result_type signed anything,
      λ result. (
        (
          anything,
          decides_written own true anything,
          λ owner. (
            (
              anything,
              decides_expect class.Colons anything,
              λ v. (
                (
                  anything,
                  decides_name anything,
                  λ bytes. ((anything, decides_arguments signed anything, λ args. (tt, λ i y j e g. refl)), λ i y j e g. refl),
                ),
                λ i y j e g. refl,
              ),
            ),
            λ i y j e g. refl,
          ),
        ),
        λ i y j e g. refl,
      ),
    ),
    λ i y j e g. refl,
  ),
)

decides_target : (ps : List Param) (F : TokenClass → Bool) → Decides Target (overrides.target ps) F
unfolding overrides.target overrides.short_target overrides.long_target
decides_target ps F = (anything, tt, λ h. (go (same_class (signatures.word key.Method) h.class), λ i y j e g. refl))
  where
    go : (b : Bool) → Decides Target (overrides.target_by ps b) F
    go true = (
      anything,
      tt,
      λ u. ((anything, decides_method_ref (parameters.rules_of false ps) (parameters.rules_of true ps) anything, λ m. (tt, λ i y j e g. refl)), λ i y j e g. refl),
    )
    go false = (
      anything,
      decides_written (parameters.rules_of false ps) true anything,
      λ owner. (
        (anything, decides_expect class.Colons anything, λ u. ((anything, decides_name anything, λ n. (tt, λ i y j e g. refl)), λ i y j e g. refl)),
        λ i y j e g. refl,
      ),
    )

decides_room : (b : Bool) (F : TokenClass → Bool) → Decides (Unit {0}) (overrides.room_for_override b) F
decides_room true F = tt
decides_room false F = tt

decides_body_override : (ps : List Param) (own : ℕ) (found : List Override) (F : TokenClass → Bool) → Decides (List Override) (overrides.body_override ps own found) F
unfolding overrides.body_override
decides_body_override ps own found F = (
  anything,
  tt,
  λ h. (
    (
      anything,
      decides_room _ anything,
      λ u. ((anything, tt, λ v. ((anything, decides_target ps anything, λ t. (tt, λ i y j e g. refl)), λ i y j e g. refl)), λ i y j e g. refl),
    ),
    λ i y j e g. refl,
  ),
)

decides_implementer_ref : (ps : List Param) (F : TokenClass → Bool) → Decides Implementer (overrides.implementer_ref ps) F
unfolding overrides.implementer_ref
decides_implementer_ref ps F = (
  anything,
  decides_expect (signatures.word key.With) anything,
  λ u. (
    (
      anything,
      decides_eat (signatures.word key.Method) anything,
      λ b. ((anything, decides_method_ref (parameters.rules_of false ps) (parameters.rules_of false ps) anything, λ m. (tt, λ i y j e g. refl)), λ i y j e g. refl),
    ),
    λ i y j e g. refl,
  ),
)

decides_class_override : (ps : List Param) (found : List Override) (F : TokenClass → Bool) → Decides (List Override) (overrides.class_override ps found) F
unfolding overrides.class_override
decides_class_override ps found F = (
  anything,
  tt,
  λ h. (
    (
      anything,
      decides_room _ anything,
      λ u. (
        (
          anything,
          tt,
          λ v. (
            (anything, decides_target ps anything, λ t. ((anything, decides_implementer_ref ps anything, λ b. (tt, λ i y j e g. refl)), λ i y j e g. refl)),
            λ i y j e g. refl,
          ),
        ),
        λ i y j e g. refl,
      ),
    ),
    λ i y j e g. refl,
  ),
)

-- ---- methods

decides_body_item : (ps : List Param) (own : ℕ) (found : List Override) (F : TokenClass → Bool) → Decides (List Override) (methods.body_item ps own found) F
unfolding methods.body_item
decides_body_item ps own found F = (anything, tt, λ h. (go (methods.is_override h.class), λ i y j e g. refl))
  where
    go : (b : Bool) → Decides (List Override) (methods.body_item_by ps own b found) F
    go true = decides_body_override ps own found F
    go false = (anything, decides_skip methods.is_override anything, λ n. (tt, λ i y j e g. refl))

decides_body : (ps : List Param) (own : ℕ) (found : List Override) (F : TokenClass → Bool) → Decides (List Override) (methods.body ps own found) F
unfolding methods.body methods.body_items
decides_body ps own found F = (
  anything,
  decides_expect opening anything,
  λ u. (
    (
      anything,
      (anything, λ t. (decides_body_item ps own t anything, λ i x j d e. refl), λ q t e. refl),
      λ more. ((anything, decides_expect closing anything, λ v. (tt, λ i y j e g. refl)), λ i y j e g. refl),
    ),
    λ i y j e g. refl,
  ),
)

decides_no_generic : (F : TokenClass → Bool) → Decides (Unit {0}) methods.no_generic F
unfolding methods.no_generic
decides_no_generic F = (anything, tt, λ h. (go (same_class less h.class), λ i y j e g. refl))
  where
    go : (b : Bool) → Decides (Unit {0}) (methods.not_generic b) F
    go true = tt
    go false = tt

decides_header : (ps : List Param) (line : ℕ) (a : MethodAttributes) (F : TokenClass → Bool) → Decides Method (methods.header ps line a) F
unfolding methods.header
decides_header ps line a F = (
  anything,
  decides_call_form anything,
  λ u. (
    (
      anything,
      decides_result_type (parameters.rules_of false ps) anything,
      λ result. (
        (
          anything,
          decides_name anything,
          λ bytes. (
            (
              anything,
              decides_no_generic anything,
              λ v. (
                (
                  anything,
                  decides_arguments (parameters.rules_of false ps) anything,
                  λ args. ((anything, decides_plain_words anything, λ w. (tt, λ i y j e g. refl)), λ i y j e g. refl),
                ),
                λ i y j e g. refl,
              ),
            ),
            λ i y j e g. refl,
          ),
        ),
        λ i y j e g. refl,
      ),
    ),
    λ i y j e g. refl,
  ),
)

decides_kept : (ps : List Param) (line : ℕ) (a : MethodAttributes) (found : Members) (F : TokenClass → Bool) → Decides Members (methods.kept ps line a found) F
unfolding methods.kept
decides_kept ps line a found F = (
  anything,
  decides_header ps line a anything,
  λ m. ((anything, decides_body ps (length found.methods) found.overrides anything, λ os. (tt, λ i y j e g. refl)), λ i y j e g. refl),
)

decides_method : (is_interface : Bool) (ps : List Param) (found : Members) (F : TokenClass → Bool) → Decides Members (methods.method is_interface ps found) F
unfolding methods.method methods.method_attributes
decides_method is_interface ps found F = (
  anything,
  tt,
  λ h. (
    (
      anything,
      tt,
      λ u. (
        (
          anything,
          decides_scan MethodAttributes methods.method_turn methods.no_attributes anything,
          λ a. (go h a (methods.choice_of is_interface a (nat_lt (length found.methods) 256)), λ i y j e g. refl),
        ),
        λ i y j e g. refl,
      ),
    ),
    λ i y j e g. refl,
  ),
)
  where
    go : (h : Lookahead) (a : MethodAttributes) (c : Choice) → Decides Members (methods.chosen ps h a found c) F
    go h a (choice.Refused cause) = tt
    go h a choice.Passed = (anything, decides_skip methods.ends_item anything, λ n. (tt, λ i y j e g. refl))
    go h a choice.Kept = decides_kept ps h.line a found F

-- ---- members and classes

pub decides_passed : (F : TokenClass → Bool) → Decides (Unit {0}) members.passed F
unfolding members.passed
decides_passed F = (anything, tt, λ u. ((anything, decides_skip methods.ends_item anything, λ n. (tt, λ i y j e g. refl)), λ i y j e g. refl))

decides_member : (is_interface : Bool) (ps : List Param) (found : Members) (F : TokenClass → Bool) → Decides Members (members.member is_interface ps found) F
unfolding members.member members.overridden
decides_member is_interface ps found F = (anything, tt, λ h. (go (members.kind_of h.class), λ i y j e g. refl))
  where
    go : (k : Kind) → Decides Members (members.member_by is_interface ps found k) F
    go kind.Method = decides_method is_interface ps found F
    go kind.Override = (anything, decides_class_override ps found.overrides anything, λ os. (tt, λ i y j e g. refl))
    go kind.Passed = (anything, decides_passed anything, λ u. (tt, λ i y j e g. refl))
    go (kind.Refused cause) = tt

decides_located : (ps : List Param) (F : TokenClass → Bool) → Decides Located (classes.located ps) F
unfolding classes.located
decides_located ps F = (anything, tt, λ h. ((anything, decides_written (parameters.rules_of false ps) true anything, λ t. (tt, λ i y j e g. refl)), λ i y j e g. refl))

decides_base : (ps : List Param) (F : TokenClass → Bool) → Decides (Option Located) (classes.base ps) F
unfolding classes.base
decides_base ps F = (anything, tt, λ h. (go (same_class (signatures.word key.Extends) h.class), λ i y j e g. refl))
  where
    go : (b : Bool) → Decides (Option Located) (classes.base_by ps b) F
    go false = tt
    go true = (anything, tt, λ u. ((anything, decides_located ps anything, λ t. (tt, λ i y j e g. refl)), λ i y j e g. refl))

decides_interfaces : (ps : List Param) → Decides (List Located) (classes.interfaces ps) (same_class opening)
unfolding classes.interfaces classes.interface_list
decides_interfaces ps = (anything, tt, λ h. (go (same_class (signatures.word key.Implements) h.class), λ i y j e g. refl))
  where
    go : (b : Bool) → Decides (List Located) (classes.interfaces_by ps b) (same_class opening)
    go false = tt
    go true = (anything, tt, λ u. ((decides_located ps _, no_comma 123 refl, located_begins ps), λ i y j e g. refl))

decides_block : (is_interface : Bool) (ps : List Param) (F : TokenClass → Bool) → Decides Members (classes.block is_interface ps) F
unfolding classes.block members.members
decides_block is_interface ps F = (
  anything,
  decides_expect opening anything,
  λ u. (
    (
      anything,
      (anything, λ t. (decides_member is_interface ps t anything, λ i x j d e. refl), λ q t e. refl),
      λ ms. ((anything, decides_expect closing anything, λ v. (tt, λ i y j e g. refl)), λ i y j e g. refl),
    ),
    λ i y j e g. refl,
  ),
)

block_begins : (is_interface : Bool) (ps : List Param) (i : Input) (x : Members) (j : Input) → Derives Members (classes.block is_interface ps) i x j → same_class opening (class_at i) ≡ true
unfolding classes.block
block_begins is_interface ps i x j d = expect_begins opening i d.0 d.1 d.2

decides_class_from : (line : ℕ) (a : ClassAttributes) (name : ℕ) (ps : List Param) (F : TokenClass → Bool) → Decides Decl (classes.class_from line a name ps) F
unfolding classes.class_from
decides_class_from line a name ps F = (
  anything,
  decides_base ps anything,
  λ b. (
    (
      same_class opening,
      decides_interfaces ps,
      λ is. (
        (anything, decides_block a.is_interface ps anything, λ ms. (tt, λ i y j e g. refl)),
        λ i y j e g. block_begins a.is_interface ps i e.0 e.1 e.2,
      ),
    ),
    λ i y j e g. refl,
  ),
)

decides_no_extern : (F : TokenClass → Bool) → Decides (Unit {0}) classes.no_extern F
unfolding classes.no_extern
decides_no_extern F = (anything, tt, λ h. (go (same_class (signatures.word key.Extern) h.class), λ i y j e g. refl))
  where
    go : (b : Bool) → Decides (Unit {0}) (classes.not_extern b) F
    go true = tt
    go false = tt

pub decides_class : (F : TokenClass → Bool) → Decides Decl classes.class_ F
unfolding classes.class_ classes.class_attributes
decides_class F = (
  anything,
  tt,
  λ h. (
    (
      anything,
      tt,
      λ u. (
        (
          anything,
          decides_no_extern anything,
          λ v. (
            (
              anything,
              decides_scan ClassAttributes classes.class_turn classes.no_attributes anything,
              λ a. (
                (
                  anything,
                  decides_numbered_name anything,
                  λ n. ((anything, decides_params anything, λ ps. (decides_class_from h.line a n ps F, λ i y j e g. refl)), λ i y j e g. refl),
                ),
                λ i y j e g. refl,
              ),
            ),
            λ i y j e g. refl,
          ),
        ),
        λ i y j e g. refl,
      ),
    ),
    λ i y j e g. refl,
  ),
)
