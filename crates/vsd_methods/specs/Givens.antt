-- What the overrides of closed classes give, by numbers.
use Rattle.std.specs.Prelude.{◌≡◌, ℕ, ◌<◌, ◌&&◌, nat_eq, if◌then◌else◌, List, length, Option, Some, None}
use Rattle.std.specs.List.{position_from}
use Rattle.std.specs.Option.{option_eq}
use Rattle.vsd_terms.specs.declared.term.Term.{Term}
use Rattle.vsd_ast.specs.declared.declarations.Decl.{Decl}
use Rattle.vsd_ast.specs.declared.declarations.Method.{Method}
use Rattle.vsd_ast.specs.declared.declarations.Override.{Override}
use Rattle.vsd_types.specs.Types.{declaration_of, type_at}
use Rattle.vsd_methods.specs.Methods.{first_given, given_by, given_method, gives, is_meant, methods_in, overriding}
use Rattle.vsd_methods.specs.declared.overriding.Given.{Given}

-- what an override gives for a method of an interface, by numbers
abbrev pub answer_of : Option Given → ℕ → ℕ → Option ℕ
answer_of None i m = None
answer_of (Some g) i m = if nat_eq g.interface i && nat_eq g.slot m then Some g.given else None

-- what an override of a class with these methods gives, for each method of its owner, which is the interface t
abbrev pub IsGivenFor : List Decl → Term → List Method → Override → List Term → ℕ → Option Given → Type 0
IsGivenFor ds t methods o owner_args number given = (i m : ℕ) → answer_of given i m ≡ (if nat_eq number i && option_eq nat_eq (position_from (is_meant o owner_args (given_method methods o.body)) 0 (methods_in (declaration_of ds t))) (Some m) then given_by methods o.body else None)

-- what an override of a class gives, for each method of each listed interface
abbrev pub IsGiven : List Decl → List Term → Term → Override → Option Given → Type 0
IsGiven ds types t o given = (i m : ℕ) → i < length types → gives ds (type_at types i) m t o ≡ answer_of given i m

-- the same of all overrides of the class
abbrev pub AreGiven : List Decl → List Term → Term → List (Option Given) → Type 0
AreGiven ds types t given = (i m : ℕ) → i < length types → overriding ds (type_at types i) m t ≡ first_given (λ g. answer_of g i m) given
