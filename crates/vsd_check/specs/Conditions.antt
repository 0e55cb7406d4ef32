-- The conditions that lawful declarations don't show.
use Rattle.std.specs.Prelude.{◌≡◌, ℕ}
use Rattle.vsd_least.specs.Least.{AtSome}
use Rattle.vsd_ast.specs.declared.declarations.Decls.{Decls}
use Rattle.vsd_lawful.specs.Twice.{ShowsTwice}
use Rattle.vsd_lawful.specs.Types.{ShowsUnknown, ShowsArity}
use Rattle.vsd_lawful.specs.Variant.{ShowsVariantClass}
use Rattle.vsd_hierarchy.specs.Cycles.{ShowsCycle}
use Rattle.vsd_hierarchy.specs.Kinds.{ShowsBadBase, ShowsBadInterface}
use Rattle.vsd_overrides.specs.Conditions.{ShowsRepeatedOverride, ShowsUnknownOverride}
use Rattle.vsd_roots.specs.Bodies.{ShowsAbstract}
use Rattle.vsd_roots.specs.Final.{ShowsFinal}
use Rattle.vsd_roots.specs.Variance.{ShowsMisplaced}
use Rattle.vsd_check.specs.Refusals.{ComesFirst, pass_of}
use Rattle.vsd_check.specs.declared.refusal.Cause.{Cause}
use Rattle.vsd_check.specs.declared.refusal.Cause.TheVariants.{Twice, UnknownType, Arity, Cycle, BadBase, BadInterface, VarianceMisplaced, VariantClass, OverridesFinal, AbstractInConcrete, OverrideUnknown, OverrideTwice}
use Rattle.vsd_check.specs.declared.refusal.Shown.{Shown}

module _ (d : Decls) where
  -- the lines at which some declaration shows a condition
  abbrev pub TwiceAt : ℕ → Type 0
  TwiceAt = AtSome d.list (ShowsTwice d.names d.list)

  abbrev pub UnknownAt : ℕ → Type 0
  UnknownAt = AtSome d.list (λ _. ShowsUnknown d.list)

  abbrev pub ArityAt : ℕ → Type 0
  ArityAt = AtSome d.list (λ _. ShowsArity d.list)

  abbrev pub VariantAt : ℕ → Type 0
  VariantAt = AtSome d.list (λ _. ShowsVariantClass)

  abbrev pub CycleAt : ℕ → Type 0
  CycleAt = AtSome d.list (ShowsCycle d.list)

  abbrev pub BadBaseAt : ℕ → Type 0
  BadBaseAt = AtSome d.list (λ _. ShowsBadBase d.list)

  abbrev pub BadInterfaceAt : ℕ → Type 0
  BadInterfaceAt = AtSome d.list (λ _. ShowsBadInterface d.list)

  abbrev pub MisplacedAt : ℕ → Type 0
  MisplacedAt = AtSome d.list (λ _. ShowsMisplaced d.list)

  abbrev pub FinalOverriddenAt : ℕ → Type 0
  FinalOverriddenAt = AtSome d.list (ShowsFinal d.list)

  abbrev pub AbstractAt : ℕ → Type 0
  AbstractAt = AtSome d.list (ShowsAbstract d.list)

  abbrev pub UnknownOverrideAt : ℕ → Type 0
  UnknownOverrideAt = AtSome d.list (ShowsUnknownOverride d.list)

  abbrev pub RepeatedOverrideAt : ℕ → Type 0
  RepeatedOverrideAt = AtSome d.list (ShowsRepeatedOverride d.list)

  -- the cause shows at this line
  abbrev pub Shows : Cause → ℕ → Type 0
  Shows Twice = TwiceAt
  Shows UnknownType = UnknownAt
  Shows Arity = ArityAt
  Shows Cycle = CycleAt
  Shows BadBase = BadBaseAt
  Shows BadInterface = BadInterfaceAt
  Shows VarianceMisplaced = MisplacedAt
  Shows VariantClass = VariantAt
  Shows OverridesFinal = FinalOverriddenAt
  Shows AbstractInConcrete = AbstractAt
  Shows OverrideUnknown = UnknownOverrideAt
  Shows OverrideTwice = RepeatedOverrideAt

  -- it is a cause of this pass, and shows
  abbrev pub ShowsIn : ℕ → Shown → Type 0
  ShowsIn pass s = (pass_of s.cause ≡ pass) × Shows s.cause s.line

  -- no cause of this pass shows
  abbrev pub NoneIn : ℕ → Type 0
  NoneIn pass = (s : Shown) → ¬ ShowsIn pass s

  -- it shows, and whatever shows comes no earlier
  pub record IsEarliest (s : Shown) : Type 0 where
    pub shows : Shows s.cause s.line
    pub earliest : (t : Shown) → Shows t.cause t.line → ComesFirst s t

  -- no cause shows at any line
  abbrev pub AreLawful : Type 0
  AreLawful = (cause : Cause) (line : ℕ) → ¬ Shows cause line
