-- What shows in each pass, cause by cause.
use Rattle.std.proofs.Common.{◌≡◌, ℕ, ◌≤◌, Option, None, ◌⊎◌, inl, inr, refl, sym, ap, subst, arith}
use Rattle.vsd_ast.specs.declared.declarations.Decls.{Decls}
use Rattle.vsd_least.specs.Least.{IsLeast}
use Rattle.vsd_check.specs.Conditions.{TwiceAt, UnknownAt, ArityAt, CycleAt, BadBaseAt, BadInterfaceAt, MisplacedAt, VariantAt, FinalOverriddenAt, AbstractAt, UnknownOverrideAt, RepeatedOverrideAt, Shows, ShowsIn}
use Rattle.vsd_check.specs.Earliest.{IsFirst, sooner_of}
use Rattle.vsd_check.specs.Refusals.{number_of, pass_of}
use Rattle.vsd_check.specs.declared.refusal.Cause.{Cause}
use Rattle.vsd_check.specs.declared.refusal.Cause.TheVariants.{Twice, UnknownType, Arity, Cycle, BadBase, BadInterface, VarianceMisplaced, VariantClass, OverridesFinal, AbstractInConcrete, OverrideUnknown, OverrideTwice}
use Rattle.vsd_check.specs.declared.refusal.Shown.{Shown}
use Rattle.vsd_check.proofs.EarliestLaws.{At, IsFirst-none, IsFirst-same, IsFirst-sooner}

module _ (d : Decls) where
  -- a cause at a line shows in its pass
  in_pass : (c : Cause) (s : Shown) → At c (Shows d c) s → ShowsIn d (pass_of c) s
  in_pass c s w = (ap pass_of w.0, subst (λ (k : Cause). Shows d k s.line) (sym w.0) w.1)

  number_is : (c : Cause) (Q : ℕ → Type 0) (s : Shown) → At c Q s → number_of s.cause ≡ number_of c
  number_is c Q s w = ap number_of w.0

  nothing : Shown → Type 0
  nothing s = ⊥

  -- ---- pass 1

  first_1 : Shown → Type 0
  first_1 s = nothing s ⊎ At Twice (TwiceAt d) s

  first_2 : Shown → Type 0
  first_2 s = first_1 s ⊎ At UnknownType (UnknownAt d) s

  first_3 : Shown → Type 0
  first_3 s = first_2 s ⊎ At Arity (ArityAt d) s

  first_4 : Shown → Type 0
  first_4 s = first_3 s ⊎ At VariantClass (VariantAt d) s

  first_1-number : (s : Shown) → first_1 s → number_of s.cause ≤ number_of Twice
  unfolding first_1 nothing
  first_1-number s e = elim e [ inl h ↦ absurd h | inr h ↦ omega (arith, number_is Twice (TwiceAt d) s h) ]

  first_2-number : (s : Shown) → first_2 s → number_of s.cause ≤ number_of UnknownType
  unfolding first_2
  first_2-number s e = elim e [ inl h ↦ omega (arith, first_1-number s h) | inr h ↦ omega (arith, number_is UnknownType (UnknownAt d) s h) ]

  first_3-number : (s : Shown) → first_3 s → number_of s.cause ≤ number_of Arity
  unfolding first_3
  first_3-number s e = elim e [ inl h ↦ omega (arith, first_2-number s h) | inr h ↦ omega (arith, number_is Arity (ArityAt d) s h) ]

  first_in : (s : Shown) → first_4 s → ShowsIn d 1 s
  unfolding first_1 first_2 first_3 first_4 nothing
  first_in s h4 = elim h4 [ inl h3 ↦ elim h3 [ inl h2 ↦ elim h2 [ inl h1 ↦ elim h1 [ inl h0 ↦ absurd h0 | inr w ↦ in_pass Twice s w ] | inr w ↦ in_pass UnknownType s w ] | inr w ↦ in_pass Arity s w ] | inr w ↦ in_pass VariantClass s w ]

  first_at : (c : Cause) (line : ℕ) → pass_of c ≡ 1 → Shows d c line → first_4 (record { line = line; cause = c })
  unfolding first_1 first_2 first_3 first_4
  first_at Twice line is q = inl (inl (inl (inr (refl, q))))
  first_at UnknownType line is q = inl (inl (inr (refl, q)))
  first_at Arity line is q = inl (inr (refl, q))
  first_at Cycle line is q = absurd (omega (arith, is))
  first_at BadBase line is q = absurd (omega (arith, is))
  first_at BadInterface line is q = absurd (omega (arith, is))
  first_at VarianceMisplaced line is q = absurd (omega (arith, is))
  first_at VariantClass line is q = inr (refl, q)
  first_at OverridesFinal line is q = absurd (omega (arith, is))
  first_at AbstractInConcrete line is q = absurd (omega (arith, is))
  first_at OverrideUnknown line is q = absurd (omega (arith, is))
  first_at OverrideTwice line is q = absurd (omega (arith, is))

  -- the least lines of the causes of the pass give the first of what shows in it
  pub first_first : (l1 l2 l3 l4 : Option ℕ) (s1 s2 s3 s4 : Option Shown) → s1 ≡ sooner_of None Twice l1 → s2 ≡ sooner_of s1 UnknownType l2 → s3 ≡ sooner_of s2 Arity l3 → s4 ≡ sooner_of s3 VariantClass l4 → IsLeast (TwiceAt d) l1 → IsLeast (UnknownAt d) l2 → IsLeast (ArityAt d) l3 → IsLeast (VariantAt d) l4 → IsFirst (ShowsIn d 1) s4
  unfolding first_1 first_2 first_3 first_4 nothing
  first_first l1 l2 l3 l4 s1 s2 s3 s4 e1 e2 e3 e4 q1 q2 q3 q4 =
      let f1 : IsFirst first_1 s1 = IsFirst-sooner nothing Twice (TwiceAt d) None l1 s1 e1 (λ s h. absurd h) (IsFirst-none nothing (λ s h. h)) q1 in
      let f2 : IsFirst first_2 s2 = IsFirst-sooner first_1 UnknownType (UnknownAt d) s1 l2 s2 e2 (λ s h. omega (arith, first_1-number s h)) f1 q2 in
      let f3 : IsFirst first_3 s3 = IsFirst-sooner first_2 Arity (ArityAt d) s2 l3 s3 e3 (λ s h. omega (arith, first_2-number s h)) f2 q3 in
      let f4 : IsFirst first_4 s4 = IsFirst-sooner first_3 VariantClass (VariantAt d) s3 l4 s4 e4 (λ s h. omega (arith, first_3-number s h)) f3 q4 in
      IsFirst-same first_4 (ShowsIn d 1) s4 first_in (λ s w. first_at s.cause s.line w.0 w.1) f4

  -- ---- pass 2

  second_1 : Shown → Type 0
  second_1 s = nothing s ⊎ At Cycle (CycleAt d) s

  second_2 : Shown → Type 0
  second_2 s = second_1 s ⊎ At BadBase (BadBaseAt d) s

  second_3 : Shown → Type 0
  second_3 s = second_2 s ⊎ At BadInterface (BadInterfaceAt d) s

  second_1-number : (s : Shown) → second_1 s → number_of s.cause ≤ number_of Cycle
  unfolding second_1 nothing
  second_1-number s e = elim e [ inl h ↦ absurd h | inr h ↦ omega (arith, number_is Cycle (CycleAt d) s h) ]

  second_2-number : (s : Shown) → second_2 s → number_of s.cause ≤ number_of BadBase
  unfolding second_2
  second_2-number s e = elim e [ inl h ↦ omega (arith, second_1-number s h) | inr h ↦ omega (arith, number_is BadBase (BadBaseAt d) s h) ]

  second_in : (s : Shown) → second_3 s → ShowsIn d 2 s
  unfolding second_1 second_2 second_3 nothing
  second_in s h3 = elim h3 [ inl h2 ↦ elim h2 [ inl h1 ↦ elim h1 [ inl h0 ↦ absurd h0 | inr w ↦ in_pass Cycle s w ] | inr w ↦ in_pass BadBase s w ] | inr w ↦ in_pass BadInterface s w ]

  second_at : (c : Cause) (line : ℕ) → pass_of c ≡ 2 → Shows d c line → second_3 (record { line = line; cause = c })
  unfolding second_1 second_2 second_3
  second_at Twice line is q = absurd (omega (arith, is))
  second_at UnknownType line is q = absurd (omega (arith, is))
  second_at Arity line is q = absurd (omega (arith, is))
  second_at Cycle line is q = inl (inl (inr (refl, q)))
  second_at BadBase line is q = inl (inr (refl, q))
  second_at BadInterface line is q = inr (refl, q)
  second_at VarianceMisplaced line is q = absurd (omega (arith, is))
  second_at VariantClass line is q = absurd (omega (arith, is))
  second_at OverridesFinal line is q = absurd (omega (arith, is))
  second_at AbstractInConcrete line is q = absurd (omega (arith, is))
  second_at OverrideUnknown line is q = absurd (omega (arith, is))
  second_at OverrideTwice line is q = absurd (omega (arith, is))

  -- the least lines of the causes of the pass give the first of what shows in it
  pub second_first : (l1 l2 l3 : Option ℕ) (s1 s2 s3 : Option Shown) → s1 ≡ sooner_of None Cycle l1 → s2 ≡ sooner_of s1 BadBase l2 → s3 ≡ sooner_of s2 BadInterface l3 → IsLeast (CycleAt d) l1 → IsLeast (BadBaseAt d) l2 → IsLeast (BadInterfaceAt d) l3 → IsFirst (ShowsIn d 2) s3
  unfolding second_1 second_2 second_3 nothing
  second_first l1 l2 l3 s1 s2 s3 e1 e2 e3 q1 q2 q3 =
      let f1 : IsFirst second_1 s1 = IsFirst-sooner nothing Cycle (CycleAt d) None l1 s1 e1 (λ s h. absurd h) (IsFirst-none nothing (λ s h. h)) q1 in
      let f2 : IsFirst second_2 s2 = IsFirst-sooner second_1 BadBase (BadBaseAt d) s1 l2 s2 e2 (λ s h. omega (arith, second_1-number s h)) f1 q2 in
      let f3 : IsFirst second_3 s3 = IsFirst-sooner second_2 BadInterface (BadInterfaceAt d) s2 l3 s3 e3 (λ s h. omega (arith, second_2-number s h)) f2 q3 in
      IsFirst-same second_3 (ShowsIn d 2) s3 second_in (λ s w. second_at s.cause s.line w.0 w.1) f3

  -- ---- pass 3

  third_1 : Shown → Type 0
  third_1 s = nothing s ⊎ At VarianceMisplaced (MisplacedAt d) s

  third_2 : Shown → Type 0
  third_2 s = third_1 s ⊎ At OverridesFinal (FinalOverriddenAt d) s

  third_3 : Shown → Type 0
  third_3 s = third_2 s ⊎ At AbstractInConcrete (AbstractAt d) s

  third_4 : Shown → Type 0
  third_4 s = third_3 s ⊎ At OverrideUnknown (UnknownOverrideAt d) s

  third_5 : Shown → Type 0
  third_5 s = third_4 s ⊎ At OverrideTwice (RepeatedOverrideAt d) s

  third_1-number : (s : Shown) → third_1 s → number_of s.cause ≤ number_of VarianceMisplaced
  unfolding third_1 nothing
  third_1-number s e = elim e [ inl h ↦ absurd h | inr h ↦ omega (arith, number_is VarianceMisplaced (MisplacedAt d) s h) ]

  third_2-number : (s : Shown) → third_2 s → number_of s.cause ≤ number_of OverridesFinal
  unfolding third_2
  third_2-number s e = elim e [ inl h ↦ omega (arith, third_1-number s h) | inr h ↦ omega (arith, number_is OverridesFinal (FinalOverriddenAt d) s h) ]

  third_3-number : (s : Shown) → third_3 s → number_of s.cause ≤ number_of AbstractInConcrete
  unfolding third_3
  third_3-number s e = elim e [ inl h ↦ omega (arith, third_2-number s h) | inr h ↦ omega (arith, number_is AbstractInConcrete (AbstractAt d) s h) ]

  third_4-number : (s : Shown) → third_4 s → number_of s.cause ≤ number_of OverrideUnknown
  unfolding third_4
  third_4-number s e = elim e [ inl h ↦ omega (arith, third_3-number s h) | inr h ↦ omega (arith, number_is OverrideUnknown (UnknownOverrideAt d) s h) ]

  third_in : (s : Shown) → third_5 s → ShowsIn d 3 s
  unfolding third_1 third_2 third_3 third_4 third_5 nothing
  third_in s h5 = elim h5 [ inl h4 ↦ elim h4 [ inl h3 ↦ elim h3 [ inl h2 ↦ elim h2 [ inl h1 ↦ elim h1 [ inl h0 ↦ absurd h0 | inr w ↦ in_pass VarianceMisplaced s w ] | inr w ↦ in_pass OverridesFinal s w ] | inr w ↦ in_pass AbstractInConcrete s w ] | inr w ↦ in_pass OverrideUnknown s w ] | inr w ↦ in_pass OverrideTwice s w ]

  third_at : (c : Cause) (line : ℕ) → pass_of c ≡ 3 → Shows d c line → third_5 (record { line = line; cause = c })
  unfolding third_1 third_2 third_3 third_4 third_5
  third_at Twice line is q = absurd (omega (arith, is))
  third_at UnknownType line is q = absurd (omega (arith, is))
  third_at Arity line is q = absurd (omega (arith, is))
  third_at Cycle line is q = absurd (omega (arith, is))
  third_at BadBase line is q = absurd (omega (arith, is))
  third_at BadInterface line is q = absurd (omega (arith, is))
  third_at VarianceMisplaced line is q = inl (inl (inl (inl (inr (refl, q)))))
  third_at VariantClass line is q = absurd (omega (arith, is))
  third_at OverridesFinal line is q = inl (inl (inl (inr (refl, q))))
  third_at AbstractInConcrete line is q = inl (inl (inr (refl, q)))
  third_at OverrideUnknown line is q = inl (inr (refl, q))
  third_at OverrideTwice line is q = inr (refl, q)

  -- the least lines of the causes of the pass give the first of what shows in it
  pub third_first : (l1 l2 l3 l4 l5 : Option ℕ) (s1 s2 s3 s4 s5 : Option Shown) → s1 ≡ sooner_of None VarianceMisplaced l1 → s2 ≡ sooner_of s1 OverridesFinal l2 → s3 ≡ sooner_of s2 AbstractInConcrete l3 → s4 ≡ sooner_of s3 OverrideUnknown l4 → s5 ≡ sooner_of s4 OverrideTwice l5 → IsLeast (MisplacedAt d) l1 → IsLeast (FinalOverriddenAt d) l2 → IsLeast (AbstractAt d) l3 → IsLeast (UnknownOverrideAt d) l4 → IsLeast (RepeatedOverrideAt d) l5 → IsFirst (ShowsIn d 3) s5
  unfolding third_1 third_2 third_3 third_4 third_5 nothing
  third_first l1 l2 l3 l4 l5 s1 s2 s3 s4 s5 e1 e2 e3 e4 e5 q1 q2 q3 q4 q5 =
      let f1 : IsFirst third_1 s1 = IsFirst-sooner nothing VarianceMisplaced (MisplacedAt d) None l1 s1 e1 (λ s h. absurd h) (IsFirst-none nothing (λ s h. h)) q1 in
      let f2 : IsFirst third_2 s2 = IsFirst-sooner third_1 OverridesFinal (FinalOverriddenAt d) s1 l2 s2 e2 (λ s h. omega (arith, third_1-number s h)) f1 q2 in
      let f3 : IsFirst third_3 s3 = IsFirst-sooner third_2 AbstractInConcrete (AbstractAt d) s2 l3 s3 e3 (λ s h. omega (arith, third_2-number s h)) f2 q3 in
      let f4 : IsFirst third_4 s4 = IsFirst-sooner third_3 OverrideUnknown (UnknownOverrideAt d) s3 l4 s4 e4 (λ s h. omega (arith, third_3-number s h)) f3 q4 in
      let f5 : IsFirst third_5 s5 = IsFirst-sooner third_4 OverrideTwice (RepeatedOverrideAt d) s4 l5 s5 e5 (λ s h. omega (arith, third_4-number s h)) f4 q5 in
      IsFirst-same third_5 (ShowsIn d 3) s5 third_in (λ s w. third_at s.cause s.line w.0 w.1) f5
