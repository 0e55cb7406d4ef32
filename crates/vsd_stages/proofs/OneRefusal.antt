-- Closed classes are refused in one way at most, and not where they pass.
use Rattle.std.proofs.Common.{◌≡◌, ℕ, zero, suc, ◌+◌, ◌<◌, ◌≤◌, ◌⊎◌, List, length, Option, Some, inl, inr, ⊎_elim, refl, sym, ap, subst, ◌∙◌, arith}
use Rattle.std.specs.List.{slice_get}
use Rattle.std.proofs.lemmas.Bool.{cases_order}
use Rattle.vsd_terms.specs.declared.term.Term.{Term}
use Rattle.vsd_terms.specs.Text.{text_of}
use Rattle.vsd_types.specs.TypeList.{TypeList}
use Rattle.vsd_types.specs.Types.{type_at}
use Rattle.vsd_slots.specs.Refusals.{AreAll, IsMissing, IsTooMany, IsTotal, IsWhole, IsWithinLimit, Lacks, LacksFirst, Passes, most_slots, slots_in}
use Rattle.vsd_slots.specs.Texts.{name_text}
use Rattle.vsd_slots.proofs.SlotLaws.{all-unique}
use Rattle.vsd_itable.specs.Refusals.{IsRefused, IsMissingText, IsTooManyLine, line_of, type_text}
use Rattle.vsd_itable.specs.declared.error.BuildError.{BuildError}
use Rattle.vsd_itable.specs.declared.error.BuildError.TheVariants.{MissingImplementation, TooManySlots, Memory}

same_some : {A : Type 0} (x y : A) (o : Option A) → o ≡ Some x → o ≡ Some y → x ≡ y
same_some x y o is again = let both : Some x ≡ Some y = sym is ∙ again in cc

module _ (c : TypeList) where
  -- ---- slots are counted in one way

  one_total : (n a b : ℕ) → IsTotal c n a → IsTotal c n b → a ≡ b
  one_total zero a b is again = is ∙ sym again
  one_total (suc n) a b (xs, before, all, totalled, is) (ys, former, others, counted, again) =
      let same = all-unique c.decls.list (type_at c.types n) xs ys all others in
      let earlier = one_total n before former totalled counted in
      is ∙ ap (λ k. k + slots_in c.decls.list xs) earlier ∙ ap (λ zs. former + slots_in c.decls.list zs) same ∙ sym again

  not_both : (t total : ℕ) → IsWithinLimit c t → IsTotal c (suc t) total → most_slots < total → ⊥
  not_both t total (few, counted, fits) totalled more =
      let same = one_total (suc t) few total counted totalled in
      absurd (omega (arith, fits, more, same))

  -- ---- what passes isn't refused

  lacks_not : (t i m : ℕ) → IsMissing c t i m → IsWhole c.decls.list (type_at c.types t) → ⊥
  lacks_not t i m missing whole = whole missing.concrete missing.interfaces missing.are missing.place m missing.lacks.lacks

  passes_missing : (n t i m : ℕ) → Passes c n → t < n → IsMissing c t i m → ⊥
  passes_missing n t i m passes less missing = lacks_not t i m missing (passes t less).1

  passes_many : (n t : ℕ) → Passes c n → t < n → IsTooMany c t → ⊥
  passes_many n t passes less many = not_both t many.total (passes t less).0 many.totalled many.more

  pub passes_refused : Passes c (length c.types) → (e : BuildError) → (e ≡ Memory → ⊥) → IsRefused c e → ⊥
  passes_refused passes (MissingImplementation line class interface method) real is =
      passes_missing (length c.types) is.t is.i is.m passes is.missing.listed is.missing
  passes_refused passes (TooManySlots line) real is = passes_many (length c.types) is.t passes is.many.listed is.many
  passes_refused passes Memory real is = absurd (real refl)

  -- ---- the first class that is refused is one

  -- two places that come no earlier than each other
  no_order : (s t : ℕ) → (s < t → ⊥) → (t < s → ⊥) → s ≡ t
  no_order s t one other = ⊎_elim (λ same. same) (λ apart. ⊎_elim (λ less. absurd (one less)) (λ more. absurd (other more)) apart) (cases_order s t)

  many_missing : (s t i m : ℕ) → IsTooMany c s → IsMissing c t i m → ⊥
  many_missing s t i m many missing =
      let same : s ≡ t = no_order s t (λ less. passes_many t s missing.before less many) (λ less. passes_missing s t i m many.before less missing) in
      not_both t many.total missing.within (subst (λ n. IsTotal c (suc n) many.total) same many.totalled) many.more

  one_many : (s t : ℕ) → IsTooMany c s → IsTooMany c t → s ≡ t
  one_many s t a b = no_order s t (λ less. passes_many t s b.before less a) (λ less. passes_many s t a.before less b)

  one_class : (s i m t j n : ℕ) → IsMissing c s i m → IsMissing c t j n → s ≡ t
  one_class s i m t j n a b =
      no_order s t (λ less. passes_missing t s i m b.before less a) (λ less. passes_missing s t j n a.before less b)

  -- ---- and so is the slot that it lacks

  one_slot : (t : Term) (xs : List Term) (p m q n : ℕ) → LacksFirst c.decls.list t xs p m → LacksFirst c.decls.list t xs q n → (p ≡ q) × (m ≡ n)
  one_slot t xs p m q n a b =
      ⊎_elim (λ (less : p < q). ⊎_elim (λ (more : q < p). absurd (omega arith)) (λ (is, few). absurd (omega arith)) (b.first p m a.lacks))
      (λ (same, fewer). ⊎_elim (λ (more : q < p). absurd (omega arith)) (λ (again, less). (same, omega arith)) (b.first p m a.lacks))
      (a.first q n b.lacks)

  -- the same interface, by its type, and the same method
  pub record AreOneSlot (i m j n : ℕ) : Type 0 where
    pub interface : type_at c.types i ≡ type_at c.types j
    pub method : m ≡ n

  one_missing : (t i m j n : ℕ) → IsMissing c t i m → IsMissing c t j n → AreOneSlot i m j n
  one_missing t i m j n a b =
      let same = all-unique c.decls.list (type_at c.types t) a.interfaces b.interfaces a.are b.are in
      let first = subst (λ xs. LacksFirst c.decls.list (type_at c.types t) xs a.place m) same a.lacks in
      let (place, method) = one_slot (type_at c.types t) b.interfaces a.place m b.place n first b.lacks in
      let stands = subst (λ p. slice_get b.interfaces p ≡ Some (type_at c.types i)) place (subst (λ xs. slice_get xs a.place ≡ Some (type_at c.types i)) same a.stands) in
      record { interface = same_some (type_at c.types i) (type_at c.types j) (slice_get b.interfaces b.place) stands b.stands; method = method }

  one_text : (line other : ℕ) (class others interface faces method ways : List ℕ) → IsMissingText c line class interface method → IsMissingText c other others faces ways
      → MissingImplementation line class interface method ≡ MissingImplementation other others faces ways
  one_text line other class others interface faces method ways a b =
      let class_is : a.t ≡ b.t = one_class a.t a.i a.m b.t b.i b.m a.missing b.missing in
      let slot = one_missing b.t a.i a.m b.i b.m (subst (λ t. IsMissing c t a.i a.m) class_is a.missing) b.missing in
      let lines : line ≡ other = a.line_is ∙ ap (line_of c) class_is ∙ sym b.line_is in
      let classes : class ≡ others = a.class_is ∙ ap (type_text c) class_is ∙ sym b.class_is in
      let interfaces : interface ≡ faces = a.interface_is ∙ ap (text_of c.decls.names) slot.interface ∙ sym b.interface_is in
      let methods : method ≡ ways = a.method_is ∙ ap (λ t. name_text c.decls.list t a.m) slot.interface ∙ ap (name_text c.decls.list (type_at c.types b.i)) slot.method ∙ sym b.method_is in
      λ k. MissingImplementation (lines k) (classes k) (interfaces k) (methods k)

  pub one_refusal : (e f : BuildError) → (e ≡ Memory → ⊥) → (f ≡ Memory → ⊥) → IsRefused c e → IsRefused c f → e ≡ f
  one_refusal (MissingImplementation line class interface method) (MissingImplementation other others faces ways) real too is again =
      one_text line other class others interface faces method ways is again
  one_refusal (MissingImplementation line class interface method) (TooManySlots other) real too is again = absurd (many_missing again.t is.t is.i is.m again.many is.missing)
  one_refusal (TooManySlots line) (MissingImplementation other others faces ways) real too is again = absurd (many_missing is.t again.t again.i again.m is.many again.missing)
  one_refusal (TooManySlots line) (TooManySlots other) real too is again = ap TooManySlots (is.line_is ∙ ap (line_of c) (one_many is.t again.t is.many again.many) ∙ sym again.line_is)
  one_refusal Memory f real too is again = absurd (real refl)
  one_refusal e Memory real too is again = absurd (too refl)
