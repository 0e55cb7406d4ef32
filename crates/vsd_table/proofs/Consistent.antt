-- All that a seat knows agrees: by the rule, and at opening.
use Rattle.std.proofs.Common.{◌≡◌, ℕ, zero, suc, ◌+◌, List, [], ◌∷◌, slice_index, inl, inr, sym, ◌∙◌, ap, arith}
use mathlib.Core.Option.{some, some-injective, some-ne-none}
use lib.ListN.{get_elem?}
use Rattle.vsd_words.specs.declared.handle.Handle.{Handle}
use Rattle.vsd_rule.specs.declared.handle_view.Binding.{Binding}
use Rattle.vsd_rule.specs.declared.key.Key.{Key}
use Rattle.vsd_rule.specs.declared.view.View.{View}
use Rattle.vsd_rule.specs.Lists.{target_of, compatible}
use Rattle.vsd_rule.specs.Handles.{handle, binding_for}
use Rattle.vsd_rule.specs.Facts.{KnowsOneBinding}
use Rattle.vsd_rule.specs.Evidence.{CallsAgree, CastsAgree}
use Rattle.vsd_rule.specs.Moves.{host_bindings, opening_handle_view, caller_view}
use Rattle.vsd_rule.specs.Rule.{Rule}
use Rattle.vsd_rule.proofs.Steps.{tells_one_binding}
use Rattle.vsd_rule.proofs.RuleByClaims.{calls_agree}
use Rattle.vsd_rule.proofs.RuleByCasts.{casts_agree}
use Rattle.vsd_table.specs.Consistent.{IsConsistent}

pub consistent : (k : Key) (words : List ℕ) (views : List View) → Rule k words views → (id : ℕ) (v : View) → get_elem? views id ≡ some v → IsConsistent v
consistent k words views rule id v at = record {
  bindings = tells_one_binding k words views rule id v at;
  calls = calls_agree k words views rule id v at;
  casts = casts_agree k words views rule id v at;
}

-- ---- at opening a seat knows the hosts' handles alone, and has no evidence

-- a host's binding stands at the host's number, with the host's type
host_is : (from : ℕ) (numbers : List ℕ) (i number : ℕ) (h : Handle) → get_elem? (host_bindings from numbers) i ≡ some (binding_for h number) → (h.row ≡ from + i) × (number ≡ slice_index numbers i)
host_is from [] i number h at = absurd (some-ne-none (binding_for h number) (sym at))
host_is from (n ∷ ns) zero number h at =
    let same = some-injective (binding_for (handle from 1) n) (binding_for h number) at in
    let row : from ≡ h.row = ap (λ (b : Binding). b.handle.row) same in
    (omega arith, sym (ap (λ (b : Binding). b.number) same))
host_is from (n ∷ ns) (suc i) number h at =
    let rest = host_is (from + 1) ns i number h at in
    let row = rest.0 in
    (omega arith, rest.1)

one_at_opening : (k : Key) → KnowsOneBinding (opening_handle_view k)
one_at_opening k h number other knows knows' =
    let a = host_is 0 k.world.host_types knows.0 number h knows.1 in
    let b = host_is 0 k.world.host_types knows'.0 other h knows'.1 in
    let row = a.0 in
    let row' = b.0 in
    let same : knows.0 ≡ knows'.0 = omega arith in
    a.1 ∙ (ap (slice_index k.world.host_types) same ∙ sym b.1)

pub new_consistent : (k : Key) (caller : ℕ) → IsConsistent (caller_view k caller)
new_consistent k caller = record {
  bindings = one_at_opening k;
  calls = calls;
  casts = casts;
}
  where
    v : View
    v = caller_view k caller

    calls : CallsAgree v
    calls h token target number (inl known) knows = known.answer ∙ ap (λ (t : ℕ). target_of k t token) (one_at_opening k h known.number number known.knows knows)
    calls h token target number (inr has) knows = absurd (some-ne-none _ (sym has.1))

    casts : CastsAgree v
    casts source target given number other (inl known) knows knows' =
        known.answer ∙ (λ c. compatible k (one_at_opening k source known.number number known.knows_source knows c) (one_at_opening k target known.other other known.knows_target knows' c))
    casts source target given number other (inr has) knows knows' = absurd (some-ne-none _ (sym has.1))
