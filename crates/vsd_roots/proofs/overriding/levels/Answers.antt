use Rattle.std.proofs.Common.{◌≡◌, ℕ, ◌+◌, ◌<◌, List, All, length, get_or, set, replicate, length-set, get_or-set_same, get_or-set_other, sym, ap, ◌∙◌, Some, inl, inr, arith, rules}
use Rattle.std.specs.List.{slice_get}
use Rattle.std.proofs.lemmas.Bool.{cases_eq, cases_lt}
use Rattle.std.proofs.lemmas.List.{get_or-replicate, get_or_past, length-replicate}
use Rattle.std.proofs.lemmas.List.Elements.{All-get_or}
use Rattle.std.proofs.lemmas.Option.{slice_get-get_or, slice_get_within}
use Rattle.vsd_roots.specs.Levels.{IsOnce}
use Rattle.vsd_roots.proofs.overriding.levels.Goals as goal

filled_with : (xs : List ℕ) (x count n : ℕ) → xs ≡ replicate count x → get_or xs n x ≡ x
filled_with xs x count n filled =
    ap (λ (l : List ℕ). get_or l n x) filled ∙ elim (cases_lt n count) [
      | inl lt ↦ get_or-replicate count n x x lt
      | inr ge ↦ get_or_past (replicate count x) n x (omega (arith, length-replicate count x))
    ]

-- the levels below one, and then the one
record Below (count level : ℕ) (chain made : List ℕ) : Type 0 where
  long : length made ≡ count
  found : (n : ℕ) → 0 < get_or made n 0 → slice_get chain (get_or made n 0) ≡ Some n
  each : (k n : ℕ) → k < level → slice_get chain k ≡ Some n → get_or made n 0 ≡ k

put : (count level : ℕ) (chain made : List ℕ) → All (λ (n : ℕ). n < count) chain → IsOnce chain → level < length chain → Below count level chain made → Below count (level + 1) chain (set made (get_or chain level 0) level)
put count level chain made declared once inside before =
    let at = get_or chain level 0 in
    let here : slice_get chain level ≡ Some at = slice_get-get_or chain level 0 inside in
    let there : at < count = All-get_or (λ (n : ℕ). n < count) chain level 0 inside declared in
    let room : at < length made = omega (arith, before.long) in
    let written : get_or (set made at level) at 0 ≡ level = get_or-set_same made at level 0 room in
    record {
      long = length-set made at level ∙ before.long;
      found = λ n some.
          elim (cases_eq n at) [
            | inl same ↦ (
                let read : get_or (set made at level) n 0 ≡ level = ap (λ (k : ℕ). get_or (set made at level) k 0) same ∙ written in
                ap (slice_get chain) read ∙ here ∙ ap Some (sym same)
                )
            | inr other ↦ (
                let kept : get_or (set made at level) n 0 ≡ get_or made n 0 = get_or-set_other made at n level 0 other in
                ap (slice_get chain) kept ∙ before.found n (omega arith)
                )
          ];
      each = λ k n below stands.
          elim (cases_eq n at) [
            | inl same ↦ (
                let one : k ≡ level = once k level n stands (here ∙ ap Some (sym same)) in
                ap (λ (i : ℕ). get_or (set made at level) i 0) same ∙ written ∙ sym one
                )
            | inr other ↦ (
                let lower : k < level = elim (cases_lt k level) [
                  | inl lt ↦ lt
                  | inr ge ↦ absurd (other (let level_is : k ≡ level = omega arith in let both = sym stands ∙ ap (slice_get chain) level_is ∙ here in cc))
                ] in
                get_or-set_other made at n level 0 other ∙ before.each k n lower stands
                )
          ];
    }

pub index_mut-requires : goal.index_mut-requires
index_mut-requires c =
    let there : get_or c.args.chain.now c.loop-level.level 0 < c.args.count = All-get_or (λ (n : ℕ). n < c.args.count) c.args.chain.now c.loop-level.level 0 (omega arith) c.requires.declared in
    omega (arith, c.loop-level.invariant.long)

pub loop-level-init : goal.loop-level-init
loop-level-init c =
    let filled : c.in_ok-made.made.items ≡ replicate c.args.count 0 = c.in_ok-made.ensures.items_if_clones_equal (search rules) in
    let all = λ (n : ℕ). filled_with c.in_ok-made.made.items 0 c.args.count n filled in
    let none : ℕ = 0 in
    record {
      long = ap length filled ∙ length-replicate c.args.count none;
      found = λ n some. absurd (omega (arith, all n));
      each = λ k n below. absurd (omega arith);
    }

pub loop-level-preserved : goal.loop-level-preserved
loop-level-preserved c =
    let next = put c.args.count c.loop-level.level c.args.chain.now c.loop-level.made.items c.requires.declared c.requires.once (omega arith) (record { long = c.loop-level.invariant.long; found = c.loop-level.invariant.found; each = c.loop-level.invariant.each }) in
    record { long = next.long; found = next.found; each = next.each }

pub returns : goal.returns
returns c = record {
  long = c.loop-level.invariant.long;
  found = c.loop-level.invariant.found;
  each = λ k n stands. c.loop-level.invariant.each k n (omega (arith, slice_get_within c.args.chain.now k n stands)) stands;
}
