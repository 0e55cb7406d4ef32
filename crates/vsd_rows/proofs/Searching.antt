-- A claim that was given no row tried each of its rows.
use Rattle.std.proofs.Common.{◌≡◌, ◌≢◌, ◌⊎◌, inl, inr, ℕ, zero, suc, ◌<◌, min, Bool, true, false, nat_eq, List, [], ◌∷◌, ◌++◌, append_assoc, Some, None, refl, sym, ◌∙◌, ap, subst, ⊎_elim, arith}
use Rattle.std.proofs.lemmas.Bool.{eqb-true, eq-eqb}
use Rattle.vsd_rule.specs.declared.key.Key.{Key}
use Rattle.vsd_rule.specs.declared.step.Act.{Act}
use Rattle.vsd_rule.specs.declared.step.Act.TheVariants.{Claim, LoadRow}
use Rattle.vsd_rule.specs.declared.step.RowWord.TheVariants as word
use Rattle.vsd_rule.specs.RowSteps.{next_row}
use Rattle.vsd_table.specs.declared.seated.Seated.{Seated}
use Rattle.vsd_table.specs.Seating.{view_of}
use Rattle.vsd_trails.specs.Programs.{Fields, TrailStep, after_steps, Runs}
use Rattle.vsd_trails.specs.RowTrails.{trying, claiming_row, claiming_from, claiming}
use Rattle.vsd_trails.specs.CallPaths.{load_of, InTurn}
use Rattle.vsd_trails.proofs.Runs.{splits}
use Rattle.vsd_trails.proofs.Loads.{one_load, nothing_run, branch}
use Rattle.vsd_rows.specs.Makes.{fields_of, Makes}
use Rattle.vsd_rows.specs.Claiming.{WasClaimed, row_after, FoundClaimed}

not_zero : (n : ℕ) → nat_eq n 0 ≡ false → n ≢ 0
not_zero n other is = let same = eq-eqb n 0 is in let clash : true ≡ false = sym same ∙ other in cc

load_is : (x : TrailStep) (act : Act) (found : ℕ) → x.step.act ≡ act → x.step.found ≡ found → load_of x ≡ (act, found)
load_is x act found acts words = λ i. (acts i, words i)

-- what stands in a part stands in the whole
in_front : (prefix rest xs : List TrailStep) (loads : List (Act × ℕ)) → xs ≡ prefix ++ rest → InTurn prefix loads → InTurn xs loads
in_front prefix rest xs loads whole t = record {
  before = t.before;
  there = t.there;
  after = t.after ++ rest;
  whole = whole ∙ (ap (λ (l : List TrailStep). l ++ rest) t.whole ∙ (append_assoc t.before (t.there ++ t.after) rest ∙ ap (λ (l : List TrailStep). t.before ++ l) (append_assoc t.there t.after rest)));
  same = t.same;
}

in_rest : (prefix rest xs : List TrailStep) (loads : List (Act × ℕ)) → xs ≡ prefix ++ rest → InTurn rest loads → InTurn xs loads
in_rest prefix rest xs loads whole t = record {
  before = prefix ++ t.before;
  there = t.there;
  after = t.after;
  whole = whole ∙ (ap (λ (l : List TrailStep). prefix ++ l) t.whole ∙ sym (append_assoc prefix t.before (t.there ++ t.after)));
  same = t.same;
}

either_shown : (xs ys : List TrailStep) (first second : List (Act × ℕ)) → ((loads : List (Act × ℕ)) → InTurn xs loads → InTurn ys loads) → InTurn xs first ⊎ InTurn xs second → InTurn ys first ⊎ InTurn ys second
either_shown xs ys first second on (inl t) = inl (on first t)
either_shown xs ys first second on (inr t) = inr (on second t)

claimed_on : (xs ys : List TrailStep) (row : ℕ) → ((loads : List (Act × ℕ)) → InTurn xs loads → InTurn ys loads) → WasClaimed xs row → WasClaimed ys row
claimed_on xs ys row on w = record { found = w.found; claimed = w.claimed; shown = either_shown xs ys _ _ on w.shown }

module _ (k : Key) where
  one_row : (f : Fields) (row : ℕ) (xs : List TrailStep) → Runs k f (claiming_row row) xs false → WasClaimed xs row
  unfolding claiming_row
  one_row f row xs runs =
      let a = splits k f (trying (LoadRow row word.Claim) 0) _ xs false runs in
      let load = one_load k f (LoadRow row word.Claim) _ _ a.prefix a.answer tt a.first in
      let g = after_steps k f a.prefix in
      ⊎_elim
      (λ free.
      let exchange = one_load k g (Claim row) _ _ a.rest false tt free.1 in
      let zero_found : load.step.step.found ≡ 0 = eqb-true load.step.step.found 0 (load.answer ∙ free.0) in
      let whole : xs ≡ load.step ∷ exchange.step ∷ [] = a.whole ∙ ((λ i. load.is i ++ exchange.is i)) in
      record {
        found = exchange.step.step.found;
        claimed = not_zero exchange.step.step.found exchange.answer;
        shown = inr (record {
          before = [];
          there = load.step ∷ exchange.step ∷ [];
          after = [];
          whole = whole;
          same = λ i. load_is load.step (LoadRow row word.Claim) 0 load.act_is zero_found i ∷ load_is exchange.step (Claim row) exchange.step.step.found exchange.act_is refl i ∷ [];
        });
      })
      (λ taken.
      let e = nothing_run k g a.rest false false taken.1 in
      record {
        found = load.step.step.found;
        claimed = not_zero load.step.step.found (load.answer ∙ taken.0);
        shown = inl (record {
          before = [];
          there = load.step ∷ [];
          after = a.rest;
          whole = a.whole ∙ ap (λ (l : List TrailStep). l ++ a.rest) load.is;
          same = λ i. load_is load.step (LoadRow row word.Claim) load.step.step.found load.act_is refl i ∷ [];
        });
      })
      (branch k g a.answer _ _ a.rest false a.second)

  each_row : (n : ℕ) (f : Fields) (row : ℕ) (xs : List TrailStep) → Runs k f (claiming_from k n row) xs None → (i : ℕ) → i < n → WasClaimed xs (row_after k i row)
  unfolding claiming_from
  each_row zero f row xs runs i small = absurd (omega arith)
  each_row (suc n) f row xs runs i small =
      let a = splits k f (claiming_row row) _ xs None runs in
      let g = after_steps k f a.prefix in
      ⊎_elim
      (λ won. let e = nothing_run k g a.rest (Some row) None won.1 in let clash = e.1 in absurd (cc))
      (λ lost.
      by_row a.prefix a.rest (one_row f row a.prefix (subst (λ (b : Bool). Runs k f (claiming_row row) a.prefix b) lost.0 a.first)) a.whole
      (λ j less. each_row n g (next_row k row) a.rest lost.1 j less) i small)
      (branch k g a.answer _ _ a.rest None a.second)
    where
      by_row : (prefix rest : List TrailStep) → WasClaimed prefix row → xs ≡ prefix ++ rest → ((j : ℕ) → j < n → WasClaimed rest (row_after k j (next_row k row))) → (j : ℕ) → j < suc n → WasClaimed xs (row_after k j row)
      by_row prefix rest here whole others zero less = claimed_on prefix xs row (λ loads. in_front prefix rest xs loads whole) here
      by_row prefix rest here whole others (suc j) less = claimed_on rest xs (row_after k j (next_row k row)) (λ loads. in_rest prefix rest xs loads whole) (others j (omega arith))

  all_rows : (f : Fields) (xs : List TrailStep) → Runs k f (claiming k) xs None → (i : ℕ) → i < min 8 k.sizes.rows → WasClaimed xs (row_after k i f.cursor)
  unfolding claiming
  all_rows f xs runs i small = each_row (min 8 k.sizes.rows) f f.cursor xs runs i small

  pub found_claimed : (cursor : ℕ) (old new : Seated) → (view_of old).key ≡ k → cursor ≡ (view_of old).rows.cursor → Makes old new (claiming k) None → FoundClaimed k cursor old new
  found_claimed cursor old new key same makes =
      let runs : Runs k (fields_of old) (claiming k) makes.trail None = subst (λ (q : Key). Runs q (fields_of old) (claiming k) makes.trail None) key makes.runs in
      record {
        trail = makes.trail;
        made = makes.made;
        each = λ i small. subst (λ (row : ℕ). WasClaimed makes.trail (row_after k i row)) (sym same) (all_rows (fields_of old) makes.trail runs i small);
      }
