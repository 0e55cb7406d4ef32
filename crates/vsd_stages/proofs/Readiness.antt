-- Answers that are prepared are those of the declarations, and can be written.
use Rattle.std.proofs.Common.{◌≡◌, ℕ, zero, suc, ◌*◌, ◌/◌, ◌%◌, ◌<◌, ◌≤◌, List, length, get_or, ⊎_elim, sym, ap, subst, ◌∙◌, arith}
use Rattle.std.proofs.lemmas.Bool.{cases_lt}
use Rattle.std.proofs.lemmas.List.{get_or_past, length-map}
use Rattle.std.proofs.lemmas.Nat.{div-add-mod', div_below, mod_below}
use Rattle.vsd_ast.specs.Scripts.{IsWellFormedScript}
use Rattle.vsd_ast.specs.declared.scripts.Script.{Script}
use Rattle.vsd_answers.specs.Answers.{CanAnswer, World, answers_of, world}
use Rattle.vsd_answers.specs.Numbering.{site_pairs, tokens_of}
use Rattle.vsd_answers.proofs.Numbered.{is_numbering}
use Rattle.vsd_compat.specs.Compatibility.{IsCompatible}
use Rattle.vsd_lines.specs.Lines.{CanWrite, text_at, text_of}
use Rattle.vsd_lines.proofs.Saying.{text_is}
use Rattle.vsd_rule.specs.Lists.{entry}
use Rattle.vsd_types.proofs.NumberLemmas.{numbers-length, numbers-within}
use Rattle.vsd_itable.specs.Tables.{AreTables, cmp_of, sel_of, slot_text, tokens_count, types_count}
use Rattle.vsd_itable.specs.Value.{Value}
use Rattle.vsd_stages.specs.Answered.{AreAnswers, IsSaid}
use Rattle.vsd_stages.specs.Noted.{AreTold, IsTold}
use Rattle.vsd_stages.specs.Rooted.{AreTabled}
use Rattle.vsd_stages.proofs.Answerable.{can_write}
use Rattle.vsd_stages.proofs.Agreeing.{SaysTarget, agrees}

abbrev world_of : Value → World
world_of v = world (types_count v) (tokens_count v) (sel_of v) (cmp_of v)

module _ (v : Value) (s : Script) (types sites : List ℕ) (formed : IsWellFormedScript s) (tabled : AreTabled v s types sites) where
  -- the tables can answer the script
  pub can_answer : CanAnswer (world_of v) s types sites
  can_answer =
      let pairs = site_pairs s.sites types in
      let count : length pairs ≡ length s.sites = length-map s.sites (λ site. (get_or types site.root 0, site.slot)) in
      let long = numbers-length v.closed.types types s.roots tabled.numbers in
      record {
        well_formed = formed;
        types_count = long;
        types_in = λ root below. numbers-within v.closed.types types s.roots tabled.numbers root below;
        tokens_count = ap length tabled.site_tokens ∙ (is_numbering pairs).count ∙ count;
        tokens_in = λ site below. subst (λ ks. get_or sites site 0 < length ks) (sym tabled.tokens)
            (subst (λ ns. get_or ns site 0 < length (tokens_of pairs)) (sym tabled.site_tokens)
            ((is_numbering pairs).within site
            (let same = ap length tabled.site_tokens ∙ (is_numbering pairs).count in omega (arith, below, same))));
      }

-- every target names a text that is there
pub told_few : (v : Value) (texts : List (List ℕ)) (number : ℕ) → IsTold v texts number → number ≤ length texts
told_few v texts zero told = omega arith
told_few v texts (suc n) told = let below = told.there in omega (arith, below)

module _ (v : Value) (tables : AreTables v) (texts : List (List ℕ)) where
  few_by : (count width : ℕ) → length (sel_of v) ≡ count * width → ((t k : ℕ) → t < count → k < width → entry (sel_of v) width t k ≤ length texts)
      → (i : ℕ) → i < length (sel_of v) → get_or (sel_of v) i 0 ≤ length texts
  few_by count zero long each i below = absurd (omega (arith, below, long))
  few_by count (suc w) long each i below =
      let wide : 0 < suc w = omega arith in
      let row = div_below i (suc w) count wide (subst (λ n. i < n) long below) in
      subst (λ j. get_or (sel_of v) j 0 ≤ length texts) (div-add-mod' i (suc w)) (each (i / suc w) (i % suc w) row (mod_below i (suc w) wide))

  pub targets_few : ((t : ℕ) → t < types_count v → AreTold v texts t (tokens_count v)) → (i : ℕ) → get_or (sel_of v) i 0 ≤ length texts
  targets_few told i =
      ⊎_elim (λ below. few_by (types_count v) (tokens_count v) tables.targets_count (λ t k first second. told_few v texts (entry (sel_of v) (tokens_count v) t k) (told t first k second)) i below)
      (λ past. let none = get_or_past (sel_of v) i 0 past in omega (arith, none)) (cases_lt i (length (sel_of v)))

  says_told : (number : ℕ) → IsTold v texts number → SaysTarget v (text_at texts) (text_at texts) number
  says_told zero told = tt
  says_told (suc n) told = told.right

module _ (v : Value) (tables : AreTables v) (bits : (i : ℕ) → get_or (cmp_of v) i 0 < 2) (s : Script) (types sites : List ℕ) (formed : IsWellFormedScript s) (tabled : AreTabled v s types sites)
    (methods slots : List (List ℕ)) (told : (t : ℕ) → t < types_count v → AreTold v methods t (tokens_count v)) (count : length slots ≡ tokens_count v)
    (made : (k : ℕ) → k < tokens_count v → text_at slots k ≡ slot_text v k) where
  pub is_writable : CanWrite s sites (length methods) (length slots) (answers_of (world_of v) s types sites)
  is_writable = can_write (world_of v) (length methods) (targets_few v tables methods told) bits s types sites (length slots) (can_answer v s types sites formed tabled) (sym count)

  pub are_answers : AreAnswers v.closed.decls s (text_of s sites (text_at methods) (text_at slots) (answers_of (world_of v) s types sites))
  unfolding AreAnswers
  are_answers =
      text_is (IsSaid v.closed.decls) (IsCompatible v.closed.decls.list) (world_of v) s types sites (text_at methods) (text_at slots)
      (agrees v tables bits s types sites tabled (text_at methods) (text_at slots) (λ t k first second. says_told v tables methods (entry (sel_of v) (tokens_count v) t k) (told t first k second)) made)
      (can_answer v s types sites formed tabled)
