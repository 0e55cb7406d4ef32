-- How loads and unloads count.
use Rattle.std.proofs.Common.{◌≡◌, ℕ, zero, suc, ◌+◌, ◌<◌, ◌≤◌, Bool, true, false, not, ◌&&◌, nat_lt, List, [], ◌∷◌, length, None, Result, Ok, Err, IsOk, IsErr, ◌↔◌, position, slice_index_or, slice_set, refl, sym, ◌∙◌, ap, subst, arith}
use Rattle.std.specs.Int.{from_bool}
use Rattle.std.specs.List.{position_or_len}
use Rattle.std.proofs.lemmas.Bool.Decides.{nat_tests}
use Rattle.std.proofs.lemmas.Grind.{common_steps}
use Rattle.std.proofs.lemmas.List.{length-set}
use Rattle.std.proofs.lemmas.List.Sums.{sum_by-cons, sum_by-set, fails_before_first}
use Rattle.std.proofs.lemmas.List.Quantifiers.{position-Some}
use Rattle.vsd_words.specs.declared.handle.Handle.{Handle}
use Rattle.vsd_words.specs.declared.handle_word.HandleWord.{HandleWord}
use Rattle.vsd_rule.specs.declared.view.View.{View}
use Rattle.vsd_rule.specs.Handles.{blank_word, own_word, owned_word}
use Rattle.vsd_rule.specs.Moves.{own_index}
use Rattle.vsd_handles.specs.declared.binding.HandlesFull.{HandlesFull}
use Rattle.vsd_handles.specs.OwnRows.{own_row_word, IsOwned, IsNext, is_spare}
use Rattle.vsd_core.specs.Owning.{HasBound, HasUnbound, live_in, loads_in}
use Rattle.vsd_core.proofs.Owning.{live_word}

one_if : (b : Bool) → b ≡ true → from_bool b ≡ 1
one_if true is = refl
one_if false is = cc

-- ---- one word is another

spare_counts_none : (live : Bool) (g : ℕ) → (not live && nat_lt g 4294967295) ≡ true → from_bool live ≡ 0
spare_counts_none true g is = cc
spare_counts_none false g is = refl

pub counts_load : (v w : View) (h : Handle) (number : ℕ) → IsNext v h → HasBound v w h number
    → (live_in w.handles.owned ≡ live_in v.handles.owned + 1) × (loads_in w.handles.owned ≡ loads_in v.handles.owned + 1)
counts_load v w h number next bound =
    let words = v.handles.owned in
    let i = own_index v h.row in
    let x = own_word h.generation number true in
    let there = position-Some is_spare words i blank_word next.lowest in
    let live = sum_by-set (λ (y : HandleWord). from_bool y.live) words i x blank_word there.0 in
    let loads = sum_by-set (λ (y : HandleWord). y.generation) words i x blank_word there.0 in
    let none = spare_counts_none (owned_word v.handles i).live (owned_word v.handles i).generation there.1 in
    let raised = next.raised in
    (ap live_in bound ∙ omega arith, ap loads_in bound ∙ omega arith)

-- a live word is one of the list
within : (words : List HandleWord) (i : ℕ) → (slice_index_or words i blank_word).live ≡ true → i < length words
within [] i live = cc
within (w ∷ ws) zero live = omega arith
within (w ∷ ws) (suc i) live = let rest = within ws i live in omega arith

pub counts_unload : (v w : View) (h : Handle) → IsOwned v h → HasUnbound v w h
    → (live_in w.handles.owned + 1 ≡ live_in v.handles.owned) × (loads_in w.handles.owned ≡ loads_in v.handles.owned)
counts_unload v w h owned unbound =
    let words = v.handles.owned in
    let i = own_index v h.row in
    let x = own_word h.generation (own_row_word v h.row).number false in
    let word = live_word h.generation (own_row_word v h.row) owned.live in
    let there = within words i word.0 in
    let live = sum_by-set (λ (y : HandleWord). from_bool y.live) words i x blank_word there in
    let loads = sum_by-set (λ (y : HandleWord). y.generation) words i x blank_word there in
    let one = one_if (owned_word v.handles i).live word.0 in
    let same = word.1 in
    (ap (λ (l : List HandleWord). live_in l + 1) unbound ∙ omega arith, ap loads_in unbound ∙ omega arith)

-- ---- no row is spare

counts_one : (live : Bool) (g : ℕ) → (not live && nat_lt g 4294967295) ≡ false → g < 4294967295 → from_bool live ≡ 1
counts_one true g none few = refl
counts_one false g none few = absurd (grind (arith, nat_tests))

each_live : (words : List HandleWord) → ((k : ℕ) → k < length words → is_spare (slice_index_or words k blank_word) ≡ false) → loads_in words < 4294967295 → live_in words ≡ length words
each_live [] none few = refl
each_live (w ∷ ws) none few =
    let loads = sum_by-cons (λ (y : HandleWord). y.generation) w ws in
    let live = sum_by-cons (λ (y : HandleWord). from_bool y.live) w ws in
    let rest = each_live ws (λ k small. none (suc k) (omega arith)) (omega arith) in
    let one = counts_one w.live w.generation (none 0 (omega arith)) (omega arith) in
    live ∙ omega arith

-- where no row is spare and not all generations can have been used up, each row is live
pub all_live : (words : List HandleWord) → position is_spare words ≡ None → loads_in words < 4294967295 → live_in words ≡ length words
all_live words none few =
    let past : length words ≤ position_or_len is_spare words = grind (arith, common_steps, nat_tests) in
    each_live words (λ k small. fails_before_first is_spare words k blank_word (omega arith)) few

pub load_has_room : (v : View) (o : List HandleWord) (r : Result Handle HandlesFull) → o ≡ v.handles.owned → IsErr r ↔ (position is_spare o ≡ None) → length o ≡ 64
    → live_in v.handles.owned < 64 → loads_in v.handles.owned < 4294967295 → IsOk r
load_has_room v o (Ok h) same full long live loads = refl
load_has_room v o (Err e) same full long live loads =
    let all : live_in o ≡ length o = all_live o (full.0 refl) (subst (λ (l : List HandleWord). loads_in l < 4294967295) (sym same) loads) in
    let few : live_in o < 64 = subst (λ (l : List HandleWord). live_in l < 64) (sym same) live in
    absurd (omega arith)

-- ---- a caller has 64 words

pub counts_same : (o p : List HandleWord) (v w : View) (i : ℕ) (x : HandleWord) → o ≡ v.handles.owned → p ≡ w.handles.owned → w.handles.owned ≡ slice_set v.handles.owned i x → length o ≡ 64 → length p ≡ 64
counts_same o p v w i x before after is long = ap length (after ∙ is) ∙ (length-set v.handles.owned i x ∙ (ap length (sym before) ∙ long))
