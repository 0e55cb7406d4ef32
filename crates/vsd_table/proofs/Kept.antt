-- A step of a kind may be made where it keeps the rule and tells what its kind says of what it is given.
use Rattle.std.proofs.Common.{◌≡◌, ◌≢◌, ℕ, ◌+◌, ◌%◌, ◌^◌, List, ◌∷◌, get_or, set, sym, ◌∙◌, subst}
use Rattle.std.proofs.lemmas.List.{set-get_or}
use mathlib.Core.Option.{some}
use prog.Atomic.{either}
use Rattle.std.specs.Prelude.{◌==◌}
use lib.ListN.{get_elem?}
use Rattle.atomic_table.specs.Table.{keeps}
use Rattle.atomic_table.proofs.Lists.{exchanged}
use Rattle.vsd_rule.specs.declared.key.Key.{Key}
use Rattle.vsd_rule.specs.declared.sizes.Sizes.{Sizes}
use Rattle.vsd_rule.specs.declared.step.Step.{Step}
use Rattle.vsd_rule.specs.declared.view.View.{View}
use Rattle.vsd_rule.specs.Rule.{Rule}
use Rattle.vsd_rule.specs.Facts.{SmallEpoch}
use Rattle.vsd_rule.proofs.RuleByRows.{small_epoch}
use Rattle.vsd_table.specs.Consistent.{IsConsistent}
use Rattle.vsd_table.specs.Opened.{IsSplit, OnlySplits, Ruled}
use Rattle.vsd_table.specs.StepKind.{Kind, SameSeat, Learns}
use Rattle.vsd_table.specs.Seating.{key_of, view_of, Belongs}
use Rattle.vsd_table.specs.Stepping.{May, MayLoad, MayStore, MaySwap, MayExchange, MayAdd}
use Rattle.vsd_table.specs.declared.shared.Shared.{Shared}
use Rattle.vsd_table.specs.declared.seated.Seated.{Seated}
use Rattle.vsd_table.proofs.Seats.{there_now}
use Rattle.vsd_table.proofs.Consistent.{consistent}

-- a step's word and operands say what it was given
abbrev pub Unique : Kind → Type 0
Unique kind = (s : Sizes) (v : View) (x y : kind.Given) → kind.word s x ≡ kind.word s y → kind.first x ≡ kind.first y → kind.second x ≡ kind.second y → kind.Fits v x → kind.Fits v y → x ≡ y

-- what a step makes of its seat's view, where the words become these
pub record Keeps (kind : Kind) (k : Key) (words : List ℕ) (views : List View) (id : ℕ) (v : View) (x : kind.Given) (found : ℕ) : Type 0 where
  pub after : View
  pub same : SameSeat v after
  pub stepped : (x : Step) × (after.steps ≡ x ∷ v.steps) × (IsSplit x.act → ⊥)
  pub rule : Rule k words (set views id after)
  pub tells : kind.Tells v x found after

module _ (kind : Kind) (unique : Unique kind) (table : Shared) (seated : Seated) (index : ℕ) (x : kind.Given) (belongs : Belongs table seated) (there : index ≡ kind.word (key_of table).sizes x) (fits : kind.Fits (view_of seated) x) where
  abbrev k : Key
  k = key_of table

  abbrev v : View
  v = view_of seated

  abbrev id : ℕ
  id = seated.seat.id

  -- whatever the table is when the word is changed
  abbrev KeepsBy : (ℕ → ℕ) → Type 0
  KeepsBy becomes = (words : List ℕ) (views : List View) → Rule k words views → get_elem? views id ≡ some v → Keeps kind k (set words index (becomes (get_or words index 0))) views id v x (get_or words index 0)

  module _ (becomes : ℕ → ℕ) (first second : ℕ) (of_first : kind.first x ≡ first) (of_second : kind.second x ≡ second) where
    learns : (found : ℕ) (after : View) → kind.Tells v x found after → Learns kind k.sizes index first second v found after
    learns found after tells y word a b fits_y = subst (λ (z : kind.Given). kind.Tells v z found after) (unique k.sizes v x y (sym there ∙ word) (of_first ∙ a) (of_second ∙ b) fits fits_y) tells

    by_view : (found : ℕ) (after : View) → Learns kind k.sizes index first second v found after → Learns kind v.key.sizes index first second v found after
    by_view found after = subst (λ (key : Key). Learns kind key.sizes index first second v found after) (sym belongs.key)

    small_now : (views : List View) (words : List ℕ) (after : View) → get_elem? views id ≡ some v → Rule k words (set views id after) → SmallEpoch after
    small_now views words after at rule = small_epoch k words (set views id after) rule id after (there_now views id v after at)

    all_now : (views : List View) (words : List ℕ) (after : View) → get_elem? views id ≡ some v → Rule k words (set views id after) → IsConsistent after
    all_now views words after at rule = consistent k words (set views id after) rule id after (there_now views id v after at)

    -- a step was made
    ruled_now : (words : List ℕ) (views : List View) (after : View) → get_elem? views id ≡ some v → Rule k words (set views id after) → (y : Step) × (after.steps ≡ y ∷ v.steps) × (IsSplit y.act → ⊥) → Ruled k words (set views id after)
    ruled_now words views after at rule stepped = record {
      rule = rule;
      opened = λ none. absurd (stepped.2 (subst OnlySplits stepped.1 (none id after (there_now views id v after at))).0);
    }

    may : KeepsBy becomes → May kind table seated index becomes (λ found after. SameSeat v after.0 × SmallEpoch after.0 × IsConsistent after.0 × Learns kind v.key.sizes index first second v found after.0)
    may kept s rule homes at small =
        let n : ℕ = get_or s.words index 0 in
        let here = kept s.words s.views rule.rule at in
        (here.after, keeps, tt, ruled_now _ s.views here.after at here.rule here.stepped, (here.same, small_now s.views _ here.after at here.rule, all_now s.views _ here.after at here.rule, by_view n here.after (learns n here.after here.tells)))

    may_with : (found : ℕ) → ((words : List ℕ) (views : List View) → Rule k words views → get_elem? views id ≡ some v → Keeps kind k (set words index (becomes (get_or words index 0))) views id v x found)
        → May kind table seated index becomes (λ _ after. SameSeat v after.0 × SmallEpoch after.0 × IsConsistent after.0 × Learns kind v.key.sizes index first second v found after.0)
    may_with found kept s rule homes at small =
        let here = kept s.words s.views rule.rule at in
        (here.after, keeps, tt, ruled_now _ s.views here.after at here.rule here.stepped, (here.same, small_now s.views _ here.after at here.rule, all_now s.views _ here.after at here.rule, by_view found here.after (learns found here.after here.tells)))

  pub may_load : kind.first x ≡ 0 → kind.second x ≡ 0
      → ((words : List ℕ) (views : List View) → Rule k words views → get_elem? views id ≡ some v → Keeps kind k words views id v x (get_or words index 0)) → MayLoad kind table seated index
  may_load a b kept = may (λ n. n) 0 0 a b
      (λ words views rule at. subst (λ (ws : List ℕ). Keeps kind k ws views id v x (get_or words index 0)) (sym (set-get_or words index 0)) (kept words views rule at))

  pub may_store : (new : ℕ) → kind.first x ≡ new → kind.second x ≡ 0
      → ((words : List ℕ) (views : List View) → Rule k words views → get_elem? views id ≡ some v → Keeps kind k (set words index new) views id v x new) → MayStore kind table seated index new
  may_store new a b kept = may_with (λ _. new) new 0 a b new kept

  pub may_swap : (new : ℕ) → kind.first x ≡ new → kind.second x ≡ 0
      → ((words : List ℕ) (views : List View) → Rule k words views → get_elem? views id ≡ some v → Keeps kind k (set words index new) views id v x (get_or words index 0)) → MaySwap kind table seated index new
  may_swap new a b kept = may (λ _. new) new 0 a b kept

  pub may_add : (more : ℕ) → kind.first x ≡ more → kind.second x ≡ 0
      → ((words : List ℕ) (views : List View) → Rule k words views → get_elem? views id ≡ some v → Keeps kind k (set words index ((get_or words index 0 + more) % 2 ^ 64)) views id v x (get_or words index 0))
      → MayAdd kind table seated index more
  may_add more a b kept = may (λ n. (n + more) % 2 ^ 64) more 0 a b kept

  -- an exchange is won where it found the old word, and changes nothing else
  pub may_exchange : (old new : ℕ) → kind.first x ≡ old → kind.second x ≡ new
      → ((words : List ℕ) (views : List View) → Rule k words views → get_elem? views id ≡ some v → get_or words index 0 ≡ old → Keeps kind k (set words index new) views id v x (get_or words index 0))
      → ((words : List ℕ) (views : List View) → Rule k words views → get_elem? views id ≡ some v → get_or words index 0 ≢ old → Keeps kind k words views id v x (get_or words index 0))
      → MayExchange kind table seated index old new
  may_exchange old new a b won lost = may (λ n. either (n == old) new n) old new a b
      (λ words views rule at. exchanged (get_or words index 0) old new (λ (n : ℕ). Keeps kind k (set words index n) views id v x (get_or words index 0))
      (won words views rule at)
      (λ ne. subst (λ (ws : List ℕ). Keeps kind k ws views id v x (get_or words index 0)) (sym (set-get_or words index 0)) (lost words views rule at ne)))
