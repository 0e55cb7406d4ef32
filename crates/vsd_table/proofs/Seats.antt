-- What stays true of a seat over a step, and where its rows are.
use Rattle.std.proofs.Common.{◌≡◌, ℕ, zero, suc, ◌<◌, Bool, List, [], ◌∷◌, length, set, ap, sym, subst, arith}
use mathlib.Core.Option.{some, some-ne-none}
use lib.ListN.{get_elem?}
use Rattle.atomic_table.proofs.Lists.{set_here}
use Rattle.vsd_words.specs.declared.handle_word.HandleWord.{HandleWord}
use Rattle.vsd_words.specs.HandleWord.{HandleWordInRange, IsHandleWordPacking, packed_handle_word}
use Rattle.vsd_rule.specs.declared.begun.Begun.{Begun}
use Rattle.vsd_rule.specs.declared.key.Key.{Key}
use Rattle.vsd_table.specs.declared.seated.Seated.{Seated}
use Rattle.vsd_table.specs.Seating.{view_of, Becomes}
use Rattle.vsd_table.specs.Stepping.{StaysSeat}
use Rattle.vsd_rule.specs.declared.view.View.{View}
use Rattle.vsd_rule.specs.Layout.{handle_rows}
use Rattle.vsd_rule.specs.Seats.{caller_of}
use Rattle.vsd_rule.specs.Handles.{own_word}
use Rattle.vsd_rule.specs.Facts.{IsOwn}

-- a caller's own row is one of the table's
pub own_within : (k : Key) (v : View) (row caller : ℕ) → v.key ≡ k → caller ≡ caller_of v.who → caller < v.key.sizes.callers → IsOwn v row → row < handle_rows k.sizes
own_within k v row caller key is small own =
    let to = own.to in
    let there : row < handle_rows v.key.sizes = omega arith in
    subst (λ (q : Key). row < handle_rows q.sizes) key there

-- what a step makes of its seat
pub becomes : {old new : Seated} {after : View} → StaysSeat old new → view_of new ≡ after → Becomes old new after
becomes stays view = record { table_id = stays.table_id; seat = stays.seat; view = view; begins = ap (λ (b : Begun). b.items) stays.begun }

pub packs_own : (live : Bool) (w : HandleWord) (x generation number : ℕ) → w ≡ own_word generation number live → HandleWordInRange w → x ≡ packed_handle_word w → IsHandleWordPacking (own_word generation number live) x
packs_own live w x generation number is in_range packed = subst (λ (z : HandleWord). IsHandleWordPacking z x) is (record { in_range = in_range; packed = packed })

-- a seat that is there is below the number of seats
pub below : {A : Type 0} (l : List A) (i : ℕ) (a : A) → get_elem? l i ≡ some a → i < length l
below [] i a at = absurd (some-ne-none a (sym at))
below (x ∷ xs) zero a at = omega arith
below (x ∷ xs) (suc i) a at = let h = below xs i a at in omega arith

-- after a step of the seat, the new view is there
pub there_now : (views : List View) (id : ℕ) (v after : View) → get_elem? views id ≡ some v → get_elem? (set views id after) id ≡ some after
there_now views id v after at = set_here views id after (below views id v at)
