-- Questions with the numbers of their owners: as one more is numbered, and as owners are asked for together.
use Rattle.std.proofs.Common.{◌≡◌, ℕ, ◌-◌, Bool, true, false, List, [], ◌∷◌, ◌++◌, length, take, drop, Some, if◌then◌else◌, Contains, sym, ap, ◌∙◌, subst, arith}
use denote.Ref.{Bor}
use Rattle.std.specs.List.{slice_get}
use Rattle.std.proofs.lemmas.List.Elements.{All-push, Contains-append_left, Contains-push}
use Rattle.std.proofs.lemmas.List.Sorted.{Contains-permutation}
use Rattle.std.specs.List.Sorted.{IsPermutation}
use Rattle.std.proofs.lemmas.Option.{slice_get_within, slice_get-get_or, get_or_from_slice_get}
use Rattle.vsd_terms.specs.declared.term.Term.{Term}
use Rattle.vsd_lift.proofs.ChainLemmas.{slice_get-left}
use Rattle.vsd_ways.specs.Known.{owners_in}
use Rattle.vsd_ways.proofs.OwnersLemmas.{asked_at}
use Rattle.vsd_overrides.specs.Known.{AreNumbered, HasQuestion, IsNear, IsNumbered, IsOwnerOf}
use Rattle.vsd_overrides.specs.declared.asked.Question.{Question}
use Rattle.vsd_overrides.specs.declared.numbered.Numbered.{Numbered}
use Rattle.vsd_overrides.proofs.KnownLemmas.{part-at}

-- an owner keeps its number as another is put in
insert-kept : (there : Bool) (old : List (Bor Term)) (k : Bor Term) (i : ℕ) (x : Bor Term) → slice_get old i ≡ Some x
    → slice_get (if there then old else old ++ k ∷ []) i ≡ Some x
insert-kept true old k i x is = is
insert-kept false old k i x is = slice_get-left old (k ∷ []) i (slice_get_within old i x is) ∙ is

module _ (there : Bool) (old new : List (Bor Term)) (k : Bor Term) (put : new ≡ (if there then old else old ++ k ∷ [])) where
  numbered-kept : (count : ℕ) (n : Numbered) → IsNumbered count old n → IsNumbered count new n
  numbered-kept count n w = record {
    class = w.class;
    owner = w.owner;
    there = subst (λ (l : List (Bor Term)). slice_get l n.number ≡ Some w.owner) (sym put)
        (insert-kept there old k n.number w.owner w.there);
    same = w.same;
  }

  pub numbers-push : (count : ℕ) (xs : List Numbered) (n : Numbered)
      → AreNumbered count old xs → IsNumbered count new n → AreNumbered count new (xs ++ n ∷ [])
  numbers-push count xs n before here =
      All-push (IsNumbered count new) xs n (λ i d below. numbered-kept count _ (before i d below)) here

pub has-more : (xs : List Numbered) (n : Numbered) (q : Question) → HasQuestion xs q → HasQuestion (xs ++ n ∷ []) q
has-more xs n q w = record { numbered = w.numbered; there = Contains-append_left xs (n ∷ []) w.numbered w.there; is = w.is }

pub has-here : (xs : List Numbered) (n : Numbered) (q : Question) → n.question ≡ q → HasQuestion (xs ++ n ∷ []) q
has-here xs n q is = record { numbered = n; there = Contains-push xs n; is = is }

pub has-sorted : (xs ys : List Numbered) (q : Question) → IsPermutation xs ys → HasQuestion xs q → HasQuestion ys q
has-sorted xs ys q moved w = record {
  numbered = w.numbered;
  there = Contains-permutation xs ys w.numbered moved w.there;
  is = w.is;
}

pub contained-at : {A : Type 0} (xs : List A) (x : A) (w : Contains xs x) → slice_get xs w.0 ≡ Some x
contained-at xs x w = slice_get-get_or xs w.0 x w.1 ∙ ap Some w.2

pub at-contained : {A : Type 0} (xs : List A) (i : ℕ) (x : A) → slice_get xs i ≡ Some x → Contains xs x
at-contained xs i x there = (i, slice_get_within xs i x there, get_or_from_slice_get xs i x x there)

-- the owner of a question is asked for where that of the first number is the first
pub owner-of : (count : ℕ) (owners : List (Bor Term)) (first : ℕ) (n : Numbered) → IsNumbered count owners n → IsNear first n
    → IsOwnerOf count (owners_in (take (length owners - first) (drop first owners))) first n
owner-of count owners first n w near =
    let part = take (length owners - first) (drop first owners) in
    let o = n.number - first in
    let inside = slice_get_within owners n.number w.owner w.there in
    let here : slice_get part o ≡ Some w.owner =
    part-at owners first (length owners - first) n.number w.owner near.0 (omega (arith, inside)) w.there in
    let within = slice_get_within part o w.owner here in
    let read = sym (get_or_from_slice_get part o w.owner w.owner here) in
    let found = asked_at part o w.owner within (omega (arith, near.0, near.1)) read in
    record { class = w.class; near = near; there = found ∙ ap Some w.same }
