-- What is known of questions, as one more is asked or answered; and owners on the one chain of a class.
use Rattle.std.proofs.Common.{◌≡◌, ℕ, zero, suc, ◌+◌, ◌-◌, ◌<◌, ◌≤◌, Bool, true, false, ◌||◌, ◌&&◌, nat_eq, IsTrue, IsSome, ◌↔◌, cond, List, [], ◌∷◌, length, take, drop, get_or, Option, Some, None, unwrap_or, if◌then◌else◌, ◌++◌, refl, sym, ap, ◌∙◌, subst, arith}
use Rattle.std.specs.Bool.{Decides}
use Rattle.std.specs.Cmp.{unsigned_Decides}
use Rattle.std.specs.List.{slice_get, list_any}
use Rattle.std.proofs.lemmas.Bool.{false≢true}
use Rattle.std.proofs.lemmas.Bool.Decides.{Decides-and}
use Rattle.std.proofs.lemmas.Option.{slice_get_within, slice_get-get_or, get_or_from_slice_get}
use Rattle.std.proofs.lemmas.List.{length-take}
use Rattle.std.proofs.lemmas.List.Elements.{All-push}
use Rattle.vsd_terms.specs.declared.term.Term.{Term}
use Rattle.vsd_terms.specs.Equality.{term_eq, term_eq-Decides}
use Rattle.vsd_ast.specs.declared.declarations.Decl.{Decl}
use Rattle.vsd_lift.specs.Chain.{IsChain}
use Rattle.vsd_lift.proofs.ChainLemmas.{chain-unique}
use Rattle.vsd_ways.specs.Known.{IsMarked}
use Rattle.vsd_ways.proofs.OwnersLemmas.{slice_get-take}
use Rattle.vsd_ways.specs.Leads.{HasInterface}
use Rattle.vsd_overrides.specs.Implements.{HasOwner}
use Rattle.vsd_overrides.specs.Known.{AreKnown, AreWithin, Knows, same_question}
use Rattle.vsd_overrides.specs.declared.asked.Question.{Question}

pub same-Decides : (a b : Question) → Decides (same_question a b) ((a.class ≡ b.class) × (a.owner.now ≡ b.owner.now))
same-Decides a b = Decides-and _ _ (unsigned_Decides a.class b.class) (term_eq-Decides a.owner.now b.owner.now)

-- what holds of a question's test holds of that of a question that is the same
pub as-same : (P : (Question → Bool) → Type 0) (k q : Question)
    → q.class ≡ k.class → q.owner.now ≡ k.owner.now → P (same_question k) → P (same_question q)
as-same P k q class owner p =
    subst (λ (t : Term). P (λ (a : Question). nat_eq q.class a.class && term_eq t a.owner.now)) (sym owner)
    (subst (λ (n : ℕ). P (λ (a : Question). nat_eq n a.class && term_eq k.owner.now a.owner.now)) (sym class) p)

module _ (ds : List Decl) where
  pub known-put : (old new : Question → Option Bool) (k : Question) (has : Bool) → (IsTrue has ↔ HasOwner ds k.class k.owner.now)
      → ((q : Question) → new q ≡ cond (same_question k q) (Some has) (old q)) → AreKnown ds old → AreKnown ds new
  known-put old new k has exact updates before = record {
    each = λ q b is. by q b (same_question k q) refl (sym (updates q) ∙ is);
  }
    where
      by : (q : Question) (b same : Bool) → same_question k q ≡ same
          → cond same (Some has) (old q) ≡ Some b → IsTrue b ↔ HasOwner ds q.class q.owner.now
      by q b true s e =
          let told : has ≡ b = cc in
          let same = (same-Decides k q).0 s in
          let of_class = subst (λ (n : ℕ). IsTrue has ↔ HasOwner ds n k.owner.now) same.0 exact in
          let of_owner = subst (λ (t : Term). IsTrue has ↔ HasOwner ds q.class t) same.1 of_class in
          subst (λ (c : Bool). IsTrue c ↔ HasOwner ds q.class q.owner.now) told of_owner
      by q b false s e = before.each q b e

  -- what is known of a question, where something is
  pub had-exact : (find : Question → Option Bool) (q : Question) (has : Bool) → has ≡ unwrap_or (find q) false
      → IsSome (find q) → AreKnown ds find → IsTrue has ↔ HasOwner ds q.class q.owner.now
  had-exact find q has is some known =
      subst (λ (b : Bool). IsTrue b ↔ HasOwner ds q.class q.owner.now) (sym is) (by (find q) refl some)
    where
      by : (told : Option Bool) → find q ≡ told → IsSome told → IsTrue (unwrap_or told false) ↔ HasOwner ds q.class q.owner.now
      by None e s = absurd (false≢true s)
      by (Some b) e s = known.each q b e

  -- the class has the owner on its one chain
  pub has_on : (chain : List ℕ) (decl : ℕ) (owner : Term)
      → IsChain ds decl chain → HasInterface ds chain owner ↔ HasOwner ds decl owner
  has_on chain decl owner up = (
    λ has. record { chain = chain; upward = up; has = has },
    λ w. subst (λ (l : List ℕ). HasInterface ds l owner) (chain-unique ds decl w.chain chain w.upward up) w.has,
  )

-- what is known stays known as one more question is answered, and so is that one
module _ (old new : Question → Option Bool) (k : Question) (has : Bool)
    (updates : (q : Question) → new q ≡ cond (same_question k q) (Some has) (old q)) where
  pub known-kept : (q : Question) → IsSome (old q) → IsSome (new q)
  known-kept q some = subst IsSome (sym (updates q)) (by (same_question k q))
    where
      by : (same : Bool) → IsSome (cond same (Some has) (old q))
      by true = refl
      by false = some

  pub known-here : Knows new k.class k.owner.now
  known-here q class owner =
      let is : same_question k q ≡ true = (same-Decides k q).1 (sym class, sym owner) in
      let put : new q ≡ Some has = updates q ∙ ap (λ (b : Bool). cond b (Some has) (old q)) is in
      subst IsSome (sym put) refl

-- ---- questions that are asked

-- the place of a question among those that are asked
pub record IsAskedAt (asked : List Question) (q : Question) : Type 0 where
  pub place : ℕ
  pub question : Question
  pub there : slice_get asked place ≡ Some question
  pub class : q.class ≡ question.class
  pub owner : q.owner.now ≡ question.owner.now

pub asked-place : (asked : List Question) (q : Question) → IsTrue (list_any (same_question q) asked) → IsAskedAt asked q
asked-place [] q e = absurd (false≢true e)
asked-place (k ∷ ks) q e = by (same_question q k) refl (asked-place ks q)
  where
    by : (same : Bool) → same_question q k ≡ same
        → (IsTrue (list_any (same_question q) ks) → IsAskedAt ks q) → IsAskedAt (k ∷ ks) q
    by true s later =
        let same = (same-Decides q k).0 s in
        record { place = 0; question = k; there = refl; class = same.0; owner = same.1 }
    by false s later =
        let rest = later (sym (ap (λ (b : Bool). b || list_any (same_question q) ks) s) ∙ e) in
        record { place = suc rest.place; question = rest.question; there = rest.there; class = rest.class; owner = rest.owner }

pub mark-is : (marks : List Bool) (o : ℕ) → o < length marks → IsTrue (get_or marks o false) ↔ IsMarked marks o
mark-is marks o inside = (λ yes_. slice_get-get_or marks o false inside ∙ ap Some yes_, λ m. get_or_from_slice_get marks o true false m)

-- ---- the elements between two places

slice_get-drop : {A : Type 0} (n : ℕ) (xs : List A) (i : ℕ) → slice_get (drop n xs) i ≡ slice_get xs (n + i)
slice_get-drop zero xs i = let same : i ≡ 0 + i = omega arith in ap (slice_get xs) same
slice_get-drop (suc n) [] i = refl
slice_get-drop (suc n) (x ∷ xs) i = let one : suc (n + i) ≡ suc n + i = omega arith in slice_get-drop n xs i ∙ ap (slice_get (x ∷ xs)) one

pub part-at : {A : Type 0} (xs : List A) (from n i : ℕ) (x : A) → from ≤ i → i < from + n → slice_get xs i ≡ Some x
    → slice_get (take n (drop from xs)) (i - from) ≡ Some x
part-at {A} xs from n i x past within there =
    let sum : from + (i - from) ≡ i = omega arith in
    slice_get-take n (drop from xs) (i - from) (omega arith) ∙ slice_get-drop from xs (i - from) ∙ ap (slice_get xs) sum ∙ there

-- the other way round
pub part-back : {A : Type 0} (xs : List A) (from n i : ℕ) (x : A) → slice_get (take n (drop from xs)) i ≡ Some x
    → (slice_get xs (from + i) ≡ Some x) × (i < n)
part-back xs from n i x there =
    let within = slice_get_within (take n (drop from xs)) i x there in
    let few : i < n = omega (arith, within, length-take n (drop from xs)) in
    (sym (slice_get-drop from xs i) ∙ sym (slice_get-take n (drop from xs) i few) ∙ there, few)

module _ (count : ℕ) where
  abbrev IsWithin : Question → Type 0
  IsWithin q = q.class < count

  -- classes that are asked are there, as they are with one more
  pub more-within : (asked : List Question) (k : Question) → AreWithin count asked → k.class < count
      → AreWithin count (if list_any (same_question k) asked then asked else asked ++ k ∷ [])
  more-within asked k all here = by (list_any (same_question k) asked)
    where
      by : (there : Bool) → AreWithin count (if there then asked else asked ++ k ∷ [])
      by true = all
      by false = All-push IsWithin asked k all here
