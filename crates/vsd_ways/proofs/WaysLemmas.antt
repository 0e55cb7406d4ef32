-- A way that is added to those that are there: the marks are joined to those of the way that knows the same.
use Rattle.std.proofs.Common.{◌≡◌, ℕ, List, [], ◌∷◌, ◌++◌, cond, refl, sym, ap, ◌∙◌, subst, Option, Some, None, Bool, true, false, ◌⊎◌, inl, inr, ◌↔◌}
use Rattle.std.specs.Bool.{Decides}
use Rattle.std.specs.Global.{Vec}
use Rattle.std.specs.Map.{lookup, set_value}
use Rattle.std.specs.Option.{option_eq}
use Rattle.std.proofs.lemmas.Bool.{false≢true}
use Rattle.std.proofs.lemmas.List.{map-append}
use Rattle.std.proofs.lemmas.Slice.Eq.{slice_eq-Decides}
use Rattle.vsd_terms.specs.declared.term.Term.{Term}
use Rattle.vsd_terms.specs.Equality.{term_eq, term_eq-Decides}
use Rattle.vsd_ways.specs.Known.{same_known, ways_in, IsMarked, Meets, MeetsFor, Serves, Way}
use Rattle.vsd_ways.proofs.FoundLemmas.{some_first, some_push}

wanted-Decides : (a b : Option Term) → Decides (option_eq term_eq a b) (a ≡ b)
wanted-Decides None None = (λ _. refl, λ _. refl)
wanted-Decides None (Some b) = (λ e. absurd (false≢true e), λ e. absurd cc)
wanted-Decides (Some a) None = (λ e. absurd (false≢true e), λ e. absurd cc)
wanted-Decides (Some a) (Some b) = (λ e. ap Some ((term_eq-Decides a b).0 e), λ e. (term_eq-Decides a b).1 (let h = e in cc))

same_known-Decides : (a b : List (Option Term)) → Decides (same_known a b) (a ≡ b)
same_known-Decides a b = slice_eq-Decides wanted-Decides a b (same_known a b) refl

pub meets_same : (known other : List (Option Term)) (args others : List Term) → known ≡ other → args ≡ others → Meets known args → Meets other others
meets_same known other args others k a m = subst (λ (l : List Term). Meets other l) a (subst (λ (l : List (Option Term)). Meets l args) k m)

-- the marks w are those of v and these
abbrev pub AreJoined : List Bool → List Bool → List Bool → Type 0
AreJoined v marks w = (o : ℕ) → IsMarked w o ↔ (IsMarked v o ⊎ IsMarked marks o)

module _ (known : List (Option Term)) (marks : List Bool) where
  -- one way more, in the list of the ways
  abbrev pub Adds : List Way → List Way → Type 0
  Adds old new = (o : ℕ) (args : List Term) → MeetsFor new o args ↔ (MeetsFor old o args ⊎ (IsMarked marks o × Meets known args))

  first_joined : (key : List (Option Term)) (v w : List Bool) (rest : List Way) → known ≡ key → AreJoined v marks w → Adds ((key, v) ∷ rest) ((key, w) ∷ rest)
  first_joined key v w rest same joined o args =
      let old = some_first (Serves o args) (key, v) rest in
      let new = some_first (Serves o args) (key, w) rest in (
        λ m. elim (new.0 m) [
          | inl p ↦ (elim ((joined o).0 p.0) [
            | inl before ↦ inl (old.1 (inl (before, p.1)))
            | inr now ↦ inr (now, subst (λ (l : List (Option Term)). Meets l args) (sym same) p.1)
          ])
          | inr later ↦ inl (old.1 (inr later))
        ],
        λ e. elim e [
          | inl m ↦ (elim (old.0 m) [
            | inl p ↦ new.1 (inl ((joined o).1 (inl p.0), p.1))
            | inr later ↦ new.1 (inr later)
          ])
          | inr now ↦ new.1 (inl ((joined o).1 (inr now.0), subst (λ (l : List (Option Term)). Meets l args) same now.1))
        ],
      )

  later_joined : (way : Way) (old new : List Way) → Adds old new → Adds (way ∷ old) (way ∷ new)
  later_joined way old new adds o args =
      let before = some_first (Serves o args) way old in
      let after = some_first (Serves o args) way new in (
        λ m. elim (after.0 m) [
          | inl p ↦ inl (before.1 (inl p))
          | inr later ↦ (elim ((adds o args).0 later) [ inl b ↦ inl (before.1 (inr b)) | inr now ↦ inr now ])
        ],
        λ e. elim e [
          | inl m ↦ (elim (before.0 m) [ inl p ↦ after.1 (inl p) | inr later ↦ after.1 (inr ((adds o args).1 (inl later))) ])
          | inr now ↦ after.1 (inr ((adds o args).1 (inr now)))
        ],
      )

  -- a way that knows the same is there
  pub joined_adds : (entries : List (Vec (Option Term) × List Bool)) (v w : List Bool) → lookup (λ key. same_known known key.items) entries ≡ Some v → AreJoined v marks w → Adds (ways_in entries) (ways_in (set_value (λ key. same_known known key.items) entries w))
  joined_adds [] v w found joined = absurd cc
  joined_adds (e ∷ es) v w found joined = by (same_known known e.0.items) refl (joined_adds es v w)
    where
      test : Vec (Option Term) → Bool
      test = λ key. same_known known key.items

      by : (same : Bool) → same_known known e.0.items ≡ same → (lookup test es ≡ Some v → AreJoined v marks w → Adds (ways_in es) (ways_in (set_value test es w))) → Adds (ways_in (e ∷ es)) (ways_in (set_value test (e ∷ es) w))
      by true is later =
          let here : e.1 ≡ v = let both = sym (ap (λ (b : Bool). cond b (Some e.1) (lookup test es)) is) ∙ found in cc in
          let put : set_value test (e ∷ es) w ≡ (e.0, w) ∷ es = ap (λ (b : Bool). cond b ((e.0, w) ∷ es) (e ∷ set_value test es w)) is in
          let key : known ≡ e.0.items = (same_known-Decides known e.0.items).0 is in
          let adds = subst (λ (u : List Bool). Adds ((e.0.items, u) ∷ ways_in es) ((e.0.items, w) ∷ ways_in es)) (sym here) (first_joined e.0.items v w (ways_in es) key joined) in
          subst (λ (l : List (Vec (Option Term) × List Bool)). Adds (ways_in (e ∷ es)) (ways_in l)) (sym put) adds
      by false is later =
          let behind : lookup test es ≡ Some v = sym (ap (λ (b : Bool). cond b (Some e.1) (lookup test es)) is) ∙ found in
          let put : set_value test (e ∷ es) w ≡ e ∷ set_value test es w = ap (λ (b : Bool). cond b ((e.0, w) ∷ es) (e ∷ set_value test es w)) is in
          let adds = later_joined (e.0.items, e.1) (ways_in es) (ways_in (set_value test es w)) (later behind joined) in
          subst (λ (l : List (Vec (Option Term) × List Bool)). Adds (ways_in (e ∷ es)) (ways_in l)) (sym put) adds

  -- a way that knows something else than the others
  pub pushed_adds : (entries new : List (Vec (Option Term) × List Bool)) (key : Vec (Option Term)) → known ≡ key.items → new ≡ entries ++ (key, marks) ∷ [] → Adds (ways_in entries) (ways_in new)
  pushed_adds entries new key same is o args =
      let all : ways_in new ≡ ways_in entries ++ (known, marks) ∷ [] = ap ways_in is ∙ map-append (λ (e : Vec (Option Term) × List Bool). (e.0.items, e.1)) entries ((key, marks) ∷ []) ∙ ap (λ (l : List (Option Term)). ways_in entries ++ (l, marks) ∷ []) (sym same) in
      subst (λ (ways : List Way). MeetsFor ways o args ↔ (MeetsFor (ways_in entries) o args ⊎ (IsMarked marks o × Meets known args))) (sym all) (some_push (Serves o args) (ways_in entries) (known, marks))
