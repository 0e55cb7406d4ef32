-- Lists of numbers of types: their parts, their range, and that they stay when types are added.
use Rattle.std.proofs.Common.{◌≡◌, ℕ, ◌+◌, ◌-◌, ◌<◌, zero, suc, List, [], ◌∷◌, ◌++◌, length, map, get_or, take, drop, All, Contains, Some, refl, sym, ap, ◌∙◌, subst, arith, append_assoc}
use Rattle.std.specs.List.{slice_get}
use Rattle.std.proofs.lemmas.List.{get_or_append_left, length-map, length-append, take_rest}
use Rattle.std.proofs.lemmas.List.Elements.{All-nil, All-cons}
use Rattle.std.proofs.lemmas.Option.{get_or_from_slice_get, slice_get_within, slice_get-get_or}
use Rattle.vsd_terms.specs.declared.term.Term.{Term}
use Rattle.vsd_types.specs.Numbers.{AreNumbers}

module _ (types : List Term) where
  pub numbers-front : (ns : List ℕ) (xs ys : List Term) → AreNumbers types ns (xs ++ ys) → AreNumbers types (take (length xs) ns) xs
  numbers-front ns [] ys are = refl
  numbers-front [] (x ∷ xs) ys are = absurd cc
  numbers-front (n ∷ ns) (x ∷ xs) ys are =
      let rest = numbers-front ns xs ys cc in
      let first : slice_get types n ≡ Some x = cc in
      cc

  pub numbers-back : (ns : List ℕ) (xs ys : List Term) → AreNumbers types ns (xs ++ ys) → AreNumbers types (drop (length xs) ns) ys
  numbers-back ns [] ys are = are
  numbers-back [] (x ∷ xs) ys are = absurd cc
  numbers-back (n ∷ ns) (x ∷ xs) ys are = numbers-back ns xs ys cc

  pub numbers-length : (ns : List ℕ) (ts : List Term) → AreNumbers types ns ts → length ns ≡ length ts
  numbers-length ns ts are = sym (length-map ns (slice_get types)) ∙ ap length are ∙ length-map ts Some

  pub numbers-at : (ns : List ℕ) (ts : List Term) → AreNumbers types ns ts → (i : ℕ) (d : ℕ) (e : Term) → i < length ns → slice_get types (get_or ns i d) ≡ Some (get_or ts i e)
  numbers-at [] ts are i d e within = absurd (omega arith)
  numbers-at (n ∷ ns) [] are i d e within = absurd cc
  numbers-at (n ∷ ns) (t ∷ ts) are zero d e within = cc
  numbers-at (n ∷ ns) (t ∷ ts) are (suc i) d e within = numbers-at ns ts (cc) i d e (omega arith)

  pub numbers-within : (ns : List ℕ) (ts : List Term) → AreNumbers types ns ts → (i : ℕ) → i < length ns → get_or ns i 0 < length types
  numbers-within [] ts are i within = absurd (omega arith)
  numbers-within (n ∷ ns) [] are i within = absurd cc
  numbers-within (n ∷ ns) (t ∷ ts) are zero within = slice_get_within types n t cc
  numbers-within (n ∷ ns) (t ∷ ts) are (suc i) within = numbers-within ns ts (cc) i (omega arith)

  pub slice_get-extends : (rest : List Term) (n : ℕ) (t : Term) → slice_get types n ≡ Some t → slice_get (types ++ rest) n ≡ Some t
  slice_get-extends rest n t here =
      let within = slice_get_within types n t here in
      let long : n < length (types ++ rest) = omega (arith, length-append types rest) in
      slice_get-get_or (types ++ rest) n t long ∙ ap Some (get_or_append_left types rest t n within) ∙ sym (slice_get-get_or types n t within) ∙ here

  pub numbers-extends : (rest : List Term) (ns : List ℕ) (ts : List Term) → AreNumbers types ns ts → AreNumbers (types ++ rest) ns ts
  numbers-extends rest [] [] are = refl
  numbers-extends rest [] (t ∷ ts) are = absurd cc
  numbers-extends rest (n ∷ ns) [] are = absurd cc
  numbers-extends rest (n ∷ ns) (t ∷ ts) are =
      let first = slice_get-extends rest n t cc in
      let more = numbers-extends rest ns ts cc in
      cc

  pub numbers-push : (ns : List ℕ) (ts : List Term) (n : ℕ) (t : Term) → AreNumbers types ns ts → slice_get types n ≡ Some t → AreNumbers types (ns ++ n ∷ []) (ts ++ t ∷ [])
  numbers-push [] [] n t are here = cc
  numbers-push [] (x ∷ ts) n t are here = absurd cc
  numbers-push (m ∷ ns) [] n t are here = absurd cc
  numbers-push (m ∷ ns) (x ∷ ts) n t are here =
      let rest = numbers-push ns ts n t (cc) here in
      let first : slice_get types m ≡ Some x = cc in
      cc

  -- the numbers of the middle and the last part
  pub numbers-middle : (ns : List ℕ) (xs ys zs : List Term) → AreNumbers types ns (xs ++ ys ++ zs) → AreNumbers types (take (length ys) (drop (length xs) ns)) ys
  numbers-middle ns xs ys zs are =
      numbers-front (drop (length xs) ns) ys zs (numbers-back ns xs (ys ++ zs) (are ∙ ap (map Some) (append_assoc xs ys zs)))

  pub numbers-last : (ns : List ℕ) (xs ys zs : List Term) → AreNumbers types ns (xs ++ ys ++ zs) → AreNumbers types (drop (length xs + length ys) ns) zs
  numbers-last ns xs ys zs are =
      subst (λ n. AreNumbers types (drop n ns) zs) (length-append xs ys) (numbers-back ns (xs ++ ys) zs are)

  -- the same parts, xs slices between counts give them
  module _ (ns : List ℕ) (xs ys zs : List Term) (a b : ℕ) (of_xs : a ≡ length xs) (of_ys : b ≡ length ys) (are : AreNumbers types ns (xs ++ ys ++ zs)) where
    pub numbers-between : AreNumbers types (take (a + b - a) (drop a ns)) ys
    numbers-between =
        let from : length xs ≡ a = sym of_xs in
        let long : length ys ≡ a + b - a = omega arith in
        subst (λ n. AreNumbers types (take n (drop a ns)) ys) long (subst (λ n. AreNumbers types (take (length ys) (drop n ns)) ys) from (numbers-middle ns xs ys zs are))

    pub numbers-rest : AreNumbers types (take (length ns - (a + b)) (drop (a + b) ns)) zs
    numbers-rest =
        let from : length xs + length ys ≡ a + b = omega arith in
        subst (λ (l : List ℕ). AreNumbers types l zs) (sym (take_rest ns (a + b))) (subst (λ n. AreNumbers types (drop n ns) zs) from (numbers-last ns xs ys zs are))

-- what has a number is listed
pub numbers-listed : (types : List Term) (ns : List ℕ) (ts : List Term) → AreNumbers types ns ts → All (Contains types) ts
numbers-listed types [] [] are = All-nil (Contains types)
numbers-listed types [] (t ∷ ts) are = absurd cc
numbers-listed types (n ∷ ns) [] are = absurd cc
numbers-listed types (n ∷ ns) (t ∷ ts) are =
    let here : slice_get types n ≡ Some t = cc in
    let there : Contains types t = (n, slice_get_within types n t here, get_or_from_slice_get types n t t here) in
    All-cons (Contains types) t ts there (numbers-listed types ns ts (cc))
