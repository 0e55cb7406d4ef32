-- The walk that closes a list: it stays where each type has been followed, and what it makes is the closed list.
use Rattle.std.proofs.Common.{◌≡◌, ℕ, ◌+◌, ◌-◌, ◌<◌, ◌≤◌, zero, suc, ◌⊎◌, inl, inr, List, [], ◌∷◌, ◌++◌, length, take, All, Contains, Option, Some, None, Result, Ok, Err, if◌then◌else◌, refl, sym, ap, ◌∙◌, subst, arith, append_assoc}
use Rattle.std.specs.List.{flat_map, fold, slice_get}
use Rattle.std.proofs.Math.Nat.{zero-add}
use Rattle.std.proofs.lemmas.Bool.{cases_lt}
use Rattle.std.proofs.lemmas.Grind.{flat_map-append}
use Rattle.std.proofs.lemmas.List.{append-nil, length-append, take-append-le, take_all, take_more}
use Rattle.std.proofs.lemmas.List.Elements.{All-nil, All-cons, All-push, All-weaker, All-contains_itself, Contains-append_left, Contains-push}
use Rattle.std.proofs.lemmas.List.Sums.{fold-append}
use Rattle.std.proofs.lemmas.Option.{get_or_from_slice_get, slice_get-get_or, slice_get_past, slice_get_within}
use Rattle.indexmap.specs.IndexSet.{insert_all, insert_key}
use Rattle.vsd_terms.specs.declared.term.Term.{Term}
use Rattle.vsd_terms.specs.Equality.{term_eq}
use Rattle.vsd_terms.proofs.TermLemmas.{has_term-Decides}
use Rattle.vsd_ast.specs.declared.declarations.Decl.{Decl}
use Rattle.vsd_ast.specs.declared.declarations.Decls.{Decls}
use Rattle.vsd_types.specs.declared.error.CloseError.{CloseError}
use Rattle.vsd_types.specs.declared.entry.Entry.{Entry}
use Rattle.vsd_types.specs.ClosedList.{IsClosedList, IsReached}
use Rattle.vsd_types.specs.Closing.{Extends, add, add_all, children_at, closing, follow, plain_types, starts, walked}
use Rattle.vsd_types.specs.Entries.{AreEntries, IsEntry}
use Rattle.vsd_types.specs.Numbers.{AreNumbers, IsDistinct}
use Rattle.vsd_types.specs.Types.{children, object, type_at}
use Rattle.vsd_types.proofs.AddLemmas.{add-cases, add_all-keeps, add_to-Err, inserted, Extends-itself, Extends-twice}
use Rattle.vsd_types.proofs.NumberLemmas.{numbers-extends, slice_get-extends}

same_ok : (x y : List Term) → (let r : Result (List Term) CloseError = Ok x in r) ≡ Ok y → x ≡ y
same_ok x y e = cc

-- ---- the walk stays

module _ (d : Decls) (roots : List Term) where
  pub walked-none : walked d roots 0 ≡ starts d roots
  unfolding walked
  walked-none = refl

  pub walked-more : (n : ℕ) → walked d roots (suc n) ≡ follow d (walked d roots n) n
  unfolding walked
  walked-more n = refl

  past : (types : List Term) (n : ℕ) → length types ≤ n → follow d (Ok types) n ≡ Ok types
  past types n long = ap (λ o. add_all d.names (Ok types) (children_at d.list o)) (slice_get_past types n long)

  stays : (types : List Term) (k n : ℕ) → walked d roots n ≡ Ok types → length types ≤ n → walked d roots (k + n) ≡ Ok types
  stays types zero n is long = ap (walked d roots) (zero-add n) ∙ is
  stays types (suc k) n is long =
      let next : suc k + n ≡ suc (k + n) = omega arith in
      ap (walked d roots) next ∙ walked-more (k + n) ∙ ap (λ r. follow d r (k + n)) (stays types k n is long) ∙ past types (k + n) (omega arith)

  stays_refused : (e : CloseError) (k n : ℕ) → walked d roots n ≡ Err e → walked d roots (k + n) ≡ Err e
  stays_refused e zero n is = ap (walked d roots) (zero-add n) ∙ is
  stays_refused e (suc k) n is =
      let next : suc k + n ≡ suc (k + n) = omega arith in
      ap (walked d roots) next ∙ walked-more (k + n) ∙ ap (λ r. follow d r (k + n)) (stays_refused e k n is)

  pub closing-Ok : (types : List Term) (n : ℕ) → walked d roots n ≡ Ok types → length types ≤ n → n ≤ 1024 → closing d roots ≡ Ok types
  unfolding closing
  closing-Ok types n is long few =
      let most : 1024 ≡ 1024 - n + n = omega arith in
      ap (walked d roots) most ∙ stays types (1024 - n) n is long

  pub closing-Err : (e : CloseError) (n : ℕ) → walked d roots n ≡ Err e → n ≤ 1024 → closing d roots ≡ Err e
  unfolding closing
  closing-Err e n is few =
      let most : 1024 ≡ 1024 - n + n = omega arith in
      ap (walked d roots) most ∙ stays_refused e (1024 - n) n is

-- ---- what adding types does

-- a type at a place of the longer list was there, or it is one of those that were added
pub record Grows (xs more ys : List Term) : Type 0 where
  pub extends : Extends xs ys
  pub distinct : IsDistinct xs → IsDistinct ys
  pub from : (p : ℕ) (t : Term) → slice_get ys p ≡ Some t → (slice_get xs p ≡ Some t) ⊎ ((length xs ≤ p) × Contains more t)

at_push : (xs : List Term) (x : Term) (p : ℕ) (t : Term) → slice_get (xs ++ x ∷ []) p ≡ Some t → ((p < length xs) × (slice_get xs p ≡ Some t)) ⊎ ((p ≡ length xs) × (x ≡ t))
at_push [] x zero t here = inr (refl, cc)
at_push [] x (suc p) t here = absurd cc
at_push (y ∷ xs) x zero t here = inl (omega arith, here)
at_push (y ∷ xs) x (suc p) t here =
    elim (at_push xs x p t here) [
      | inl w ↦ inl (omega (arith, w.0), w.1)
      | inr w ↦ inr (ap suc w.0, w.1)
    ]

contained : (xs : List Term) (p : ℕ) (t : Term) → slice_get xs p ≡ Some t → Contains xs t
contained xs p t here =
    let within = slice_get_within xs p t here in
    (p, within, get_or_from_slice_get xs p t t here)

distinct_push : (xs : List Term) (x : Term) → ¬ Contains xs x → IsDistinct xs → IsDistinct (xs ++ x ∷ [])
distinct_push xs x absent distinct i j t at_i at_j =
    elim (at_push xs x i t at_i) [
      | inl a ↦ elim (at_push xs x j t at_j) [
        | inl b ↦ distinct i j t a.1 b.1
        | inr b ↦ absurd (absent (subst (Contains xs) (sym b.1) (contained xs i t a.1)))
      ]
      | inr a ↦ elim (at_push xs x j t at_j) [
        | inl b ↦ absurd (absent (subst (Contains xs) (sym a.1) (contained xs j t b.1)))
        | inr b ↦ a.0 ∙ sym b.0
      ]
    ]

grows-step : (names : List (List ℕ)) (xs more zs ys : List Term) (t : Term) → Contains more t → Grows xs more zs → add names zs t ≡ Ok ys → Grows xs more ys
grows-step names xs more zs ys t here held added =
    elim (add-cases names zs ys t added) [
      | inl there ↦ subst (Grows xs more) (sym there.1) held
      | inr last ↦ subst (Grows xs more) (sym last.1) (record {
        extends = Extends-twice xs zs (zs ++ t ∷ []) held.extends (t ∷ [], refl);
        distinct = λ apart. distinct_push zs t last.0 (held.distinct apart);
        from = λ p u at. elim (at_push zs t p u at) [
          | inl old ↦ held.from p u old.1
          | inr new ↦ inr (omega (arith, new.0, ap length held.extends.1, length-append xs held.extends.0), subst (Contains more) new.1 here)
        ];
      })
    ]

pub add_all-grows : (names : List (List ℕ)) (xs more ys : List Term) → add_all names (Ok xs) more ≡ Ok ys → Grows xs more ys
add_all-grows names xs more ys added =
    add_all-keeps names (Contains more) (Grows xs more) (λ zs us t here held is. grows-step names xs more zs us t here held is) xs ys more (All-contains_itself more) (record { extends = Extends-itself xs; distinct = λ apart. apart; from = λ p u at. inl at }) added

add-inserts : (names : List (List ℕ)) (xs ys : List Term) (t : Term) → add names xs t ≡ Ok ys → ys ≡ insert_key term_eq xs t
add-inserts names xs ys t added =
    elim (add-cases names xs ys t added) [
      | inl there ↦ there.1 ∙ sym (ap (λ b. if b then xs else xs ++ t ∷ []) ((has_term-Decides xs t).1 there.0))
      | inr last ↦ last.1 ∙ sym (inserted xs t last.0)
    ]

added_there : (names : List (List ℕ)) (xs ys : List Term) (t : Term) → add names xs t ≡ Ok ys → Contains ys t
added_there names xs ys t added =
    elim (add-cases names xs ys t added) [
      | inl there ↦ subst (λ l. Contains l t) (sym there.1) there.0
      | inr last ↦ subst (λ l. Contains l t) (sym last.1) (Contains-push xs t)
    ]

pub add_all-inserts : (names : List (List ℕ)) (xs ys more : List Term) → add_all names (Ok xs) more ≡ Ok ys → (ys ≡ fold (insert_key term_eq) xs more) × All (Contains ys) more
add_all-inserts names xs ys [] added = (sym (same_ok _ _ added), All-nil (Contains ys))
add_all-inserts names xs ys (t ∷ more) added =
    let M : Result (List Term) CloseError → Type 0 = λ r. add names xs t ≡ r → add_all names r more ≡ Ok ys → (ys ≡ fold (insert_key term_eq) (insert_key term_eq xs t) more) × All (Contains ys) (t ∷ more) in
    let both : M (add names xs t) = elim (add names xs t) as M [
      | Err e ↦ (λ is h. let k : Err e ≡ Ok ys = sym (add_to-Err names e more) ∙ h in absurd cc)
      | Ok zs ↦ (λ is h.
          let rest = add_all-inserts names zs ys more h in
          let grown = add_all-grows names zs more ys h in
          let here = subst (λ l. Contains l t) (sym grown.extends.1) (Contains-append_left zs grown.extends.0 t (added_there names xs zs t is)) in
          (rest.0 ∙ ap (λ l. fold (insert_key term_eq) l more) (add-inserts names xs zs t is), All-cons (Contains ys) t more here rest.1))
    ] in
    both refl added

-- ---- what the walk makes

-- the list once the types before a place have been followed
record IsWalk (ds : List Decl) (start : List Term) (n : ℕ) (types : List Term) : Type 0 where
  distinct : IsDistinct types
  starts : All (Contains types) start
  closed : All (λ t. All (Contains types) (children ds t)) (take n types)
  reached : (p : ℕ) (t : Term) → slice_get types p ≡ Some t → Contains start t ⊎ IsReached ds types p t
  order : types ≡ insert_all term_eq [] (start ++ flat_map (children ds) (take n types))

module _ (ds : List Decl) (names : List (List ℕ)) (start : List Term) where
  walk-none : (types : List Term) → add_all names (Ok []) start ≡ Ok types → IsWalk ds start 0 types
  walk-none types added =
      let grown = add_all-grows names [] start types added in
      let ins = add_all-inserts names [] types start added in
      record {
        distinct = grown.distinct (λ i j t at_i at_j. absurd cc);
        starts = ins.1;
        closed = All-nil (λ t. All (Contains types) (children ds t));
        reached = λ p t at. elim (grown.from p t at) [ inl old ↦ absurd cc | inr new ↦ inl new.1 ];
        order = ins.0 ∙ ap (insert_all term_eq []) (sym (append-nil start));
      }

  none_past : (types : List Term) (n : ℕ) → slice_get types n ≡ None → length types ≤ n
  none_past types n none =
      elim (cases_lt n (length types)) [
        | inl within ↦ let x = (slice_get-get_or types n object within) in absurd cc
        | inr past ↦ past
      ]

  walk-past : (types : List Term) (n : ℕ) → length types ≤ n → IsWalk ds start n types → IsWalk ds start (suc n) types
  walk-past types n past w =
      let same : take n types ≡ take (suc n) types = take_all n types past ∙ sym (take_all (suc n) types (omega arith)) in
      record {
        distinct = w.distinct;
        starts = w.starts;
        closed = subst (All (λ t. All (Contains types) (children ds t))) same w.closed;
        reached = w.reached;
        order = w.order ∙ ap (λ l. insert_all term_eq [] (start ++ flat_map (children ds) l)) same;
      }

  walk-followed : (types new : List Term) (n : ℕ) (t : Term) → slice_get types n ≡ Some t → add_all names (Ok types) (children ds t) ≡ Ok new → IsWalk ds start n types → IsWalk ds start (suc n) new
  walk-followed types new n t here added w =
      let grown = add_all-grows names types (children ds t) new added in
      let ins = add_all-inserts names types new (children ds t) added in
      let rest = grown.extends.0 in
      let within = slice_get_within types n t here in
      let follows : suc n ≡ n + 1 = omega arith in
      let front : take (suc n) new ≡ take n types ++ t ∷ [] = ap (take (suc n)) grown.extends.1 ∙ take-append-le (suc n) types rest (omega arith) ∙ ap (λ k. take k types) follows ∙ take_more types n t within ∙ ap (λ x. take n types ++ x ∷ []) (get_or_from_slice_get types n t t here) in
      let stays : (x : Term) → Contains types x → Contains new x = λ x has. subst (λ l. Contains l x) (sym grown.extends.1) (Contains-append_left types rest x has) in
      let seen = start ++ flat_map (children ds) (take n types) in
      let flat : flat_map (children ds) (take n types ++ t ∷ []) ≡ flat_map (children ds) (take n types) ++ children ds t = flat_map-append (children ds) (take n types) (t ∷ []) ∙ ap (λ l. flat_map (children ds) (take n types) ++ l) (append-nil (children ds t)) in
      record {
        distinct = grown.distinct w.distinct;
        starts = All-weaker (Contains types) (Contains new) stays start w.starts;
        closed = subst (All (λ u. All (Contains new) (children ds u))) (sym front) (All-push (λ u. All (Contains new) (children ds u)) (take n types) t (All-weaker (λ u. All (Contains types) (children ds u)) (λ u. All (Contains new) (children ds u)) (λ u all. All-weaker (Contains types) (Contains new) stays (children ds u) all) (take n types) w.closed) ins.1);
        reached = λ p u at. elim (grown.from p u at) [
          | inl old ↦ elim (w.reached p u old) [
            | inl first ↦ inl first
            | inr from ↦ inr (record { from = from.from; by = from.by; earlier = from.earlier; listed = subst (λ l. slice_get l from.from ≡ Some from.by) (sym grown.extends.1) (slice_get-extends types rest from.from from.by from.listed); child = from.child })
          ]
          | inr more ↦ inr (record { from = n; by = t; earlier = omega (arith, within, more.0); listed = subst (λ l. slice_get l n ≡ Some t) (sym grown.extends.1) (slice_get-extends types rest n t here); child = more.1 })
        ];
        order = ins.0 ∙ ap (λ l. fold (insert_key term_eq) l (children ds t)) w.order ∙ sym (fold-append (insert_key term_eq) [] seen (children ds t)) ∙ ap (fold (insert_key term_eq) []) (append_assoc start (flat_map (children ds) (take n types)) (children ds t) ∙ ap (λ l. start ++ l) (sym flat) ∙ ap (λ l. start ++ flat_map (children ds) l) (sym front));
      }

module _ (d : Decls) (roots : List Term) where
  abbrev Start : List Term
  Start = plain_types d.list ++ roots

  walk-step : (types new : List Term) (n : ℕ) → IsWalk d.list Start n types → follow d (Ok types) n ≡ Ok new → IsWalk d.list Start (suc n) new
  walk-step types new n w added =
      let M : Option Term → Type 0 = λ o. slice_get types n ≡ o → add_all d.names (Ok types) (children_at d.list o) ≡ Ok new → IsWalk d.list Start (suc n) new in
      let both : M (slice_get types n) = elim (slice_get types n) as M [
        | None ↦ (λ none h. subst (IsWalk d.list Start (suc n)) (same_ok _ _ h) (walk-past d.list d.names Start types n (none_past d.list d.names Start types n none) w))
        | Some t ↦ (λ here h. walk-followed d.list d.names Start types new n t here h w)
      ] in
      both refl added

  walk-is : (n : ℕ) (types : List Term) → walked d roots n ≡ Ok types → IsWalk d.list Start n types
  walk-is zero types is = walk-none d.list d.names Start types (sym (walked-none d roots) ∙ is)
  walk-is (suc n) types is =
      let M : Result (List Term) CloseError → Type 0 = λ r. walked d roots n ≡ r → follow d r n ≡ Ok types → IsWalk d.list Start (suc n) types in
      let both : M (walked d roots n) = elim (walked d roots n) as M [
        | Err e ↦ (λ before h. absurd cc)
        | Ok zs ↦ (λ before h. walk-step zs types n (walk-is n zs before) h)
      ] in
      both refl (sym (walked-more d roots n) ∙ is)

  -- where each type has been followed, the list is the closed one
  pub closed_list : (n : ℕ) (types : List Term) → walked d roots n ≡ Ok types → length types ≤ n → IsClosedList d.list Start types
  closed_list n types is long =
      let w = walk-is n types is in
      let all : take n types ≡ types = take_all n types long in
      record {
        distinct = w.distinct;
        starts = w.starts;
        closed = subst (All (λ t. All (Contains types) (children d.list t))) all w.closed;
        reached = w.reached;
        order = w.order ∙ ap (λ l. insert_all term_eq [] (Start ++ flat_map (children d.list) l)) all;
      }

-- ---- entries

pub IsEntry-extends : (ds : List Decl) (types new : List Term) (t : Term) (e : Entry) → Extends types new → IsEntry ds types t e → IsEntry ds new t e
IsEntry-extends ds types new t e ext is = record {
  type = is.type;
  kind = is.kind;
  children = subst (λ l. AreNumbers l e.children (children ds t)) (sym ext.1) (numbers-extends types ext.0 e.children (children ds t) is.children);
  bases = is.bases;
  interfaces = is.interfaces;
}

at_last : (entries : List Entry) (e : Entry) (i : ℕ) (x : Entry) → slice_get (entries ++ e ∷ []) i ≡ Some x → ((i < length entries) × (slice_get entries i ≡ Some x)) ⊎ ((i ≡ length entries) × (e ≡ x))
at_last [] e zero x here = inr (refl, cc)
at_last [] e (suc i) x here = absurd cc
at_last (y ∷ ys) e zero x here = inl (omega arith, here)
at_last (y ∷ ys) e (suc i) x here =
    elim (at_last ys e i x here) [
      | inl w ↦ inl (omega (arith, w.0), w.1)
      | inr w ↦ inr (ap suc w.0, w.1)
    ]

-- one type more has its entry
pub entries_more : (ds : List Decl) (types new : List Term) (entries : List Entry) (e : Entry) → Extends types new → AreEntries ds types entries → length entries < length types → IsEntry ds new (type_at types (length entries)) e → AreEntries ds new (entries ++ e ∷ [])
entries_more ds types new entries e ext are within last i t x at_t at_x =
    let n = length entries in
    let old : (k : ℕ) → k < length types → k ≡ i → slice_get types k ≡ Some t = λ k below same.
    let there = slice_get-get_or types k object below in
    let kept = slice_get-extends types ext.0 k (type_at types k) there in
    let now : slice_get new k ≡ Some (type_at types k) = subst (λ l. slice_get l k ≡ Some (type_at types k)) (sym ext.1) kept in
    let at : slice_get new k ≡ Some t = subst (λ j. slice_get new j ≡ Some t) (sym same) at_t in
    there ∙ sym now ∙ at in
    elim (at_last entries e i x at_x) [
      | inl w ↦ IsEntry-extends ds types new t x ext (are i t x (old i (omega (arith, w.0)) refl) w.1)
      | inr w ↦
          let here : slice_get types n ≡ Some t = old n within (sym w.0) in
          let same : type_at types n ≡ t = get_or_from_slice_get types n t object here in
          subst (IsEntry ds new t) w.1 (subst (λ u. IsEntry ds new u e) same last)
    ]
