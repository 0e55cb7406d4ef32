-- A search for a method begins where its name may first stand.
use Rattle.std.proofs.Common.{◌≡◌, ℕ, zero, suc, ◌+◌, ◌<◌, Bool, true, false, ◌&&◌, cond, List, [], ◌∷◌, ◌++◌, length, drop, Some, None, Contains, bytes_eq, get_or, refl, sym, ap, ◌∙◌, subst, arith, inl, inr}
use Rattle.std.specs.List.{position_from, slice_get}
use Rattle.std.proofs.lemmas.Bool.{and_parts, cases_lt}
use Rattle.std.proofs.lemmas.List.{get_or_append_left, get_or_push, length-append}
use Rattle.std.proofs.lemmas.Option.{get_or_from_slice_get, slice_get-get_or, slice_get_within}
use Rattle.std.proofs.lemmas.Slice.Eq.{bytes_eq-Decides}
use Rattle.vsd_terms.specs.declared.term.Term.{Term}
use Rattle.vsd_ast.specs.declared.declarations.Decl.{Decl}
use Rattle.vsd_ast.specs.declared.declarations.Method.{Method}
use Rattle.vsd_ast.specs.Lookup.{Head, named, parameter, built_in, head_of, place_of}
use Rattle.vsd_methods.specs.Firsts.{Adds, AreNamesOf, AreNamesTo}
use Rattle.vsd_methods.specs.Methods.{is_public, offers_at, same_signature, signature_at}
use Rattle.vsd_types.specs.Types.{declaration_of, declaration_of_head, place_of_head}
use Rattle.vsd_types.proofs.Declared.{declared-place, place_of-within}
use Rattle.vsd_methods.proofs.SearchLaws.{position-none}

not-true : (b : Bool) → (b ≡ true → ⊥) → b ≡ false
not-true true no_way = absurd (no_way refl)
not-true false no_way = refl

-- where nothing before a place fits, a search may begin there
skipped : {A : Type 0} (test : A → Bool) (n : ℕ) (xs : List A) (k : ℕ) → ((p : ℕ) (x : A) → p < k → slice_get xs p ≡ Some x → test x ≡ false) → position_from test n xs ≡ position_from test (n + k) (drop k xs)
skipped test n xs zero none = let same : n ≡ n + 0 = omega arith in ap (λ m. position_from test m xs) same
skipped test n [] (suc k) none = refl
skipped test n (x ∷ xs) (suc k) none =
    let here : test x ≡ false = none 0 x (omega arith) refl in
    let rest = skipped test (n + 1) xs k (λ p y within is. none (suc p) y (omega (arith, within)) is) in
    let same : n + 1 + k ≡ n + suc k = omega arith in
    ap (λ b. cond b (Some n) (position_from test (n + 1) xs)) here ∙ rest ∙ ap (λ m. position_from test m (drop k xs)) same

skipped-to : {A : Type 0} (test : A → Bool) (xs : List A) (k : ℕ) → ((p : ℕ) (x : A) → p < k → slice_get xs p ≡ Some x → test x ≡ false) → position_from test 0 xs ≡ position_from test k (drop k xs)
skipped-to test xs k none = let same : 0 + k ≡ k = omega arith in skipped test 0 xs k none ∙ ap (λ m. position_from test m (drop k xs)) same

number-contains : (names : List (List ℕ)) (n : ℕ) (name : List ℕ) → slice_get names n ≡ Some name → Contains names name
number-contains names n name is = (n, slice_get_within names n name is, get_or_from_slice_get names n name name is)

same_name : (interface_args args : List Term) (m p : Method) → offers_at interface_args m args p ≡ true → p.name ≡ m.name
same_name interface_args args m p is =
    let test = bytes_eq p.name m.name in
    let first = (and_parts (is_public p.access && test) (same_signature (signature_at args p.signature) (signature_at interface_args m.signature)) is).0 in
    (bytes_eq-Decides p.name m.name).0 (and_parts (is_public p.access) test first).1

-- where no method has the name none is offered
pub unnamed : (methods : List Method) (interface_args args : List Term) (m : Method) → ((k : ℕ) (p : Method) → slice_get methods k ≡ Some p → p.name ≡ m.name → ⊥) → position_from (offers_at interface_args m args) 0 methods ≡ None
unnamed methods interface_args args m none =
    skipped-to (offers_at interface_args m args) methods (length methods) (λ p x within stands. not-true (offers_at interface_args m args x) (λ is. none p x stands (same_name interface_args args m x is))) ∙ position-none (offers_at interface_args m args) methods (length methods) (omega arith)

module _ (methods : List Method) (names : List (List ℕ)) (are : AreNamesOf methods names) (interface_args args : List Term) (m : Method) where
  -- a method of the name has the name's number or a greater place
  pub begins-at : (n : ℕ) → slice_get names n ≡ Some m.name → ((i j : ℕ) (name : List ℕ) → slice_get names i ≡ Some name → slice_get names j ≡ Some name → i ≡ j) → position_from (offers_at interface_args m args) 0 methods ≡ position_from (offers_at interface_args m args) n (drop n methods)
  begins-at n there distinct =
      skipped-to (offers_at interface_args m args) methods n (λ p x within stands. not-true (offers_at interface_args m args x) (λ is.
      let at = are p x stands in
      let name : slice_get names at.0 ≡ Some m.name = at.1 ∙ ap Some (same_name interface_args args m x is) in
      let same = distinct at.0 n m.name name there in
      omega (arith, within, same, at.2)))

  -- no method has a name that isn't there
  pub has-none : (Contains names m.name → ⊥) → position_from (offers_at interface_args m args) 0 methods ≡ None
  has-none absent =
      unnamed methods interface_args args m (λ k p stands same.
      let at = are k p stands in
      absent (number-contains names at.0 m.name (at.1 ∙ ap Some same)))

-- ---- the names of methods, one after another

pub adds-nothing : (names : List (List ℕ)) (n : ℕ) (name : List ℕ) → slice_get names n ≡ Some name → Adds names names name
adds-nothing names n name is = record { kept = λ k x e. e; there = (n, is); few = omega arith }

pub adds-last : (old new : List (List ℕ)) (name : List ℕ) (n : ℕ) → new ≡ old ++ name ∷ [] → slice_get new n ≡ Some name → Adds old new name
adds-last old new name n is there =
    let long : length new ≡ length old + 1 = ap length is ∙ length-append old (name ∷ []) in
    record {
      kept = λ k x e.
          let within = slice_get_within old k x e in
          slice_get-get_or new k [] (omega (arith, within, long)) ∙ ap (λ (l : List (List ℕ)). Some (get_or l k [])) is ∙ ap Some (get_or_append_left old (name ∷ []) [] k within ∙ get_or_from_slice_get old k x [] e);
      there = (n, there);
      few = omega (arith, long);
    }

pub names-more : (methods : List Method) (i : ℕ) (m : Method) (old new : List (List ℕ)) → slice_get methods i ≡ Some m → AreNamesTo methods i old → Adds old new m.name → AreNamesTo methods (i + 1) new
names-more methods i m old new stands before adds =
    record {
      few = omega (arith, before.few, adds.few);
      each = λ p x within is. elim (cases_lt p i) [
        | inl low ↦ (
            let at = before.each p x low is in
            (at.0, adds.kept at.0 x.name at.1, at.2)
            )
        | inr high ↦ (
            let same : p ≡ i = omega (arith, within, high) in
            let one : x ≡ m = let both : Some x ≡ Some m = sym is ∙ ap (slice_get methods) same ∙ stands in cc in
            let last = slice_get_within new adds.there.0 m.name adds.there.1 in
            (adds.there.0, adds.there.1 ∙ ap (λ (y : Method). Some y.name) (sym one), omega (arith, last, adds.few, before.few, same))
            )
      ];
    }

-- ---- by declarations

head-reads : (ds : List Decl) (h : Head) (place : ℕ) (x : Decl) → Some place ≡ place_of_head ds h → declaration_of_head ds h ≡ Some x → slice_get ds place ≡ Some x
head-reads ds (named name) place x at is =
    let within : place_of ds name < length ds = place_of-within ds name (rw is refl) in
    let same : place ≡ place_of ds name = cc in
    ap (slice_get ds) same ∙ slice_get-get_or ds (place_of ds name) x within ∙ sym (declared-place ds name x within) ∙ is
head-reads ds (parameter k) place x at is = absurd cc
head-reads ds (built_in b) place x at is = absurd cc

pub declaration-reads : (ds : List Decl) (t : Term) (place : ℕ) (x : Decl) → Some place ≡ place_of_head ds (head_of t) → declaration_of ds t ≡ Some x → slice_get ds place ≡ Some x
declaration-reads ds t place x at is = head-reads ds (head_of t) place x at is

pub names-push : (ds : List Decl) (place : ℕ) (x : Decl) (found new : List (List (List ℕ))) (one : List (List ℕ)) → slice_get ds place ≡ Some x → length found ≡ place → ((k : ℕ) (y : Decl) → k < place → slice_get ds k ≡ Some y → AreNamesOf y.methods (get_or found k [])) → AreNamesOf x.methods one → new ≡ found ++ one ∷ [] → (k : ℕ) (y : Decl) → k < place + 1 → slice_get ds k ≡ Some y → AreNamesOf y.methods (get_or new k [])
names-push ds place x found new one stands long before mine is k y within reads = elim (cases_lt k place) [
  | inl low ↦ (
      let read : get_or new k [] ≡ get_or found k [] = ap (λ (l : List (List (List ℕ))). get_or l k []) is ∙ get_or_append_left found (one ∷ []) [] k (omega (arith, long, low)) in
      subst (λ (l : List (List ℕ)). AreNamesOf y.methods l) (sym read) (before k y low reads)
      )
  | inr high ↦ (
      let same : k ≡ place = omega (arith, within, high) in
      let read : get_or new k [] ≡ one = ap (λ (l : List (List (List ℕ))). get_or l k []) is ∙ ap (λ n. get_or (found ++ one ∷ []) n []) same ∙ get_or_push found one [] place long in
      let equal : y ≡ x = let both : Some y ≡ Some x = sym reads ∙ ap (slice_get ds) same ∙ stands in cc in
      subst (λ (l : List (List ℕ)). AreNamesOf y.methods l) (sym read) (subst (λ (z : Decl). AreNamesOf z.methods one) (sym equal) mine)
      )
]
