-- What a production yields, where there are at most so many names after it: whatever it reads, its value has a property,
-- and there were no more names before it.
use Rattle.std.proofs.Common.{◌≡◌, ℕ, zero, suc, ◌<◌, ◌≤◌, Bool, true, false, cond, eqb, ltb, List, [], ◌∷◌, ◌++◌, length, position, Option, Some, None, Result, Ok, Err, All, refl, ap, sym, subst, arith, length-append}
use Rattle.std.specs.Str.{bytes_eq}
use Rattle.std.proofs.lemmas.Bool.{ltb-false, eqb-false}
use Rattle.std.proofs.lemmas.List.Elements.{All-nil, All-cons}
use Rattle.std.proofs.lemmas.List.Quantifiers.{position-Some}
use Rattle.vsd_grammar.specs.declared.cause.Cause.{Cause}
use Rattle.vsd_grammar.specs.declared.cause.Cause.TheVariants.{Unexpected, TooMany}
use Rattle.vsd_grammar.specs.declared.cause.Counted.TheVariants as limit
use Rattle.vsd_grammar.specs.declared.token_class.TokenClass.{TokenClass}
use Rattle.vsd_grammar.specs.declared.turn.Turn.{Turn}
use Rattle.vsd_grammar.specs.declared.turn.Turn.TheVariants as turn
use Rattle.vsd_grammar.specs.Input.{Input, State, next}
use Rattle.vsd_grammar.specs.Grammar.{G, ret, bind, separated, until, Derives, Items, MoreItems, Turns}
use Rattle.vsd_grammar.specs.Productions.{scan, is_name, name_by, checked, spelled_name, name, number_by, number, numbered_name}
use Rattle.vsd_grammar.specs.Laws.{any_cause}
use Rattle.vsd_grammar.proofs.Behaving.{TurnPasses, causes_scan}
use Rattle.vsd_ast.specs.WellFormed.{IsName}
use Rattle.vsd_decls.proofs.Quiet.{quiet, IsQuiet, quiet_by}

pub record Yields (most : ℕ) (A : Type 0) (g : G A) (P : A → Type 0) : Type 0 where
  pub reads : (i : Input) (x : A) (j : Input) → Derives A g i x j → length j.state.names ≤ most → (length i.state.names ≤ most) × P x

turn_passes : {S : Type 0} (w : Turn S) → TurnPasses any_cause quiet refl w
turn_passes (turn.Pass s) = tt
turn_passes (turn.Refuse cause) = refl
turn_passes turn.Stop = tt

-- scans count nothing
pub scan_quiet : (S : Type 0) (f : TokenClass → S → Turn S) (s : S) → IsQuiet S (scan S f s)
scan_quiet S f s = causes_scan any_cause quiet refl S f s (λ q t. turn_passes (f q t))

-- a number that a name has is one of those that are given then
pub number_given : (bytes : List ℕ) (s u : State) (n : ℕ) → number_by bytes s (position (bytes_eq bytes) s.names) ≡ Ok (n, u) → (u.nodes ≡ s.nodes) × (length s.names ≤ length u.names) × (n < length u.names)
number_given bytes s u n e = go (position (bytes_eq bytes) s.names) refl e
  where
    parts : (m : ℕ) (v : State) → ◌≡◌ {A = Result (ℕ × State) Cause} (Ok (m, v)) (Ok (n, u)) → (m ≡ n) × (v ≡ u)
    parts m v e = let p : ◌≡◌ {A = ℕ × State} (m, v) (n, u) = cc in (ap (λ t. t.0) p, ap (λ t. t.1) p)

    room : (b : Bool) → cond {A = Result (ℕ × State) Cause} b (Ok (length s.names, record s { names = s.names ++ bytes ∷ [] })) (Err (TooMany limit.Names)) ≡ Ok (n, u) → (u.nodes ≡ s.nodes) × (length s.names ≤ length u.names) × (n < length u.names)
    room false e = absurd cc
    room true e =
        let p = parts (length s.names) (record s { names = s.names ++ bytes ∷ [] }) e in
        subst (λ v. (v.nodes ≡ s.nodes) × (length s.names ≤ length v.names) × (n < length v.names)) p.1
        (refl, let l = length-append s.names (bytes ∷ []) in omega (arith, l), let l = length-append s.names (bytes ∷ []) in let m = p.0 in omega (arith, l, m))

    go : (o : Option ℕ) → position (bytes_eq bytes) s.names ≡ o → number_by bytes s o ≡ Ok (n, u) → (u.nodes ≡ s.nodes) × (length s.names ≤ length u.names) × (n < length u.names)
    go (Some m) f e =
        let p = parts m s e in
        let at = position-Some (bytes_eq bytes) s.names m [] f in
        subst (λ v. (v.nodes ≡ s.nodes) × (length s.names ≤ length v.names) × (n < length v.names)) p.1 (refl, omega arith, let l = at.0 in let m = p.0 in omega (arith, l, m))
    go None f e = room (ltb (length s.names) 2048) e

module _ {most : ℕ} where
  pub yields_nothing : {A : Type 0} {g : G A} {P : A → Type 0} → ((i : Input) (x : A) (j : Input) → Derives A g i x j → ⊥) → Yields most A g P
  yields_nothing h = record { reads = λ i x j d few. absurd (h i x j d) }

  pub yields_ret : {A : Type 0} {a : A} {P : A → Type 0} → P a → Yields most A (ret A a) P
  yields_ret {P = P} p = record { reads = λ i x j d few. (subst (λ k. length k.state.names ≤ most) (sym d.1) few, subst P d.0 p) }

  pub yields_then : {A B : Type 0} {p : G A} {f : A → G B} {M : A → Type 0} {P : B → Type 0} → Yields most A p M → ((x : A) → Yields most B (f x) (λ y. M x → P y)) → Yields most B (bind A B p f) P
  yields_then h k = record {
    reads = λ i y j d few.
        let r = (k d.0).reads d.1 y j d.3 few in
        let q = h.reads i d.0 d.1 d.2 r.0 in
        (q.0, r.1 q.1);
  }

  pub yields_quiet : {A B : Type 0} {p : G A} {f : A → G B} {P : B → Type 0} → IsQuiet A p → ((x : A) → Yields most B (f x) P) → Yields most B (bind A B p f) P
  yields_quiet {A} {p = p} b k = record {
    reads = λ i y j d few.
        let r = (k d.0).reads d.1 y j d.3 few in
        let q = quiet_by A p b i d.0 d.1 d.2 in
        (omega (arith, r.0, q.names), r.1);
  }

  pub yields_weaker : {A : Type 0} {g : G A} {P Q : A → Type 0} → ((x : A) → P x → Q x) → Yields most A g P → Yields most A g Q
  yields_weaker f h = record { reads = λ i x j d few. let r = h.reads i x j d few in (r.0, f x r.1) }

  -- ---- lists

  module _ {A : Type 0} {p : G A} {P : A → Type 0} (h : Yields most A p P) where
    yields_more : (xs : List A) (i j : Input) → MoreItems (Derives A p) xs i j → length j.state.names ≤ most → (length i.state.names ≤ most) × All P xs
    yields_more [] i j d few = (subst (λ k. length k.state.names ≤ most) (sym d) few, All-nil P)
    yields_more (x ∷ xs) i j d few =
        let r = yields_more xs d.1 j d.3 few in
        let q = h.reads (next i) x d.1 d.2 r.0 in
        (q.0, All-cons P x xs q.1 r.1)

    yields_items : (xs : List A) (i j : Input) → Items (Derives A p) xs i j → length j.state.names ≤ most → (length i.state.names ≤ most) × All P xs
    yields_items [] i j d few = absurd d
    yields_items (x ∷ xs) i j d few =
        let r = yields_more xs d.0 j d.2 few in
        let q = h.reads i x d.0 d.1 r.0 in
        (q.0, All-cons P x xs q.1 r.1)

    pub yields_list : {first : TokenClass → List ℕ → Option Cause} {many : Cause} {room : ℕ} → Yields most (List A) (separated A first many p room) (λ xs. (length xs ≤ room) × All P xs)
    yields_list = record { reads = λ i xs j d few. let r = yields_items xs i j d.1 few in (r.0, (d.0, r.1)) }

  module _ {S : Type 0} {step : S → G S} {I : S → Type 0} (h : (s : S) → Yields most S (step s) (λ u. I s → I u)) where
    yields_turns : (stop : TokenClass → S → Bool) (n : ℕ) (s : S) (i : Input) (t : S) (j : Input) → Turns stop (λ u. Derives S (step u)) n s i t j → length j.state.names ≤ most → (length i.state.names ≤ most) × (I s → I t)
    yields_turns stop zero s i t j d few = (subst (λ k. length k.state.names ≤ most) (sym d.2) few, λ p. subst I d.1 p)
    yields_turns stop (suc n) s i t j d few =
        let r = yields_turns stop n d.1 d.2 t j d.5 few in
        let q = (h s).reads i d.1 d.2 d.3 r.0 in
        (q.0, λ p. r.1 (q.1 p))

    pub yields_until : {stop : TokenClass → S → Bool} {s : S} → I s → Yields most S (until S stop step s) I
    yields_until {stop} {s} p = record { reads = λ i t j d few. let r = yields_turns stop d.0 s i t j d.1 few in (r.0, r.1 p) }

  -- ---- names

  spelled_yields : Yields most (List ℕ) spelled_name IsName
  unfolding spelled_name
  spelled_yields = yields_quiet tt (λ h. go (is_name h.class) h.bytes)
    where
      tests : (bytes : List ℕ) (e l : Bool) → eqb (length bytes) 0 ≡ e → ltb 255 (length bytes) ≡ l → Yields most (List ℕ) (checked (List ℕ) (cond e (Err Unexpected) (cond l (Err (TooMany limit.NameBytes)) (Ok bytes)))) IsName
      tests bytes true l f g = yields_nothing (λ i x j d. d)
      tests bytes false true f g = yields_nothing (λ i x j d. d)
      tests bytes false false f g = let some = eqb-false (length bytes) 0 f in let few = ltb-false 255 (length bytes) g in yields_ret (record { some = omega (arith, some); few = few })

      go : (b : Bool) (bytes : List ℕ) → Yields most (List ℕ) (checked (List ℕ) (name_by b bytes)) IsName
      go false bytes = yields_nothing (λ i x j d. d)
      go true bytes = tests bytes (eqb (length bytes) 0) (ltb 255 (length bytes)) refl refl

  pub yields_name : Yields most (List ℕ) name IsName
  unfolding name
  yields_name = yields_then spelled_yields (λ bytes. yields_quiet refl (λ _. yields_ret (λ p. p)))

  number_yields : (bytes : List ℕ) → Yields most ℕ (number bytes) (λ n. n < most)
  unfolding number
  number_yields bytes = record {
    reads = λ i n j d few.
        let g = number_given bytes i.state d.0 n d.1 in
        let same : d.0 ≡ j.state = ap (λ k. k.state) d.2 in
        let few_then : length d.0.names ≤ most = subst (λ v. length v.names ≤ most) (sym same) few in
        (omega (arith, g.1, few_then), omega (arith, g.2, few_then));
  }

  pub yields_numbered : Yields most ℕ numbered_name (λ n. n < most)
  unfolding numbered_name
  yields_numbered = yields_then spelled_yields (λ bytes. yields_then (number_yields bytes) (λ n. yields_quiet refl (λ _. yields_ret (λ lt _. lt))))
