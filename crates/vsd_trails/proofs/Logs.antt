-- What steps make of a log: a whole trail adds its entry, foreign steps add nothing, and a list of steps has one log.
use Rattle.std.proofs.Common.{◌≡◌, List, [], ◌∷◌, ◌++◌, append_assoc, Option, Some, None, refl, sym, ◌∙◌, ap, subst}
use Rattle.vsd_rule.specs.declared.key.Key.{Key}
use Rattle.vsd_trails.specs.Programs.{Fields, TrailStep, Asked, Program, done, look, ask, asked_of, fields_at, Runs, onto, EachStep}
use Rattle.vsd_trails.specs.Logs.{Entry, Log, first_of, Adds, passes_over, finishes, goes_on, IsLog}
use Rattle.vsd_trails.proofs.Runs.{one_answer, ends_once}

-- the first step stays the first
first_of-append : (prefix : List TrailStep) (z w : TrailStep) → first_of (prefix ++ z ∷ []) w ≡ first_of prefix z
first_of-append [] z w = refl
first_of-append (y ∷ ys) z w = refl

-- the step that a program asks for before it looks at anything
abbrev pub first_asked : {A : Type 0} → Program A → Option Asked
first_asked (done a) = None
first_asked (look p) = None
first_asked (ask c p) = Some c

module _ (E : Type 0) (k : Key) (begun : Asked → Option (Program E)) where
  -- ---- a whole trail

  abbrev entry_of : E → List TrailStep → Fields → Entry E
  entry_of event trail f = record { event = event; trail = trail; fields = f }

  -- the rest of a trail, of which the prefix is unfinished
  rest_of_trail : (p : Program E) (x : TrailStep) (event : E) (begins : begun (asked_of x) ≡ Some p)
      (prefix : List TrailStep) (z : TrailStep) (zs : List TrailStep) (entries : List (Entry E)) (old : List TrailStep)
      → first_of prefix z ≡ x → IsLog E k begun old (record { entries = entries; unfinished = prefix })
      → Runs k (fields_at x) p (prefix ++ z ∷ zs) event
      → IsLog E k begun (onto (z ∷ zs) old) (record { entries = entry_of event (prefix ++ z ∷ zs) (fields_at x) ∷ entries; unfinished = [] })
  rest_of_trail p x event begins prefix z [] entries old first log runs = (
    record { entries = entries; unfinished = prefix },
    log,
    finishes (record {
      program = p;
      event = event;
      begins = subst (λ (y : TrailStep). begun (asked_of y) ≡ Some p) (sym first) begins;
      whole = subst (λ (y : TrailStep). Runs k (fields_at y) p (prefix ++ z ∷ []) event) (sym first) runs;
      added = ap (λ (y : TrailStep). record { entries = entry_of event (prefix ++ z ∷ []) (fields_at y) ∷ entries; unfinished = [] }) (sym first);
    }),
  )
  rest_of_trail p x event begins prefix z (w ∷ ws) entries old first log runs =
      let whole : Runs k (fields_at x) p ((prefix ++ z ∷ []) ++ w ∷ ws) event = subst (λ (l : List TrailStep). Runs k (fields_at x) p l event) (sym (append_assoc prefix (z ∷ []) (w ∷ ws))) runs in
      let longer : IsLog E k begun (z ∷ old) (record { entries = entries; unfinished = prefix ++ z ∷ [] }) = (
        record { entries = entries; unfinished = prefix },
        log,
        goes_on (record {
          program = p;
          begins = subst (λ (y : TrailStep). begun (asked_of y) ≡ Some p) (sym first) begins;
          unfinished = λ other early. ends_once k (fields_at x) p (prefix ++ z ∷ []) w ws other event (subst (λ (y : TrailStep). Runs k (fields_at y) p (prefix ++ z ∷ []) other) first early) whole;
          added = refl;
        }),
      ) in
      let done = rest_of_trail p x event begins (prefix ++ z ∷ []) w ws entries (z ∷ old) (first_of-append prefix z w ∙ first) longer whole in
      subst (λ (l : List TrailStep). IsLog E k begun (onto ws (w ∷ z ∷ old)) (record { entries = entry_of event l (fields_at x) ∷ entries; unfinished = [] })) (append_assoc prefix (z ∷ []) (w ∷ ws)) done

  -- a whole trail of what its first step began adds one entry
  pub one_entry : (p : Program E) (x : TrailStep) (xs : List TrailStep) (event : E) (entries : List (Entry E)) (old : List TrailStep)
      → begun (asked_of x) ≡ Some p → IsLog E k begun old (record { entries = entries; unfinished = [] }) → Runs k (fields_at x) p (x ∷ xs) event
      → IsLog E k begun (onto (x ∷ xs) old) (record { entries = entry_of event (x ∷ xs) (fields_at x) ∷ entries; unfinished = [] })
  one_entry p x xs event entries old begins log runs = rest_of_trail p x event begins [] x xs entries old refl log runs

  -- the same of a program that asks for the step first
  pub adds_entry : (c : Asked) (p : Program E) (f : Fields) (trail : List TrailStep) (event : E) (entries : List (Entry E)) (old : List TrailStep)
      → first_asked p ≡ Some c → begun c ≡ Some p → IsLog E k begun old (record { entries = entries; unfinished = [] }) → Runs k f p trail event
      → IsLog E k begun (onto trail old) (record { entries = entry_of event trail f ∷ entries; unfinished = [] })
  adds_entry c (done a) f trail event entries old first begins log runs = absurd (cc)
  adds_entry c (look p) f trail event entries old first begins log runs = absurd (cc)
  adds_entry c (ask d p) f [] event entries old first begins log runs = absurd runs
  adds_entry c (ask d p) f (x ∷ xs) event entries old first begins log runs =
      let same : c ≡ d = cc in
      subst (λ (g : Fields). IsLog E k begun (onto (x ∷ xs) old) (record { entries = entry_of event (x ∷ xs) g ∷ entries; unfinished = [] })) runs.1
      (one_entry (ask d p) x xs event entries old (subst (λ (b : Asked). begun b ≡ Some (ask d p)) (same ∙ sym runs.0) begins) log
      (subst (λ (g : Fields). Runs k g (ask d p) (x ∷ xs) event) (sym runs.1) runs))

  -- ---- foreign steps

  pub passed_over : (xs old : List TrailStep) (entries : List (Entry E)) → EachStep (λ c. begun c ≡ None) xs
      → IsLog E k begun old (record { entries = entries; unfinished = [] }) → IsLog E k begun (onto xs old) (record { entries = entries; unfinished = [] })
  passed_over [] old entries foreign log = log
  passed_over (x ∷ xs) old entries foreign log = passed_over xs (x ∷ old) entries foreign.1 (
    record { entries = entries; unfinished = [] },
    log,
    passes_over (record { nothing = refl; begins = foreign.0; same = refl }),
  )

  -- ---- one log

  begins_once : (c : Asked) (p : Program E) → begun c ≡ None → begun c ≡ Some p → ⊥
  begins_once c p none some_ = let clash = sym none ∙ some_ in cc

  -- a step that begins nothing where nothing is unfinished adds to no trail
  none_begun : (before : Log E) (x : TrailStep) (p : Program E) → before.unfinished ≡ [] → begun (asked_of x) ≡ None → begun (asked_of (first_of before.unfinished x)) ≡ Some p → ⊥
  none_begun before x p nothing none begins =
      begins_once (asked_of x) p none (subst (λ (l : List TrailStep). begun (asked_of (first_of l x)) ≡ Some p) nothing begins)

  one_program : (c : Asked) (p q : Program E) → begun c ≡ Some p → begun c ≡ Some q → p ≡ q
  one_program c p q is other = let same = sym is ∙ other in cc

  one_step : (before : Log E) (x : TrailStep) (a b : Log E) → Adds E k begun before x a → Adds E k begun before x b → a ≡ b
  one_step before x a b (passes_over m) (passes_over n) = m.same ∙ sym n.same
  one_step before x a b (passes_over m) (finishes n) = absurd (none_begun before x n.program m.nothing m.begins n.begins)
  one_step before x a b (passes_over m) (goes_on n) = absurd (none_begun before x n.program m.nothing m.begins n.begins)
  one_step before x a b (finishes m) (passes_over n) = absurd (none_begun before x m.program n.nothing n.begins m.begins)
  one_step before x a b (finishes m) (finishes n) =
      let f = fields_at (first_of before.unfinished x) in
      let trail = before.unfinished ++ x ∷ [] in
      let same = one_program (asked_of (first_of before.unfinished x)) m.program n.program m.begins n.begins in
      let event : m.event ≡ n.event = one_answer k f n.program trail m.event n.event (subst (λ (p : Program E). Runs k f p trail m.event) same m.whole) n.whole in
      m.added ∙ (ap (λ (e : E). record { entries = entry_of e trail f ∷ before.entries; unfinished = [] }) event ∙ sym n.added)
  one_step before x a b (finishes m) (goes_on n) =
      let same = one_program (asked_of (first_of before.unfinished x)) m.program n.program m.begins n.begins in
      absurd (n.unfinished m.event (subst (λ (p : Program E). Runs k (fields_at (first_of before.unfinished x)) p (before.unfinished ++ x ∷ []) m.event) same m.whole))
  one_step before x a b (goes_on m) (passes_over n) = absurd (none_begun before x m.program n.nothing n.begins m.begins)
  one_step before x a b (goes_on m) (finishes n) =
      let same = one_program (asked_of (first_of before.unfinished x)) n.program m.program n.begins m.begins in
      absurd (m.unfinished n.event (subst (λ (p : Program E). Runs k (fields_at (first_of before.unfinished x)) p (before.unfinished ++ x ∷ []) n.event) same n.whole))
  one_step before x a b (goes_on m) (goes_on n) = m.added ∙ sym n.added

  pub one_log : (xs : List TrailStep) (a b : Log E) → IsLog E k begun xs a → IsLog E k begun xs b → a ≡ b
  one_log [] a b first second = first ∙ sym second
  one_log (x ∷ xs) a b first second =
      let same = one_log xs first.0 second.0 first.1 second.1 in
      one_step second.0 x a b (subst (λ (l : Log E). Adds E k begun l x a) same first.2) second.2
