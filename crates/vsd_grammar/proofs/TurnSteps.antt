-- The steps of a loop that counts its turns.
use Rattle.std.proofs.Common.{◌≡◌, ℕ, suc, ◌+◌, ◌-◌, ◌<◌, ◌≤◌, Bool, true, false, cond, ltb, Ok, Err, refl, ap, sym, subst, ◌∙◌, arith}
use Rattle.std.proofs.lemmas.Bool.{lt-ltb}
use Rattle.vsd_grammar.specs.declared.token_class.TokenClass.{TokenClass}
use Rattle.vsd_grammar.specs.declared.turn.Turn.{Turn}
use Rattle.vsd_grammar.specs.declared.turn.Turn.TheVariants as turn
use Rattle.vsd_grammar.specs.declared.cause.Cause.{Cause}
use Rattle.vsd_grammar.specs.declared.cause.Cause.TheVariants.{Unexpected}
use Rattle.vsd_grammar.specs.declared.syntax_error.SyntaxError.{SyntaxError}
use Rattle.vsd_grammar.specs.declared.syntax_error.Stop.{Stop}
use Rattle.vsd_grammar.specs.declared.syntax_error.Stop.TheVariants as stop
use Rattle.vsd_grammar.specs.Input.{Input, class_at, left}
use Rattle.vsd_grammar.specs.Grammar.{Outcome, and_then, after_turn, syntax_error, turns, run, pass}
use Rattle.vsd_grammar.specs.Productions.{Reads, scan, scan_step, is_stop}
use Rattle.vsd_grammar.specs.Loops.{one_turn}
use Rattle.vsd_grammar.proofs.Outcomes.{reads_refused}
use Rattle.vsd_grammar.proofs.Soundness.{sound}

-- one of the turns that are left
one_of_turns : (end at : ℕ) → at < end → end - at ≡ suc (end - (at + 1))
one_of_turns end at h = omega arith

no_turn : (end at : ℕ) → end ≤ at → end - at ≡ 0
no_turn end at h = omega arith

module _ {S : Type 0} (stops : TokenClass → S → Bool) (step : S → Input → Outcome S) where
  turns_refused : (n : ℕ) (s : S) (i : Input) (r : SyntaxError) → stops (class_at i) s ≡ false → one_turn step s i ≡ Err r → turns stops step (suc n) s i ≡ Err r
  unfolding turns
  turns_refused n s i r going e = ap (λ b. cond b (Ok (s, i)) (and_then (step s i) (λ t k. after_turn (ltb i.at k.at) k (turns stops step n t k)))) going ∙ go (step s i) e
    where
      moved : (b : Bool) (t : S) (k : Input) → after_turn b k (Ok (t, k)) ≡ Err r → after_turn b k (turns stops step n t k) ≡ Err r
      moved true t k e = absurd cc
      moved false t k e = e

      go : (o : Outcome S) → and_then o (λ t k. after_turn (ltb i.at k.at) k (Ok (t, k))) ≡ Err r → and_then o (λ t k. after_turn (ltb i.at k.at) k (turns stops step n t k)) ≡ Err r
      go (Ok w) e = moved (ltb i.at w.1.at) w.0 w.1 e
      go (Err w) e = cc

  turns_go_on : (n : ℕ) (s : S) (i : Input) (t : S) (k : Input) → stops (class_at i) s ≡ false → one_turn step s i ≡ Ok (t, k) → turns stops step (suc n) s i ≡ turns stops step n t k
  unfolding turns
  turns_go_on n s i t k going e = ap (λ b. cond b (Ok (s, i)) (and_then (step s i) (λ t k. after_turn (ltb i.at k.at) k (turns stops step n t k)))) going ∙ go (step s i) e
    where
      moved : (b : Bool) (u : S) (m : Input) → after_turn b m (Ok (u, m)) ≡ Ok (t, k) → after_turn b m (turns stops step n u m) ≡ turns stops step n t k
      moved true u m e =
          let p : ◌≡◌ {A = S × Input} (u, m) (t, k) = cc in
          ap (λ w. turns stops step n w.0 w.1) p
      moved false u m e = absurd cc

      go : (o : Outcome S) → and_then o (λ u m. after_turn (ltb i.at m.at) m (Ok (u, m))) ≡ Ok (t, k) → and_then o (λ u m. after_turn (ltb i.at m.at) m (turns stops step n u m)) ≡ turns stops step n t k
      go (Ok w) e = moved (ltb i.at w.1.at) w.0 w.1 e
      go (Err w) e = absurd cc

  turns_stop : (n : ℕ) (s : S) (i : Input) → stops (class_at i) s ≡ true → turns stops step (suc n) s i ≡ Ok (s, i)
  unfolding turns
  turns_stop n s i e = ap (λ b. cond b (Ok (s, i)) (and_then (step s i) (λ t k. after_turn (ltb i.at k.at) k (turns stops step n t k)))) e

  turns_over : (s : S) (i : Input) → turns stops step 0 s i ≡ Err (syntax_error i Unexpected)
  unfolding turns
  turns_over s i = refl

  -- the loop's outcome at each of its ends, and at its next turn, where it is what was left to read
  pub ends_at_stop : (o : Outcome S) (end at : ℕ) (s : S) (i : Input) → o ≡ turns stops step (end - at) s i → at < end → stops (class_at i) s ≡ true → o ≡ Ok (s, i)
  ends_at_stop o end at s i e h f = e ∙ ap (λ n. turns stops step n s i) (one_of_turns end at h) ∙ turns_stop (end - (at + 1)) s i f

  pub ends_at_turn : (o : Outcome S) (end at : ℕ) (s : S) (i : Input) (w : Stop) (m n : Input) → o ≡ turns stops step (end - at) s i → at < end → stops (class_at i) s ≡ false
      → Reads (one_turn step s i) (Err w) m → Reads {A = S} o (Err w) n
  ends_at_turn o end at s i stop.Memory m n e h f r = tt
  ends_at_turn o end at s i (stop.Refused w) m n e h f r = e ∙ ap (λ l. turns stops step l s i) (one_of_turns end at h) ∙ turns_refused (end - (at + 1)) s i w f r

  pub goes_on : (o : Outcome S) (end at : ℕ) (s : S) (i : Input) (t : S) (k : Input) → o ≡ turns stops step (end - at) s i → at < end → stops (class_at i) s ≡ false
      → Reads (one_turn step s i) (Ok t) k → o ≡ turns stops step (end - (at + 1)) t k
  goes_on o end at s i t k e h f r = e ∙ ap (λ l. turns stops step l s i) (one_of_turns end at h) ∙ turns_go_on (end - (at + 1)) s i t k f r

  pub ends_without_turn : (o : Outcome S) (end at : ℕ) (s : S) (i : Input) (w : Stop) (n : Input) → o ≡ turns stops step (end - at) s i → end ≤ at
      → w ≡ stop.Refused (syntax_error i Unexpected) → Reads {A = S} o (Err w) n
  ends_without_turn o end at s i w n e h f = reads_refused o w (syntax_error i Unexpected) n f (e ∙ ap (λ l. turns stops step l s i) (no_turn end at h) ∙ turns_over s i)

-- ---- scans

abbrev pub scan_item : {S : Type 0} → (TokenClass → S → Turn S) → S → Input → Outcome S
scan_item {S} f s i = run S (scan_step S (f (class_at i) s)) i

-- the turns of a scan
abbrev pub scan_turns : {S : Type 0} → (TokenClass → S → Turn S) → ℕ → S → Input → Outcome S
scan_turns f n s i = turns (λ q u. is_stop (f q u)) (scan_item f) n s i

pub scan_begins : {S : Type 0} (f : TokenClass → S → Turn S) (s : S) (i : Input) → run S (scan S f s) i ≡ scan_turns f (suc (left i)) s i
unfolding scan
scan_begins f s i = refl

module _ {S : Type 0} (f : TokenClass → S → Turn S) where
  pub scan_stops : (o : Outcome S) (end at : ℕ) (s : S) (i : Input) (q : TokenClass) (t : Turn S) → o ≡ scan_turns f (end - at) s i → at < end → q ≡ class_at i → t ≡ f q s → t ≡ turn.Stop → o ≡ Ok (s, i)
  scan_stops o end at s i q t e h a b d = ends_at_stop (λ q u. is_stop (f q u)) (scan_item f) o end at s i e h (ap is_stop (ap (λ r. f r s) (sym a) ∙ sym b ∙ d))

  same_turn : (s : S) (i : Input) (q : TokenClass) (t u : Turn S) → q ≡ class_at i → t ≡ f q s → t ≡ u → f (class_at i) s ≡ u
  same_turn s i q t u a b d = ap (λ r. f r s) (sym a) ∙ sym b ∙ d

  refused_item : (s : S) (i : Input) (cause : Cause) → f (class_at i) s ≡ turn.Refuse cause → one_turn (scan_item f) s i ≡ Err (syntax_error i cause)
  refused_item s i cause e = ap (λ t. and_then (run S (scan_step S t) i) (λ u k. after_turn (ltb i.at k.at) k (Ok (u, k)))) e

  pub scan_refuses : (o : Outcome S) (end at : ℕ) (s : S) (i : Input) (q : TokenClass) (t : Turn S) (cause : Cause) (w : Stop) (n : Input)
      → o ≡ scan_turns f (end - at) s i → at < end → q ≡ class_at i → t ≡ f q s → t ≡ turn.Refuse cause → w ≡ stop.Refused (syntax_error i cause) → Reads {A = S} o (Err w) n
  scan_refuses o end at s i q t cause w n e h a b d g =
      let turned = same_turn s i q t (turn.Refuse cause) a b d in
      ends_at_turn (λ q u. is_stop (f q u)) (scan_item f) o end at s i w n n e h (ap is_stop turned)
      (reads_refused (one_turn (scan_item f) s i) w (syntax_error i cause) n g (refused_item s i cause turned))

  passed_item : (s : S) (i : Input) (u : S) (p : Outcome (Unit {0})) → f (class_at i) s ≡ turn.Pass u → run (Unit {0}) pass i ≡ p
      → one_turn (scan_item f) s i ≡ and_then p (λ _ k. after_turn (ltb i.at k.at) k (Ok (u, k)))
  passed_item s i u p e h =
      ap (λ t. and_then (run S (scan_step S t) i) (λ v k. after_turn (ltb i.at k.at) k (Ok (v, k)))) e ∙ go (run (Unit {0}) pass i) ∙ ap (λ o. and_then o (λ _ k. after_turn (ltb i.at k.at) k (Ok (u, k)))) h
    where
      go : (o : Outcome (Unit {0})) → and_then (and_then o (λ _ k. Ok (u, k))) (λ v k. after_turn (ltb i.at k.at) k (Ok (v, k))) ≡ and_then o (λ _ k. after_turn (ltb i.at k.at) k (Ok (u, k)))
      go (Ok r) = refl
      go (Err r) = refl

  pub scan_cannot_pass : (o : Outcome S) (end at : ℕ) (s : S) (i : Input) (q : TokenClass) (t : Turn S) (u : S) (w : Stop) (m n : Input)
      → o ≡ scan_turns f (end - at) s i → at < end → q ≡ class_at i → t ≡ f q s → t ≡ turn.Pass u → Reads (run (Unit {0}) pass i) (Err w) m → Reads {A = S} o (Err w) n
  scan_cannot_pass o end at s i q t u w m n e h a b d r =
      let turned = same_turn s i q t (turn.Pass u) a b d in
      ends_at_turn (λ q u. is_stop (f q u)) (scan_item f) o end at s i w n n e h (ap is_stop turned) (go w turned r)
    where
      go : (w : Stop) → f (class_at i) s ≡ turn.Pass u → Reads (run (Unit {0}) pass i) (Err w) m → Reads (one_turn (scan_item f) s i) (Err w) n
      go stop.Memory e r = tt
      go (stop.Refused v) e r = passed_item s i u (Err v) e r

  pub scan_passes : (o : Outcome S) (end at : ℕ) (s : S) (i : Input) (q : TokenClass) (t : Turn S) (u : S) (k : Input)
      → o ≡ scan_turns f (end - at) s i → at < end → q ≡ class_at i → t ≡ f q s → t ≡ turn.Pass u → run (Unit {0}) pass i ≡ Ok (tt {0}, k) → o ≡ scan_turns f (end - (at + 1)) u k
  scan_passes o end at s i q t u k e h a b d r =
      let turned = same_turn s i q t (turn.Pass u) a b d in
      let moved : i.at < k.at = subst (λ m. i.at < m.at) (sound (Unit {0}) pass i (tt {0}) k r).1 (omega arith) in
      goes_on (λ q u. is_stop (f q u)) (scan_item f) o end at s i u k e h (ap is_stop turned)
      (passed_item s i u (Ok (tt {0}, k)) turned r ∙ ap (λ c. after_turn c k (Ok (u, k))) (lt-ltb i.at k.at moved))

  pub scan_ends : (o : Outcome S) (end at : ℕ) (s : S) (i : Input) (w : Stop) (n : Input) → o ≡ scan_turns f (end - at) s i → end ≤ at → w ≡ stop.Refused (syntax_error i Unexpected) → Reads {A = S} o (Err w) n
  scan_ends o end at s i w n e h g = ends_without_turn (λ q u. is_stop (f q u)) (scan_item f) o end at s i w n e h g
