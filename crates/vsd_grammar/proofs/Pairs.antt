-- What is passed over is in pairs, and what is in pairs is passed over.
use Rattle.std.proofs.Common.{◌≡◌, ℕ, zero, suc, ◌+◌, Bool, true, false, not, ◌&&◌, ◌||◌, cond, List, [], ◌∷◌, ◌++◌, length, IsTrue, ◌⊎◌, inl, inr, refl, ap, sym, subst, ◌∙◌, append_assoc, add-one, arith}
use Rattle.std.proofs.lemmas.Bool.{eqb-true}
use Rattle.vsd_grammar.specs.declared.token_class.TokenClass.{TokenClass}
use Rattle.vsd_grammar.specs.declared.token_class.TokenClass.TheVariants as class
use Rattle.vsd_grammar.specs.declared.turn.Turn.{Turn}
use Rattle.vsd_grammar.specs.declared.turn.Turn.TheVariants as turn
use Rattle.vsd_grammar.specs.declared.cause.Cause.TheVariants.{Unexpected}
use Rattle.vsd_grammar.specs.Input.{Input, Lookahead, class_at, lookahead_of, next, is_end, same_class}
use Rattle.vsd_grammar.specs.Grammar.{lookahead, bind, Turns, Derives}
use Rattle.vsd_grammar.specs.Productions.{scan, scan_step, is_stop}
use Rattle.vsd_grammar.specs.Skipping.{Paired, nothing, token, group, opening, closing, spelled, is_plain, ArePlain, Spells, ends_at, IsSkipped, close_turn, is_outside, skip_turn, skip}

-- the turns of the scan from one place and count of open braces to another
abbrev Scans : (TokenClass → Bool) → ℕ → ℕ → Input → ℕ → Input → Type 0
Scans f n d i t j = Turns (λ q s. is_stop (skip_turn f q s)) (λ s. Derives ℕ (bind Lookahead ℕ lookahead (λ h. scan_step ℕ (skip_turn f h.class s)))) n d i t j

-- ---- one turn

item_means : (f : TokenClass → Bool) (s : ℕ) (i : Input) (t : ℕ) (j : Input) → Derives ℕ (bind Lookahead ℕ lookahead (λ h. scan_step ℕ (skip_turn f h.class s))) i t j
    → (skip_turn f (class_at i) s ≡ turn.Pass t) × (is_end (class_at i) ≡ false) × (next i ≡ j)
item_means f s i t j d = go (skip_turn f d.0.class s) refl d.3
  where
    here : class_at i ≡ d.0.class
    here = ap (λ h. h.class) d.2.0

    go : (w : Turn ℕ) → skip_turn f d.0.class s ≡ w → Derives ℕ (scan_step ℕ w) d.1 t j → (skip_turn f (class_at i) s ≡ turn.Pass t) × (is_end (class_at i) ≡ false) × (next i ≡ j)
    go (turn.Pass u) e g = (
      ap (λ q. skip_turn f q s) here ∙ e ∙ ap (λ v. turn.Pass v) g.3.0,
      ap (λ k. is_end (class_at k)) d.2.1 ∙ g.2.0,
      ap next d.2.1 ∙ g.2.1 ∙ g.3.1,
    )
    go (turn.Refuse cause) e g = absurd g
    go turn.Stop e g = absurd g

item_of : (f : TokenClass → Bool) (s : ℕ) (i : Input) (t : ℕ) → skip_turn f (class_at i) s ≡ turn.Pass t → is_end (class_at i) ≡ false
    → Derives ℕ (bind Lookahead ℕ lookahead (λ h. scan_step ℕ (skip_turn f h.class s))) i t (next i)
item_of f s i t e some = (lookahead_of i, i, (refl, refl), subst (λ w. Derives ℕ (scan_step ℕ w) i t (next i)) (sym e) (tt, next i, (some, refl), (refl, refl)))

-- a turn that passes a token, before more of them
one_more : (f : TokenClass → Bool) (s : ℕ) (i : Input) (t n u : ℕ) (j : Input) → skip_turn f (class_at i) s ≡ turn.Pass t → is_end (class_at i) ≡ false → Scans f n t (next i) u j → Scans f (suc n) s i u j
one_more f s i t n u j e some more = (ap is_stop e, t, next i, item_of f s i t e some, omega arith, more)

-- ---- the turn by its tests

abbrev turn_by : Bool → Bool → Bool → Bool → ℕ → Turn ℕ
turn_by o c s p d = cond o (turn.Pass (d + 1)) (cond c (close_turn d) (cond s turn.Stop (cond p (turn.Refuse Unexpected) (turn.Pass d))))

stop_means : (o c st p : Bool) (d : ℕ) → is_stop (turn_by o c (is_outside d && st) p d) ≡ true → (d ≡ 0) × (not o && (c || st) ≡ true)
stop_means true c st p d e = absurd cc
stop_means false true st p zero e = (refl, refl)
stop_means false true st p (suc d) e = absurd cc
stop_means false false true p zero e = (refl, refl)
stop_means false false true true (suc d) e = absurd cc
stop_means false false true false (suc d) e = absurd cc
stop_means false false false true zero e = absurd cc
stop_means false false false true (suc d) e = absurd cc
stop_means false false false false zero e = absurd cc
stop_means false false false false (suc d) e = absurd cc

means_stop : (o c st p : Bool) → not o && (c || st) ≡ true → is_stop (turn_by o c (true && st) p 0) ≡ true
means_stop true c st p e = absurd cc
means_stop false true st p e = refl
means_stop false false true p e = refl
means_stop false false false p e = absurd cc

-- the ways in which a token is passed: a brace that opens, one that closes another, any other token
abbrev Ways : Bool → Bool → Bool → Bool → ℕ → ℕ → Type 0
Ways o c s p d t = ((o ≡ true) × (t ≡ suc d)) ⊎ (((c ≡ true) × (d ≡ suc t)) ⊎ ((o ≡ false) × (c ≡ false) × (s ≡ false) × (p ≡ false) × (t ≡ d)))

pass_parts : (s t : ℕ) → ◌≡◌ {A = Turn ℕ} (turn.Pass s) (turn.Pass t) → s ≡ t
pass_parts s t e = cc

pass_means : (o c s p : Bool) (d t : ℕ) → turn_by o c s p d ≡ turn.Pass t → Ways o c s p d t
pass_means true c s p d t e = inl (refl, sym (pass_parts (d + 1) t e) ∙ add-one d)
pass_means false true s p zero t e = absurd cc
pass_means false true s p (suc d) t e = inr (inl (refl, ap suc (pass_parts d t e)))
pass_means false false true p d t e = absurd cc
pass_means false false false true d t e = absurd cc
pass_means false false false false d t e = inr (inr (refl, refl, refl, refl, sym (pass_parts d t e)))

same_symbol : (b : ℕ) (q : TokenClass) → same_class (class.Symbol b) q ≡ true → q ≡ class.Symbol b
same_symbol b class.End e = absurd cc
same_symbol b (class.Word k) e = absurd cc
same_symbol b (class.Directive k) e = absurd cc
same_symbol b class.Quoted e = absurd cc
same_symbol b class.Number e = absurd cc
same_symbol b class.Text e = absurd cc
same_symbol b (class.Symbol c) e = ap class.Symbol (sym (eqb-true b c e))
same_symbol b class.Colons e = absurd cc
same_symbol b class.Percents e = absurd cc

and_both : (a b : Bool) → a && b ≡ true → (a ≡ true) × (b ≡ true)
and_both true b e = (refl, e)
and_both false b e = absurd cc

both_and : (a b : Bool) → a ≡ true → b ≡ true → a && b ≡ true
both_and true b e f = f
both_and false b e f = absurd cc

not_true : (a : Bool) → not a ≡ true → a ≡ false
not_true true e = absurd cc
not_true false e = refl

-- ---- what is in pairs is passed over

-- the test of a token at which to stop, within so many open braces
abbrev stops_in : (TokenClass → Bool) → ℕ → TokenClass → Bool
stops_in f d q = is_outside d && f q

spells_parts : (ps qs : List TokenClass) (i k : Input) → Spells (ps ++ qs) i k → (m : Input) × Spells ps i m × Spells qs m k
spells_parts [] qs i k h = (i, refl, h)
spells_parts (p ∷ ps) qs i k h = let w = spells_parts ps qs (next i) k h.1 in (w.0, (h.0, w.1), w.2)

plain_turn : (f : TokenClass → Bool) (d : ℕ) (q : TokenClass) → IsTrue (is_plain q) → stops_in f d q ≡ false → (skip_turn f q d ≡ turn.Pass d) × (is_end q ≡ false)
plain_turn f d q plain s =
    let a = and_both (not (is_end q) && not (same_class opening q) && not (same_class closing q)) (not (same_class class.Percents q)) plain in
    let b = and_both (not (is_end q) && not (same_class opening q)) (not (same_class closing q)) a.0 in
    let c = and_both (not (is_end q)) (not (same_class opening q)) b.0 in (
      tests (same_class opening q) (same_class closing q) (stops_in f d q) (same_class class.Percents q) (not_true (same_class opening q) c.1) (not_true (same_class closing q) b.1) s
          (not_true (same_class class.Percents q) a.1),
      not_true (is_end q) c.0,
    )
  where
    tests : (o c s p : Bool) → o ≡ false → c ≡ false → s ≡ false → p ≡ false → turn_by o c s p d ≡ turn.Pass d
    tests false false false false g h k l = refl
    tests true c s p g h k l = absurd cc
    tests false true s p g h k l = absurd cc
    tests false false true p g h k l = absurd cc
    tests false false false true g h k l = absurd cc

pass_through : (f : TokenClass → Bool) (b : Paired) (d : ℕ) (i k : Input) → ArePlain (stops_in f d) b → Spells (spelled b) i k → (n t : ℕ) (j : Input) → Scans f n d k t j → (m : ℕ) × Scans f m d i t j
pass_through f nothing d i k plain s n t j h = (n, subst (λ l. Scans f n d l t j) (sym s) h)
pass_through f (token q more) d i k plain s n t j h =
    let below = pass_through f more d (next i) k plain.2 s.1 n t j h in
    let here = plain_turn f d q plain.0 plain.1 in
    (suc below.0, one_more f d i d below.0 t j (ap (λ p. skip_turn f p d) s.0 ∙ here.0) (ap is_end s.0 ∙ here.1) below.1)
pass_through f (group inner more) d i k plain s n t j h =
    let parts = spells_parts (spelled inner) (closing ∷ spelled more) (next i) k s.1 in
    let after = pass_through f more d (next parts.0) k plain.1 parts.2.1 n t j h in
    let closed = one_more f (suc d) parts.0 d after.0 t j (ap (λ p. skip_turn f p (suc d)) parts.2.0) (ap is_end parts.2.0) after.1 in
    let within = pass_through f inner (suc d) (next i) parts.0 plain.0 parts.1 (suc after.0) t j closed in
    (suc within.0, one_more f d i (suc d) within.0 t j (ap (λ p. skip_turn f p d) s.0 ∙ ap turn.Pass (add-one d)) (ap is_end s.0) within.1)

pub skip_complete : (f : TokenClass → Bool) (i : Input) (d : ℕ) (j : Input) → (d ≡ 0) × IsSkipped f i j → Derives ℕ (skip f) i d j
unfolding skip scan
skip_complete f i d j h =
    let s = h.1 in
    let stops = means_stop (same_class opening (class_at j)) (same_class closing (class_at j)) (f (class_at j)) (same_class class.Percents (class_at j)) s.3 in
    pass_through f s.0 0 i j s.1 s.2 0 d j (stops, sym h.0, refl)

-- ---- what is passed over is in pairs

-- the parts at each count of open braces, from the innermost, which braces that close part
abbrev joined : Paired → List Paired → List TokenClass
joined b [] = spelled b
joined b (c ∷ cs) = spelled b ++ closing ∷ joined c cs

abbrev ArePlainIn : (TokenClass → Bool) → Paired → List Paired → Type 0
ArePlainIn f b [] = ArePlain f b
ArePlainIn f b (c ∷ cs) = ArePlain (λ q. false) b × ArePlainIn f c cs

record Through (f : TokenClass → Bool) (d : ℕ) (i : Input) (t : ℕ) (j : Input) : Type 0 where
  over : t ≡ 0
  inner : Paired
  outer : List Paired
  count : length outer ≡ d
  plain : ArePlainIn f inner outer
  spells : Spells (joined inner outer) i j
  ends : IsTrue (ends_at f (class_at j))

plain_group : (f : TokenClass → Bool) (b c : Paired) (cs : List Paired) → ArePlainIn f b (c ∷ cs) → ArePlainIn f (group b c) cs
plain_group f b c [] h = (h.0, h.1)
plain_group f b c (e ∷ es) h = ((h.0, h.1.0), h.1.1)

joined_group : (b c : Paired) (cs : List Paired) → joined (group b c) cs ≡ opening ∷ joined b (c ∷ cs)
joined_group b c [] = refl
joined_group b c (e ∷ es) = ap (λ ps. opening ∷ ps) (append_assoc (spelled b) (closing ∷ spelled c) (closing ∷ joined e es))

plain_token : (f : TokenClass → Bool) (q : TokenClass) (b : Paired) (cs : List Paired) (d : ℕ) → length cs ≡ d → IsTrue (is_plain q) → stops_in f d q ≡ false → ArePlainIn f b cs → ArePlainIn f (token q b) cs
plain_token f q b [] d n p s h = (p, ap (λ e. stops_in f e q) n ∙ s, h)
plain_token f q b (e ∷ es) d n p s h = ((p, refl, h.0), h.1)

joined_token : (q : TokenClass) (b : Paired) (cs : List Paired) → joined (token q b) cs ≡ q ∷ joined b cs
joined_token q b [] = refl
joined_token q b (e ∷ es) = refl

is_plain_from : (q : TokenClass) → is_end q ≡ false → same_class opening q ≡ false → same_class closing q ≡ false → same_class class.Percents q ≡ false → IsTrue (is_plain q)
is_plain_from q e o c p =
    both_and (not (is_end q) && not (same_class opening q) && not (same_class closing q)) (not (same_class class.Percents q))
    (both_and (not (is_end q) && not (same_class opening q)) (not (same_class closing q)) (both_and (not (is_end q)) (not (same_class opening q)) (ap not e) (ap not o)) (ap not c)) (ap not p)

onward : (f : TokenClass → Bool) (d u : ℕ) (i : Input) (t : ℕ) (j : Input) → is_end (class_at i) ≡ false
    → Ways (same_class opening (class_at i)) (same_class closing (class_at i)) (stops_in f d (class_at i)) (same_class class.Percents (class_at i)) d u
    → Through f u (next i) t j → Through f d i t j
onward f d u i t j some (inl w) h = go h.outer refl
  where
    go : (cs : List Paired) → h.outer ≡ cs → Through f d i t j
    go [] e = let n = ap length (sym e) ∙ h.count ∙ w.1 in absurd (omega arith)
    go (c ∷ cs) e =
        let n = ap length (sym e) ∙ h.count ∙ w.1 in
        record {
          over = h.over;
          inner = group h.inner c;
          outer = cs;
          count = omega arith;
          plain = plain_group f h.inner c cs (subst (ArePlainIn f h.inner) e h.plain);
          spells = subst (λ qs. Spells qs i j) (sym (joined_group h.inner c cs))
              (same_symbol 123 (class_at i) w.0, subst (λ xs. Spells (joined h.inner xs) (next i) j) e h.spells);
          ends = h.ends;
        }
onward f d u i t j some (inr (inl w)) h = record {
  over = h.over;
  inner = nothing;
  outer = h.inner ∷ h.outer;
  count = let n = h.count in let m = w.1 in omega arith;
  plain = (tt, h.plain);
  spells = (same_symbol 125 (class_at i) w.0, h.spells);
  ends = h.ends;
}
onward f d u i t j some (inr (inr w)) h = record {
  over = h.over;
  inner = token (class_at i) h.inner;
  outer = h.outer;
  count = h.count ∙ w.4;
  plain = plain_token f (class_at i) h.inner h.outer d (h.count ∙ w.4) (is_plain_from (class_at i) some w.0 w.1 w.3) w.2 h.plain;
  spells = subst (λ qs. Spells qs i j) (sym (joined_token (class_at i) h.inner h.outer)) (refl, h.spells);
  ends = h.ends;
}

through : (f : TokenClass → Bool) (n d : ℕ) (i : Input) (t : ℕ) (j : Input) → Scans f n d i t j → Through f d i t j
through f zero d i t j h =
    let w = stop_means (same_class opening (class_at i)) (same_class closing (class_at i)) (f (class_at i)) (same_class class.Percents (class_at i)) d h.0 in
    record {
      over = sym h.1 ∙ w.0;
      inner = nothing;
      outer = [];
      count = sym w.0;
      plain = tt;
      spells = h.2;
      ends = subst (λ k. IsTrue (ends_at f (class_at k))) h.2 w.1;
    }
through f (suc n) d i t j h =
    let w = item_means f d i h.1 h.2 h.3 in
    onward f d h.1 i t j w.1 (pass_means (same_class opening (class_at i)) (same_class closing (class_at i)) (stops_in f d (class_at i)) (same_class class.Percents (class_at i)) d h.1 w.0)
    (subst (λ k. Through f h.1 k t j) (sym w.2) (through f n h.1 h.2 t j h.5))

pub skip_sound : (f : TokenClass → Bool) (i : Input) (d : ℕ) (j : Input) → Derives ℕ (skip f) i d j → (d ≡ 0) × IsSkipped f i j
unfolding skip scan
skip_sound f i d j h = go (through f h.0 0 i d j h.1)
  where
    alone : (b : Paired) (cs : List Paired) → length cs ≡ 0 → ArePlainIn f b cs → Spells (joined b cs) i j → IsTrue (ends_at f (class_at j)) → IsSkipped f i j
    alone b [] n p s e = (b, p, s, e)
    alone b (c ∷ cs) n p s e = absurd (omega arith)

    go : Through f 0 i d j → (d ≡ 0) × IsSkipped f i j
    go w = (w.over, alone w.inner w.outer w.count w.plain w.spells w.ends)
