-- How the productions that both readers share behave: their causes, and that no name is forgotten.
use Rattle.std.proofs.Common.{ℕ, zero, suc, ◌+◌, Bool, true, false, cond, ltb, leb, ◌&&◌, IsTrue, List, length, eqb, position, Option, Some, None, Result, Ok, Err, MatchResult, IfErr, ◌++◌, ◌∷◌, [], arith, length-append}
use Rattle.std.proofs.lemmas.Bool.{le-leb, leb-true}
use Rattle.std.specs.Str.{bytes_eq}
use Rattle.vsd_grammar.specs.declared.token_class.TokenClass.{TokenClass}
use Rattle.vsd_grammar.specs.declared.token_class.TokenClass.TheVariants as class
use Rattle.vsd_grammar.specs.declared.turn.Turn.{Turn}
use Rattle.vsd_grammar.specs.declared.turn.Turn.TheVariants as turn
use Rattle.vsd_grammar.specs.declared.cause.Cause.{Cause}
use Rattle.vsd_grammar.specs.declared.cause.Cause.TheVariants.{Unexpected, TooMany, TooDeep}
use Rattle.vsd_grammar.specs.declared.cause.Counted.TheVariants as limit
use Rattle.vsd_grammar.specs.Input.{State, same_class}
use Rattle.vsd_grammar.specs.Productions.{expected, expect, required, must_see, eaten, eat, with_nodes, no_nodes, node, node_counted, node_at, number_by, number, checked, scan_step, scan, is_name, name_by, spelled_name, then_pass, name, numbered_name, plain_turn, plain_words, digits_from, in_range, number_of, spelled_number}
use Rattle.vsd_grammar.specs.Skipping.{opening, closing, close_turn, is_outside, skip_turn, skip}
use Rattle.vsd_grammar.specs.Laws.{Behaves}

if_err : {A : Type 0} (test : Cause → Bool) (b : Bool) (a : A) (cause : Cause) → IsTrue (test cause) → IfErr (cond {A = Result A Cause} b (Ok a) (Err cause)) (λ c. IsTrue (test c))
if_err test true a cause t = tt
if_err test false a cause t = t

-- no name is forgotten
abbrev pub grows : State → State → Bool
grows s t = leb (length s.names) (length t.names)

pub grows_same : (s : State) → IsTrue (grows s s)
grows_same s = le-leb (length s.names) (length s.names) (omega arith)

pub grows_on : (s t u : State) → IsTrue (grows s t) → IsTrue (grows t u) → IsTrue (grows s u)
grows_on s t u h k =
    let a = leb-true (length s.names) (length t.names) h in
    let b = leb-true (length t.names) (length u.names) k in
    le-leb (length s.names) (length u.names) (omega arith)

grows_by_one : (s : State) (bytes : List ℕ) → IsTrue (grows s (record s { names = s.names ++ bytes ∷ [] }))
grows_by_one s bytes = le-leb (length s.names) (length (s.names ++ bytes ∷ [])) (omega (arith, length-append s.names (bytes ∷ [])))

if_grows : {A : Type 0} (test : Cause → Bool) (b : Bool) (s t : State) (a : A) (cause : Cause) → IsTrue (grows s t) → IsTrue (test cause)
    → MatchResult (cond {A = Result (A × State) Cause} b (Ok (a, t)) (Err cause)) (λ r. IsTrue (grows s r.1)) (λ c. IsTrue (test c))
if_grows test true s t a cause h k = h
if_grows test false s t a cause h k = k

pub causes_number_by : (test : Cause → Bool) → IsTrue (test (TooMany limit.Names)) → (bytes : List ℕ) (s : State) (p : Option ℕ) → MatchResult (number_by bytes s p) (λ r. IsTrue (grows s r.1)) (λ c. IsTrue (test c))
causes_number_by test t bytes s (Some n) = grows_same s
causes_number_by test t bytes s None = if_grows test (ltb (length s.names) 2048) s _ (length s.names) (TooMany limit.Names) (grows_by_one s bytes) t

pub causes_number : (test : Cause → Bool) → IsTrue (test (TooMany limit.Names)) → (bytes : List ℕ) → Behaves test grows ℕ (number bytes)
unfolding number
causes_number test t bytes = λ s. causes_number_by test t bytes s (position (bytes_eq bytes) s.names)

pub causes_node : (test : Cause → Bool) → IsTrue (test TooDeep) → Behaves test grows (Unit {0}) node
unfolding node
causes_node test t = λ s. if_grows {A = Unit {0}} test (ltb s.nodes 64) s _ tt TooDeep (grows_same s) t

pub causes_node_at : (test : Cause → Bool) → IsTrue (test TooDeep) → (index : ℕ) → Behaves test grows (Unit {0}) (node_at index)
unfolding node_at
causes_node_at test t index = (λ s. counted s (ltb s.nodes 64), refused)
  where
    counted : (s : State) (b : Bool) → MatchResult (cond {A = Result (Bool × State) Cause} b (Ok (true, with_nodes s (s.nodes + 1))) (Ok (false, s))) (λ r. IsTrue (grows s r.1)) (λ c. IsTrue (test c))
    counted s true = grows_same s
    counted s false = grows_same s

    refused : (b : Bool) → Behaves test grows (Unit {0}) (node_counted index b)
    refused true = tt
    refused false = t

pub causes_no_nodes : (test : Cause → Bool) → Behaves test grows (Unit {0}) no_nodes
unfolding no_nodes
causes_no_nodes test = λ s. grows_same s

module _ (test : Cause → Bool) (keeps : State → State → Bool) (u : IsTrue (test Unexpected)) where
  pub causes_expect : (wanted : TokenClass) → Behaves test keeps (Unit {0}) (expect wanted)
  unfolding expect
  causes_expect wanted = (tt, λ h. go (same_class wanted h.class))
    where
      go : (b : Bool) → Behaves test keeps (Unit {0}) (expected b)
      go true = u
      go false = u

  pub causes_must_see : (wanted : TokenClass) → Behaves test keeps (Unit {0}) (must_see wanted)
  unfolding must_see
  causes_must_see wanted = (tt, λ h. go (same_class wanted h.class))
    where
      go : (b : Bool) → Behaves test keeps (Unit {0}) (required b)
      go true = tt
      go false = u

  pub causes_eat : (wanted : TokenClass) → Behaves test keeps Bool (eat wanted)
  unfolding eat
  causes_eat wanted = (tt, λ h. go (same_class wanted h.class))
    where
      go : (b : Bool) → Behaves test keeps Bool (eaten b)
      go true = (u, λ x. tt)
      go false = tt

  pub causes_then_pass : (A : Type 0) (a : A) → Behaves test keeps A (then_pass A a)
  causes_then_pass A a = (u, λ x. tt)

  pub causes_checked : (A : Type 0) (r : Result A Cause) → IfErr r (λ c. IsTrue (test c)) → Behaves test keeps A (checked A r)
  causes_checked A (Ok a) t = tt
  causes_checked A (Err cause) t = t

  -- the causes of a scan are those of its turns
  abbrev pub TurnPasses : {S : Type 0} → Turn S → Type 0
  TurnPasses (turn.Pass s) = Unit {0}
  TurnPasses (turn.Refuse cause) = IsTrue (test cause)
  TurnPasses turn.Stop = Unit {0}

  pub causes_scan : (S : Type 0) (f : TokenClass → S → Turn S) (s : S) → ((q : TokenClass) (t : S) → TurnPasses (f q t)) → Behaves test keeps S (scan S f s)
  unfolding scan
  causes_scan S f s turns = (u, λ t. (tt, λ h. go (f h.class t) (turns h.class t)))
    where
      go : (w : Turn S) → TurnPasses w → Behaves test keeps S (scan_step S w)
      go (turn.Pass v) p = (u, λ x. tt)
      go (turn.Refuse cause) p = p
      go turn.Stop p = u

  pub causes_plain_words : Behaves test keeps (Unit {0}) plain_words
  unfolding plain_words
  causes_plain_words = causes_scan (Unit {0}) plain_turn tt go
    where
      go : (q : TokenClass) (t : Unit {0}) → TurnPasses (plain_turn q t)
      go (class.Word k) t = tt
      go class.End t = tt
      go (class.Directive k) t = tt
      go class.Quoted t = tt
      go class.Number t = tt
      go class.Text t = tt
      go (class.Symbol b) t = tt
      go class.Colons t = tt
      go class.Percents t = tt

  pub causes_skip : (stops : TokenClass → Bool) → Behaves test keeps ℕ (skip stops)
  unfolding skip
  causes_skip stops = causes_scan ℕ (skip_turn stops) 0 (λ q d. go (same_class opening q) (same_class closing q) (is_outside d && stops q) (same_class class.Percents q) d)
    where
      closed : (d : ℕ) → TurnPasses (close_turn d)
      closed zero = tt
      closed (suc d) = tt

      go : (o c s p : Bool) (d : ℕ) → TurnPasses (cond o (turn.Pass (d + 1)) (cond c (close_turn d) (cond s turn.Stop (cond p (turn.Refuse Unexpected) (turn.Pass d)))))
      go true c s p d = tt
      go false true s p d = closed d
      go false false true p d = tt
      go false false false true d = u
      go false false false false d = tt

  pub causes_spelled_number : (low high most : ℕ) → Behaves test keeps ℕ (spelled_number low high most)
  unfolding spelled_number
  causes_spelled_number low high most = (tt, λ h. causes_checked ℕ (number_of (same_class class.Number h.class) low high most h.bytes) (go (same_class class.Number h.class) h.bytes))
    where
      ranged : (n : Option ℕ) → IfErr (in_range low high n) (λ c. IsTrue (test c))
      ranged None = u
      ranged (Some n) = if_err test (leb low n && leb n high) n Unexpected u

      few : (b : Bool) (r : Result ℕ Cause) → IfErr r (λ c. IsTrue (test c)) → IfErr (cond b (Err Unexpected) r) (λ c. IsTrue (test c))
      few true r t = u
      few false r t = t

      go : (b : Bool) (bytes : List ℕ) → IfErr (number_of b low high most bytes) (λ c. IsTrue (test c))
      go false bytes = u
      go true bytes = few (ltb most (length bytes)) (in_range low high (digits_from 0 bytes)) (ranged (digits_from 0 bytes))

  module _ (long : IsTrue (test (TooMany limit.NameBytes))) where
    pub causes_spelled_name : Behaves test keeps (List ℕ) spelled_name
    unfolding spelled_name
    causes_spelled_name = (tt, λ h. causes_checked (List ℕ) (name_by (is_name h.class) h.bytes) (go (is_name h.class) h.bytes))
      where
        bounded : (e l : Bool) (bytes : List ℕ) → IfErr (cond {A = Result (List ℕ) Cause} e (Err Unexpected) (cond l (Err (TooMany limit.NameBytes)) (Ok bytes))) (λ c. IsTrue (test c))
        bounded true l bytes = u
        bounded false true bytes = long
        bounded false false bytes = tt

        go : (b : Bool) (bytes : List ℕ) → IfErr (name_by b bytes) (λ c. IsTrue (test c))
        go false bytes = u
        go true bytes = bounded (eqb (length bytes) 0) (ltb 255 (length bytes)) bytes

    pub causes_name : Behaves test keeps (List ℕ) name
    unfolding name
    causes_name = (causes_spelled_name, λ bytes. causes_then_pass (List ℕ) bytes)

pub causes_numbered_name : (test : Cause → Bool) → IsTrue (test Unexpected) → IsTrue (test (TooMany limit.NameBytes)) → IsTrue (test (TooMany limit.Names)) → Behaves test grows ℕ numbered_name
unfolding numbered_name
causes_numbered_name test u long t = (causes_spelled_name test grows u long, λ bytes. (causes_number test t bytes, λ n. causes_then_pass test grows u ℕ n))
