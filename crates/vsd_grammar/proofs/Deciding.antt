-- The condition of completeness, for the productions that both readers share.
use Rattle.std.proofs.Common.{◌≡◌, ℕ, Bool, true, false, List, Result, Ok, Err, refl, ap, ◌∙◌}
use Rattle.vsd_grammar.specs.declared.token_class.TokenClass.{TokenClass}
use Rattle.vsd_grammar.specs.declared.turn.Turn.{Turn}
use Rattle.vsd_grammar.specs.declared.turn.Turn.TheVariants as turn
use Rattle.vsd_grammar.specs.declared.cause.Cause.{Cause}
use Rattle.vsd_grammar.specs.Input.{Input, class_at, same_class}
use Rattle.vsd_grammar.specs.Grammar.{Derives, Decides}
use Rattle.vsd_grammar.specs.Productions.{expected, expect, required, must_see, node_counted, node_at, eaten, eat, no_nodes, node, number, checked, scan_step, scan, is_name, name_by, spelled_name, then_pass, name, numbered_name, plain_turn, plain_words, number_of, spelled_number}
use Rattle.vsd_grammar.specs.Skipping.{skip, skip_turn}
use Rattle.vsd_grammar.specs.declared.token_class.TokenClass.TheVariants as class

-- any token may follow
abbrev pub anything : TokenClass → Bool
anything q = true

pub decides_expect : (wanted : TokenClass) (F : TokenClass → Bool) → Decides (Unit {0}) (expect wanted) F
unfolding expect
decides_expect wanted F = (anything, tt, λ h. (go (same_class wanted h.class), λ i y j e g. refl))
  where
    go : (b : Bool) → Decides (Unit {0}) (expected b) F
    go true = tt
    go false = tt

pub decides_eat : (wanted : TokenClass) (F : TokenClass → Bool) → Decides Bool (eat wanted) F
unfolding eat
decides_eat wanted F = (anything, tt, λ h. (go (same_class wanted h.class), λ i y j e g. refl))
  where
    go : (b : Bool) → Decides Bool (eaten b) F
    go true = (anything, tt, λ u. (tt, λ i y j e g. refl))
    go false = tt

pub decides_must_see : (wanted : TokenClass) (F : TokenClass → Bool) → Decides (Unit {0}) (must_see wanted) F
unfolding must_see
decides_must_see wanted F = (anything, tt, λ h. (go (same_class wanted h.class), λ i y j e g. refl))
  where
    go : (b : Bool) → Decides (Unit {0}) (required b) F
    go true = tt
    go false = tt

pub decides_node_at : (index : ℕ) (F : TokenClass → Bool) → Decides (Unit {0}) (node_at index) F
unfolding node_at
decides_node_at index F = (anything, tt, λ b. (go b, λ i y j e g. refl))
  where
    go : (b : Bool) → Decides (Unit {0}) (node_counted index b) F
    go true = tt
    go false = tt

pub decides_number : (bytes : List ℕ) (F : TokenClass → Bool) → Decides ℕ (number bytes) F
unfolding number
decides_number bytes F = tt

pub decides_node : (F : TokenClass → Bool) → Decides (Unit {0}) node F
unfolding node
decides_node F = tt

pub decides_no_nodes : (F : TokenClass → Bool) → Decides (Unit {0}) no_nodes F
unfolding no_nodes
decides_no_nodes F = tt

pub decides_checked : (A : Type 0) (r : Result A Cause) (F : TokenClass → Bool) → Decides A (checked A r) F
decides_checked A (Ok a) F = tt
decides_checked A (Err cause) F = tt

pub decides_scan : (S : Type 0) (f : TokenClass → S → Turn S) (s : S) (F : TokenClass → Bool) → Decides S (scan S f s) F
unfolding scan
decides_scan S f s F = (anything, λ t. ((anything, tt, λ h. (go (f h.class t), λ i y j e g. refl)), λ i x j d e. refl), λ q t e. refl)
  where
    go : (t : Turn S) → Decides S (scan_step S t) anything
    go (turn.Pass u) = (anything, tt, λ v. (tt, λ i y j e g. refl))
    go (turn.Refuse cause) = tt
    go turn.Stop = tt

pub decides_skip : (stops : TokenClass → Bool) (F : TokenClass → Bool) → Decides ℕ (skip stops) F
unfolding skip
decides_skip stops F = decides_scan ℕ (skip_turn stops) 0 F

pub decides_spelled_number : (low high most : ℕ) (F : TokenClass → Bool) → Decides ℕ (spelled_number low high most) F
unfolding spelled_number
decides_spelled_number low high most F =
    (anything, tt, λ h. (decides_checked ℕ (number_of (same_class class.Number h.class) low high most h.bytes) F, λ i y j e g. refl))

pub decides_spelled_name : (F : TokenClass → Bool) → Decides (List ℕ) spelled_name F
unfolding spelled_name
decides_spelled_name F = (anything, tt, λ h. (decides_checked (List ℕ) (name_by (is_name h.class) h.bytes) F, λ i y j e g. refl))

pub decides_then_pass : (A : Type 0) (a : A) (F : TokenClass → Bool) → Decides A (then_pass A a) F
decides_then_pass A a F = (anything, tt, λ u. (tt, λ i y j e g. refl))

pub decides_name : (F : TokenClass → Bool) → Decides (List ℕ) name F
unfolding name
decides_name F = (anything, decides_spelled_name anything, λ bytes. (decides_then_pass (List ℕ) bytes F, λ i y j e g. refl))

pub decides_numbered_name : (F : TokenClass → Bool) → Decides ℕ numbered_name F
unfolding numbered_name
decides_numbered_name F = (
  anything,
  decides_spelled_name anything,
  λ bytes. ((anything, decides_number bytes anything, λ n. (decides_then_pass ℕ n F, λ i y j e g. refl)), λ i y j e g. refl),
)

pub decides_plain_words : (F : TokenClass → Bool) → Decides (Unit {0}) plain_words F
unfolding plain_words
decides_plain_words F = decides_scan (Unit {0}) plain_turn tt F

-- ---- what a production begins with

pub expect_begins : (wanted : TokenClass) (i : Input) (x : Unit {0}) (j : Input) → Derives (Unit {0}) (expect wanted) i x j → same_class wanted (class_at i) ≡ true
unfolding expect
expect_begins wanted i x j d = go (same_class wanted d.0.class) refl d.3
  where
    go : (b : Bool) → same_class wanted d.0.class ≡ b → Derives (Unit {0}) (expected b) d.1 x j → same_class wanted (class_at i) ≡ true
    go true e f = ap (λ h. same_class wanted h.class) d.2.0 ∙ e
    go false e f = absurd f

pub must_see_begins : (wanted : TokenClass) (i : Input) (x : Unit {0}) (j : Input) → Derives (Unit {0}) (must_see wanted) i x j → same_class wanted (class_at i) ≡ true
unfolding must_see
must_see_begins wanted i x j d = go (same_class wanted d.0.class) refl d.3
  where
    go : (b : Bool) → same_class wanted d.0.class ≡ b → Derives (Unit {0}) (required b) d.1 x j → same_class wanted (class_at i) ≡ true
    go true e f = ap (λ h. same_class wanted h.class) d.2.0 ∙ e
    go false e f = absurd f

pub name_begins : (i : Input) (x : List ℕ) (j : Input) → Derives (List ℕ) name i x j → is_name (class_at i) ≡ true
unfolding name spelled_name
name_begins i x j d = ap (λ h. is_name h.class) d.2.2.0 ∙ go (is_name d.2.0.class) refl d.2.3
  where
    go : (b : Bool) → is_name d.2.0.class ≡ b → Derives (List ℕ) (checked (List ℕ) (name_by b d.2.0.bytes)) d.2.1 d.0 d.1 → is_name d.2.0.class ≡ true
    go true e f = e
    go false e f = absurd f
