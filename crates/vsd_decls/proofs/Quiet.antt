-- Productions that count no nodes and forget no name.
use Rattle.std.proofs.Common.{◌≡◌, ◌≤◌, Bool, true, false, ◌&&◌, eqb, leb, IsTrue, length, refl, ◌∙◌, arith}
use Rattle.std.proofs.lemmas.Bool.{eqb-true, eq-eqb, leb-true, le-leb, and_from}
use Rattle.vsd_grammar.specs.Input.{Input, State}
use Rattle.vsd_grammar.specs.Grammar.{G, Derives}
use Rattle.vsd_grammar.specs.Laws.{Behaves, any_cause}
use Rattle.vsd_grammar.proofs.Counts.{keeps_to}

-- as many nodes, and no fewer names
pub record Quiet (s t : State) : Type 0 where
  pub nodes : t.nodes ≡ s.nodes
  pub names : length s.names ≤ length t.names

-- the same as a test
abbrev pub quiet : State → State → Bool
quiet s t = eqb t.nodes s.nodes && leb (length s.names) (length t.names)

both : (a b : Bool) → (a && b) ≡ true → (a ≡ true) × (b ≡ true)
both true true e = (refl, refl)
both true false e = absurd cc
both false b e = absurd cc

quiet_says : (s t : State) → IsTrue (quiet s t) → Quiet s t
quiet_says s t h =
    let parts = both (eqb t.nodes s.nodes) (leb (length s.names) (length t.names)) h in
    record { nodes = eqb-true t.nodes s.nodes parts.0; names = leb-true (length s.names) (length t.names) parts.1 }

quiet_from : (s t : State) → Quiet s t → IsTrue (quiet s t)
quiet_from s t q = and_from (eqb t.nodes s.nodes) (leb (length s.names) (length t.names)) (eq-eqb t.nodes s.nodes q.nodes) (le-leb (length s.names) (length t.names) q.names)

pub quiet_here : (s : State) → Quiet s s
quiet_here s = record { nodes = refl; names = omega arith }

pub quiet_on : (s t u : State) → Quiet s t → Quiet t u → Quiet s u
quiet_on s t u h k = record { nodes = k.nodes ∙ h.nodes; names = omega (arith, h.names, k.names) }

abbrev pub IsQuiet : (A : Type 0) → G A → Type 0
IsQuiet A g = Behaves any_cause quiet A g

pub quiet_by : (A : Type 0) (g : G A) → IsQuiet A g → (i : Input) (x : A) (j : Input) → Derives A g i x j → Quiet i.state j.state
quiet_by A g b i x j d = quiet_says i.state j.state
    (keeps_to any_cause quiet (λ s. quiet_from s s (quiet_here s)) (λ s t u h k. quiet_from s u (quiet_on s t u (quiet_says s t h) (quiet_says t u k))) A g i x j b d)
