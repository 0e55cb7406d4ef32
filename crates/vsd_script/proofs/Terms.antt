-- What a term that is read by itself is.
use Rattle.std.proofs.Common.{◌≡◌, ℕ, ◌≤◌, List, [], length, Ok, ap, sym, subst, ◌∙◌, arith}
use Rattle.std.proofs.lemmas.List.{length-map}
use Rattle.vsd_text.specs.declared.tokens.Token.{Token}
use Rattle.vsd_ast.specs.declared.declarations.Decls.{Decls}
use Rattle.vsd_grammar.specs.Input.{Input}
use Rattle.vsd_grammar.specs.Grammar.{Derives, run}
use Rattle.vsd_grammar.specs.Place.{seen_of, start_of}
use Rattle.vsd_grammar.proofs.Consequences.{goes_forward}
use Rattle.vsd_grammar.proofs.Soundness.{sound}
use Rattle.vsd_lanes.specs.Types.{IsRoot}
use Rattle.vsd_lanes.proofs.RootLemmas.{open_root}
use Rattle.vsd_script.specs.declared.term.ReadTerm.{ReadTerm}
use Rattle.vsd_script.specs.Productions.{term_at}

pub term_root : (d : Decls) (i : Input) (r : ReadTerm) (j : Input) → Derives ReadTerm (term_at d) i r j → IsRoot d.list r.term
unfolding term_at
term_root d i r j g = subst (λ (read : ReadTerm). IsRoot d.list read.term) g.3.3.0 (open_root d i g.0 g.1 g.2)

-- it ends at the token that is told
ends : (d : Decls) (i : Input) (r : ReadTerm) (j : Input) → Derives ReadTerm (term_at d) i r j → r.next ≡ j.at
unfolding term_at
ends d i r j g =
    let next : g.3.0.index ≡ r.next = ap (λ (read : ReadTerm). read.next) g.3.3.0 in
    let looked : g.1.at ≡ g.3.0.index = ap (λ h. h.index) g.3.2.0 in
    let same : g.1.at ≡ j.at = ap (λ (k : Input). k.at) (g.3.2.1 ∙ g.3.3.1) in
    sym next ∙ sym looked ∙ same

pub term_after : (d : Decls) (text : List ℕ) (tokens : List Token) (at : ℕ) → at ≤ length tokens → (r : ReadTerm) (j : Input) → run ReadTerm (term_at d) (start_of text tokens at []) ≡ Ok (r, j)
    → (at ≤ r.next) × (r.next ≤ length tokens)
term_after d text tokens at inside r j e =
    let w = goes_forward ReadTerm (term_at d) (start_of text tokens at []) r j e in
    let n = length-map tokens (seen_of text) in
    let next = ends d (start_of text tokens at []) r j (sound ReadTerm (term_at d) (start_of text tokens at []) r j e) in
    let low = w.0 in
    let high = w.1 in
    (omega (arith, low, next), omega (arith, high, next, n, inside))
