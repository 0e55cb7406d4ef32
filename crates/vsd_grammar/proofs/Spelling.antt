-- A name that is read has bytes.
use Rattle.std.proofs.Common.{◌≡◌, Bool, true, false, cond, List, ℕ, length, eqb, Result, Err, refl, ap, ◌∙◌}
use Rattle.vsd_grammar.specs.declared.cause.Cause.{Cause}
use Rattle.vsd_grammar.specs.declared.cause.Cause.TheVariants.{Unexpected}
use Rattle.vsd_grammar.specs.Input.{Input, class_at, bytes_at}
use Rattle.vsd_grammar.specs.Grammar.{Derives}
use Rattle.vsd_grammar.specs.Productions.{is_name, checked, name_by, spelled_name, name}
use Rattle.vsd_grammar.proofs.Deciding.{name_begins}

pub spelled_some : (i : Input) (x : List ℕ) (j : Input) → Derives (List ℕ) spelled_name i x j → eqb (length (bytes_at i)) 0 ≡ false
unfolding spelled_name
spelled_some i x j d = ap (λ h. eqb (length h.bytes) 0) d.2.0 ∙ go (is_name d.0.class) d.3
  where
    more : (e : Bool) (r : Result (List ℕ) Cause) → Derives (List ℕ) (checked (List ℕ) (cond e (Err Unexpected) r)) d.1 x j → e ≡ false
    more true r g = absurd g
    more false r g = refl

    go : (b : Bool) → Derives (List ℕ) (checked (List ℕ) (name_by b d.0.bytes)) d.1 x j → eqb (length d.0.bytes) 0 ≡ false
    go false g = absurd g
    go true g = more (eqb (length d.0.bytes) 0) _ g

pub name_some : (i : Input) (x : List ℕ) (j : Input) → Derives (List ℕ) name i x j → (is_name (class_at i) ≡ true) × (eqb (length (bytes_at i)) 0 ≡ false)
unfolding name
name_some i x j d = (name_begins i x j d, spelled_some i d.0 d.1 d.2)
