-- What operations are refused for is what the first that can't be made is refused for.
use Rattle.std.proofs.Common.{◌≡◌, ℕ, List, [], ◌∷◌, Result, Ok, Err, refl, ap, ◌∙◌}
use Rattle.vsd_lanes.specs.declared.tree.Written.{Written}
use Rattle.vsd_lanes.specs.declared.tree.Running.{Running}
use Rattle.vsd_lanes.specs.declared.tree.Refusal.{Refusal}
use Rattle.vsd_lanes.specs.Meaning.{and_then, once, makes}
use Rattle.vsd_lanes.specs.Laws.{IsFirstRefused, RefusesTheFirst}
use Rattle.vsd_lanes.proofs.Making.{makes_append, makes_none}

makes-cons : (room : ℕ) (w : Written) (ws : List Written) (s : Running) → makes room (w ∷ ws) s ≡ and_then (once room w s) (makes room ws)
unfolding makes
makes-cons room w ws s = refl

first_of : (room : ℕ) (ws : List Written) (s : Running) (r : Refusal) → makes room ws s ≡ Err r → IsFirstRefused room ws s r
unfolding makes
first_of room [] s r e = absurd cc
first_of room (w ∷ ws) s r e = go (λ t. first_of room ws t r) (once room w s) refl e
  where
    go : ((t : Running) → makes room ws t ≡ Err r → IsFirstRefused room ws t r) → (o : Result Running Refusal) → once room w s ≡ o → and_then o (makes room ws) ≡ Err r
        → IsFirstRefused room (w ∷ ws) s r
    go rest (Err q) f g =
        let same : q ≡ r = cc in
        record { before = []; here = w; after = ws; whole = refl; made = s; makes_before = makes_none room s; refused = f ∙ ap Err same }
    go rest (Ok t) f g =
        let k = rest t g in
        record {
          before = w ∷ k.before;
          here = k.here;
          after = k.after;
          whole = ap (λ l. w ∷ l) k.whole;
          made = k.made;
          makes_before = makes-cons room w k.before s ∙ ap (λ o. and_then o (makes room k.before)) f ∙ k.makes_before;
          refused = k.refused;
        }

refused_by : (room : ℕ) (ws : List Written) (s : Running) (r : Refusal) → IsFirstRefused room ws s r → makes room ws s ≡ Err r
refused_by room ws s r k =
    ap (λ l. makes room l s) k.whole ∙ makes_append room k.before (k.here ∷ k.after) s ∙ ap (λ o. and_then o (makes room (k.here ∷ k.after))) k.makes_before
    ∙ makes-cons room k.here k.after k.made ∙ ap (λ o. and_then o (makes room k.after)) k.refused

pub refuses_the_first : RefusesTheFirst
refuses_the_first room ws s r = (first_of room ws s r, refused_by room ws s r)
