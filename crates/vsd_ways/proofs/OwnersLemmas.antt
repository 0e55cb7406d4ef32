-- The owners that are asked for at once.
use Rattle.std.proofs.Common.{◌≡◌, ℕ, zero, suc, ◌<◌, List, [], ◌∷◌, length, map, take, get_or, refl, ◌∙◌, Some, Bor, arith}
use Rattle.std.specs.List.{slice_get}
use Rattle.std.proofs.lemmas.List.{length-map, length-take}
use Rattle.std.proofs.lemmas.Option.{slice_get_within}
use Rattle.vsd_terms.specs.declared.term.Term.{Term}
use Rattle.vsd_terms.proofs.PlaceLemmas.{slice_get-map_at}
use Rattle.vsd_ways.specs.Known.{owners_in}

pub slice_get-take : {A : Type 0} (n : ℕ) (xs : List A) (i : ℕ) → i < n → slice_get (take n xs) i ≡ slice_get xs i
slice_get-take zero xs i within = absurd (omega arith)
slice_get-take (suc n) [] i within = refl
slice_get-take (suc n) (x ∷ xs) zero within = refl
slice_get-take (suc n) (x ∷ xs) (suc i) within = slice_get-take n xs i (omega arith)

pub asked_at : (owners : List (Bor Term)) (o : ℕ) (x : Bor Term) → o < length owners → o < 64 → x ≡ get_or owners o x → slice_get (owners_in owners) o ≡ Some x.now
unfolding owners_in
asked_at owners o x inside few here =
    slice_get-take 64 (map (λ (owner : Bor Term). owner.now) owners) o few ∙ slice_get-map_at (λ (owner : Bor Term). owner.now) owners o x inside here

pub asked_within : (owners : List (Bor Term)) (o : ℕ) (t : Term) → slice_get (owners_in owners) o ≡ Some t → (o < length owners) × (o < 64)
unfolding owners_in
asked_within owners o t here =
    let all = map (λ (owner : Bor Term). owner.now) owners in
    let within : o < length (take 64 all) = slice_get_within (take 64 all) o t here in
    (omega (arith, within, length-take 64 all, length-map owners (λ (owner : Bor Term). owner.now)), omega (arith, within, length-take 64 all))
