-- Sound marks with a level at each place are levels.
use Rattle.std.proofs.Common.{◌≡◌, ℕ, ◌<◌, suc, List, [], ◌∷◌, length, map, get_or, refl, sym, ap, ◌∙◌}
use Rattle.std.proofs.Math.ListN.{get_or-map}
use Rattle.std.proofs.lemmas.List.{length-map}
use Rattle.vsd_terms.specs.Size.{greatest}
use Rattle.vsd_graph.specs.declared.levels.Mark.{Mark}
use Rattle.vsd_graph.specs.declared.levels.Mark.TheVariants.{Unseen}
use Rattle.vsd_graph.specs.Graph.{AreLevels, targets}
use Rattle.vsd_graph.specs.Marks.{AreSound, HasLevel, level_at, level_in}

map-same : (f h : ℕ → ℕ) → ((n : ℕ) → f n ≡ h n) → (xs : List ℕ) → map f xs ≡ map h xs
map-same f h same [] = refl
map-same f h same (x ∷ xs) = let here = same x in let rest = map-same f h same xs in cc

pub AreLevels-marks : (g : List (List ℕ)) (ms : List Mark) → AreSound g ms → ((i : ℕ) → i < length g → HasLevel ms i) → AreLevels g (map level_in ms)
AreLevels-marks g ms sound all =
    let read : (i : ℕ) → get_or (map level_in ms) i 0 ≡ level_at ms i = λ i. get_or-map level_in ms i Unseen in
    record {
      count = length-map ms level_in ∙ sound.count;
      each = λ i within. read i ∙ sound.right i (all i within) ∙ ap (λ ls. suc (greatest ls)) (sym (map-same (λ j. get_or (map level_in ms) j 0) (level_at ms) read (targets g i)));
    }
