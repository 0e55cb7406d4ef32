-- Ranks and rows of the declarations of one depth.
use Rattle.std.proofs.Common.{◌≡◌, ℕ, ◌+◌, ◌*◌, ◌<◌, ◌≤◌, List, Option, length, get_or, set, inl, inr, arith}
use Rattle.std.proofs.lemmas.Bool.{cases_lt}
use Rattle.vsd_ast.specs.declared.declarations.Decl.{Decl}
use Rattle.vsd_layers.specs.Layers.{IsNextAt, or_end}
use Rattle.vsd_layers.proofs.LayerLemmas.{before_end, none_between}
use Rattle.vsd_roots.specs.Methods.{TabulatesRow}
use Rattle.vsd_roots.specs.Order.{TabulatesBelow, rank}
use Rattle.vsd_roots.specs.declared.place.Place.{Place}
use Rattle.vsd_roots.proofs.TableLemmas.{below-set, below-skip}

-- no rank is between that of a number and that of the next declaration of the depth
pub layer_gap : (ds : List Decl) (depths : List ℕ) (depth from : ℕ) (next : Option ℕ) → length ds ≤ 1024 → length depths ≡ length ds → IsNextAt depths depth from next → (i : ℕ) → i < length ds → rank depths i < 1024 * depth + or_end next → rank depths i < 1024 * depth + from
layer_gap ds depths depth from next few long are i inside below =
    let end : or_end next ≤ 1024 = before_end depths depth from next (omega arith) are in
    elim (cases_lt (rank depths i) (1024 * depth + from)) [
      | inl lt ↦ lt
      | inr ge ↦ (
          let deep : get_or depths i 0 ≡ depth = omega arith in
          let lower : i < from = none_between depths depth from next are i (omega arith) deep (omega arith) in
          absurd (omega arith)
          )
    ]

-- every rank is below those of the depths that are no declaration's
pub all_below : (ds : List Decl) (depths : List ℕ) (count depth : ℕ) → length ds ≤ 1024 → length depths ≡ length ds → ((i : ℕ) → i < length depths → get_or depths i 0 < count) → count ≤ depth → (i : ℕ) → i < length ds → rank depths i < 1024 * depth
all_below ds depths count depth few long bound past i inside =
    let one = bound i (omega arith) in
    omega arith

-- the row of a declaration of the depth, and then as far as the next one of the depth
pub below-layer : {A : Type 0} (ds : List Decl) (depths : List ℕ) (Relates : Place → A → Type 0) (table : List (List A)) (depth at : ℕ) (next : Option ℕ) (row : List A) → length ds ≤ 1024 → length depths ≡ length ds → (at < length depths) × (get_or depths at 0 ≡ depth) → IsNextAt depths depth (at + 1) next → TabulatesRow ds Relates at row → TabulatesBelow ds depths (1024 * depth + at) Relates table → TabulatesBelow ds depths (1024 * depth + or_end next) Relates (set table at row)
below-layer ds depths Relates table depth at next row few long here are filled before =
    let inside : at < length ds = omega (arith, here.0) in
    let ranked : rank depths at ≡ 1024 * depth + at = omega (arith, here.1) in
    let step = below-set ds depths Relates table (1024 * depth + at) (1024 * depth + (at + 1)) at row few inside ranked (omega arith) filled before in
    below-skip ds depths Relates (set table at row) (1024 * depth + (at + 1)) (1024 * depth + or_end next) (layer_gap ds depths depth (at + 1) next few long are) step
