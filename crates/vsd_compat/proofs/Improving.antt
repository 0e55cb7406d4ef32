-- Steps that improve a matrix, one after another.
use Rattle.std.proofs.Common.{◌≤◌, Bool, true, false, sum, refl, ap, ◌∙◌, arith}
use Rattle.vsd_types.specs.TypeList.{TypeList}
use Rattle.vsd_compat.specs.declared.matrix.Matrix.{Matrix}
use Rattle.vsd_compat.specs.Improving.{Improves}
use Rattle.vsd_compat.specs.Matrices.{Bits, bits_of}
use Rattle.vsd_compat.specs.Moving.{Moves}
use Rattle.vsd_compat.specs.Settling.{IsSound}

pub Improves-none : (c : TypeList) (m : Matrix) → Improves c m m
Improves-none c m = record { count = refl; width = refl; kept = λ t u h. h; rises = omega arith; sound = λ h. h }

pub Improves-twice : (c : TypeList) (a b d : Matrix) → Improves c a b → Improves c b d → Improves c a d
Improves-twice c a b d first second = record {
  count = second.count ∙ first.count;
  width = second.width ∙ first.width;
  kept = λ t u h. second.kept t u (first.kept t u h);
  rises = omega (arith, first.rises, second.rises);
  sound = λ h. second.sound (first.sound h);
}

rises : (old new : Matrix) (changed : Bool) → Moves old new changed → sum old.words.items ≤ sum new.words.items
rises old new true moves = omega (arith, moves.grows refl)
rises old new false moves = omega (arith, ap (λ (b : Bits). sum b.words) (moves.stays refl))

-- a step that says whether it changed anything
pub Improves-moves : (c : TypeList) (old new : Matrix) (changed : Bool) → Moves old new changed → (IsSound c (bits_of old) → IsSound c (bits_of new)) → Improves c old new
Improves-moves c old new changed moves sound = record {
  count = moves.count;
  width = moves.width;
  kept = moves.kept;
  rises = rises old new changed moves;
  sound = sound;
}
