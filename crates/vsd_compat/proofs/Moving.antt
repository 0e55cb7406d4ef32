-- Steps one after another.
use Rattle.std.proofs.Common.{◌≡◌, Bool, true, false, ◌||◌, sum, ◌∙◌, refl, ap, arith}
use Rattle.vsd_compat.specs.declared.matrix.Matrix.{Matrix}
use Rattle.vsd_compat.specs.Matrices.{Bits}
use Rattle.vsd_compat.specs.Moving.{Moves}

pub Moves-none : (m : Matrix) → Moves m m false
Moves-none m = record { count = refl; width = refl; kept = λ t u h. h; stays = λ _. refl; grows = λ h. absurd cc }

pub Moves-twice : (a b c : Matrix) (p q : Bool) → Moves a b p → Moves b c q → Moves a c (p || q)
Moves-twice a b c false false first second = record {
  count = second.count ∙ first.count;
  width = second.width ∙ first.width;
  kept = λ t u h. second.kept t u (first.kept t u h);
  stays = λ _. second.stays refl ∙ first.stays refl;
  grows = λ h. absurd cc;
}
Moves-twice a b c false true first second = record {
  count = second.count ∙ first.count;
  width = second.width ∙ first.width;
  kept = λ t u h. second.kept t u (first.kept t u h);
  stays = λ h. absurd cc;
  grows = λ _. omega (arith, second.grows refl, ap (λ (x : Bits). sum x.words) (first.stays refl));
}
Moves-twice a b c true false first second = record {
  count = second.count ∙ first.count;
  width = second.width ∙ first.width;
  kept = λ t u h. second.kept t u (first.kept t u h);
  stays = λ h. absurd cc;
  grows = λ _. omega (arith, first.grows refl, ap (λ (x : Bits). sum x.words) (second.stays refl));
}
Moves-twice a b c true true first second = record {
  count = second.count ∙ first.count;
  width = second.width ∙ first.width;
  kept = λ t u h. second.kept t u (first.kept t u h);
  stays = λ h. absurd cc;
  grows = λ _. omega (arith, first.grows refl, second.grows refl);
}

pub both_false : (p q : Bool) → (p || q) ≡ false → (p ≡ false) × (q ≡ false)
both_false false false h = (refl, refl)
both_false false true h = absurd cc
both_false true q h = absurd cc
