-- What is worked out of a closed list.
use Rattle.std.specs.Prelude.{◌≡◌}
use Rattle.vsd_types.specs.TypeList.{TypeList}
use Rattle.vsd_compat.specs.Matrices.{IsMatrixOf, bits_of}
use Rattle.vsd_compat.specs.declared.variances.Variances.{Variances}

-- made from this list: its matrix is the list's
abbrev pub AreVariancesOf : TypeList → Variances → Type 0
AreVariancesOf c v = IsMatrixOf c v.matrix

-- of as many types, with the same bits
pub record AreAlike (old new : Variances) : Type 0 where
  pub count : new.matrix.count ≡ old.matrix.count
  pub bits : bits_of new.matrix ≡ bits_of old.matrix
