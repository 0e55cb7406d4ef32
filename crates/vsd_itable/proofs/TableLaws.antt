-- Tables from their parts.
use Rattle.std.proofs.Common.{◌≡◌, ℕ, ◌<◌, ◌↔◌, All, length, sym, ap, ◌∙◌}
use Rattle.vsd_types.specs.Types.{type_at}
use Rattle.vsd_rule.specs.Lists.{entry}
use Rattle.vsd_compat.specs.Compatibility.{IsCompatible}
use Rattle.vsd_compat.specs.Matrices.{IsMatrixOf, bits_of}
use Rattle.vsd_itable.specs.Filling.{AreTargetsTo}
use Rattle.vsd_itable.specs.Tables.{AreTables, IsListed, IsToken, cmp_of, sel_of, tokens_count, types_count}
use Rattle.vsd_itable.specs.Value.{Value}
use Rattle.vsd_itable.proofs.BitLaws.{bit-entry}

-- the entry of two types tells whether they are compatible
pub entry-compatible : (v : Value) → IsMatrixOf v.closed v.matrix → (t u : ℕ) → t < types_count v → u < types_count v → (entry (cmp_of v) (types_count v) t u ≡ 1) ↔ IsCompatible v.closed.decls.list (type_at v.closed.types t) (type_at v.closed.types u)
entry-compatible v matrix t u t_in u_in =
    let read = bit-entry (types_count v) (bits_of v.matrix) t u t_in u_in in
    let exact = matrix.exact t u t_in u_in in (
      λ is. exact.0 (sym read ∙ is),
      λ fits. read ∙ exact.1 fits,
    )

pub tables-are : (v : Value) → All (IsToken v.closed) v.tokens → All (IsListed v.closed) v.methods → AreTargetsTo v.closed v.tokens v.methods (types_count v) (sel_of v) → IsMatrixOf v.closed v.matrix → AreTables v
tables-are v tokens methods targets matrix = record {
  tokens = tokens;
  methods = methods;
  targets_count = targets.long;
  targets = targets.each;
  compatible = entry-compatible v matrix;
}
