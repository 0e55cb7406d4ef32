-- What a world says of types and tokens, by their numbers.
use Rattle.std.specs.Prelude.{◌≡◌, ℕ, List}
use Rattle.vsd_compat.specs.Matrices.{bits_of}
use Rattle.vsd_itable.specs.BitList.{bits_list}
use Rattle.vsd_itable.specs.Tables.{cmp_of, sel_of, tokens_count, types_count}
use Rattle.vsd_itable.specs.Value.{Value}
use Rattle.vsd_itable.specs.declared.world.World.{World}

-- the target of each type and token, type by type
abbrev pub sel_in : World → List ℕ
sel_in w = w.targets.entries.items

-- for each two types, first by first, 1 where the first is compatible with the second, else 0
abbrev pub cmp_in : World → List ℕ
cmp_in w = bits_list w.types (bits_of w.variances.matrix)

-- the types and the tokens of tables, with the tables' answers
pub record IsWorldOf (v : Value) (w : World) : Type 0 where
  pub types : w.types ≡ types_count v
  pub tokens : w.tokens ≡ tokens_count v
  pub sel : sel_in w ≡ sel_of v
  pub cmp : cmp_in w ≡ cmp_of v
