-- What the lines of a script name, by its tables.
use Rattle.std.specs.Prelude.{◌≡◌, ℕ, ◌<◌, List, length}
use Rattle.vsd_ast.specs.declared.scripts.Script.{Script}
use Rattle.vsd_lines.specs.Lines.{text_at}
use Rattle.vsd_itable.specs.Tables.{slot_text, tokens_count, types_count}
use Rattle.vsd_itable.specs.Value.{Value}
use Rattle.vsd_stages.specs.Noted.{AreTold}
use Rattle.vsd_stages.specs.Rooted.{AreTabled}

-- the token of each site, the texts of the methods that are selected, and of the tokens' slots
pub record IsNaming (v : Value) (s : Script) (sites : List ℕ) (methods slots : List (List ℕ)) : Type 0 where
  pub types : List ℕ
  pub tabled : AreTabled v s types sites
  pub told : (t : ℕ) → t < types_count v → AreTold v methods t (tokens_count v)
  pub count : length slots ≡ tokens_count v
  pub made : (k : ℕ) → k < tokens_count v → text_at slots k ≡ slot_text v k
