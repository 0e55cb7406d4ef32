-- The texts of what a script may have only so many of.
use Rattle.std.specs.Prelude.{ℕ, List, codes}
use Rattle.vsd_grammar.specs.declared.cause.Listed.{Listed}
use Rattle.vsd_grammar.specs.declared.cause.Listed.TheVariants as listed

unfoldable pub listed_text : Listed → List ℕ
listed_text listed.Sites = codes "sites"
listed_text listed.Hosts = codes "hosts"
listed_text listed.Lanes = codes "lanes"
