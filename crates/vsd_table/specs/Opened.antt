-- What the table's rule says besides: the words are those of opening until some caller makes a step.
use Rattle.std.specs.Prelude.{◌≡◌, ◌≢◌, ℕ, ◌+◌, ◌<◌, List, [], ◌∷◌, length, slice_index}
use mathlib.Core.Option.{some}
use lib.ListN.{get_elem?}
use Rattle.vsd_rule.specs.declared.key.Key.{Key}
use Rattle.vsd_rule.specs.declared.step.Act.{Act}
use Rattle.vsd_rule.specs.declared.step.Act.TheVariants.{Split}
use Rattle.vsd_rule.specs.declared.step.Step.{Step}
use Rattle.vsd_rule.specs.declared.view.View.{View}
use Rattle.vsd_rule.specs.Layout.{word_count, handles_from}
use Rattle.vsd_rule.specs.Opening.{host_packing, opening_words}
use Rattle.vsd_rule.specs.Rule.{Rule}
use Rattle.vsd_table.specs.declared.shared.Shared.{Shared}
use Rattle.vsd_table.specs.Seating.{key_of}

-- a load of the first word, by which the next caller's seat is split off
abbrev pub IsSplit : Act → Type 0
IsSplit Split = Unit {0}
IsSplit act = ⊥

-- no step but such loads
abbrev pub OnlySplits : List Step → Type 0
OnlySplits [] = Unit {0}
OnlySplits (x ∷ xs) = IsSplit x.act × OnlySplits xs

-- no seat has made any other step: no caller any, and the root those by which the callers' seats were split off
abbrev pub NoneStepped : List View → Type 0
NoneStepped views = (seat : ℕ) (v : View) → get_elem? views seat ≡ some v → OnlySplits v.steps

-- The rule of the shared table. It began with the words of opening.
pub record Ruled (k : Key) (words : List ℕ) (views : List View) : Type 0 where
  pub rule : Rule k words views
  pub opened : NoneStepped views → words ≡ opening_words k

-- All words are 0, but for the handle words of the hosts, which are live and immortal at generation 1, each with the number of
-- its type.
pub record AreOpening (k : Key) (words : List ℕ) : Type 0 where
  pub long : length words ≡ word_count k.sizes
  pub hosts : (host : ℕ) → host < k.sizes.hosts → slice_index words (handles_from k.sizes + host) ≡ host_packing (slice_index k.world.host_types host)
  pub others : (index : ℕ) → ((host : ℕ) → host < k.sizes.hosts → index ≢ handles_from k.sizes + host) → slice_index words index ≡ 0

-- So the table's words are, wherever its rule holds and no caller has made a step.
abbrev pub IsOpened : Shared → Type 0
IsOpened table = (words : List ℕ) (views : List View) → Ruled (key_of table) words views → NoneStepped views → AreOpening (key_of table) words
