-- What a call's look at its cell finds, as its program has it, and what it tells.
use Rattle.std.specs.Prelude.{ℕ}
use Rattle.vsd_words.specs.declared.handle.Handle.{Handle}
use Rattle.vsd_rule.specs.declared.view.View.{View}
use Rattle.vsd_rule.specs.Evidence.{HasEvidence}
use Rattle.vsd_trails.specs.CallTrails.{Stubbed, stub_hit, stub_miss}
use Rattle.vsd_calls.specs.declared.stubs.CellLook.{CellLook}
use Rattle.vsd_calls.specs.declared.stubs.CellLook.TheVariants.{Hit, Miss}

abbrev pub stubbed_of : CellLook → Stubbed
stubbed_of (Hit target) = stub_hit target
stubbed_of (Miss expected) = stub_miss expected

-- a hit is evidence
abbrev pub LookTells : View → ℕ → Handle → CellLook → Type 0
LookTells v token h (Hit target) = HasEvidence v h token target
LookTells v token h (Miss expected) = Unit {0}
