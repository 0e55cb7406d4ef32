-- What a look into the resolve cache makes of the caller, and what its answer says.
use Rattle.std.specs.Prelude.{◌≡◌, ℕ}
use Rattle.vsd_words.specs.declared.handle.Handle.{Handle}
use Rattle.vsd_rule.specs.declared.view.View.{View}
use Rattle.vsd_rule.specs.Evidence.{HasEvidence}
use Rattle.vsd_trails.specs.declared.answers.Found.{Found}
use Rattle.vsd_trails.specs.declared.answers.Found.TheVariants.{Hit, Other, Empty}
use Rattle.vsd_rows.specs.Hands.{with_rows}

-- the caller may protect one row more and have one evidence more; nothing else has changed
abbrev pub Finds : View → View → Type 0
Finds old new = new ≡ with_rows old new (record old.rows { protected = new.rows.protected; evidences = new.rows.evidences })

-- a hit is evidence, and the other pair is another
abbrev pub FoundFor : View → ℕ → Handle → Found → Type 0
FoundFor v token h (Hit target) = HasEvidence v h token target
FoundFor v token h (Other g t) = g ≡ h → t ≡ token → ⊥
FoundFor v token h Empty = Unit {0}
