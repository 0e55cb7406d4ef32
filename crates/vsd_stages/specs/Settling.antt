-- What a stage's function says of its result.
use Rattle.std.specs.Prelude.{◌≡◌, ℕ, List, map, length, Result, Ok, Err}
use Rattle.vsd_lines.specs.Lines.{CanWrite, text_at, text_of}
use Rattle.vsd_stages.specs.Endings.{Ending, accepted, refused}
use Rattle.vsd_stages.specs.declared.prepared.Prepared.{Prepared}
use Rattle.vsd_stages.specs.declared.stopping.Stopped.{Stopped}
use Rattle.vsd_stages.specs.declared.stopping.Stopped.TheVariants.{Refused, Memory}

-- this is an ending, and there is no other
pub record IsOneEnding (Ends : Ending → Type 0) (ending : Ending) : Type 0 where
  pub found : Ends ending
  pub only : (other : Ending) → Ends other → other ≡ ending

-- the bytes of the answers
unfoldable pub bytes_of : Prepared → List ℕ
bytes_of p = text_of p.script p.site_tokens.items (text_at p.method_texts.items) (text_at p.slot_texts.items) (map (λ lane. lane.items) p.answers.items)

-- its answers are answers of its script, and the texts that its lines name are there
abbrev pub IsWritable : Prepared → Type 0
IsWritable p = CanWrite p.script p.site_tokens.items (length p.method_texts.items) (length p.slot_texts.items) (map (λ lane. lane.items) p.answers.items)

-- The result is the one ending, and can be written, unless memory is out.
abbrev pub Settles : (Ending → Type 0) → Result Prepared Stopped → Type 0
Settles Ends (Ok p) = IsWritable p × IsOneEnding Ends (accepted (bytes_of p))
Settles Ends (Err (Refused r)) = IsOneEnding Ends (refused r)
Settles Ends (Err Memory) = Unit {0}
