-- How an operation is refused where it is first read.
use Rattle.std.specs.Prelude.{◌≡◌, Result, Ok, Err}
use Rattle.vsd_grammar.specs.Input.{Input}
use Rattle.vsd_grammar.specs.Grammar.{G, run, Derives}
use Rattle.vsd_lanes.specs.declared.tree.Written.{Written}
use Rattle.vsd_lanes.specs.declared.tree.Item.TheVariants.{Once}
use Rattle.vsd_lanes.specs.declared.tree.Running.{Running}
use Rattle.vsd_lanes.specs.declared.tree.Refusal.{Refusal}
use Rattle.vsd_lanes.specs.declared.reading.Reading.{Reading}
use Rattle.vsd_lanes.specs.Setting.{Setting}
use Rattle.vsd_lanes.specs.Meaning.{once}
use Rattle.vsd_lanes.specs.Productions.{Step}

-- the same names and roots, where this is live and was made
abbrev pub where_runs : Reading → Running → Reading
where_runs s u = record s { running = u }

-- An operation is read as it is made: the lane goes on with what making it leaves, or it is refused at the same token and
-- for the same cause, which that token decides.
abbrev pub IsReadSo : G Step → Input → Step → Input → Result Running Refusal → Type 0
IsReadSo operation i p j (Ok made) = run Step operation i ≡ Ok ((where_runs p.0 made, p.1), j)
IsReadSo operation i p j (Err r) = run Step operation i ≡ Err (record { at = r.at; by = r.at; cause = r.cause })

-- An operation that the text has here, which is to say that it is read if only what it needs is live, is read as it is made
-- in a later round.
abbrev pub ReadsAsItMakes : (Setting → Reading → G Step) → Type 0
ReadsAsItMakes operation = (e : Setting) (s : Reading) (u : Running) (i : Input) (p : Step) (j : Input) → Derives Step (operation e (where_runs s u)) i p j
    → (w : Written) × (p.1 ≡ Once w) × IsReadSo (operation e s) i p j (once e.room w s.running)
