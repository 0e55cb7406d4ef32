-- What a look into the cast cache and a write make of the caller, what is found, and which misses a write takes.
use Rattle.std.specs.Prelude.{◌≡◌, ◌<◌, length}
use Rattle.vsd_words.specs.declared.handle.Handle.{Handle}
use Rattle.vsd_words.specs.Hash.{home_of}
use Rattle.vsd_rule.specs.declared.key.Key.{Key}
use Rattle.vsd_rule.specs.declared.view.View.{View}
use Rattle.vsd_rule.specs.Evidence.{HasCastEvidence}
use Rattle.vsd_trails.specs.declared.casting.Miss.{Miss}
use Rattle.vsd_trails.specs.declared.casting.Find.{Find}
use Rattle.vsd_trails.specs.declared.casting.Find.TheVariants as find
use Rattle.vsd_trails.specs.CastTrails.{region_size, Probed, probe_hit, probe_miss}
use Rattle.vsd_ccache.specs.declared.finding.First.{First}
use Rattle.vsd_ccache.specs.declared.finding.First.TheVariants as first
use Rattle.vsd_ccache.specs.declared.finding.FirstMiss.{FirstMiss}
use Rattle.vsd_ccache.specs.declared.probing.RowLook.{RowLook}
use Rattle.vsd_ccache.specs.declared.probing.RowLook.TheVariants as look

-- the caller has its latest look, and may have evidences more; nothing else has changed but its list of steps
abbrev pub LooksAtCasts : View → View → Type 0
LooksAtCasts old new = new ≡ record old { casts = record old.casts { probe = new.casts.probe; evidences = new.casts.evidences }; steps = new.steps }

-- what the caller writes of cast rows has changed, and its list of steps, and nothing else
abbrev pub WritesCasts : View → View → Type 0
WritesCasts old new = new ≡ record old { casts = record old.casts { writes = new.casts.writes }; steps = new.steps }

-- ---- one row

abbrev pub probed_of : RowLook → Probed
probed_of (look.Hit answer) = probe_hit answer
probed_of (look.Miss version) = probe_miss version

-- a hit is evidence
abbrev pub LookTells : View → Handle → Handle → RowLook → Type 0
LookTells v source target (look.Hit answer) = HasCastEvidence v source target answer
LookTells v source target (look.Miss version) = Unit {0}

-- ---- a pair

-- the miss is one of the pair: a region of the table, the pair's home in it, and eight versions
pub record IsMissOf (k : Key) (source target : Handle) (m : Miss) : Type 0 where
  pub region : m.region < k.sizes.regions
  pub home : m.home ≡ home_of source target (region_size m.region)
  pub eight : length m.versions ≡ 8

-- the first probe was one of the pair: in a region of the table, at the pair's home
pub record IsFirstMissOf (k : Key) (source target : Handle) (m : FirstMiss) : Type 0 where
  pub region : m.region < k.sizes.regions
  pub home : m.home ≡ home_of source target (region_size m.region)

-- the same of the first probe
abbrev pub FirstFoundFor : Key → View → Handle → Handle → First → Type 0
FirstFoundFor k v source target (first.Hit answer) = HasCastEvidence v source target answer
FirstFoundFor k v source target (first.Miss m) = IsFirstMissOf k source target m

-- a hit is evidence, and a miss is one of the pair
abbrev pub FoundFor : Key → View → Handle → Handle → Find → Type 0
FoundFor k v source target (find.Hit answer) = HasCastEvidence v source target answer
FoundFor k v source target (find.Miss m) = IsMissOf k source target m
