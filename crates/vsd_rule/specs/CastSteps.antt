-- What each step on the region and on cast rows makes of its seat's view.
use Rattle.std.specs.Prelude.{ℕ, ◌+◌, ◌%◌, Bool, ◌&&◌, nat_eq, nat_lt, cond, List, [], ◌∷◌, ◌++◌, Option, Some, None}
use Rattle.vsd_words.specs.declared.handle.Handle.{Handle}
use Rattle.vsd_words.specs.declared.cast_word.CastWord.{CastWord}
use Rattle.vsd_words.specs.Handle.{packed_handle}
use Rattle.vsd_words.specs.CastWord.{packed_cast}
use Rattle.vsd_rule.specs.declared.cast_view.Probe.{Probe}
use Rattle.vsd_rule.specs.declared.cast_view.Written.{Written}
use Rattle.vsd_rule.specs.declared.cast_view.CastEvidence.{CastEvidence}
use Rattle.vsd_rule.specs.declared.cast_view.CastView.{CastView}
use Rattle.vsd_rule.specs.declared.step.Act.{Act}
use Rattle.vsd_rule.specs.declared.step.Act.TheVariants.{LoadRegion, LoadVersion, LoadSource, LoadCast, LoadVersionAgain, ClaimCast, ReclaimCast, SetSource, SetCast, Publish, Grow}
use Rattle.vsd_rule.specs.declared.view.View.{View}
use Rattle.vsd_rule.specs.Layout.{cast_row}
use Rattle.vsd_rule.specs.Casts.{write_of}
use Rattle.vsd_rule.specs.Moves.{noted}

-- a step that changes what its seat knows of casts alone
abbrev pub after_casts : View → CastView → Act → ℕ → View
after_casts v casts act found = record v { casts = casts; steps = noted v act found }

abbrev pub after_region : View → ℕ → View
after_region v found = after_casts v v.casts LoadRegion found

abbrev pub after_grow : View → ℕ → ℕ → View
after_grow v region found = after_casts v v.casts (Grow region) found

-- ---- a look at a cast row: its version, its source, its cast word, and the version again

abbrev pub probing : CastView → ℕ → ℕ → CastView
probing d row version = record d { probe = Some (record { row = row; version = version; source = None; word = None }) }

-- the latest look gains what was loaded, where it is at this row
abbrev pub probe_gains : ℕ → (Probe → Probe) → Option Probe → Option Probe
probe_gains row loaded None = None
probe_gains row loaded (Some p) = Some (cond (nat_eq p.row row) (loaded p) p)

abbrev pub gains : CastView → ℕ → (Probe → Probe) → CastView
gains d row loaded = record d { probe = probe_gains row loaded d.probe }

abbrev pub with_source : Handle → Probe → Probe
with_source h p = record p { source = Some h }

abbrev pub with_word : CastWord → Probe → Probe
with_word w p = record p { word = Some w }

-- the evidence of a hit: both words were seen
abbrev pub hit_by : Option Handle → Option CastWord → List CastEvidence
hit_by None w = []
hit_by (Some h) None = []
hit_by (Some h) (Some w) = record { source = h; target = w.target; yes = w.yes } ∷ []

-- both versions are equal, even and not 0
abbrev pub is_stable : ℕ → ℕ → Bool
is_stable first again = nat_eq first again && (nat_eq (first % 2) 0 && nat_lt 0 first)

abbrev pub hit_of : ℕ → ℕ → Option Probe → List CastEvidence
hit_of row again None = []
hit_of row again (Some p) = cond (nat_eq p.row row && is_stable p.version again) (hit_by p.source p.word) []

abbrev pub hits : CastView → ℕ → ℕ → CastView
hits d row again = record d { evidences = hit_of row again d.probe ++ d.evidences }

abbrev pub after_version : View → ℕ → ℕ → ℕ → View
after_version v region row found = after_casts v (probing v.casts (cast_row region row) found) (LoadVersion region row) found

abbrev pub after_source : View → ℕ → ℕ → Handle → View
after_source v region row h = after_casts v (gains v.casts (cast_row region row) (with_source h)) (LoadSource region row) (packed_handle h)

abbrev pub after_cast_word : View → ℕ → ℕ → CastWord → View
after_cast_word v region row w = after_casts v (gains v.casts (cast_row region row) (with_word w)) (LoadCast region row) (packed_cast w)

abbrev pub after_version_again : View → ℕ → ℕ → ℕ → View
after_version_again v region row found = after_casts v (hits v.casts (cast_row region row) found) (LoadVersionAgain region row) found

-- ---- a write of a cast row: an exchange makes its version odd, and a store even again

-- from this step on the seat writes the row so, or not at all
abbrev pub writes_row : CastView → ℕ → Option Written → CastView
writes_row d row written = record d { writes = record { row = row; written = written } ∷ d.writes }

abbrev pub nothing_written : ℕ → Written
nothing_written version = record { version = version; source = None; word = None }

-- what was stored in the row since its version was made odd
abbrev pub written_in : Option Written → Written
written_in None = nothing_written 0
written_in (Some w) = w

abbrev pub stores_written : CastView → ℕ → (Written → Written) → CastView
stores_written d row stored = writes_row d row (Some (stored (written_in (write_of row d.writes))))

abbrev pub writing_source : Handle → Written → Written
writing_source h w = record w { source = Some h }

abbrev pub writing_word : CastWord → Written → Written
writing_word x w = record w { word = Some x }

-- won where the version found was the one that was compared with
abbrev pub begins_write : CastView → ℕ → ℕ → ℕ → CastView
begins_write d row version found = cond (nat_eq found version) (writes_row d row (Some (nothing_written (version + 1)))) d

abbrev pub after_claim_cast : View → ℕ → ℕ → ℕ → View
after_claim_cast v region row found = after_casts v (begins_write v.casts (cast_row region row) 0 found) (ClaimCast region row) found

abbrev pub after_reclaim_cast : View → ℕ → ℕ → ℕ → ℕ → View
after_reclaim_cast v region row version found = after_casts v (begins_write v.casts (cast_row region row) version found) (ReclaimCast region row version) found

abbrev pub after_set_source : View → ℕ → ℕ → Handle → View
after_set_source v region row h = after_casts v (stores_written v.casts (cast_row region row) (writing_source h)) (SetSource region row h) 0

abbrev pub after_set_cast : View → ℕ → ℕ → CastWord → View
after_set_cast v region row x = after_casts v (stores_written v.casts (cast_row region row) (writing_word x)) (SetCast region row x) 0

abbrev pub after_publish : View → ℕ → ℕ → ℕ → View
after_publish v region row version = after_casts v (writes_row v.casts (cast_row region row) None) (Publish region row version) 0
