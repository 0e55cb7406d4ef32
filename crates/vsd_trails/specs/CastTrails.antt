-- The trail of a cast: the probes of the cast cache, the walk, and what it writes.
use Rattle.std.specs.Prelude.{ℕ, zero, suc, ◌+◌, ◌*◌, ◌%◌, ◌^◌, nat_eq, nat_lt, nat_le, Bool, true, false, ◌&&◌, ◌||◌, not, List, [], ◌∷◌, ◌++◌, slice_index, Option, Some, None, Result, Ok, Err, if◌then◌else◌}
use Rattle.std.specs.List.{position}
use Rattle.vsd_words.specs.declared.handle.Handle.{Handle}
use Rattle.vsd_words.specs.declared.cast_word.CastWord.{CastWord}
use Rattle.vsd_words.specs.Handle.{packed_handle}
use Rattle.vsd_words.specs.Hash.{home_of}
use Rattle.vsd_rule.specs.declared.key.Key.{Key}
use Rattle.vsd_rule.specs.declared.step.Act.TheVariants.{LoadVersion, LoadSource, LoadCast, LoadVersionAgain, ClaimCast, SetSource, SetCast, Publish, LoadRegion, ReclaimCast, Grow}
use Rattle.vsd_rule.specs.declared.step.Begins.TheVariants.{Cast}
use Rattle.vsd_rule.specs.Lists.{compatible}
use Rattle.vsd_rule.specs.RowSteps.{unpacked_handle}
use Rattle.vsd_trails.specs.declared.answers.CastAnswer.{CastAnswer}
use Rattle.vsd_trails.specs.declared.answers.Unloaded.{Unloaded}
use Rattle.vsd_trails.specs.declared.casting.Miss.{Miss}
use Rattle.vsd_trails.specs.declared.casting.Find.{Find}
use Rattle.vsd_trails.specs.declared.casting.Find.TheVariants as find
use Rattle.vsd_trails.specs.declared.casting.Put.{Put}
use Rattle.vsd_trails.specs.declared.casting.Put.TheVariants.{Written, Grew, Nothing}
use Rattle.vsd_trails.specs.declared.casting.Lost.TheVariants as lost
use Rattle.vsd_trails.specs.Programs.{Program, done, ask, ◌>>=◌, ◌>>◌, when◌then◌else◌}
use Rattle.vsd_trails.specs.Words.{unpacked_cast, same_handle}
use Rattle.vsd_trails.specs.RowTrails.{reading, loading, making, typing}

abbrev pub region_size : ℕ → ℕ
region_size region = 128 * 2 ^ region

-- the row of the i-th probe, from the home on and round the end
abbrev pub probe_row : ℕ → ℕ → ℕ → ℕ
probe_row region home i = (home + i) % region_size region

-- ---- a look into the cast cache

-- what a probe finds: the pair's answer, or the version that it loaded first
pub data Probed : Type 0 where
  probe_hit : Bool → Probed
  probe_miss : ℕ → Probed

-- both versions are equal, even and not 0, and the row has the pair
abbrev pub is_hit : Handle → Handle → ℕ → Handle → CastWord → ℕ → Bool
is_hit source target version s w again =
    nat_eq version again && nat_eq (version % 2) 0 && not (nat_eq version 0) && same_handle s source && same_handle w.target target

abbrev pub probed : Handle → Handle → ℕ → Handle → CastWord → ℕ → Probed
probed source target version s w again = if is_hit source target version s w again then probe_hit w.yes else probe_miss version

-- Load a row's version, its source, its cast word, and the version again.
unfoldable pub probing_row : Handle → Handle → ℕ → ℕ → Program Probed
probing_row source target region row = do
  version ← loading (LoadVersion region row)
  s ← reading (LoadSource region row) unpacked_handle
  w ← reading (LoadCast region row) unpacked_cast
  again ← loading (LoadVersionAgain region row)
  done (probed source target version s w again)

-- a hit ends the look
abbrev pub unless_hit : (ℕ → Program Find) → Probed → Program Find
unless_hit go_on (probe_hit answer) = done (find.Hit answer)
unless_hit go_on (probe_miss version) = go_on version

-- Make so many probes, the i-th and those after it, until one hits.
unfoldable pub probing : Handle → Handle → ℕ → ℕ → ℕ → ℕ → List ℕ → Program Find
probing source target region home zero i versions = done (find.Miss (record { region = region; home = home; versions = versions }))
probing source target region home (suc n) i versions =
    probing_row source target region (probe_row region home i)
    >>= unless_hit (λ version. probing source target region home n (i + 1) (versions ++ version ∷ []))

-- Load the region, and probe eight rows of it.
unfoldable pub finding_cast : Handle → Handle → Program Find
finding_cast source target = do
  region ← ask (record { act = LoadRegion; begins = Some (Cast source target) }) (λ word. done word)
  probing source target region (home_of source target (region_size region)) 8 0 []

-- ---- what a cast that missed writes

-- no one but its writer changes the row, or the version is at its end
abbrev pub is_busy : ℕ → Bool
is_busy version = nat_eq (version % 2) 1 || nat_le (2 ^ 62) version

-- one exchange of a row's version to the next, which is odd
abbrev pub making_odd : ℕ → ℕ → ℕ → Program ℕ
making_odd region row zero = loading (ClaimCast region row)
making_odd region row (suc n) = loading (ReclaimCast region row (suc n))

-- Store the source, the cast word, and the next even version.
unfoldable pub publishing : ℕ → ℕ → Handle → CastWord → ℕ → Program Put
publishing region row source word version = do
  making (SetSource region row source)
  making (SetCast region row word)
  making (Publish region row (version + 2))
  done Written

module _ (k : Key) (m : Miss) (source target : Handle) (answer : Bool) where
  -- Write the row of the i-th probe, where its version allows it and one exchange of it wins.
  unfoldable pub writing : ℕ → Program Put
  writing i = do
    let version = slice_index m.versions i
    let row = probe_row m.region m.home i
    when is_busy version then done (Nothing (lost.Busy version)) else do
      found ← making_odd m.region row version
      when nat_eq found version
          then publishing m.region row source (record { target = target; yes = answer }) version
          else done (Nothing (lost.Claim found))

  -- Try one exchange of the region to the next.
  unfoldable pub growing : Program Put
  growing = do
    found ← loading (Grow m.region)
    when nat_eq found m.region then done Grew else done (Nothing (lost.Grow found))

  -- The first row whose version was 0. Without one the next region, where there is one; else a row by the two handles.
  unfoldable pub putting_by : Option ℕ → Program Put
  putting_by (Some i) = writing i
  putting_by None = when nat_lt (m.region + 1) k.sizes.regions then growing else writing ((packed_handle source + packed_handle target) % 8)

  unfoldable pub putting_cast : Program Put
  putting_cast = putting_by (position (λ version. nat_eq version 0) m.versions)

-- ---- a cast

module _ (k : Key) (source target : Handle) where
  -- both handles are loaded, as types of these numbers
  unfoldable pub asking : Miss → ℕ → ℕ → Program (Result CastAnswer Unloaded)
  asking m number other = do
    let answer = nat_eq (compatible k number other) 1
    putting_cast k m source target answer
    done (Ok (record { yes = answer; walked = true }))

  unfoldable pub typing_target : Miss → ℕ → Result ℕ Unloaded → Program (Result CastAnswer Unloaded)
  typing_target m number (Err unloaded) = done (Err unloaded)
  typing_target m number (Ok other) = asking m number other

  unfoldable pub typing_source : Miss → Result ℕ Unloaded → Program (Result CastAnswer Unloaded)
  typing_source m (Err unloaded) = done (Err unloaded)
  typing_source m (Ok number) = typing target >>= typing_target m number

  -- On a hit its answer. Else load the source's handle word and the target's, and walk.
  unfoldable pub casting_by : Find → Program (Result CastAnswer Unloaded)
  casting_by (find.Hit answer) = done (Ok (record { yes = answer; walked = false }))
  casting_by (find.Miss m) = typing source >>= typing_source m

  unfoldable pub casting : Program (Result CastAnswer Unloaded)
  casting = finding_cast source target >>= casting_by
