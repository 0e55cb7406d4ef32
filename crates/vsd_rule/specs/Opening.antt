-- The words at opening: all are 0, but for those of the hosts.
use Rattle.std.specs.Prelude.{ℕ, ◌+◌, ◌*◌, true, List, ◌++◌, map, replicate}
use Rattle.vsd_words.specs.HandleWord.{packed_handle_word}
use Rattle.vsd_rule.specs.declared.key.Key.{Key}
use Rattle.vsd_rule.specs.Layout.{handles_from, cast_rows}

-- the word of a host's type
abbrev pub host_packing : ℕ → ℕ
host_packing number = packed_handle_word (record { generation = 1; number = number; immortal = true; live = true })

unfoldable pub opening_words : Key → List ℕ
opening_words k = replicate (handles_from k.sizes) 0 ++ (map host_packing k.world.host_types ++ replicate (64 * k.sizes.callers + 1 + 3 * cast_rows k.sizes) 0)
