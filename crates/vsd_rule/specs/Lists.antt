-- What a table knows of the world above it.
use Rattle.std.specs.Prelude.{◌≡◌, ℕ, ◌+◌, ◌*◌, ◌<◌, ◌^◌, List, length, slice_index}
use Rattle.vsd_rule.specs.Sizes.{LawfulSizes}
use Rattle.vsd_rule.specs.declared.key.Key.{Key}
use Rattle.vsd_rule.specs.declared.sizes.Sizes.{Sizes}

-- an entry of a table that lies row by row in a list
abbrev pub entry : List ℕ → ℕ → ℕ → ℕ → ℕ
entry list width i j = slice_index list (i * width + j)

module _ (k : Key) where
  -- the target of a call on a type through a token: 0 for a missing slot, else a method's number plus 1
  abbrev pub target_of : ℕ → ℕ → ℕ
  target_of number token = entry k.world.sel k.sizes.tokens number token

  -- 1 where the first type is compatible with the second, else 0
  abbrev pub compatible : ℕ → ℕ → ℕ
  compatible number other = entry k.world.cmp k.world.types number other

  abbrev pub site_token : ℕ → ℕ
  site_token site = slice_index k.world.site_tokens site

  abbrev pub host_type : ℕ → ℕ
  host_type host = slice_index k.world.host_types host

  pub record LawfulKey : Type 0 where
    pub sizes : LawfulSizes k.sizes
    pub sites : length k.world.site_tokens ≡ k.sizes.sites
    pub hosts : length k.world.host_types ≡ k.sizes.hosts
    pub tokens : (site : ℕ) → site < k.sizes.sites → site_token site < k.sizes.tokens
    pub types : (host : ℕ) → host < k.sizes.hosts → host_type host < k.world.types
    pub numbers : (host : ℕ) → host_type host < 2 ^ 16
    pub targets : (i : ℕ) → slice_index k.world.sel i < 2 ^ 32
    pub answers : (i : ℕ) → slice_index k.world.cmp i < 2

-- the key of a table of these sizes, with these lists
abbrev pub key_with : Sizes → ℕ → List ℕ → List ℕ → List ℕ → List ℕ → Key
key_with sizes types site_tokens host_types sel cmp = record { sizes = sizes; world = record { types = types; site_tokens = site_tokens; host_types = host_types; sel = sel; cmp = cmp } }
