-- The names of methods, and the buckets that names fall into.
use Rattle.std.specs.Prelude.{◌≡◌, ℕ, ◌+◌, ◌*◌, ◌%◌, List, [], ◌∷◌, length, Some, slice_get, slice_index_or}
use Rattle.vsd_ast.specs.declared.declarations.Decl.{Decl}
use Rattle.vsd_ast.specs.declared.declarations.Method.{Method}
use Rattle.vsd_methods.specs.Firsts.{AreMethodNames}
use Rattle.vsd_slots.specs.declared.named.Named.{Named}

-- the bucket that a name with these bytes falls into, from that of the bytes before them
abbrev pub bucket_from : ℕ → List ℕ → ℕ
bucket_from n [] = n
bucket_from n (b ∷ bs) = bucket_from ((n * 31 + b) % 256) bs

abbrev pub bucket : List ℕ → ℕ
bucket name = bucket_from 0 name

-- for each method the bucket of its name
pub record AreBuckets (methods : List Method) (buckets : List ℕ) : Type 0 where
  pub long : length buckets ≡ length methods
  pub each : (m : ℕ) (x : Method) → slice_get methods m ≡ Some x → slice_index_or buckets m 0 ≡ bucket x.name

-- the same for each declaration
pub record AreAllBuckets (ds : List Decl) (buckets : List (List ℕ)) : Type 0 where
  pub count : length buckets ≡ length ds
  pub each : (place : ℕ) (x : Decl) → slice_get ds place ≡ Some x → AreBuckets x.methods (slice_index_or buckets place [])

-- the names of the methods of each declaration, and their buckets
pub record AreNamed (ds : List Decl) (named : Named) : Type 0 where
  pub names : AreMethodNames ds named.names
  pub buckets : AreAllBuckets ds named.buckets
