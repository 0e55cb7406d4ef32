-- Sources and sinks in memory, as contracts see them.
use Rattle.std.specs.Prelude.{◌≡◌, ℕ, ◌+◌, ◌≤◌, List, [], length}

-- a source in memory: the bytes left, the most that a call gives, the calls that fail, counted from 1,
-- and how many calls and faults there were
pub record MemorySupply : Type 0 where
  pub left : List ℕ
  pub chunk : ℕ
  pub failing : List ℕ
  pub calls : ℕ
  pub faults : ℕ

-- a sink in memory: the bytes taken, the most that it can take, the calls that fail, counted from 1, and
-- how many calls and faults there were
pub record MemoryStore : Type 0 where
  pub taken : List ℕ
  pub capacity : ℕ
  pub failing : List ℕ
  pub calls : ℕ
  pub faults : ℕ

-- no call is listed to fail, and this many more bytes fit
abbrev pub HasRoom : MemoryStore → ℕ → Type 0
HasRoom sink size = (sink.failing ≡ []) × (length sink.taken + size ≤ sink.capacity)
