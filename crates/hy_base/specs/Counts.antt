-- Counts of faults, kept in 64 bits.
use Rattle.std.specs.Prelude.{◌≢◌, ℕ, ◌<◌}

-- the last value of a count
abbrev pub last_count : ℕ
last_count = 18446744073709551615

-- A count rose, or stands at its last value, where it cannot rise any more.
abbrev pub Rose : ℕ → ℕ → Type 0
Rose old new = new ≢ last_count → old < new
