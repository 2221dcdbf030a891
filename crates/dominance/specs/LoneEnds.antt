-- What a run comes to that goes on by its column alone.
use Rattle.std.specs.Prelude.{◌≡◌, ℕ, ◌<◌, ◌≤◌, List, length, slice_index, slice_index_or}
use Rattle.fin_monitor.specs.Machines.{Machine, states_of}
use Rattle.dominance.specs.declared.lone_ends.LoneEnd.{LoneEnd}
use Rattle.dominance.specs.Runs.{state_on}

-- From state q at a position the rest of the column leads to the other state.
pub record IsLoneEnd (m : Machine) (column : List ℕ) (at q end : ℕ) : Type 0 where
  pub past : length column ≤ at → end ≡ q
  pub state : (code : ℕ → ℕ) → at ≤ length column → q ≡ state_on m code at
      → ((i : ℕ) → at ≤ i → i < length column → code i ≡ slice_index column i)
      → end ≡ state_on m code (length column)
  pub within : end < states_of m

abbrev pub kept_at : List LoneEnd → ℕ → LoneEnd
kept_at ends q = slice_index_or ends q (record { at = 0; end = 0 })

-- What is kept for a state is what the column leads to from there, at the position that is kept.
abbrev pub AreLoneEnds : Machine → List ℕ → List LoneEnd → Type 0
AreLoneEnds m column ends =
    (q : ℕ) → q < length ends → IsLoneEnd m column (kept_at ends q).at q (kept_at ends q).end
