-- Calls that are numbered from 1, of which some are to fail.
use Rattle.std.specs.Prelude.{ℕ, ◌<◌, List, Contains}

-- no call after the first `made` ones has its number in the list
unfoldable pub NoneFailsAfter : ℕ → List ℕ → Type 0
NoneFailsAfter made fail = (number : ℕ) → made < number → Contains fail number → ⊥
