-- Marks on places.
use Rattle.std.specs.Prelude.{◌≡◌, ℕ, Bool, false, List, slice_index_or}

-- no place is marked
abbrev pub AreNone : List Bool → Type 0
AreNone marks = (i : ℕ) → slice_index_or marks i false ≡ false
