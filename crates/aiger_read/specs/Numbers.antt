-- The new number of a variable.
use Rattle.std.specs.Prelude.{ℕ, slice_index_or}
use Rattle.aiger_read.specs.declared.numbering.Numbering.{Numbering}

abbrev pub numbered : Numbering → ℕ → ℕ
numbered n v = slice_index_or n.places v n.count
