-- Which bytes are lassos, and which are refused, by which fault.
use Rattle.std.specs.Prelude.{◌≡◌, ℕ, List, Ok, Err}
use Rattle.hy_bits.specs.Letter.{Letter}
use Rattle.hy_formula.specs.Lassos.{Lasso}
use Rattle.hy_lasso.specs.LassoFiles.{IsLassosAnswer}
use Rattle.hy_text.specs.declared.line_error.LineError.TheVariants.{Syntax}
use Rattle.hy_files.specs.declared.fault.FileFault.{FileFault}
use Rattle.hy_files.specs.declared.fault.FileFault.TheVariants.{Line}

-- The bytes are these lassos, where names are those of the table.
abbrev pub AreLassos : List (List ℕ) → List ℕ → List (Lasso Letter) → Type 0
AreLassos names bytes list = IsLassosAnswer names bytes (Ok list)

-- The bytes are none, by this fault.
abbrev pub AreNoLassos : List (List ℕ) → List ℕ → FileFault → Type 0
AreNoLassos names bytes fault = (line : ℕ) × IsLassosAnswer names bytes (Err (Syntax line)) × (fault ≡ Line line)
