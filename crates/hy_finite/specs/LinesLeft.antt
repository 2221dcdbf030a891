-- The lines of a file that are left to read.
use Rattle.std.specs.Prelude.{ℕ, List}
pub use Rattle.hy_text.specs.Lines.{left_lines, left_len}

-- the lines, and the number of the first of them
pub record LinesLeft : Type 0 where
  pub first : ℕ
  pub lines : List (List ℕ)
