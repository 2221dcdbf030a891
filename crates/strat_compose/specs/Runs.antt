-- The runs of the universal copies in a run of a driven net.
use Rattle.std.specs.Prelude.{ℕ, ◌*◌, ◌<◌, ◌≤◌, Bool, List, map, length}
use Rattle.aig_net.specs.declared.run.Run.{Run}
use Rattle.aig_net.specs.Copies.{own_values}
use Rattle.aig_net.specs.Following.{row_at}
use Rattle.aig_net.specs.Nets.{Net}

-- The run of universal copy c of m: the first latches and the inputs of a driven net begin with
-- those of the copies.
abbrev pub universal_run : Net → ℕ → Run → ℕ → Run
universal_run net m run c = record {
  first = own_values (length net.latches) m c run.first;
  stem = map (own_values net.inputs m c) run.stem;
  cycle = map (own_values net.inputs m c) run.cycle;
}

-- Each row has at least n values.
abbrev pub AreLong : ℕ → List (List Bool) → Type 0
AreLong n rows = (i : ℕ) → i < length rows → n ≤ length (row_at rows i)

-- The rows have the values of m copies.
pub record HasCopies (net : Net) (m : ℕ) (run : Run) : Type 0 where
  pub first : length net.latches * m ≤ length run.first
  pub stem : AreLong (net.inputs * m) run.stem
  pub cycle : AreLong (net.inputs * m) run.cycle
