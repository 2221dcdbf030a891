-- Runs of a circuit, and what is seen of them, that show what a formula says of it.
use Rattle.std.specs.Prelude.{◌≡◌, ℕ, ◌<◌, Bool, List, length, slice_index_or}
use Rattle.hy_bits.specs.Letter.{Letter}
use Rattle.hy_formula.specs.Lassos as letters
use Rattle.hy_formula.specs.Normals.{Signed}
use Rattle.hy_formula.specs.Trees.{Tree}
use Rattle.hy_lasso.specs.Words as words
use Rattle.hy_lasso.specs.Words.{no_lasso}
use Rattle.aig_net.specs.declared.run.Run.{Run}
use Rattle.aig_net.specs.declared.signals.Signal.{Signal}
use Rattle.aig_net.specs.Nets.{Net}
use Rattle.wit_lasso.specs.Seeing.{IsTraceOf}
use Rattle.wit_lasso.specs.Unfoldings.{run_at}

-- a trace for each run
pub record AreTraces (net : Net) (signals : List Signal) (runs : List Run)
    (traces : List (letters.Lasso Letter)) : Type 0 where
  pub many : length traces ≡ length runs
  pub each : (c : ℕ) → c < length runs →
      IsTraceOf net signals (run_at runs c) (slice_index_or traces c no_lasso)

-- A run for each quantifier, and the normal forms of their visible traces, which satisfy the body,
-- or its negation where the value is false.
pub record AreWitnesses (net : Net) (signals : List Signal) (n : ℕ) (body : Tree) (positive : Bool)
    (traces : List (letters.Lasso Letter)) (runs : List Run) : Type 0 where
  pub many_runs : length runs ≡ n
  pub many_traces : length traces ≡ n
  pub each : (c : ℕ) → c < n →
      IsTraceOf net signals (run_at runs c) (slice_index_or traces c no_lasso)
  pub says : Signed positive (words.Meets body traces)
