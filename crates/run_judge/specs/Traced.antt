-- Lines of runs whose traces are given.
use Rattle.std.specs.Prelude.{◌≡◌, ℕ, List, [], ◌∷◌, ◌++◌}
use Rattle.hy_bits.specs.Letter.{Letter}
use Rattle.hy_formula.specs.Lassos.{Lasso}
use Rattle.hy_text.specs.Lines.{lines_of}
use Rattle.aig_net.specs.declared.run.Run.{Run}
use Rattle.aig_net.specs.declared.signals.Signal.{Signal}
use Rattle.aig_net.specs.Nets.{Net}
use Rattle.wit_lasso.specs.Seeing.{IsTraceOf}
use Rattle.cert_text.specs.Lines.{Line, Say}
use Rattle.cert_text.specs.RunLines.{SaysRun}

-- The line says a run of a lasso execution, of which this is seen.
abbrev pub SaysTraced : Net → List Signal → Line → Lasso Letter → Type 0
SaysTraced net signals line trace =
    (run : Run) × SaysRun line run × IsTraceOf net signals run trace

-- The text is such a line for each of the traces, each with its line feed.
abbrev pub SayTraced : Net → List Signal → List ℕ → List (Lasso Letter) → Type 0
SayTraced net signals text traces =
    (lines : List Line) × (lines_of text ≡ lines ++ [] ∷ [])
    × Say (SaysTraced net signals) lines traces
