-- The lines of runs:
--
--     proof runs RUNS
--     a line for each run: the row of its first latches, a space, its stem, a bar, its cycle
--
-- The stem and the cycle are rows of inputs, joined by `;`. A row has a digit for each latch or
-- input, and is a dash where there is none. Whether it has as many as the circuit is not asked.
use Rattle.std.specs.Prelude.{◌≡◌, ℕ, Bool, List, [], ◌∷◌, length, codes}
use Rattle.aig_net.specs.RunTexts.{row_text}
use Rattle.aig_net.specs.declared.run.Run.{Run}
use Rattle.hy_text.specs.Cuts.{cut_at}
use Rattle.cert_text.specs.Lines.{Line, words_of, Say}
use Rattle.cert_text.specs.Numbers.{SaysOne}

abbrev pub SaysRow : List ℕ → List Bool → Type 0
SaysRow word row = word ≡ row_text row

abbrev pub SaysCycle : List ℕ → List (List Bool) → Type 0
SaysCycle text rows = Say SaysRow (cut_at 59 text) rows

-- a stem may have no rows
abbrev pub SaysStem : List ℕ → List (List Bool) → Type 0
SaysStem text [] = text ≡ []
SaysStem text (row ∷ rows) = SaysCycle text (row ∷ rows)

abbrev pub SaysRun : Line → Run → Type 0
SaysRun line run =
    (first rows stem cycle : List ℕ) × (words_of line ≡ first ∷ rows ∷ [])
    × (cut_at 124 rows ≡ stem ∷ cycle ∷ [])
    × SaysRow first run.first × SaysStem stem run.stem × SaysCycle cycle run.cycle

-- how many runs there are
abbrev pub SaysRunsHead : Line → ℕ → Type 0
SaysRunsHead = SaysOne (codes "proof" ∷ codes "runs" ∷ [])

pub record SayRuns (lines : List Line) (runs : List Run) : Type 0 where
  pub head : Line
  pub rest : List Line
  pub parts : lines ≡ head ∷ rest
  pub counts : SaysRunsHead head (length runs)
  pub each : Say SaysRun rest runs
