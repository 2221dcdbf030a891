-- The error lines of the refusals of a watch of its own, their statuses, and the lines of counts.
use Rattle.std.specs.Prelude.{ℕ, List, ◌++◌, length, codes, decimal}
use Rattle.rv_core.specs.Histories.{Present}
use Rattle.hy_run.specs.Names.{Text}
use Rattle.rv_watch.specs.declared.verdict.WatchFault.{WatchFault}
use Rattle.rv_watch.specs.declared.verdict.WatchFault.TheVariants.{Line, Session, Traces, Lines}

-- how many traces are present, and how many sessions are open
abbrev pub counts_text : ℕ → ℕ → List ℕ
counts_text traces live = codes "traces " ++ decimal traces ++ codes " open " ++ decimal live ++ codes "\n"

abbrev pub count_line : Present → List ℕ
count_line p = counts_text (length p.arrived) (length p.sessions)

abbrev pub fault_line : WatchFault → List ℕ
fault_line (Line line) = codes "error E9 -: line " ++ decimal line ++ codes "\n"
fault_line (Session line) = codes "error E10: line " ++ decimal line ++ codes "\n"
fault_line Traces = codes "error E5: traces 2147483648\n"
fault_line Lines = codes "error E5: lines 18446744073709551615\n"

-- what `err` receives, whatever the names of the files
abbrev pub own_line : List Text → WatchFault → List ℕ
own_line files fault = fault_line fault

abbrev pub own_status : WatchFault → ℕ
own_status (Line line) = 2
own_status (Session line) = 2
own_status Traces = 5
own_status Lines = 5
