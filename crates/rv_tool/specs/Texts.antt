-- The text that each verdict prints, the error line of a refusal of the tool's own, and the statuses of both.
use Rattle.std.specs.Prelude.{ℕ, Bool, List, [], ◌∷◌, ◌++◌, map, codes, decimal, nat_eq, if◌then◌else◌}
use Rattle.std.specs.List.{join_with_byte, flat_map}
use Rattle.hy_run.specs.Names.{Text}
use Rattle.rv_tool.specs.declared.verdict.Question.{Question}
use Rattle.rv_tool.specs.declared.verdict.Question.TheVariants.{Monitor, MonitorMade}
use Rattle.rv_tool.specs.declared.verdict.RvFault.{RvFault}
use Rattle.rv_tool.specs.declared.verdict.RvFault.TheVariants.{Session}
use Rattle.rv_tool.specs.declared.verdict.RvVerdict.{RvVerdict}
use Rattle.rv_tool.specs.declared.verdict.RvVerdict.TheVariants.{NoViolation, Violation}

-- whether dominated traces are dropped
abbrev pub drops : Question → Bool
drops (Monitor lengths drop) = drop
drops (MonitorMade count lengths drop) = drop

-- numbers, each behind a space
abbrev pub spaced : List ℕ → List ℕ
spaced numbers = flat_map (λ n. 32 ∷ decimal n) numbers

-- how many traces were kept for each formula
abbrev pub kept_text : List ℕ → List ℕ
kept_text kept = codes ", kept" ++ spaced kept

-- how many sessions are open, where some are
abbrev pub open_text : ℕ → List ℕ
open_text live = if nat_eq live 0 then [] else (codes ", open " ++ decimal live)

-- what `out` receives
abbrev pub text_of : Question → RvVerdict → List ℕ
text_of question (NoViolation traces kept live) =
    codes "no violation in " ++ decimal traces ++ codes " traces" ++ (if drops question then kept_text kept else [])
    ++ open_text live ++ codes "\n"
text_of question (Violation spec trace tuple) =
    codes "violation of spec " ++ decimal spec ++ codes " at trace " ++ decimal trace ++ codes " by "
    ++ join_with_byte 32 (map decimal tuple) ++ codes "\n"

abbrev pub status_of : RvVerdict → ℕ
status_of (NoViolation traces kept live) = 0
status_of (Violation spec trace tuple) = 1

-- what `err` receives, whatever the names of the files
abbrev pub own_line : List Text → RvFault → List ℕ
own_line files (Session line) = codes "error E10: line " ++ decimal line ++ codes "\n"

abbrev pub own_status : RvFault → ℕ
own_status (Session line) = 2
