use Rattle.std.proofs.Common.{◌≡◌, ◌++◌, take, length, codes, decimal}
use Rattle.std.specs.List.{flat_map}
use Rattle.aig_net.specs.RunTexts.{run_text}
use Rattle.aig_net.proofs.printing.runs_text.Given as goal

-- the lines of the runs so far have been added
abbrev pub invariant-loop-run : goal.invariant-loop-run
invariant-loop-run l =
    l.text ≡ codes "proof runs " ++ decimal (length l.runs) ++ codes "\n"
    ++ flat_map run_text (take l.run-index l.runs)
