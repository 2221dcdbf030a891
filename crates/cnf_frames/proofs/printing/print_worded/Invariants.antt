use Rattle.std.proofs.Common.{◌≡◌, ◌++◌, take}
use Rattle.std.specs.List.{flat_map}
use Rattle.cnf_frames.specs.ProofTexts.{fact_text}
use Rattle.cnf_frames.proofs.printing.print_worded.Given as goal

abbrev pub invariant-loop-fact : goal.invariant-loop-fact
invariant-loop-fact l =
    l.text ≡ l.initial.text ++ flat_map fact_text (take l.fact-index l.proof.inv)
