use Rattle.std.proofs.Common.{◌≡◌, false, take}
use Rattle.std.specs.List.{list_any}
use Rattle.cnf_frames.specs.ProofTexts.{is_clause}
use Rattle.cnf_frames.proofs.printing.has_clause.Given as goal

abbrev pub invariant-loop-fact : goal.invariant-loop-fact
invariant-loop-fact l = list_any is_clause (take l.fact-index l.facts) ≡ false
