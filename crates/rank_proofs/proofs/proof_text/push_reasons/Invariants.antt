use Rattle.std.proofs.Common.{◌≡◌, ◌++◌, take}
use Rattle.std.specs.List.{flat_map}
use Rattle.rank_proofs.specs.ProofTexts.{reason_text}
use Rattle.rank_proofs.proofs.proof_text.push_reasons.Given as goal

abbrev pub invariant-loop-reason : goal.invariant-loop-reason
invariant-loop-reason l = l.text ≡ l.initial.text ++ flat_map reason_text (take l.reason-index l.reasons)
