use Rattle.std.proofs.Common.{◌≡◌, ◌++◌, take}
use Rattle.std.specs.List.{flat_map}
use Rattle.rank_proofs.specs.ProofTexts.{branch_text}
use Rattle.rank_proofs.proofs.proof_text.print_rank_proof.Given as goal

abbrev pub invariant-loop-branch : goal.invariant-loop-branch
invariant-loop-branch l = l.text ≡ l.initial.text ++ flat_map branch_text (take l.branch-index l.p.branches)
