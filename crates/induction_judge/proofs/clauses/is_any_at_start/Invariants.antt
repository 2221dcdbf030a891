use Rattle.std.proofs.Common.{◌≡◌, false, take}
use Rattle.cnf_frames.specs.Facts.{any_true}
use Rattle.induction_judge.proofs.clauses.is_any_at_start.Given as goal

-- none so far is true
abbrev pub invariant-loop-l : goal.invariant-loop-l
invariant-loop-l l = any_true (λ _. false) (take l.l-index l.literals) ≡ false
