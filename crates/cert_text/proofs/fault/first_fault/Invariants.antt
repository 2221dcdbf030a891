use Rattle.std.proofs.Common.{◌+◌, ◌≤◌, length}
use Rattle.cert_text.proofs.Answering.{IsPassed}
use Rattle.cert_text.proofs.fault.first_fault.Given as goal

abbrev pub invariant-loop-rest : goal.invariant-loop-rest
invariant-loop-rest l = record {
  passed : IsPassed l.fn.question l.bytes l.want l.left l.number;
  countable : l.number + length l.left ≤ 1 + length l.bytes;
}

abbrev pub decreases-loop-rest : goal.decreases-loop-rest
decreases-loop-rest l = length l.left
