use Rattle.std.proofs.Common.{◌≡◌, ◌-◌, length, drop}
use Rattle.aiger_body.specs.Files.{value_of}
use Rattle.aiger_body.proofs.deltas.value_of.Given as goal

-- the value of the last i bytes
abbrev pub invariant-loop-i : goal.invariant-loop-i
invariant-loop-i l = l.value ≡ value_of (drop (length l.group - l.i) l.group)
