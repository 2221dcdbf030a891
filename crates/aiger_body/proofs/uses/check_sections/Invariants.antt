use Rattle.std.proofs.Common.{take}
use Rattle.std.specs.Prelude.{sum}
use Rattle.aiger_body.specs.Files.{plan}
use Rattle.aiger_body.specs.Uses.{AreChecked}
use Rattle.aiger_body.proofs.uses.check_sections.Given as goal

-- the sections before are checked
abbrev pub invariant-loop-i : goal.invariant-loop-i
invariant-loop-i l = AreChecked l.header l.bytes (sum (take l.i (plan l.header l.bytes))) l.checked
