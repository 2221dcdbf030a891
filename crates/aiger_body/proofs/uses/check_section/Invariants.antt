use Rattle.std.proofs.Common.{◌+◌}
use Rattle.aiger_body.specs.Uses.{AreChecked}
use Rattle.aiger_body.proofs.uses.check_section.Given as goal

abbrev pub invariant-loop : goal.invariant-loop
invariant-loop l = AreChecked l.header l.bytes (l.fn.checked.line + l.counter) l.checked
