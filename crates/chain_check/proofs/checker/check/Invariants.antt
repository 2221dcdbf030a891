use Rattle.std.proofs.Common.{◌≡◌, ◌↔◌, drop}
use Rattle.chain_check.specs.Logs.{IsPassed}
use Rattle.chain_check.proofs.checker.check.Given as goal

abbrev pub invariant-loop-entry : goal.invariant-loop-entry
invariant-loop-entry l =
    (l.checker.variables ≡ l.cnf.variables) ×
    (IsPassed l.cnf.variables l.checker.clauses (drop l.entry-index l.log) ↔
    IsPassed l.cnf.variables l.cnf.clauses l.log)
