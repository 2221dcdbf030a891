use Rattle.std.proofs.Common.{◌≤◌, length}
use Rattle.aiger_body.specs.Words.{IsPlace}
use Rattle.aiger_body.proofs.body.skip_lines.Given as goal

abbrev pub invariant-loop : goal.invariant-loop
invariant-loop l = record {
  place : IsPlace l.bytes l.counter l.at;
  within : l.at ≤ length l.bytes;
}
