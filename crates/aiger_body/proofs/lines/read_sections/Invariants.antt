use Rattle.std.proofs.Common.{◌≡◌, take}
use Rattle.std.specs.Prelude.{sum}
use Rattle.aiger_body.specs.Files.{plan}
use Rattle.aiger_body.specs.Passes.{AreLines}
use Rattle.aiger_body.proofs.Kept.{kept_to}
use Rattle.aiger_body.proofs.lines.read_sections.Given as goal

-- the sections before are read, and kept
abbrev pub invariant-loop-i : goal.invariant-loop-i
invariant-loop-i l = record {
  lines : AreLines l.header l.bytes (sum (take l.i (plan l.header l.bytes))) l.lines;
  kept : l.lines.content ≡ kept_to l.header l.bytes l.i;
}
