use Rattle.std.proofs.Common.{◌≡◌, ◌+◌}
use Rattle.aiger_body.specs.Keeping.{keep_all}
use Rattle.aiger_body.specs.Passes.{AreLines, rows_from}
use Rattle.aiger_body.proofs.lines.read_section.Given as goal

-- the lines before, and those of the section so far
abbrev pub invariant-loop : goal.invariant-loop
invariant-loop l = record {
  lines : AreLines l.header l.bytes (l.fn.lines.line + l.counter) l.lines;
  kept : l.lines.content ≡ keep_all l.section (rows_from l.header l.bytes l.fn.lines.line l.counter) l.fn.lines.content;
}
