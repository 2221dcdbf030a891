use Rattle.std.proofs.Common.{◌≡◌, ◌≤◌, ◌-◌, length}
use Rattle.aiger_body.specs.Texts.{pieces, place, is_feed}
use Rattle.aiger_read.proofs.Marking.{AreRead}
use Rattle.aiger_read.proofs.names.read_names.Given as goal

abbrev pub invariant-loop-reading : goal.invariant-loop-reading
invariant-loop-reading l = record {
  at : l.reading.at ≡ place (pieces is_feed l.text) l.reading.line;
  within : l.reading.at ≤ length l.text;
  early : l.reading.line ≤ l.reading.at;
  many : l.reading.line ≤ length (pieces is_feed l.text);
  read : AreRead l.header l.bytes l.reading.line l.reading;
}

abbrev pub decreases-loop-reading : goal.decreases-loop-reading
decreases-loop-reading l = length l.text - l.reading.at
