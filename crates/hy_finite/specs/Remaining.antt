-- The lines that a reader of events has left.
use Rattle.std.specs.Option.{option_copied}
use Rattle.hy_finite.specs.declared.lines.EventLines.{EventLines}
use Rattle.hy_finite.specs.LinesLeft.{LinesLeft, left_lines}

abbrev pub remaining : EventLines → LinesLeft
remaining reader = record { first = reader.next; lines = left_lines (option_copied reader.left) }
