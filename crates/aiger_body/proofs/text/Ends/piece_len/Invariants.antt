use Rattle.std.proofs.Common.{◌≡◌, ◌+◌, drop}
use Rattle.aiger_body.specs.Words.{ends_with, first_len}
use Rattle.aiger_body.proofs.text.Ends.piece_len.Given as goal

-- what has passed, and what is left of the piece
abbrev pub invariant-loop-i : goal.invariant-loop-i
invariant-loop-i l = l.i + first_len (ends_with l.self) (drop l.i l.text) ≡ first_len (ends_with l.self) l.text
