use Rattle.std.proofs.Common.{◌≡◌, ◌+◌, drop}
use Rattle.std.specs.List.{prefix_len}
use Rattle.hy_text.specs.Classes.{is_of}
use Rattle.hy_text.proofs.class.Class.run_len.Given as goal

-- what has passed, and the run that is left
abbrev pub invariant-loop-i : goal.invariant-loop-i
invariant-loop-i l = l.i + prefix_len (is_of l.self) (drop l.i l.text) ≡ prefix_len (is_of l.self) l.text
