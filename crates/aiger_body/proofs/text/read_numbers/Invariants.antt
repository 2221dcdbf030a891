use Rattle.std.specs.List.{slice_split}
use Rattle.std.specs.Option.{option_copied}
use Rattle.aiger_body.specs.Texts.{is_space}
use Rattle.aiger_body.specs.Words.{words_of, left_of}
use Rattle.aiger_body.proofs.Numbers.{AreRead}
use Rattle.aiger_body.proofs.text.read_numbers.Given as goal

abbrev pub invariant-loop-left : goal.invariant-loop-left
invariant-loop-left l = AreRead (slice_split is_space l.text) (words_of (option_copied l.left)) l.fn.row l.row l.count

abbrev pub decreases-loop-left : goal.decreases-loop-left
decreases-loop-left l = left_of (option_copied l.left)
