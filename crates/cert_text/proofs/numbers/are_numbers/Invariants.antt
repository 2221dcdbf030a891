use Rattle.std.proofs.Common.{◌↔◌, length}
use Rattle.cert_text.specs.Lines.{words_of}
use Rattle.hy_text.specs.Numbers.{SaysNumber}
use Rattle.cert_text.proofs.WordsRead.{EachSpeaks}
use Rattle.cert_text.proofs.numbers.are_numbers.Given as goal

-- What is left says numbers where all does.
abbrev pub invariant-loop-word : goal.invariant-loop-word
invariant-loop-word l =
    EachSpeaks SaysNumber (words_of l.text) ↔ EachSpeaks SaysNumber (words_of l.left)

abbrev pub decreases-loop-word : goal.decreases-loop-word
decreases-loop-word l = length l.left
