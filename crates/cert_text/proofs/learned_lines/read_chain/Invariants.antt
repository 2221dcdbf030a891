use Rattle.std.proofs.Common.{length}
use Rattle.cert_text.specs.Lines.{words_of}
use Rattle.cert_text.specs.Numbers.{SaysCount}
use Rattle.cert_text.specs.Shortened.{short_number}
use Rattle.cert_text.proofs.Kept.{AreKept}
use Rattle.cert_text.proofs.WordsRead.{EndedLeft}
use Rattle.cert_text.proofs.learned_lines.read_chain.Given as goal

-- What is left ends as all does, and what stands before it is kept.
abbrev pub invariant-loop-word : goal.invariant-loop-word
invariant-loop-word l = record {
  ended : EndedLeft SaysCount (words_of l.text) (words_of l.left);
  kept : AreKept SaysCount short_number (words_of l.text) (words_of l.left) l.chain;
}

abbrev pub decreases-loop-word : goal.decreases-loop-word
decreases-loop-word l = length l.left
