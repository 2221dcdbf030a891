use Rattle.std.proofs.Common.{length}
use Rattle.cert_text.specs.Lines.{words_of}
use Rattle.cert_text.specs.Numbers.{SaysLiteral}
use Rattle.cert_text.specs.Shortened.{short_literal}
use Rattle.cert_text.proofs.Kept.{AreKept}
use Rattle.cert_text.proofs.WordsRead.{EndedLeft}
use Rattle.cert_text.proofs.learned_lines.read_clause.Given as goal

-- What is left ends as all does, and what stands before it is kept.
abbrev pub invariant-loop-word : goal.invariant-loop-word
invariant-loop-word l = record {
  ended : EndedLeft SaysLiteral (words_of l.text) (words_of l.left);
  kept : AreKept SaysLiteral short_literal (words_of l.text) (words_of l.left) l.clause;
}

abbrev pub decreases-loop-word : goal.decreases-loop-word
decreases-loop-word l = length l.left
