use Rattle.std.proofs.Common.{◌≡◌, ◌+◌, drop, not}
use Rattle.std.specs.List.{prefix_len}
use Rattle.aiger_body.specs.Texts.{is_space}
use Rattle.aiger_body.proofs.text.word_len.Given as goal

-- what has passed, and what is left of the word
abbrev pub invariant-loop-i : goal.invariant-loop-i
invariant-loop-i l = l.i + prefix_len (λ b. not (is_space b)) (drop l.i l.text) ≡ prefix_len (λ b. not (is_space b)) l.text
