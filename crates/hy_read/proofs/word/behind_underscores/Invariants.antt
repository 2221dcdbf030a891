use Rattle.std.proofs.Common.{◌≡◌, ◌+◌, ◌≤◌, not, length, take}
use Rattle.std.specs.List.{suffix_len}
use Rattle.hy_text.specs.Bytes.{is_underscore}
use Rattle.hy_read.proofs.word.behind_underscores.Given as goal

-- what has been passed from the end back, and what is left to pass
abbrev pub invariant-loop-end : goal.invariant-loop-end
invariant-loop-end l = record {
  within : l.end ≤ length l.word;
  passed : l.end + suffix_len (λ b. not (is_underscore b)) l.word ≡ length l.word + suffix_len (λ b. not (is_underscore b)) (take l.end l.word);
}

abbrev pub decreases-loop-end : goal.decreases-loop-end
decreases-loop-end l = l.end
