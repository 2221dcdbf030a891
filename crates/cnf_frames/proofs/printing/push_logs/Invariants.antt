use Rattle.std.proofs.Common.{◌≡◌, ◌++◌, take}
use Rattle.std.specs.List.{flat_map}
use Rattle.chain_check.specs.LogTexts.{log_text}
use Rattle.cnf_frames.proofs.printing.push_logs.Given as goal

abbrev pub invariant-loop-log : goal.invariant-loop-log
invariant-loop-log l = l.text ≡ l.fn.text ++ flat_map log_text (take l.log-index l.logs)
