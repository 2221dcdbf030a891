use Rattle.std.proofs.Common.{◌≡◌, ◌++◌, take}
use Rattle.std.specs.List.{flat_map}
use Rattle.chain_check.specs.LogTexts.{entry_text}
use Rattle.chain_check.proofs.printing.print_log.Given as goal

abbrev pub invariant-loop-entry : goal.invariant-loop-entry
invariant-loop-entry l =
    l.text ≡ l.initial.text ++ flat_map entry_text (take l.entry-index l.log)
