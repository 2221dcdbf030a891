use Rattle.std.proofs.Common.{◌≡◌, ◌++◌, flat_map}
use Rattle.std.specs.List.{range_with_len}
use Rattle.aiger_print.specs.Printed.{symbol_line, name_at}
use Rattle.aiger_print.proofs.symbols.push_symbols.Given as goal

abbrev pub invariant-loop-n : goal.invariant-loop-n
invariant-loop-n l = l.text ≡ l.fn.text ++ flat_map (λ n. symbol_line l.letter n (name_at l.names n)) (range_with_len 0 l.n)
