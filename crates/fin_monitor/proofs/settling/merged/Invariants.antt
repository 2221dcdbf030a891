use Rattle.std.proofs.Common.{◌≡◌, ◌++◌, map, take, replicate}
use Rattle.fin_monitor.specs.Tables.{standing}
use Rattle.fin_monitor.proofs.settling.merged.Given as goal

abbrev pub invariant-loop-next : goal.invariant-loop-next
invariant-loop-next l = l.table ≡ map (standing l.flags l.last) (take l.next-index l.machine.table)

abbrev pub invariant-loop-code : goal.invariant-loop-code
invariant-loop-code l = l.table ≡ l.initial.table ++ replicate l._code l.last
