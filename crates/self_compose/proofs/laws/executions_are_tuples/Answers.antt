use Rattle.std.proofs.Common.{arith}
use Rattle.self_compose.proofs.Tuples.{copy-execution, join-execution, copy-joined, copy-recurs, joined-recurs, composed-net}
use Rattle.self_compose.proofs.laws.executions_are_tuples.Goals as goal

pub returns-clause-copy : goal.returns-clause-copy
returns-clause-copy c net n word good is k few =
    copy-execution net n (omega (arith, few)) word good is k few

pub returns-clause-join : goal.returns-clause-join
returns-clause-join c net n word good some = join-execution net n some word good

pub returns-clause-joined : goal.returns-clause-joined
returns-clause-joined c n words k i v few constant = copy-joined n words k i few constant v

pub returns-clause-copy_recurs : goal.returns-clause-copy_recurs
returns-clause-copy_recurs c = copy-recurs

pub returns-clause-joined_recurs : goal.returns-clause-joined_recurs
returns-clause-joined_recurs c n words s p some = joined-recurs n some words s p

pub returns-clause-net : goal.returns-clause-net
returns-clause-net c = composed-net
