use Rattle.std.proofs.Common.{arith}
use Rattle.fin_monitor.specs.Seen.{machine_of}
use Rattle.fin_monitor.proofs.Running.{few-states}
use Rattle.fin_monitor.proofs.monitor.Monitor.states.Goals as goal

pub overflow_cast-result : goal.overflow_cast-result
overflow_cast-result c = omega (arith, c.len.ensures, few-states (machine_of c.args.self.now) c.args.self.now.right)

pub returns-clause-some : goal.returns-clause-some
returns-clause-some c = omega (arith, c.len.ensures, c.args.self.now.right.some)
