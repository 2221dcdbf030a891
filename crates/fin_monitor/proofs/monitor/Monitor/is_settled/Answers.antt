use Rattle.std.proofs.Common.{arith}
use Rattle.fin_monitor.proofs.monitor.Monitor.is_settled.Goals as goal

pub overflow_sub-result : goal.overflow_sub-result
overflow_sub-result c = omega (arith, c.len.ensures, c.args.self.now.right.some)
