use Rattle.fin_monitor.proofs.monitor.Monitor.start.Goals as goal

pub returns-clause-within : goal.returns-clause-within
returns-clause-within c = c.args.self.now.right.some
