use Rattle.fin_monitor.proofs.monitor.Monitor.parts_of.Goals as goal

pub returns : goal.returns
returns c = c.args.self.now.by_variable.each c.args.var c.at.result.now c.at.ensures
