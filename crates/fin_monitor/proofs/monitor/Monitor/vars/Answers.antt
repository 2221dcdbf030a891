use Rattle.fin_monitor.proofs.monitor.Monitor.vars.Goals as goal

pub returns-clause-few : goal.returns-clause-few
returns-clause-few c = c.args.self.now.right.few
