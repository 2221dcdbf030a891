use Rattle.free_net.proofs.Fulfilling.{from-path, to-path, traces-fulfil, traces-named}
use Rattle.free_net.proofs.laws.paths_fulfil.Goals as goal

pub returns-clause-exactly : goal.returns-clause-exactly
returns-clause-exactly c plan reduced = (to-path plan reduced, from-path plan reduced)

pub returns-clause-traces : goal.returns-clause-traces
returns-clause-traces c plan reduced = traces-fulfil plan reduced c.one_execution.ensures

pub returns-clause-named : goal.returns-clause-named
returns-clause-named c = traces-named
