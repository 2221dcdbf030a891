use Rattle.aiger_print.proofs.ReadBack.{aag_back, aig_back}
use Rattle.aiger_print.proofs.laws.printed_reads_back.Goals as goal

pub returns-clause-aag : goal.returns-clause-aag
returns-clause-aag c = aag_back

pub returns-clause-aig : goal.returns-clause-aig
returns-clause-aig c = aig_back
