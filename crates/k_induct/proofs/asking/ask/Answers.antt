use Rattle.std.proofs.Common.{subst}
use Rattle.sat_core.specs.declared.solving.Outcome.{Outcome}
use Rattle.sat_core.specs.Outcomes.{IsOutcome}
use Rattle.k_induct.proofs.UnderWay.{refuted-reply}
use Rattle.k_induct.proofs.asking.ask.Goals as goal

pub returns-in-Refuted : goal.returns-in-Refuted
returns-in-Refuted c =
    let P : Outcome → Type 0 = IsOutcome c.args.query.cnf.variables
    c.args.query.cnf.clauses c.args.conflicts in
    refuted-reply c.args.safe.now c.args.query c.args.conflicts c.in-Refuted.log
    c.requires.safe c.requires.can_ask c.requires.query
    (subst P c.in-Refuted.is c.in_ok-log.ensures)
