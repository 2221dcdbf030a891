use Rattle.std.proofs.Common.{ap, arith}
use Rattle.sat_core.specs.Solvers.{IsReady}
use Rattle.sat_core.proofs.Readying.{ready-implied, on-ok}
use Rattle.sat_core.proofs.Propagating.{no-more-than}
use Rattle.sat_core.proofs.solver.Solver.imply.Goals as goal

pub push-requires-clause-few : goal.push-requires-clause-few
push-requires-clause-few c = omega (
  arith,
  no-more-than c.args.self.now c.requires.ready,
  c.requires.ready.few_variables,
)

pub returns-clause-ready : goal.returns-clause-ready
returns-clause-ready c =
    on-ok c.push.result _ _ (IsReady c.push.new.self)
    (λ reasons pushed. ready-implied c.args.self.now c.push.new.self c.args.l c.args.number
    c.requires.ready c.requires.step
    (record {
      clauses_same = c.push.ensures.kept.0;
      limits_same =
          ap (λ v. v.items) c.push.ensures.kept.1;
      reasons_more = reasons;
      places_set =
          c.push.ensures.places;
      pushed = pushed;
    }))
    c.push.ensures.reasons c.push.ensures.pushed
