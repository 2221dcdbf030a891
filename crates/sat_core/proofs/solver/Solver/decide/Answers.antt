use Rattle.std.proofs.Common.{◌≡◌, ◌++◌, ◌∷◌, [], length, ap, arith, ◌∙◌}
use Rattle.sat_core.specs.Solvers.{IsReady}
use Rattle.sat_core.proofs.Readying.{ready-decided, on-ok}
use Rattle.sat_core.proofs.Propagating.{no-more-than}
use Rattle.sat_core.proofs.solver.Solver.decide.Goals as goal

pub push-requires-2-clause-few : goal.push-requires-2-clause-few
push-requires-2-clause-few c = omega (
  arith,
  no-more-than c.args.self.now c.requires.ready,
  c.requires.ready.few_variables,
)

pub returns-clause-ready : goal.returns-clause-ready
returns-clause-ready c =
    let more : c.push.new.self.items ≡ c.args.self.now.limits.items ++ length
    c.args.self.now.partial.literals ∷ [] = c.in_ok-push.ensures.items ∙
    ap (λ q. c.args.self.now.limits.items ++ q ∷ []) c.len.ensures in
    on-ok c.push-2.result _ _ (IsReady c.push-2.new.self)
    (λ reasons pushed. ready-decided c.args.self.now c.push-2.new.self c.args.l c.requires.ready
    c.requires.settled c.requires.right c.requires.open_yet
    (record {
      clauses_same = c.push-2.ensures.kept.0;
      limits_same =
          ap (λ v. v.items) c.push-2.ensures.kept.1 ∙ more;
      reasons_more = reasons;
      places_set =
          c.push-2.ensures.places;
      pushed = pushed;
    }))
    c.push-2.ensures.reasons c.push-2.ensures.pushed
