use Rattle.std.proofs.Common.{length, ap, ◌∙◌}
use Rattle.sat_core.proofs.Rewinding.{first-kept}
use Rattle.sat_core.proofs.session.Session.owning.Goals as goal

pub invariant_of-result : goal.invariant_of-result
invariant_of-result c =
    let after = c.in_ok-watch_all.ensures in
    first-kept _ c.args.cnf.variables c.in_ok-watch_all.field-0 c.is_some-refuted.result
    c.is_some-refuted.ensures after.ready
    (ap length (after.goes_on.limits ∙ c.in_ok-search.ensures.start.no_limits))
    (after.goes_on.variables ∙ c.in_ok-search.ensures.variables) after.watching
