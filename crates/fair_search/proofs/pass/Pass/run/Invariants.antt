use Rattle.std.proofs.Common.{◌≡◌, ◌+◌}
use Rattle.fair_search.specs.Passing.{IsPass, looks, left}
use Rattle.fair_search.proofs.pass.Pass.run.Given as goal

abbrev pub invariant-steps : goal.invariant-steps
invariant-steps g l = record {
  pass : IsPass l.g l.self;
  counted : l.steps ≡ l.initial.steps + looks
      l.self;
}

abbrev pub decreases-steps : goal.decreases-steps
decreases-steps g l = left l.g l.self
