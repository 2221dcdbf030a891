use Rattle.std.proofs.Common.{◌≡◌}
use Rattle.ltl_tableau.proofs.links.Links.new.Given as goal

abbrev pub invariant-loop-user : goal.invariant-loop-user
invariant-loop-user l = l.links.opposites ≡ l.initial.links.opposites
