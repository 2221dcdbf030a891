use Rattle.std.proofs.Common.{take}
use Rattle.bound_search.specs.Searches.{HasEachOnce}
use Rattle.bound_search.proofs.distinct.each_once.Given as goal

abbrev pub invariant-loop-lasso : goal.invariant-loop-lasso
invariant-loop-lasso l = HasEachOnce (take l.lasso-index l.lasso-items) l.made
