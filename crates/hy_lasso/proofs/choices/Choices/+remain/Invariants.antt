use Rattle.std.proofs.Common.{◌≡◌, ◌-◌, ◌+◌, length, drop}
use Rattle.hy_formula.specs.Trees.{tree_of}
use Rattle.hy_lasso.specs.Words.{picked}
use Rattle.hy_lasso.proofs.Choosing.{Tried}
use Rattle.hy_lasso.proofs.choices.Choices.+remain.Given as goal

-- the quantifiers that are left
abbrev pub decreases-remain : goal.decreases-remain
decreases-remain l = length l.self.now.formula.now.prefix - length l.tuple.now

abbrev pub invariant-loop-k : goal.invariant-loop-k
invariant-loop-k l = (l.tuple ≡ l.initial.tuple)
    × Tried l.self.list.now (tree_of l.self.formula.now.body) (picked l.self.list.now l.initial.tuple) (drop (l.chosen + 1) l.self.formula.now.prefix) l.wanted l.k
