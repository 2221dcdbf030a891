-- What the operators of the code stand for in the grammar.
use Rattle.std.specs.Prelude.{ℕ}
use Rattle.hy_formula.specs.Trees.{Tree, not, next, finally, globally, and, or, implies, iff, until, release, weak}
use Rattle.hy_read.specs.declared.operator.Rank.{Rank}
use Rattle.hy_read.specs.declared.operator.Rank.TheVariants as ranks
use Rattle.hy_read.specs.declared.operator.Unary.{Unary}
use Rattle.hy_read.specs.declared.operator.Unary.TheVariants.{Not, Next, Finally, Globally}
use Rattle.hy_read.specs.declared.operator.Binary.{Binary}
use Rattle.hy_read.specs.declared.operator.Binary.TheVariants.{And, Or, Implies, Iff, Until, Release, Weak}

-- the number of the rank's line in the grammar
abbrev pub rank_number : Rank → ℕ
rank_number ranks.Unary = 0
rank_number ranks.Temporal = 1
rank_number ranks.And = 2
rank_number ranks.Or = 3
rank_number ranks.Implies = 4
rank_number ranks.Iff = 5

-- what an operator makes of the operand behind it
abbrev pub makes : Unary → Tree → Tree
makes Not = not
makes Next = next
makes Finally = finally
makes Globally = globally

-- what an operator makes of the operands around it
abbrev pub joins : Binary → Tree → Tree → Tree
joins And = and
joins Or = or
joins Implies = implies
joins Iff = iff
joins Until = until
joins Release = release
joins Weak = weak

-- the rank of an operator
abbrev pub rank_of : Binary → ℕ
rank_of And = 2
rank_of Or = 3
rank_of Implies = 4
rank_of Iff = 5
rank_of Until = 1
rank_of Release = 1
rank_of Weak = 1
