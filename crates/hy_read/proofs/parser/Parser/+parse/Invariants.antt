-- Each call lowers a budget, or goes from an expression to what binds tighter.
use Rattle.std.proofs.Common.{◌+◌, ◌*◌}
use Rattle.hy_read.specs.Operators.{rank_number}
use Rattle.hy_read.proofs.parser.Parser.+parse.Given as goal

abbrev pub decreases-expression : goal.decreases-expression
decreases-expression l = 9 * (l.parens + l.high) + (rank_number l.rank + 3)

abbrev pub decreases-operand : goal.decreases-operand
decreases-operand l = 9 * (l.parens + l.high) + 2

abbrev pub decreases-behind_symbol : goal.decreases-behind_symbol
decreases-behind_symbol l = 9 * (l.parens + l.high) + 1

abbrev pub decreases-group : goal.decreases-group
decreases-group l = 9 * (l.parens + l.high)

abbrev pub decreases-prefixed : goal.decreases-prefixed
decreases-prefixed l = 9 * (l.parens + l.high)
