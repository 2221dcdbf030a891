-- The table of places as code has it: a place without its count of parentheses, and a kind of tokens.
use Rattle.std.specs.Prelude.{◌≡◌, ℕ, Bool, true, false}
use Rattle.hy_read.specs.Places.{Place, start, worded, named, dotted, operand, operator}
use Rattle.hy_read.specs.Tokens as kinds
use Rattle.hy_read.specs.declared.table.Stage.{Stage}
use Rattle.hy_read.specs.declared.table.Stage.TheVariants.{Start, Worded, Named, Dotted, Operand, Operator}
use Rattle.hy_read.specs.declared.table.Kind.{Kind}
use Rattle.hy_read.specs.declared.table.Kind.TheVariants.{Word, Variable, Dot, Prefix, Leaf, OpenParen, Binary, CloseParen, Semicolon, Stray}

abbrev pub begins_operand : Kind → Bool
begins_operand Prefix = true
begins_operand OpenParen = true
begins_operand Leaf = true
begins_operand _ = false

-- what may stand at a place, up to the parentheses that stand open
abbrev pub is_allowed : Stage → Kind → Bool
is_allowed Start Word = true
is_allowed Worded Variable = true
is_allowed Named Dot = true
is_allowed Dotted Word = true
is_allowed Dotted k = begins_operand k
is_allowed Operand k = begins_operand k
is_allowed Operator Binary = true
is_allowed Operator CloseParen = true
is_allowed Operator Semicolon = true
is_allowed _ _ = false

abbrev pub stage_behind : Kind → Stage
stage_behind Word = Worded
stage_behind Variable = Named
stage_behind Dot = Dotted
stage_behind Prefix = Operand
stage_behind OpenParen = Operand
stage_behind Binary = Operand
stage_behind Leaf = Operator
stage_behind CloseParen = Operator
stage_behind Semicolon = Start
stage_behind Stray = Start

abbrev pub place_of : Stage → ℕ → Place
place_of Start parens = start
place_of Worded parens = worded
place_of Named parens = named
place_of Dotted parens = dotted
place_of Operand parens = operand parens
place_of Operator parens = operator parens

abbrev pub kind_of : Kind → kinds.Kind
kind_of Word = kinds.word
kind_of Variable = kinds.name
kind_of Dot = kinds.dot
kind_of Prefix = kinds.prefix
kind_of Leaf = kinds.leaf
kind_of OpenParen = kinds.open_paren
kind_of Binary = kinds.binary
kind_of CloseParen = kinds.close_paren
kind_of Semicolon = kinds.semicolon
kind_of Stray = kinds.stray

-- Parentheses are open in a body alone.
abbrev pub IsPlaced : Stage → ℕ → Type 0
IsPlaced Operand n = Unit {0}
IsPlaced Operator n = Unit {0}
IsPlaced _ n = n ≡ 0
