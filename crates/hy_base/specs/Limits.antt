-- How much of each kind is taken.
use Rattle.std.specs.Prelude.{ℕ}
use Rattle.hy_base.specs.declared.limit.Kind.{Kind}
use Rattle.hy_base.specs.declared.limit.Kind.TheVariants.{Bytes, Specs, Quantifiers, Parens, Height, Names, Instances, Closure, Joint, Atoms, Table, Length, Sessions, Saves, Variables, CnfVariables, CnfLiterals, StrategyNames}

-- the number past which a count is too much
abbrev pub most : Kind → ℕ
most Bytes = 67108864
most Specs = 16
most Quantifiers = 8
most Parens = 200
most Height = 200
most Names = 64
most Instances = 4096
most Closure = 1024
most Joint = 4194304
most Atoms = 16
most Table = 4194304
most Length = 1024
most Sessions = 1024
most Saves = 64
most Variables = 1048576
most CnfVariables = 16777216
most CnfLiterals = 134217728
most StrategyNames = 64
