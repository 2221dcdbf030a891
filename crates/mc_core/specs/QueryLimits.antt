-- Which limits are those of queries.
use Rattle.hy_base.specs.declared.limit.Kind.{Kind}
use Rattle.hy_base.specs.declared.limit.Kind.TheVariants.{CnfVariables, CnfLiterals}

abbrev pub IsQueryLimit : Kind → Type 0
IsQueryLimit CnfVariables = Unit {0}
IsQueryLimit CnfLiterals = Unit {0}
IsQueryLimit _ = ⊥
