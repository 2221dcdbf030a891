-- How many literals of a clause are not false.
use Rattle.std.specs.Prelude.{ℤ, List}
use Rattle.chain_check.specs.declared.partial.Open.{Open}
use Rattle.chain_check.specs.declared.partial.Open.TheVariants.{Nothing, One, More}
use Rattle.chain_check.specs.Clauses.{Clause}
use Rattle.chain_check.specs.Chains.{AllFalseIn, IsUnit, AreTwo}

abbrev pub IsOpenness : List ℤ → Clause → Open → Type 0
IsOpenness trues c Nothing = AllFalseIn trues c
IsOpenness trues c (One l) = IsUnit trues c l
IsOpenness trues c More = (l : ℤ) × (m : ℤ) × AreTwo trues c l m
