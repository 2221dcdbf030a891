-- A formula as one plain value.
use Rattle.std.specs.Prelude.{List, map}
use Rattle.hy_formula.specs.declared.formula.Formula.{Formula}
use Rattle.hy_formula.specs.declared.prefix.Quant.{Quant}
use Rattle.hy_formula.specs.Trees.{Tree, tree_of}

-- the quantifiers, the outermost first, and the body; its variables are their places
pub record Plain : Type 0 where
  pub prefix : List Quant
  pub body : Tree

-- a formula without where its parts lie in memory
abbrev pub plain_formula : Formula → Plain
plain_formula f = record { prefix = f.prefix; body = tree_of f.body }

abbrev pub plain_formulas : List Formula → List Plain
plain_formulas formulas = map plain_formula formulas
