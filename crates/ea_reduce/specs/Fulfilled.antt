-- Tuples of lassos that fulfil a plan, and lists of lassos that satisfy formulas.
use Rattle.std.specs.Prelude.{◌≡◌, ◌⊎◌, ◌<◌, List, length}
use Rattle.hy_bits.specs.Letter.{Letter}
use Rattle.hy_formula.specs.Trees.{Tree}
use Rattle.hy_formula.specs.Temporal.{endless}
use Rattle.hy_formula.specs.Lassos.{Lasso}
use Rattle.hy_formula.specs.Classes.{class_of}
use Rattle.hy_formula.specs.declared.classes.Class.TheVariants as class
use Rattle.hy_formula.specs.declared.prefix.Quant.{Quant}
use Rattle.hy_lasso.specs.Words.{AreLassos, lasso_words, Satisfies}
use Rattle.ltl_closure.specs.Jobs.{AllHold}
use Rattle.ea_reduce.specs.Plans.{PlainPlan, plan_tasks}

-- On the tuple, which has a lasso for each variable of the plan, all jobs hold.
pub record Fulfils (plan : PlainPlan) (tuple : List (Lasso Letter)) : Type 0 where
  pub count : length tuple ≡ plan.vars
  pub lassos : AreLassos tuple
  pub hold : AllHold endless (lasso_words tuple) (plan_tasks plan)

abbrev pub IsFulfillable : PlainPlan → Type 0
IsFulfillable plan = (tuple : List (Lasso Letter)) × Fulfils plan tuple

-- The list is one of lassos, not empty, and satisfies the formula.
pub record IsModel (prefix : List Quant) (body : Tree) (list : List (Lasso Letter)) : Type 0 where
  pub some : 0 < length list
  pub lassos : AreLassos list
  pub satisfies : Satisfies list prefix body

-- It satisfies the first formula, and not the second.
pub record Separates (first : List Quant) (body : Tree) (second : List Quant) (other : Tree) (list : List (Lasso Letter)) : Type 0 where
  pub model : IsModel first body list
  pub fails : ¬ Satisfies list second other

-- The formulas of this prefix are existential or universal.
abbrev pub IsOfOneKind : List Quant → Type 0
IsOfOneKind prefix = (class_of prefix ≡ class.Exists) ⊎ (class_of prefix ≡ class.Forall)
