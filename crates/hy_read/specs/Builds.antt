-- What is built of the formulas of a text.
use Rattle.std.specs.Prelude.{◌≡◌, ℕ, ◌<◌, ◌≤◌, List, map, length, Option, Result, Ok, Err}
use Rattle.hy_formula.specs.Trees.{Tree, height}
use Rattle.hy_formula.specs.declared.formula.Formula.{Formula}
use Rattle.hy_read.specs.declared.build_error.BuildError.{BuildError}
use Rattle.hy_read.specs.declared.build_error.BuildError.TheVariants.{TooHigh, Memory}
use Rattle.hy_read.specs.declared.formulas.Built.{Built}
use Rattle.hy_formula.specs.Formulas.{plain_formula, plain_formulas}
use Rattle.hy_read.specs.Answers.{plain_of}
use Rattle.hy_read.specs.Grammar.{Quantifier, Read}
use Rattle.hy_read.specs.Parses.{meaning, IsFollowed}
use Rattle.hy_read.specs.Results.{largest, variables_of}
use Rattle.hy_read.specs.Tokens.{Token}

-- what the atoms of a formula mean, with a table of names or without
abbrev pub meaning_in : Option (List (List ℕ)) → List Quantifier → List ℕ → List ℕ → Tree → Type 0
meaning_in names quantifiers = meaning names (variables_of quantifiers)

abbrev pub most_of_quantifiers : List Read → ℕ
most_of_quantifiers formulas = largest (map (λ f. length f.quantifiers) formulas)

abbrev pub most_of_heights : List Read → ℕ
most_of_heights formulas = largest (map (λ f. height f.tree) formulas)

-- The formula was built, and this rest stands behind, or it is too high.
abbrev pub IsFormulaBuilt : List ℕ → Read → List Token → Result Built BuildError → Type 0
IsFormulaBuilt text f rest (Ok b) =
    (plain_formula b.formula ≡ plain_of f) × (height f.tree ≤ 200) × IsFollowed text b.follow rest
IsFormulaBuilt text f rest (Err TooHigh) = 200 < height f.tree
IsFormulaBuilt text f rest (Err Memory) = Unit {0}

-- The formulas were built, or one is too high.
abbrev pub AreBuilt : List Read → Result (List Formula) BuildError → Type 0
AreBuilt fs (Ok formulas) = (plain_formulas formulas ≡ map plain_of fs) × (most_of_heights fs ≤ 200)
AreBuilt fs (Err TooHigh) = 200 < most_of_heights fs
AreBuilt fs (Err Memory) = Unit {0}
