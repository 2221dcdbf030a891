-- The endless words of a tuple of lassos, and when a list of lassos satisfies a formula.
use Rattle.std.specs.Prelude.{ℕ, ◌<◌, List, [], ◌++◌, map, length, slice_index_or}
use Rattle.std.specs.FinSet.{empty, contains}
use Rattle.std.specs.List.{Contains}
use Rattle.hy_bits.specs.Letter.{Letter}
use Rattle.hy_formula.specs.Trees.{Tree}
use Rattle.hy_formula.specs.Temporal.{endless, Words, SatisfiesAt}
use Rattle.hy_formula.specs.declared.prefix.Quant.{Quant}
use Rattle.hy_formula.specs.Quantifiers.{Quantified}
use Rattle.hy_formula.specs.Lassos.{Lasso, lasso_at}

abbrev pub no_lasso : Lasso Letter
no_lasso = record { stem = []; cycle = [] }

-- the letter at a position
abbrev pub letter_at : Lasso Letter → ℕ → Letter
letter_at lasso i = lasso_at empty lasso i

-- the words of a tuple of lassos, one for each variable
abbrev pub lasso_words : List (Lasso Letter) → Words
lasso_words tuple name variable i =
    contains (letter_at (slice_index_or tuple variable no_lasso) i) name

-- No cycle is empty.
abbrev pub AreLassos : List (Lasso Letter) → Type 0
AreLassos tuple = (v : ℕ) → v < length tuple → 0 < length (slice_index_or tuple v no_lasso).cycle

-- the lassos at these places
abbrev pub picked : List (Lasso Letter) → List ℕ → List (Lasso Letter)
picked list pick = map (λ k. slice_index_or list k no_lasso) pick

-- A tuple satisfies the body: at its first position.
abbrev pub Meets : Tree → List (Lasso Letter) → Type 0
Meets body tuple = SatisfiesAt endless (lasso_words tuple) body 0

-- Where these lassos were chosen, the quantifiers that are left hold.
abbrev pub Remains : List (Lasso Letter) → Tree → List (Lasso Letter) → List Quant → Type 0
Remains list body chosen prefix =
    Quantified (Contains list) (λ more. Meets body (chosen ++ more)) prefix

-- A list of lassos satisfies a formula, given by its quantifiers and its body.
abbrev pub Satisfies : List (Lasso Letter) → List Quant → Tree → Type 0
Satisfies list prefix body = Quantified (Contains list) (Meets body) prefix

-- Some list of lassos satisfies the formula.
abbrev pub IsSatisfiable : List Quant → Tree → Type 0
IsSatisfiable prefix body =
    (list : List (Lasso Letter)) × (0 < length list) × AreLassos list × Satisfies list prefix body
