-- Which bytes are formulas, and which are refused, by which fault.
use Rattle.std.specs.Prelude.{ℕ, Bool, true, false, List, [], ◌∷◌}
use Rattle.hy_formula.specs.Formulas.{Plain}
use Rattle.hy_read.specs.Answers.{Answer as Found, Answers, read_as}
use Rattle.hy_files.specs.Faults.{Refuses}
use Rattle.hy_files.specs.declared.fault.FileFault.{FileFault}

-- The bytes are the text of these formulas, of at most so many quantifiers each: of one, or of formulas that are joined by
-- semicolons where they may be many. `old` are the names of the files before, and `new` those then.
abbrev pub IsText : Bool → ℕ → List (List ℕ) → List ℕ → List Plain → List (List ℕ) → Type 0
IsText many quantifiers old bytes formulas new = Answers many quantifiers old bytes (read_as formulas new)

-- The bytes are no such text, by this fault.
abbrev pub IsRefused : Bool → ℕ → List (List ℕ) → List ℕ → FileFault → Type 0
IsRefused many quantifiers old bytes fault = (found : Found) × Answers many quantifiers old bytes found × Refuses found fault

-- The bytes are the text of one formula, or of specifications.
abbrev pub IsFormula : ℕ → List (List ℕ) → List ℕ → Plain → List (List ℕ) → Type 0
IsFormula quantifiers old bytes f new = IsText false quantifiers old bytes (f ∷ []) new

abbrev pub AreSpecs : ℕ → List (List ℕ) → List ℕ → List Plain → List (List ℕ) → Type 0
AreSpecs quantifiers old bytes formulas new = IsText true quantifiers old bytes formulas new

-- They are none, by this fault.
abbrev pub IsNoFormula : ℕ → List (List ℕ) → List ℕ → FileFault → Type 0
IsNoFormula quantifiers old bytes fault = IsRefused false quantifiers old bytes fault

abbrev pub AreNoSpecs : ℕ → List (List ℕ) → List ℕ → FileFault → Type 0
AreNoSpecs quantifiers old bytes fault = IsRefused true quantifiers old bytes fault
