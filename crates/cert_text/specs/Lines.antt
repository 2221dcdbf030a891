-- Lines, their words, and what lines say one after another.
use Rattle.std.specs.Prelude.{ℕ, List, Option, Some, None}
use Rattle.hy_formula.specs.Quantifiers.{AreMatched}
use Rattle.hy_text.specs.Cuts.{cut_at}

abbrev pub Line : Type 0
Line = List ℕ

-- the words of a line, with one space between each two
abbrev pub words_of : Line → List (List ℕ)
words_of line = cut_at 32 line

-- Each text says the value at its place.
abbrev pub Say : {A : Type 0} → (List ℕ → A → Type 0) → List (List ℕ) → List A → Type 0
Say Says = AreMatched Says

-- The line says some value.
abbrev pub Speaks : {A : Type 0} → (List ℕ → A → Type 0) → Line → Type 0
Speaks Says line = (x : _) × Says line x

-- The line says this value, or says none.
abbrev pub IsSaid : {A : Type 0} → (List ℕ → A → Type 0) → Line → Option A → Type 0
IsSaid Says line None = ¬ Speaks Says line
IsSaid Says line (Some x) = Says line x
