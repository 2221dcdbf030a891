-- Which numbers options are given.
use Rattle.std.specs.Prelude.{◌≡◌, ◌≤◌, ℕ, List, [], ◌∷◌, decimal}
use Rattle.hy_words.specs.Words.{Text}

-- The text is this number, in digits without a sign and without a leading zero, and within the range.
abbrev pub IsNumber : Text → ℕ → ℕ → ℕ → Type 0
IsNumber text least most n = (text ≡ decimal n) × (least ≤ n) × (n ≤ most)

-- What an option is given is this number, or nothing is and it is the usual one.
abbrev pub IsNumberOr : ℕ → List Text → ℕ → ℕ → ℕ → Type 0
IsNumberOr usual [] least most n = n ≡ usual
IsNumberOr usual (value ∷ _) least most n = IsNumber value least most n

-- What the option is given is a number of conflicts of a query, from 0 to 1,000,000,000; or it is 100,000.
abbrev pub AreConflicts : List Text → ℕ → Type 0
AreConflicts given n = IsNumberOr 100000 given 0 1000000000 n
