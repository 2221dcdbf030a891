-- A reader's result, as an answer.
use Rattle.std.specs.Prelude.{◌≡◌, ℕ, List, Result, Ok, Err, Bool}
use Rattle.hy_base.specs.declared.limit.Kind.{Kind}
use Rattle.hy_base.specs.declared.limit.Kind.TheVariants as kinds
use Rattle.hy_read.specs.declared.error.ReadError.{ReadError}
use Rattle.hy_read.specs.declared.error.ReadError.TheVariants.{Syntax, Unbound, Limit, Memory}
use Rattle.hy_formula.specs.Formulas.{Plain}
use Rattle.hy_read.specs.Answers.{faulty, free, over, read_as, Answers}
use Rattle.hy_read.specs.Results.{Count, specs, quantifiers, parens, heights, names, most}

-- what a count is called in a limit
abbrev pub kind_of_count : Count → Kind
kind_of_count specs = kinds.Specs
kind_of_count quantifiers = kinds.Quantifiers
kind_of_count parens = kinds.Parens
kind_of_count heights = kinds.Height
kind_of_count names = kinds.Names

-- Unless memory was wanting, the result is the answer to the bytes: `plain` gives the formulas of what is read,
-- `most_quantifiers` quantifiers may stand in a formula, and the table of names was `old` and is `table` then.
abbrev pub IsAnswer : {F : Type 0} → (F → List Plain) → Bool → ℕ → List (List ℕ) → List (List ℕ) → List ℕ → Result F ReadError → Type 0
IsAnswer plain many most_quantifiers old table bytes (Ok f) = Answers many most_quantifiers old bytes (read_as (plain f) table)
IsAnswer plain many most_quantifiers old table bytes (Err (Syntax token byte)) = Answers many most_quantifiers old bytes (faulty token byte)
IsAnswer plain many most_quantifiers old table bytes (Err (Unbound byte)) = Answers many most_quantifiers old bytes (free byte)
IsAnswer plain many most_quantifiers old table bytes (Err (Limit l)) =
    (c : Count) × (l.kind ≡ kind_of_count c) × (l.limit ≡ most most_quantifiers c)
    × Answers many most_quantifiers old bytes (over c (most most_quantifiers c))
IsAnswer plain many most_quantifiers old table bytes (Err Memory) = Unit {0}
