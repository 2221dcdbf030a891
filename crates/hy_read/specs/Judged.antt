-- Whether the counts of a text are within their numbers, and what is answered then.
use Rattle.std.specs.Prelude.{◌≡◌, ℕ, suc, ◌<◌, ◌≤◌, List, Bool, Result, Ok, Err, length}
use Rattle.hy_formula.specs.declared.formula.Formula.{Formula}
use Rattle.hy_read.specs.declared.build_error.BuildError.{BuildError}
use Rattle.hy_read.specs.declared.build_error.BuildError.TheVariants as refusals
use Rattle.hy_read.specs.declared.counts.Counts.{Counts}
use Rattle.hy_read.specs.declared.error.ReadError.{ReadError}
use Rattle.hy_read.specs.declared.error.ReadError.TheVariants.{Syntax, Unbound, Limit, Memory}
use Rattle.hy_read.specs.Answers.{Answers, over, read_as}
use Rattle.hy_formula.specs.Formulas.{plain_formulas}
use Rattle.hy_read.specs.Contract.{kind_of_count}
use Rattle.hy_read.specs.Parses.{AreLeft}
use Rattle.hy_read.specs.Results.{Count, specs, quantifiers, parens, heights, names, most, names_of}
use Rattle.hy_read.specs.Surveys.{IsSound}
use Rattle.hy_read.specs.Tokens.{Token}

-- This count is the first that is past its number.
abbrev pub IsPastCount : ℕ → Counts → Count → Type 0
IsPastCount limit c specs = 16 < suc c.semicolons
IsPastCount limit c quantifiers = (suc c.semicolons ≤ 16) × (limit < c.most_quantifiers)
IsPastCount limit c parens = (suc c.semicolons ≤ 16) × (c.most_quantifiers ≤ limit) × (200 < c.most_parens)
IsPastCount limit c heights = ⊥
IsPastCount limit c names = ⊥

-- no count is
pub record IsWithinCounts (limit : ℕ) (c : Counts) : Type 0 where
  pub few_specs : suc c.semicolons ≤ 16
  pub few_quantifiers : c.most_quantifiers ≤ limit
  pub few_parens : c.most_parens ≤ 200

abbrev pub IsJudged : ℕ → Counts → Result (Unit {0}) ReadError → Type 0
IsJudged limit c (Ok u) = IsWithinCounts limit c
IsJudged limit c (Err (Limit l)) =
    (k : Count) × (l.kind ≡ kind_of_count k) × (l.limit ≡ most limit k) × IsPastCount limit c k
IsJudged limit c (Err (Syntax token byte)) = ⊥
IsJudged limit c (Err (Unbound byte)) = ⊥
IsJudged limit c (Err Memory) = ⊥

-- The bytes are a text of so many formulas, whose counts by tokens are within their numbers.
pub record IsMeasured (many : Bool) (limit : ℕ) (bytes : List ℕ) (count : ℕ) : Type 0 where
  pub counts : Counts
  pub sound : IsSound many bytes counts
  pub within : IsWithinCounts limit counts
  pub is : suc counts.semicolons ≡ count
  pub few : limit ≤ 8

-- This is the table of the text's names behind the old ones, and it has room for them.
abbrev pub HasNames : List (List ℕ) → List (List ℕ) → List ℕ → Type 0
HasNames old table bytes = (tokens : List Token) → AreLeft bytes 0 tokens → (table ≡ names_of old tokens) × (length table ≤ 64)

abbrev pub HasTooManyNames : List (List ℕ) → List ℕ → Type 0
HasTooManyNames old bytes = (tokens : List Token) → AreLeft bytes 0 tokens → 64 < length (names_of old tokens)

-- What was built is the answer.
abbrev pub IsLate : Bool → ℕ → List (List ℕ) → List (List ℕ) → List ℕ → Result (List Formula) BuildError → Type 0
IsLate many limit old table bytes (Ok formulas) = Answers many limit old bytes (read_as (plain_formulas formulas) table)
IsLate many limit old table bytes (Err refusals.TooHigh) = Answers many limit old bytes (over heights 200)
IsLate many limit old table bytes (Err refusals.Memory) = Unit {0}

-- the same, where the names are too many
abbrev pub IsLateAndNamed : Bool → ℕ → List (List ℕ) → List ℕ → Result (List Formula) BuildError → Type 0
IsLateAndNamed many limit old bytes (Ok formulas) = Answers many limit old bytes (over names 64)
IsLateAndNamed many limit old bytes (Err refusals.TooHigh) = Answers many limit old bytes (over heights 200)
IsLateAndNamed many limit old bytes (Err refusals.Memory) = Unit {0}
