-- What the parser builds from the tokens of a body that is known to be one.
use Rattle.std.specs.Prelude.{◌≡◌, ◌≢◌, ℕ, ◌<◌, ◌≤◌, List, [], ◌∷◌, drop, map, Option, Some, None, Result, Ok, Err, IsTrue}
use Rattle.std.specs.Option.{option_map}
use Rattle.hy_formula.specs.Trees.{Tree, tree_of, height, vars_below}
use Rattle.hy_read.specs.declared.symbol.Symbol.{Symbol}
use Rattle.hy_read.specs.declared.operator.Binary.{Binary}
use Rattle.hy_read.specs.declared.build_error.BuildError.{BuildError}
use Rattle.hy_read.specs.declared.build_error.BuildError.TheVariants.{TooHigh, Memory}
use Rattle.hy_read.specs.declared.parsed.Follow.{Follow}
use Rattle.hy_read.specs.declared.parsed.Follow.TheVariants as follows
use Rattle.hy_read.specs.declared.parsed.Parsed.{Parsed}
use Rattle.hy_read.specs.declared.parser.Parser.{Parser}
use Rattle.hy_read.specs.Answers.{tokens_of}
use Rattle.hy_read.specs.Grammar.{binary_of, Flat}
use Rattle.hy_read.specs.Operators.{joins}
use Rattle.hy_read.specs.Results.{IsBound}
use Rattle.hy_read.specs.Scanning.{Span, Spans}
use Rattle.hy_read.specs.Tokens.{Token, symbol, variable, atom, nothing}
use Rattle.hy_read.specs.Within.{Within}

-- These are the tokens of a text from a place on.
abbrev pub AreLeft : List ℕ → ℕ → List Token → Type 0
AreLeft text at tokens = (spans : List Span) × Spans at (drop at text) spans × (tokens ≡ tokens_of spans)

-- An operator binds looser than this rank.
abbrev pub IsLooser : ℕ → Option (ℕ × (Tree → Tree → Tree)) → Type 0
IsLooser rank None = Unit {0}
IsLooser rank (Some (other, join)) = rank < other

-- What stands behind does not go on with an expression of this rank: no operator of the rank, nor of one that
-- binds tighter.
abbrev pub Stops : ℕ → List Token → Type 0
Stops rank [] = Unit {0}
Stops rank (symbol s ∷ rest) = IsLooser rank (binary_of s)
Stops rank (variable v ∷ rest) = Unit {0}
Stops rank (atom a v ∷ rest) = Unit {0}
Stops rank (nothing ∷ rest) = Unit {0}

-- what atoms mean, with a table of names or without
abbrev pub meaning : Option (List (List ℕ)) → List (List ℕ) → List ℕ → List ℕ → Tree → Type 0
meaning None variables = Flat
meaning (Some names) variables = IsBound names variables

abbrev pub means : Parser → List ℕ → List ℕ → Tree → Type 0
means p = meaning (option_map (λ n. n.now) p.names) (map (λ v. v.now) p.variables.now)

-- What stands behind is this rest.
abbrev pub IsFollowed : List ℕ → Follow → List Token → Type 0
IsFollowed text follows.End rest = rest ≡ []
IsFollowed text (follows.Symbol s behind) rest = (more : List Token) × (rest ≡ symbol s ∷ more) × AreLeft text behind more
IsFollowed text follows.Other rest = (rest ≢ []) × ((s : Symbol) (more : List Token) → rest ≢ symbol s ∷ more)

-- No place is beyond the end of the text.
abbrev pub IsWithin : ℕ → Follow → Type 0
IsWithin end follows.End = Unit {0}
IsWithin end (follows.Symbol s behind) = behind ≤ end
IsWithin end follows.Other = Unit {0}

-- The height is no more than this, no place is beyond the end, and each variable is below a number.
pub record IsSized (end high variables : ℕ) (p : Parsed) : Type 0 where
  pub low : p.height ≤ high
  pub within : IsWithin end p.follow
  pub below : IsTrue (vars_below variables (tree_of p.body))

-- This tree was parsed, and this rest stands behind.
pub record IsParsed (text : List ℕ) (tree : Tree) (rest : List Token) (p : Parsed) : Type 0 where
  pub is : tree_of p.body ≡ tree
  pub counted : p.height ≡ height tree
  pub followed : IsFollowed text p.follow rest

-- The tree was built, or is too high.
abbrev pub IsBuilt : List ℕ → ℕ → Tree → List Token → Result Parsed BuildError → Type 0
IsBuilt text high tree rest (Ok p) = IsParsed text tree rest p
IsBuilt text high tree rest (Err TooHigh) = high < height tree
IsBuilt text high tree rest (Err Memory) = Unit {0}

-- Whatever expression of this rank the tokens begin with, behind which the rest does not go on, was built.
abbrev pub Builds : (List ℕ → List ℕ → Tree → Type 0) → List ℕ → ℕ → ℕ → ℕ → List Token → Result Parsed BuildError → Type 0
Builds Means text parens rank high tokens result =
    (tree : Tree) (rest : List Token) → Within Means parens rank tokens tree rest → Stops rank rest → IsBuilt text high tree rest result

-- An operator of this rank stands here, and ends at this place.
abbrev pub IsOperator : ℕ → Follow → Binary → ℕ → Type 0
IsOperator rank follow operator behind =
    (s : Symbol) × (follow ≡ follows.Symbol s behind) × (binary_of s ≡ Some (rank, joins operator))

-- No operator of this rank stands here.
abbrev pub HasNoOperator : ℕ → Follow → Type 0
HasNoOperator rank follows.End = Unit {0}
HasNoOperator rank (follows.Symbol s behind) = (join : Tree → Tree → Tree) → binary_of s ≢ Some (rank, join)
HasNoOperator rank follows.Other = Unit {0}
