-- What the readers of parts of lines answer.
use Rattle.std.specs.Prelude.{◌≡◌, ℕ, Bool, ◌||◌, nat_eq, List, [], ◌∷◌, Option, Some, None}
use Rattle.std.specs.List.Sorted.{IsStrictlyIncreasing}
use denote.Ref.{Bor}
use Rattle.chain_check.specs.Clauses.{Clause}
use Rattle.hy_lasso.specs.LassoLines.{SpellsStem}
use Rattle.hy_text.specs.Cuts.{cut_at}
use Rattle.cert_text.specs.Lines.{words_of, Say}
use Rattle.hy_text.specs.Numbers.{SaysNumber}
use Rattle.cert_text.specs.Numbers.{SaysCount, SaysLiteral, SayEnded}

-- Literals, a 0 and a space stand at the front of the text, and this is what stands behind them; or
-- they do not.
abbrev pub IsClauseFound : List ℕ → Option (Bor (List ℕ)) → Type 0
IsClauseFound text None =
    (clause : Clause) (next : List ℕ) (more : List (List ℕ))
    → ¬ SayEnded SaysLiteral (words_of text) clause (next ∷ more)
IsClauseFound text (Some rest) =
    (clause : Clause) × SayEnded SaysLiteral (words_of text) clause (words_of rest.now)

-- The text is the numbers of a chain and a 0.
abbrev pub IsChain : List ℕ → Type 0
IsChain text = (chain : List ℕ) × SayEnded SaysCount (words_of text) chain []

-- The text is numbers, one at least, with a space between each two.
abbrev pub SaysNumbers : List ℕ → List ℕ → Type 0
SaysNumbers text = Say SaysNumber (words_of text)

-- The text is ascending numbers, one at least, with commas between them.
abbrev pub SaysAscending : List ℕ → List ℕ → Type 0
SaysAscending text numbers =
    Say SaysNumber (cut_at 44 text) numbers × IsStrictlyIncreasing numbers

-- A stem and its bar stand at the front of the text, and this is what stands behind them; or they
-- do not.
abbrev pub IsStemFound : List ℕ → Option (Bor (List ℕ)) → Type 0
IsStemFound text None =
    (sets : List (List (List ℕ))) (rest : List ℕ) → ¬ SpellsStem text sets rest
IsStemFound text (Some rest) = (sets : List (List (List ℕ))) × SpellsStem text sets rest.now

-- a 0 or a 1
abbrev pub is_binary : ℕ → Bool
is_binary b = nat_eq b 48 || nat_eq b 49

-- The line is this word, a space, and these two texts with a bar between them.
pub record AreRunParts (line first stem cycle : List ℕ) : Type 0 where
  pub rows : List ℕ
  pub words : words_of line ≡ first ∷ rows ∷ []
  pub parts : cut_at 124 rows ≡ stem ∷ cycle ∷ []
