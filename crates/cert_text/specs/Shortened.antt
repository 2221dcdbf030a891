-- Numbers of a text in 32 bits, as a checker of logs takes them. One that is longer is 0 there, which
-- is no number of a clause and no literal.
use Rattle.std.specs.Prelude.{◌≡◌, ℕ, nat_le, cond, ℤ, pos, unsigned_abs, Bool, true, false, List, [], ◌∷◌, map, Option, Some, None}
use denote.Ref.{Bor}
use Rattle.chain_check.specs.declared.logs.Learned.{Learned}
use Rattle.chain_check.specs.Clauses.{Clause}
use Rattle.cert_text.specs.Lines.{Line, words_of, Speaks}
use Rattle.cert_text.specs.Numbers.{SaysCount, SaysLiteral, SayEnded}
use Rattle.cert_text.specs.InductionLines.{SaysLearned}

abbrev pub short_number : ℕ → ℕ
short_number n = cond (nat_le n 4294967295) n 0

abbrev pub short_literal : ℤ → ℤ
short_literal l = cond (nat_le (unsigned_abs l) 2147483647) l (pos 0)

-- ---- what readers keep

-- The word says a literal, and this is what is kept of it; or it says none.
abbrev pub IsLiteralRead : List ℕ → Option ℤ → Type 0
IsLiteralRead word None = ¬ Speaks SaysLiteral word
IsLiteralRead word (Some kept) = (l : ℤ) × SaysLiteral word l × (kept ≡ short_literal l)

-- The word says a number from 1 on, and this is what is kept of it; or it says none.
abbrev pub IsCountRead : List ℕ → Option ℕ → Type 0
IsCountRead word None = ¬ Speaks SaysCount word
IsCountRead word (Some kept) = (n : ℕ) × SaysCount word n × (kept ≡ short_number n)

-- Literals, a 0 and a space stand at the front of the text, with this behind them, and these are
-- kept; or they do not.
abbrev pub IsClauseRead : List ℕ → Option (Bor (List ℕ)) → List ℤ → Type 0
IsClauseRead text None kept =
    (clause : Clause) (next : List ℕ) (more : List (List ℕ))
    → ¬ SayEnded SaysLiteral (words_of text) clause (next ∷ more)
IsClauseRead text (Some rest) kept =
    (clause : Clause) × SayEnded SaysLiteral (words_of text) clause (words_of rest.now)
    × (kept ≡ map short_literal clause)

-- The text is the numbers of a chain and a 0, and these are kept; or it is not.
abbrev pub IsChainRead : List ℕ → Bool → List ℕ → Type 0
IsChainRead text false kept = (chain : List ℕ) → ¬ SayEnded SaysCount (words_of text) chain []
IsChainRead text true kept =
    (chain : List ℕ) × SayEnded SaysCount (words_of text) chain []
    × (kept ≡ map short_number chain)

-- The line says a learned clause and its chain, and these are kept of them; or it does not.
abbrev pub IsLearnedRead : Line → Bool → List ℤ → List ℕ → Type 0
IsLearnedRead line false clause chain = ¬ Speaks SaysLearned line
IsLearnedRead line true clause chain =
    (learned : Learned) × SaysLearned line learned
    × (clause ≡ map short_literal learned.clause) × (chain ≡ map short_number learned.chain)
