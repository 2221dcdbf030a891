-- The quantifiers at the head of a formula.
use Rattle.std.specs.Prelude.{◌≡◌, ◌≢◌, ℕ, List, [], ◌∷◌, ◌++◌, map, Option, Some, None}
use Rattle.hy_formula.specs.declared.prefix.Quant.{Quant}
use Rattle.hy_read.specs.declared.heading.Head.{Head}
use Rattle.hy_read.specs.declared.heading.Heading.{Heading}
use Rattle.hy_read.specs.declared.symbol.Symbol.TheVariants.{Dot}
use Rattle.hy_read.specs.Grammar.{Quantifier, quantifier_tokens, quantifier_word}
use Rattle.hy_read.specs.Parses.{AreLeft}
use Rattle.hy_read.specs.Results.{variables_of}
use Rattle.hy_read.specs.Tokens.{Token, word, kind_of, symbol, variable}

-- The tokens do not begin with a quantifier word.
abbrev pub NoWord : List Token → Type 0
NoWord [] = Unit {0}
NoWord (t ∷ ts) = kind_of t ≢ word

-- the tokens of a quantifier, and what stands behind it
abbrev pub quantified : Quant → List ℕ → List Token → List Token
quantified quant bound rest = symbol (quantifier_word quant) ∷ variable bound ∷ symbol Dot ∷ rest

-- A quantifier stands in the text from a place on, and this is it, or none stands there.
abbrev pub IsHead : List ℕ → ℕ → Option Head → Type 0
IsHead text at None = (quant : Quant) (bound : List ℕ) (rest : List Token) → ¬ AreLeft text at (quantified quant bound rest)
IsHead text at (Some h) = (tokens : List Token) → AreLeft text at tokens →
    (rest : List Token) × (tokens ≡ quantified h.quant h.variable.now rest) × AreLeft text h.behind rest

abbrev pub quants_of : List Quantifier → List Quant
quants_of quantifiers = map (λ q. q.quant) quantifiers

-- Whatever quantifiers the tokens from a place on begin with, behind which no other stands, these are they.
abbrev pub IsHeading : List ℕ → ℕ → Heading → Type 0
IsHeading text at h = (quantifiers : List Quantifier) (body : List Token) →
    AreLeft text at (quantifier_tokens quantifiers ++ body) → NoWord body →
    (h.quants.items ≡ quants_of quantifiers) × (map (λ v. v.now) h.variables.items ≡ variables_of quantifiers)
    × AreLeft text h.at body
