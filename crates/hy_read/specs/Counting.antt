-- What is counted of a text, token by token.
use Rattle.std.specs.Prelude.{◌≡◌, ℕ, zero, suc, pred, max, ◌≤◌, List, [], ◌∷◌, ◌++◌}
use Rattle.hy_read.specs.Tokens.{Token, Kind, word, open_paren, close_paren, semicolon, kind_of}
use Rattle.hy_read.specs.Results.{most_open}
use Rattle.hy_read.specs.declared.counts.Counts.{Counts}

-- the open parentheses behind a token of this kind
abbrev pub opened_by : Kind → ℕ → ℕ
opened_by open_paren n = suc n
opened_by close_paren n = pred n
opened_by _ n = n

-- the quantifiers of the present formula
abbrev pub quantified_by : Kind → ℕ → ℕ
quantified_by word n = suc n
quantified_by semicolon n = 0
quantified_by _ n = n

-- the semicolons
abbrev pub ended_by : Kind → ℕ → ℕ
ended_by semicolon n = suc n
ended_by _ n = n

-- how many quantifiers a formula has at most, where the present one has so many
abbrev pub most_quantified : ℕ → List Token → ℕ
most_quantified n [] = n
most_quantified n (t ∷ ts) = max n (most_quantified (quantified_by (kind_of t) n) ts)

-- how many semicolons there are, with so many before
abbrev pub semicolons : ℕ → List Token → ℕ
semicolons n [] = n
semicolons n (t ∷ ts) = semicolons (ended_by (kind_of t) n) ts

-- What has been counted of these tokens, whatever stands behind them.
pub record IsCounted (front : List Token) (c : Counts) : Type 0 where
  pub opens : (rest : List Token) → most_open zero (front ++ rest) ≡ max c.most_parens (most_open c.parens rest)
  pub words : (rest : List Token) → most_quantified zero (front ++ rest) ≡ max c.most_quantifiers (most_quantified c.quantifiers rest)
  pub ends : (rest : List Token) → semicolons zero (front ++ rest) ≡ semicolons c.semicolons rest
  pub most_of_opens : c.parens ≤ c.most_parens
  pub most_of_words : c.quantifiers ≤ c.most_quantifiers

-- No count is past this number.
pub record IsFew (n : ℕ) (c : Counts) : Type 0 where
  pub ended : c.semicolons ≤ n
  pub quantified : c.quantifiers ≤ n
  pub most_quantified : c.most_quantifiers ≤ n
  pub opened : c.parens ≤ n
  pub most_opened : c.most_parens ≤ n
