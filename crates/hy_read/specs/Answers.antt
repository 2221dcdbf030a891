-- What a reader answers to bytes.
use Rattle.std.specs.Prelude.{◌≡◌, ℕ, zero, List, [], ◌∷◌, length, drop, map, Bool}
use Rattle.hy_read.specs.Tokens.{Token}
use Rattle.hy_formula.specs.Formulas.{Plain}
use Rattle.hy_read.specs.Grammar.{Read}
use Rattle.hy_read.specs.Scanning.{Span, Spans}
use Rattle.hy_read.specs.Results.{Count, Result, fault, unbound, past, taken, most, Reads}

-- a formula without the spellings of its variables
abbrev pub plain_of : Read → Plain
plain_of f = record { prefix = map (λ q. q.quant) f.quantifiers; body = f.tree }

pub data Answer : Type 0 where
  -- the number of tokens before the fault, and its byte
  faulty : ℕ → ℕ → Answer
  -- the first byte of the atom
  free : ℕ → Answer
  -- a count, and its limit
  over : Count → ℕ → Answer
  -- the formulas, and the table of names then
  read_as : List Plain → List (List ℕ) → Answer

-- the first byte of these tokens; the end has the byte behind the last
abbrev pub first_of : List ℕ → List Span → ℕ
first_of bytes [] = length bytes
first_of bytes (s ∷ spans) = s.first

abbrev pub located : ℕ → List ℕ → List Span → Result → Answer
located limit bytes spans (fault k) = faulty k (first_of bytes (drop k spans))
located limit bytes spans (unbound k) = free (first_of bytes (drop k spans))
located limit bytes spans (past c) = over c (most limit c)
located limit bytes spans (taken formulas table) = read_as (map plain_of formulas) table

abbrev pub tokens_of : List Span → List Token
tokens_of spans = map (λ s. s.token) spans

-- The answer to the bytes of a file.
pub record Answers (many : Bool) (limit : ℕ) (old : List (List ℕ)) (bytes : List ℕ) (answer : Answer) : Type 0 where
  pub spans : List Span
  pub result : Result
  pub split : Spans zero bytes spans
  pub reads : Reads many limit old (tokens_of spans) result
  pub is : answer ≡ located limit bytes spans result
