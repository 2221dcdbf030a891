-- The table of places: what is allowed next, and where the reader is then.
use Rattle.std.specs.Prelude.{◌≡◌, ℕ, zero, suc, ◌≤◌, List, [], ◌∷◌, length, take, Option, Some, None, Bool, true, is_some, IsTrue}
use Rattle.std.specs.Option.{option_and_then}
use Rattle.hy_read.specs.Tokens.{Token, Kind, word, name, dot, prefix, leaf, open_paren, binary, close_paren, semicolon, kind_of}

-- where the reader is, with the number of open parentheses
pub data Place : Type 0 where
  start : Place
  worded : Place
  named : Place
  dotted : Place
  operand : ℕ → Place
  operator : ℕ → Place

-- where an operand is wanted
abbrev pub wanted : ℕ → Kind → Option Place
wanted n prefix = Some (operand n)
wanted n open_paren = Some (operand (suc n))
wanted n leaf = Some (operator n)
wanted n _ = None

abbrev pub next_place : Bool → Place → Kind → Option Place
next_place many start word = Some worded
next_place many worded name = Some named
next_place many named dot = Some dotted
next_place many dotted word = Some worded
next_place many dotted k = wanted zero k
next_place many (operand n) k = wanted n k
next_place many (operator n) binary = Some (operand n)
next_place many (operator (suc n)) close_paren = Some (operator n)
next_place true (operator zero) semicolon = Some start
next_place many _ _ = None

-- where the reader is behind these tokens, if each of them is allowed in turn
abbrev pub place_after : Bool → Place → List Token → Option Place
place_after many p [] = Some p
place_after many p (t ∷ ts) = option_and_then (λ q. place_after many q ts) (next_place many p (kind_of t))

-- The tokens are allowed to their end.
abbrev pub IsAllowed : Bool → List Token → Type 0
IsAllowed many tokens = place_after many start tokens ≡ Some (operator zero)

-- Each token is allowed in turn.
abbrev pub IsViable : Bool → List Token → Type 0
IsViable many tokens = IsTrue (is_some (place_after many start tokens))

-- the number of tokens of the longest viable prefix
pub record IsLongest (many : Bool) (tokens : List Token) (k : ℕ) : Type 0 where
  pub within : k ≤ length tokens
  pub viable : IsViable many (take k tokens)
  pub longest : (j : ℕ) → j ≤ length tokens → IsViable many (take j tokens) → j ≤ k
