-- What the scanner answers, without where its texts lie in memory.
use Rattle.std.specs.Prelude.{◌≡◌, ℕ, ◌+◌, ◌<◌, ◌≤◌, List, [], length, drop, Option, Some, None}
use Rattle.std.specs.Option.{option_map}
use Rattle.hy_read.specs.declared.token.Token.{Token as Scanned}
use Rattle.hy_read.specs.declared.token.Token.TheVariants.{Symbol, Variable, Atom, Nothing}
use Rattle.hy_read.specs.declared.token.Placed.{Placed}
use Rattle.hy_read.specs.Tokens.{Token, symbol, variable, atom, nothing}
use Rattle.hy_read.specs.Scanning.{first_token, blanks, Span}

abbrev pub plain : Scanned → Token
plain (Symbol s) = symbol s
plain (Variable v) = variable v.now
plain (Atom n v) = atom n.now v.now
plain Nothing = nothing

-- a token and its length
abbrev pub plain_found : Option (Scanned × ℕ) → Option (Token × ℕ)
plain_found found = option_map (λ f. (plain f.0, f.1)) found

-- The token stands in the text from this place on, behind blanks.
pub record Stands (text : List ℕ) (at : ℕ) (t : Placed) : Type 0 where
  pub blank : t.first ≡ at + blanks (drop at text)
  pub longer : t.first < t.behind
  pub within : t.behind ≤ length text
  pub size : ℕ
  pub is : first_token (drop t.first text) ≡ (plain t.token, size)
  pub ends : t.behind ≡ t.first + size

-- what stands in a text from a place on
abbrev pub IsNext : List ℕ → ℕ → Option Placed → Type 0
IsNext text at None = drop (at + blanks (drop at text)) text ≡ []
IsNext text at (Some t) = Stands text at t

abbrev pub span_of : Placed → Span
span_of t = record { token = plain t.token; first = t.first }
