-- Tokens of a formula text, and their kinds: the columns of the table of places.
use Rattle.std.specs.Prelude.{ℕ, List}
use Rattle.hy_read.specs.declared.symbol.Symbol.{Symbol}
use Rattle.hy_read.specs.declared.symbol.Symbol.TheVariants.{OpenParen, CloseParen, Not, And, Or, Implies, Iff, Dot, Semicolon, Exists, Forall, True, False, Next, Finally, Globally, Until, Release, Weak}

pub data Token : Type 0 where
  symbol : Symbol → Token
  variable : List ℕ → Token
  -- the name, and the variable
  atom : List ℕ → List ℕ → Token
  -- the rest of a text whose first byte begins no token
  nothing : Token

pub data Kind : Type 0 where
  word : Kind
  name : Kind
  dot : Kind
  prefix : Kind
  leaf : Kind
  open_paren : Kind
  binary : Kind
  close_paren : Kind
  semicolon : Kind
  stray : Kind

abbrev pub kind_of_symbol : Symbol → Kind
kind_of_symbol OpenParen = open_paren
kind_of_symbol CloseParen = close_paren
kind_of_symbol Not = prefix
kind_of_symbol And = binary
kind_of_symbol Or = binary
kind_of_symbol Implies = binary
kind_of_symbol Iff = binary
kind_of_symbol Dot = dot
kind_of_symbol Semicolon = semicolon
kind_of_symbol Exists = word
kind_of_symbol Forall = word
kind_of_symbol True = leaf
kind_of_symbol False = leaf
kind_of_symbol Next = prefix
kind_of_symbol Finally = prefix
kind_of_symbol Globally = prefix
kind_of_symbol Until = binary
kind_of_symbol Release = binary
kind_of_symbol Weak = binary

abbrev pub kind_of : Token → Kind
kind_of (symbol s) = kind_of_symbol s
kind_of (variable v) = name
kind_of (atom n v) = leaf
kind_of nothing = stray
