-- The grammar with a bound on the parentheses that are open at once, as a parser by recursive descent meets it.
use Rattle.std.specs.Prelude.{◌≡◌, ℕ, zero, suc, List, ◌∷◌, Some}
use Rattle.hy_formula.specs.Trees.{Tree}
use Rattle.hy_read.specs.declared.symbol.Symbol.{Symbol}
use Rattle.hy_read.specs.declared.symbol.Symbol.TheVariants.{OpenParen, CloseParen}
use Rattle.hy_read.specs.Tokens.{Token, symbol, atom}
use Rattle.hy_read.specs.Grammar.{binary_of, constant_of, unary_of, loosest}

pub data Within (Means : List ℕ → List ℕ → Tree → Type 0) : ℕ → ℕ → List Token → Tree → List Token → Type 0 where
  alone : {n rank : ℕ} {tokens rest : List Token} {tree : Tree} → Within Means n rank tokens tree rest → Within Means n (suc rank) tokens tree rest
  joined : {n rank : ℕ} {tokens middle rest : List Token} {left right : Tree} {s : Symbol} {join : Tree → Tree → Tree} → binary_of s ≡ Some (suc rank, join) → Within Means n rank tokens left (symbol s ∷ middle) → Within Means n (suc rank) middle right rest → Within Means n (suc rank) tokens (join left right) rest
  constant : {n : ℕ} {rest : List Token} {tree : Tree} {s : Symbol} → constant_of s ≡ Some tree → Within Means n zero (symbol s ∷ rest) tree rest
  prefixed : {n : ℕ} {tokens rest : List Token} {tree : Tree} {s : Symbol} {make : Tree → Tree} → unary_of s ≡ Some make → Within Means n zero tokens tree rest → Within Means n zero (symbol s ∷ tokens) (make tree) rest
  named : {n : ℕ} {rest : List Token} {tree : Tree} {name bound : List ℕ} → Means name bound tree → Within Means n zero (atom name bound ∷ rest) tree rest
  grouped : {n : ℕ} {tokens rest : List Token} {tree : Tree} → Within Means n loosest tokens tree (symbol CloseParen ∷ rest) → Within Means (suc n) zero (symbol OpenParen ∷ tokens) tree rest
