-- What the kind of a token says of the grammar, and the other way round.
use Rattle.std.proofs.Common.{◌≡◌, ℕ, suc, ◌<◌, List, Some, refl, ap, arith}
use Rattle.hy_formula.specs.declared.prefix.Quant.{Quant}
use Rattle.hy_formula.specs.declared.prefix.Quant.TheVariants as quants
use Rattle.hy_formula.specs.Trees.{Tree, always, never, not, next, finally, globally, and, or, implies, iff, until, release, weak}
use Rattle.hy_read.specs.declared.symbol.Symbol.{Symbol}
use Rattle.hy_read.specs.declared.symbol.Symbol.TheVariants as signs
use Rattle.hy_read.specs.Tokens.{Token, symbol, variable, atom, nothing, word, name, dot, prefix, leaf, open_paren, binary, close_paren, semicolon, kind_of, kind_of_symbol}
use Rattle.hy_read.specs.Grammar.{constant_of, unary_of, binary_of, quantifier_word}

pub binary-kind : (s : Symbol) (x : ℕ × (Tree → Tree → Tree)) → binary_of s ≡ Some x → kind_of_symbol s ≡ binary
binary-kind signs.And x h = refl
binary-kind signs.Or x h = refl
binary-kind signs.Implies x h = refl
binary-kind signs.Iff x h = refl
binary-kind signs.Until x h = refl
binary-kind signs.Release x h = refl
binary-kind signs.Weak x h = refl
binary-kind _ x h = absurd cc

pub prefix-kind : (s : Symbol) (x : Tree → Tree) → unary_of s ≡ Some x → kind_of_symbol s ≡ prefix
prefix-kind signs.Not x h = refl
prefix-kind signs.Next x h = refl
prefix-kind signs.Finally x h = refl
prefix-kind signs.Globally x h = refl
prefix-kind _ x h = absurd cc

pub leaf-kind : (s : Symbol) (x : Tree) → constant_of s ≡ Some x → kind_of_symbol s ≡ leaf
leaf-kind signs.True x h = refl
leaf-kind signs.False x h = refl
leaf-kind _ x h = absurd cc

pub binary-there : (s : Symbol) → kind_of_symbol s ≡ binary → (k : ℕ) × (join : Tree → Tree → Tree) × (binary_of s ≡ Some (suc k, join)) × (k < 5)
binary-there signs.And h = (1, and, refl, omega arith)
binary-there signs.Or h = (2, or, refl, omega arith)
binary-there signs.Implies h = (3, implies, refl, omega arith)
binary-there signs.Iff h = (4, iff, refl, omega arith)
binary-there signs.Until h = (0, until, refl, omega arith)
binary-there signs.Release h = (0, release, refl, omega arith)
binary-there signs.Weak h = (0, weak, refl, omega arith)
binary-there _ h = absurd cc

pub prefix-there : (s : Symbol) → kind_of_symbol s ≡ prefix → (make : Tree → Tree) × (unary_of s ≡ Some make)
prefix-there signs.Not h = (not, refl)
prefix-there signs.Next h = (next, refl)
prefix-there signs.Finally h = (finally, refl)
prefix-there signs.Globally h = (globally, refl)
prefix-there _ h = absurd cc

pub leaf-there : (s : Symbol) → kind_of_symbol s ≡ leaf → (tree : Tree) × (constant_of s ≡ Some tree)
leaf-there signs.True h = (always, refl)
leaf-there signs.False h = (never, refl)
leaf-there _ h = absurd cc

word-symbol : (s : Symbol) → kind_of_symbol s ≡ word → (q : Quant) × (s ≡ quantifier_word q)
word-symbol signs.Exists h = (quants.Exists, refl)
word-symbol signs.Forall h = (quants.Forall, refl)
word-symbol _ h = absurd cc

dot-symbol : (s : Symbol) → kind_of_symbol s ≡ dot → s ≡ signs.Dot
dot-symbol signs.Dot h = refl
dot-symbol _ h = absurd cc

open-symbol : (s : Symbol) → kind_of_symbol s ≡ open_paren → s ≡ signs.OpenParen
open-symbol signs.OpenParen h = refl
open-symbol _ h = absurd cc

close-symbol : (s : Symbol) → kind_of_symbol s ≡ close_paren → s ≡ signs.CloseParen
close-symbol signs.CloseParen h = refl
close-symbol _ h = absurd cc

semicolon-symbol : (s : Symbol) → kind_of_symbol s ≡ semicolon → s ≡ signs.Semicolon
semicolon-symbol signs.Semicolon h = refl
semicolon-symbol _ h = absurd cc

not-name : (s : Symbol) → kind_of_symbol s ≡ name → ⊥
not-name signs.Dot h = cc
not-name _ h = cc

pub word-token : (t : Token) → kind_of t ≡ word → (q : Quant) × (t ≡ symbol (quantifier_word q))
word-token (symbol s) h = let (q, e) = word-symbol s h in (q, ap symbol e)
word-token (variable v) h = absurd cc
word-token (atom n v) h = absurd cc
word-token nothing h = absurd cc

pub name-token : (t : Token) → kind_of t ≡ name → (v : List ℕ) × (t ≡ variable v)
name-token (symbol s) h = absurd (not-name s h)
name-token (variable v) h = (v, refl)
name-token (atom n v) h = absurd cc
name-token nothing h = absurd cc

pub dot-token : (t : Token) → kind_of t ≡ dot → t ≡ symbol signs.Dot
dot-token (symbol s) h = ap symbol (dot-symbol s h)
dot-token (variable v) h = absurd cc
dot-token (atom n v) h = absurd cc
dot-token nothing h = absurd cc

pub open-token : (t : Token) → kind_of t ≡ open_paren → t ≡ symbol signs.OpenParen
open-token (symbol s) h = ap symbol (open-symbol s h)
open-token (variable v) h = absurd cc
open-token (atom n v) h = absurd cc
open-token nothing h = absurd cc

pub close-token : (t : Token) → kind_of t ≡ close_paren → t ≡ symbol signs.CloseParen
close-token (symbol s) h = ap symbol (close-symbol s h)
close-token (variable v) h = absurd cc
close-token (atom n v) h = absurd cc
close-token nothing h = absurd cc

pub semicolon-token : (t : Token) → kind_of t ≡ semicolon → t ≡ symbol signs.Semicolon
semicolon-token (symbol s) h = ap symbol (semicolon-symbol s h)
semicolon-token (variable v) h = absurd cc
semicolon-token (atom n v) h = absurd cc
semicolon-token nothing h = absurd cc
