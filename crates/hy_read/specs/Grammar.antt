-- The grammar of formulas, over tokens.
use Rattle.std.specs.Prelude.{◌≡◌, ℕ, zero, suc, ◌≤◌, List, [], ◌∷◌, ◌++◌, length, Option, Some, None, Bool, IsTrue}
use Rattle.hy_formula.specs.declared.prefix.Quant.{Quant}
use Rattle.hy_formula.specs.declared.prefix.Quant.TheVariants as quants
use Rattle.hy_formula.specs.Trees.{Tree, always, never, not, next, finally, globally, and, or, implies, iff, until, release, weak}
use Rattle.hy_read.specs.declared.symbol.Symbol.{Symbol}
use Rattle.hy_read.specs.declared.symbol.Symbol.TheVariants.{OpenParen, CloseParen, Not, And, Or, Implies, Iff, Dot, Semicolon, Exists, Forall, True, False, Next, Finally, Globally, Until, Release, Weak}
use Rattle.hy_read.specs.Tokens.{Token, symbol, variable, atom}

abbrev pub constant_of : Symbol → Option Tree
constant_of True = Some always
constant_of False = Some never
constant_of _ = None

abbrev pub unary_of : Symbol → Option (Tree → Tree)
unary_of Not = Some not
unary_of Next = Some next
unary_of Finally = Some finally
unary_of Globally = Some globally
unary_of _ = None

-- What an operator makes of the operands around it, and its rank: 1 binds tightest.
abbrev pub binary_of : Symbol → Option (ℕ × (Tree → Tree → Tree))
binary_of Until = Some (1, until)
binary_of Weak = Some (1, weak)
binary_of Release = Some (1, release)
binary_of And = Some (2, and)
binary_of Or = Some (3, or)
binary_of Implies = Some (4, implies)
binary_of Iff = Some (5, iff)
binary_of _ = None

abbrev pub loosest : ℕ
loosest = 5

-- which tree an atom is
abbrev pub Meaning : Type 1
Meaning = List ℕ → List ℕ → Tree → Type 0

-- `Derives Means rank tokens tree rest`: the tokens begin with a derivation of the tree from the line of that
-- rank, and the rest stands behind it.
pub data Derives (Means : List ℕ → List ℕ → Tree → Type 0) : ℕ → List Token → Tree → List Token → Type 0 where
  alone : {rank : ℕ} {tokens rest : List Token} {tree : Tree} → Derives Means rank tokens tree rest → Derives Means (suc rank) tokens tree rest
  joined : {rank : ℕ} {tokens middle rest : List Token} {left right : Tree} {s : Symbol} {join : Tree → Tree → Tree} → binary_of s ≡ Some (suc rank, join) → Derives Means rank tokens left (symbol s ∷ middle) → Derives Means (suc rank) middle right rest → Derives Means (suc rank) tokens (join left right) rest
  constant : {rest : List Token} {tree : Tree} {s : Symbol} → constant_of s ≡ Some tree → Derives Means zero (symbol s ∷ rest) tree rest
  prefixed : {tokens rest : List Token} {tree : Tree} {s : Symbol} {make : Tree → Tree} → unary_of s ≡ Some make → Derives Means zero tokens tree rest → Derives Means zero (symbol s ∷ tokens) (make tree) rest
  named : {rest : List Token} {tree : Tree} {name bound : List ℕ} → Means name bound tree → Derives Means zero (atom name bound ∷ rest) tree rest
  grouped : {tokens rest : List Token} {tree : Tree} → Derives Means loosest tokens tree (symbol CloseParen ∷ rest) → Derives Means zero (symbol OpenParen ∷ tokens) tree rest

abbrev pub quantifier_word : Quant → Symbol
quantifier_word quants.Exists = Exists
quantifier_word quants.Forall = Forall

pub record Quantifier : Type 0 where
  pub quant : Quant
  pub bound : List ℕ

abbrev pub quantifier_tokens : List Quantifier → List Token
quantifier_tokens [] = []
quantifier_tokens (q ∷ qs) = symbol (quantifier_word q.quant) ∷ variable q.bound ∷ symbol Dot ∷ quantifier_tokens qs

-- a formula as it is read
pub record Read : Type 0 where
  pub quantifiers : List Quantifier
  pub tree : Tree

-- The tokens begin with this formula: quantifiers, at least one, and a body. Which tree an atom is may depend on
-- the quantifiers.
pub record IsFormula (Means : List Quantifier → List ℕ → List ℕ → Tree → Type 0) (formula : Read) (tokens rest : List Token) : Type 0 where
  pub some : 1 ≤ length formula.quantifiers
  pub body : List Token
  pub split : tokens ≡ quantifier_tokens formula.quantifiers ++ body
  pub derived : Derives (Means formula.quantifiers) loosest body formula.tree rest

-- The tokens are these formulas, at least one, joined by `;` where several may stand.
abbrev pub AreFormulas : (List Quantifier → List ℕ → List ℕ → Tree → Type 0) → Bool → List Read → List Token → Type 0
AreFormulas Means many [] tokens = ⊥
AreFormulas Means many (f ∷ []) tokens = IsFormula Means f tokens []
AreFormulas Means many (f ∷ fs) tokens = IsTrue many × ((rest : List Token) × IsFormula Means f tokens (symbol Semicolon ∷ rest) × AreFormulas Means many fs rest)

-- an atom may be any tree
abbrev pub Anything : List Quantifier → List ℕ → List ℕ → Tree → Type 0
Anything quantifiers name bound tree = Unit {0}

-- The tokens derive from the grammar.
abbrev pub IsText : Bool → List Token → Type 0
IsText many tokens = (formulas : List Read) × AreFormulas Anything many formulas tokens

-- An atom is `true`: enough where only the height of a tree is wanted.
abbrev pub Flat : List ℕ → List ℕ → Tree → Type 0
Flat name bound tree = tree ≡ always
