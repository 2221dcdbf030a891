-- What a reader answers to a list of tokens.
use Rattle.std.specs.Prelude.{◌≡◌, ℕ, zero, suc, pred, max, List, [], ◌∷◌, ◌++◌, length, map, Option, Some, None, Bool, if◌then◌else◌, nat_lt}
use Rattle.std.specs.Option.{option_map}
use Rattle.std.specs.Str.{bytes_eq}
use Rattle.hy_read.specs.declared.symbol.Symbol.{Symbol}
use Rattle.hy_read.specs.declared.symbol.Symbol.TheVariants.{OpenParen, CloseParen, Semicolon}
use Rattle.hy_formula.specs.Names.{place_of, with_name}
use Rattle.hy_formula.specs.Trees.{Tree, atom as atom_tree, height}
use Rattle.hy_read.specs.Tokens.{Token, symbol, variable, atom, nothing}
use Rattle.hy_read.specs.Grammar.{Quantifier, Read, AreFormulas, IsText}
use Rattle.hy_read.specs.Places.{IsLongest}

-- The names of the atoms, in the order of their first occurrence, behind those that are there.
abbrev pub names_of : List (List ℕ) → List Token → List (List ℕ)
names_of names [] = names
names_of names (symbol s ∷ tokens) = names_of names tokens
names_of names (variable v ∷ tokens) = names_of names tokens
names_of names (atom name bound ∷ tokens) = names_of (with_name name names) tokens
names_of names (nothing ∷ tokens) = names_of names tokens

abbrev pub later_or : Option ℕ → Option ℕ → Option ℕ
later_or (Some k) here = Some (suc k)
later_or None here = here

-- The last place of a variable: an earlier quantifier of the same variable is shadowed.
abbrev pub last_place_of : List ℕ → List (List ℕ) → Option ℕ
last_place_of bound [] = None
last_place_of bound (x ∷ xs) = later_or (last_place_of bound xs) (if bytes_eq x bound then Some 0 else None)

abbrev pub variables_of : List Quantifier → List (List ℕ)
variables_of quantifiers = map (λ q. q.bound) quantifiers

-- An atom has its name's number and the place of its variable's quantifier.
pub record IsBound (names variables : List (List ℕ)) (name bound : List ℕ) (tree : Tree) : Type 0 where
  pub number : ℕ
  pub place : ℕ
  pub has_number : place_of name names ≡ Some number
  pub has_place : last_place_of bound variables ≡ Some place
  pub is_atom : tree ≡ atom_tree number place

abbrev pub Bound : List (List ℕ) → List Quantifier → List ℕ → List ℕ → Tree → Type 0
Bound names quantifiers name bound tree = IsBound names (variables_of quantifiers) name bound tree

-- behind `;` no variable is bound
abbrev pub kept : Symbol → List (List ℕ) → List (List ℕ)
kept Semicolon variables = []
kept _ variables = variables

abbrev pub here_unless : Option ℕ → Option ℕ → Option ℕ
here_unless (Some k) later = option_map suc later
here_unless None later = Some 0

-- the first atom whose variable none of these nor a quantifier before it in its formula binds, by the number of
-- tokens before it
abbrev pub unbound_at : List (List ℕ) → List Token → Option ℕ
unbound_at variables [] = None
unbound_at variables (symbol s ∷ tokens) = option_map suc (unbound_at (kept s variables) tokens)
unbound_at variables (variable v ∷ tokens) = option_map suc (unbound_at (variables ++ v ∷ []) tokens)
unbound_at variables (atom name bound ∷ tokens) = here_unless (last_place_of bound variables) (unbound_at variables tokens)
unbound_at variables (nothing ∷ tokens) = option_map suc (unbound_at variables tokens)

abbrev pub opened : Token → ℕ → ℕ
opened (symbol OpenParen) n = suc n
opened (symbol CloseParen) n = pred n
opened _ n = n

-- how many parentheses are open at once at most, where so many are open
abbrev pub most_open : ℕ → List Token → ℕ
most_open n [] = n
most_open n (t ∷ ts) = max n (most_open (opened t n) ts)

abbrev pub largest : List ℕ → ℕ
largest [] = 0
largest (x ∷ xs) = max x (largest xs)

-- what is counted of a text
pub data Count : Type 0 where
  specs : Count
  quantifiers : Count
  parens : Count
  heights : Count
  names : Count

abbrev pub in_order : List Count
in_order = specs ∷ quantifiers ∷ parens ∷ heights ∷ names ∷ []

abbrev pub count_of : List (List ℕ) → List Token → List Read → Count → ℕ
count_of old tokens formulas specs = length formulas
count_of old tokens formulas quantifiers = largest (map (λ f. length f.quantifiers) formulas)
count_of old tokens formulas parens = most_open zero tokens
count_of old tokens formulas heights = largest (map (λ f. height f.tree) formulas)
count_of old tokens formulas names = length (names_of old tokens)

-- the limits, of which that of quantifiers is given
abbrev pub most : ℕ → Count → ℕ
most n specs = 16
most n quantifiers = n
most n parens = 200
most n heights = 200
most n names = 64

abbrev pub first_past : (Count → ℕ) → (Count → ℕ) → List Count → Option Count
first_past limit count [] = None
first_past limit count (c ∷ cs) = if nat_lt (limit c) (count c) then Some c else first_past limit count cs

pub data Result : Type 0 where
  -- a syntax fault, behind so many tokens
  fault : ℕ → Result
  -- an unbound atom, behind so many tokens
  unbound : ℕ → Result
  -- a count is past its limit
  past : Count → Result
  -- the formulas, and the table of names then
  taken : List Read → List (List ℕ) → Result

-- The answer to the tokens of a file, where `limit` quantifiers may stand and `old` is the table of names.
abbrev pub Reads : Bool → ℕ → List (List ℕ) → List Token → Result → Type 0
Reads many limit old tokens (fault k) = ¬ IsText many tokens × IsLongest many tokens k
Reads many limit old tokens (unbound k) = IsText many tokens × (unbound_at [] tokens ≡ Some k)
Reads many limit old tokens (past c) =
    (formulas : List Read) × AreFormulas (Bound (names_of old tokens)) many formulas tokens × (first_past (most limit) (count_of old tokens formulas) in_order ≡ Some c)
Reads many limit old tokens (taken formulas table) =
    AreFormulas (Bound (names_of old tokens)) many formulas tokens × (first_past (most limit) (count_of old tokens formulas) in_order ≡ None) × (table ≡ names_of old tokens)
