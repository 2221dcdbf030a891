-- How a formula is printed. A variable is x1, x2 and so on by its place; each quantifier is its word, a space, the
-- variable, a dot and a space; a binary operator stands in parentheses, with spaces around its sign.
use Rattle.std.specs.Prelude.{ℕ, suc, ◌+◌, List, [], ◌∷◌, ◌++◌, slice_index_or, codes, decimal}
use Rattle.hy_formula.specs.declared.prefix.Quant.{Quant}
use Rattle.hy_formula.specs.Trees.{Tree, always, never, atom, not, next, finally, globally, and, or, implies, iff, until, release, weak}
use Rattle.hy_read.specs.declared.symbol.Symbol.{Symbol}
use Rattle.hy_read.specs.declared.symbol.Symbol.TheVariants.{And, Or, Implies, Iff, Next, Finally, Globally, Until, Release, Weak}
use Rattle.hy_formula.specs.Formulas.{Plain}
use Rattle.hy_read.specs.Grammar.{quantifier_word}
use Rattle.hy_read.specs.Symbols.{spelling}
use Rattle.hy_text.specs.Names.{spelled}

-- `x` and the number of the place, counted from 1
abbrev pub variable_at : ℕ → List ℕ
variable_at place = 120 ∷ decimal (place + 1)

abbrev pub printed_quantifier : ℕ → Quant → List ℕ
printed_quantifier place quant = spelling (quantifier_word quant) ++ 32 ∷ variable_at place ++ codes ". "

-- quantifiers, of which the first one has this place
abbrev pub printed_quantifiers : ℕ → List Quant → List ℕ
printed_quantifiers place [] = []
printed_quantifiers place (q ∷ qs) = printed_quantifier place q ++ printed_quantifiers (suc place) qs

abbrev pub printed_atom : List (List ℕ) → ℕ → ℕ → List ℕ
printed_atom table name place = spelled (slice_index_or table name []) ++ 95 ∷ variable_at place

abbrev pub printed_before : Symbol → List ℕ → List ℕ
printed_before s operand = spelling s ++ 32 ∷ operand

abbrev pub printed_between : Symbol → List ℕ → List ℕ → List ℕ
printed_between s left right = 40 ∷ left ++ 32 ∷ spelling s ++ 32 ∷ right ++ 41 ∷ []

abbrev pub printed_body : List (List ℕ) → Tree → List ℕ
printed_body table always = codes "true"
printed_body table never = codes "false"
printed_body table (atom name place) = printed_atom table name place
printed_body table (not f) = 33 ∷ printed_body table f
printed_body table (next f) = printed_before Next (printed_body table f)
printed_body table (finally f) = printed_before Finally (printed_body table f)
printed_body table (globally f) = printed_before Globally (printed_body table f)
printed_body table (and f g) = printed_between And (printed_body table f) (printed_body table g)
printed_body table (or f g) = printed_between Or (printed_body table f) (printed_body table g)
printed_body table (implies f g) = printed_between Implies (printed_body table f) (printed_body table g)
printed_body table (iff f g) = printed_between Iff (printed_body table f) (printed_body table g)
printed_body table (until f g) = printed_between Until (printed_body table f) (printed_body table g)
printed_body table (release f g) = printed_between Release (printed_body table f) (printed_body table g)
printed_body table (weak f g) = printed_between Weak (printed_body table f) (printed_body table g)

abbrev pub printed : List (List ℕ) → Plain → List ℕ
printed table f = printed_quantifiers 0 f.prefix ++ printed_body table f.body
