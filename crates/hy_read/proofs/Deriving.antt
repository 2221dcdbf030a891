-- What the reader goes through derives from the grammar.
use Rattle.std.proofs.Common.{◌≡◌, ℕ, zero, suc, List, [], ◌∷◌, ◌++◌, Bool, true, Option, Some, None, IsTrue, is_some, refl, sym, ap, subst, ◌∙◌, arith}
use Rattle.std.specs.Option.{option_and_then}
use Rattle.hy_formula.specs.declared.prefix.Quant.{Quant}
use Rattle.hy_read.specs.declared.symbol.Symbol.TheVariants as signs
use Rattle.hy_formula.specs.Trees.{Tree}
use Rattle.hy_read.specs.Tokens.{Token, symbol, variable, atom, nothing, Kind, word, name, dot, prefix, leaf, open_paren, binary, close_paren, semicolon, kind_of}
use Rattle.hy_read.specs.Grammar.{Derives, constant, prefixed, named as named_atom, grouped, loosest, quantifier_word, Quantifier, quantifier_tokens, Read, IsFormula, Anything, IsText}
use Rattle.hy_read.specs.Places.{Place, start, worded, named, dotted, operand, operator, next_place, place_after, IsAllowed}
use Rattle.hy_read.proofs.TokenKinds.{binary-there, prefix-there, leaf-there, word-token, name-token, dot-token, open-token, close-token, semicolon-token}
use Rattle.hy_read.proofs.Chains.{Chain, done, more, build}

abbrev Any : List ℕ → List ℕ → Tree → Type 0
Any a v tree = Unit {0}

-- what stands behind a formula
abbrev Ends : Bool → List Token → Type 0
Ends many [] = Unit {0}
Ends many (t ∷ ts) = (t ≡ symbol signs.Semicolon) × IsTrue many × IsText many ts

-- what stands behind operands with so many parentheses open
abbrev Behind : Bool → ℕ → List Token → Type 0
Behind many zero rest = Ends many rest
Behind many (suc n) rest =
    (middle : List Token) × (left : List Token) × (rest ≡ symbol signs.CloseParen ∷ middle) × Chain Any 0 middle left × Behind many n left

abbrev Closings : Bool → ℕ → List Token → Type 0
Closings many n tokens = (left : List Token) × Chain Any 0 tokens left × Behind many n left

abbrev Want : Bool → ℕ → List Token → Type 0
Want many n tokens = (tree : Tree) × (middle : List Token) × Derives Any 0 tokens tree middle × Closings many n middle

abbrev Dotted : Bool → List Token → Type 0
Dotted many tokens =
    (qs : List Quantifier) × (body : List Token) × (tree : Tree) × (rest : List Token) × (tokens ≡ quantifier_tokens qs ++ body) × Derives Any loosest body tree rest × Ends many rest

-- what the tokens are that are allowed to the end from a place
abbrev From : Bool → Place → List Token → Type 0
From many start tokens = IsText many tokens
From many worded tokens = (v : List ℕ) × (ts : List Token) × (tokens ≡ variable v ∷ symbol signs.Dot ∷ ts) × Dotted many ts
From many named tokens = (ts : List Token) × (tokens ≡ symbol signs.Dot ∷ ts) × Dotted many ts
From many dotted tokens = Dotted many tokens
From many (operand n) tokens = Want many n tokens
From many (operator n) tokens = Closings many n tokens

one-formula : (many : Bool) (f : Read) (tokens rest : List Token) → IsFormula Anything f tokens rest → Ends many rest → IsText many tokens
one-formula many f tokens [] h ends = (f ∷ [], h)
one-formula many f tokens (t ∷ ts) h (e, m, ([], none)) = absurd none
one-formula many f tokens (t ∷ ts) h (e, m, (g ∷ gs, are)) =
    (f ∷ g ∷ gs, (m, (ts, subst (λ x. IsFormula Anything f tokens (x ∷ ts)) e h, are)))

heading : (many : Bool) (q : Quant) (t : Token) (ts : List Token) → t ≡ symbol (quantifier_word q) → From many worded ts → Dotted many (t ∷ ts)
heading many q t ts h (v, us, e, (qs, body, tree, rest, split, d, ends)) = (
  record { quant = q; bound = v } ∷ qs,
  body,
  tree,
  rest,
  ap (λ x. x ∷ ts) h ∙ ap (λ x. symbol (quantifier_word q) ∷ x) e ∙ ap (λ x. symbol (quantifier_word q) ∷ variable v ∷ symbol signs.Dot ∷ x) split,
  d,
  ends,
)

beginning : (many : Bool) (q : Quant) (t : Token) (ts : List Token) → t ≡ symbol (quantifier_word q) → From many worded ts → IsText many (t ∷ ts)
beginning many q t ts h (v, us, e, (qs, body, tree, rest, split, d, ends)) =
    one-formula many (record { quantifiers = record { quant = q; bound = v } ∷ qs; tree = tree }) (t ∷ ts) rest
    (record {
      some = omega arith;
      body = body;
      split = ap (λ x. x ∷ ts) h ∙ ap (λ x. symbol (quantifier_word q) ∷ x) e ∙ ap (λ x. symbol (quantifier_word q) ∷ variable v ∷ symbol signs.Dot ∷ x) split;
      derived = d;
    })
    ends

behind-prefix : (many : Bool) (n : ℕ) (t : Token) (ts : List Token) → kind_of t ≡ prefix → Want many n ts → Want many n (t ∷ ts)
behind-prefix many n (symbol s) ts h (tree, middle, d, c) = let (make, e) = prefix-there s h in (make tree, middle, prefixed e d, c)
behind-prefix many n (variable v) ts h w = absurd cc
behind-prefix many n (atom a v) ts h w = absurd cc
behind-prefix many n nothing ts h w = absurd cc

behind-leaf : (many : Bool) (n : ℕ) (t : Token) (ts : List Token) → kind_of t ≡ leaf → Closings many n ts → Want many n (t ∷ ts)
behind-leaf many n (symbol s) ts h c = let (tree, e) = leaf-there s h in (tree, ts, constant e, c)
behind-leaf many n (variable v) ts h c = absurd cc
behind-leaf many n nothing ts h c = absurd cc
behind-leaf many n (atom a v) ts h c = (Rattle.hy_formula.specs.Trees.always, ts, named_atom tt, c)

group : (many : Bool) (n : ℕ) (ts left middle : List Token) (t : Token) (tree : Tree) → t ≡ symbol signs.OpenParen → left ≡ symbol signs.CloseParen ∷ middle → Derives Any loosest ts tree left → Closings many n middle → Want many n (t ∷ ts)
group many n ts left middle t tree e f d c =
    (tree, middle, subst (λ x. Derives Any 0 (x ∷ ts) tree middle) (sym e) (grouped (subst (λ x. Derives Any loosest ts tree x) f d)), c)

behind-open : (many : Bool) (n : ℕ) (t : Token) (ts : List Token) → kind_of t ≡ open_paren → Want many (suc n) ts → Want many n (t ∷ ts)
behind-open many n t ts h (a, first, d, (left, chain, (middle, last, e, after, behind))) =
    let (tree, whole) = build Any d chain in
    group many n ts left middle t tree (open-token t h) e whole (last, after, behind)

behind-binary : (many : Bool) (n : ℕ) (t : Token) (ts : List Token) → kind_of t ≡ binary → Want many n ts → Closings many n (t ∷ ts)
behind-binary many n (symbol s) ts h (tree, middle, d, (left, chain, behind)) =
    let (k, join, e, lt) = binary-there s h in
    (left, more e (omega arith) lt d chain, behind)
behind-binary many n (variable v) ts h w = absurd cc
behind-binary many n (atom a v) ts h w = absurd cc
behind-binary many n nothing ts h w = absurd cc

to-body : (many : Bool) (tokens : List Token) → Want many zero tokens → Dotted many tokens
to-body many tokens (a, first, d, (left, chain, ends)) =
    let (tree, whole) = build Any d chain in
    ([], tokens, tree, left, refl, whole, ends)

step : (many : Bool) (p : Place) (t : Token) (ts : List Token) (k : Kind) → kind_of t ≡ k → ((q : Place) → next_place many p k ≡ Some q → From many q ts) → IsTrue (is_some (next_place many p k)) → From many p (t ∷ ts)
step many start t ts word h f s = let (q, e) = word-token t h in beginning many q t ts e (f worded refl)
step many worded t ts name h f s =
    let (v, e) = name-token t h in
    let (us, split, d) = f named refl in
    (v, us, ap (λ x. x ∷ ts) e ∙ ap (λ x. variable v ∷ x) split, d)
step many named t ts dot h f s = (ts, ap (λ x. x ∷ ts) (dot-token t h), f dotted refl)
step many dotted t ts word h f s = let (q, e) = word-token t h in heading many q t ts e (f worded refl)
step many dotted t ts prefix h f s = to-body many (t ∷ ts) (behind-prefix many zero t ts h (f (operand zero) refl))
step many dotted t ts leaf h f s = to-body many (t ∷ ts) (behind-leaf many zero t ts h (f (operator zero) refl))
step many dotted t ts open_paren h f s = to-body many (t ∷ ts) (behind-open many zero t ts h (f (operand 1) refl))
step many (operand n) t ts prefix h f s = behind-prefix many n t ts h (f (operand n) refl)
step many (operand n) t ts leaf h f s = behind-leaf many n t ts h (f (operator n) refl)
step many (operand n) t ts open_paren h f s = behind-open many n t ts h (f (operand (suc n)) refl)
step many (operator n) t ts binary h f s = behind-binary many n t ts h (f (operand n) refl)
step many (operator (suc n)) t ts close_paren h f s =
    let (left, chain, behind) = f (operator n) refl in
    (t ∷ ts, done, (ts, left, ap (λ x. x ∷ ts) (close-token t h), chain, behind))
step true (operator zero) t ts semicolon h f s = (t ∷ ts, done, (semicolon-token t h, refl, f start refl))
step many p t ts k h f s = absurd cc

went : (o : Option Place) (f : Place → Option Place) (q : Place) → option_and_then f o ≡ Some q → IsTrue (is_some o)
went None f q e = absurd cc
went (Some p) f q e = refl

at-end : (many : Bool) (p : Place) → Some p ≡ Some (operator zero) → From many p []
at-end many p e = subst (λ x. From many x []) (sym same) ([], done, tt)
  where
    same : p ≡ operator zero
    same = cc

pub from : (many : Bool) (tokens : List Token) (p : Place) → place_after many p tokens ≡ Some (operator zero) → From many p tokens
from many [] p e = at-end many p e
from many (t ∷ ts) p e =
    step many p t ts (kind_of t) refl
    (λ q next. from many ts q (sym (ap (option_and_then (λ y. place_after many y ts)) next) ∙ e))
    (went (next_place many p (kind_of t)) (λ y. place_after many y ts) (operator zero) e)

-- what is allowed to its end derives from the grammar
pub allowed-text : (many : Bool) (tokens : List Token) → IsAllowed many tokens → IsText many tokens
allowed-text many tokens h = from many tokens start h
