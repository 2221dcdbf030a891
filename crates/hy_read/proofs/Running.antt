-- The reader goes through what the grammar derives.
use Rattle.std.proofs.Common.{◌≡◌, ℕ, zero, suc, List, [], ◌∷◌, ◌++◌, length, ◌≤◌, Bool, true, false, Some, IsTrue, refl, sym, ap, ◌∙◌, arith}
use Rattle.std.specs.Option.{option_and_then}
use Rattle.hy_formula.specs.declared.prefix.Quant.{Quant}
use Rattle.hy_formula.specs.declared.prefix.Quant.TheVariants as quants
use Rattle.hy_read.specs.declared.symbol.Symbol.TheVariants as signs
use Rattle.hy_formula.specs.Trees.{Tree}
use Rattle.hy_read.specs.Tokens.{Token, symbol, Kind, prefix, leaf, binary, kind_of}
use Rattle.hy_read.specs.Grammar.{Derives, alone, joined, constant, prefixed, named as named_atom, grouped, Quantifier, quantifier_tokens, Read, IsFormula, AreFormulas, Anything, IsText}
use Rattle.hy_read.specs.Places.{Place, start, dotted, operand, operator, next_place, place_after, IsAllowed}
use Rattle.hy_read.proofs.TokenKinds.{binary-kind, prefix-kind, leaf-kind}

none-true : IsTrue false → ⊥
none-true h = cc

-- one token of this kind
pub goes : (many : Bool) (p q : Place) (t : Token) (k : Kind) (ts : List Token) → kind_of t ≡ k → next_place many p k ≡ Some q → place_after many p (t ∷ ts) ≡ place_after many q ts
goes many p q t k ts h e =
    ap (λ x. option_and_then (λ y. place_after many y ts) (next_place many p x)) h ∙ ap (option_and_then (λ y. place_after many y ts)) e

module _ (Means : List ℕ → List ℕ → Tree → Type 0) (many : Bool) where
  pub runs : {rank : ℕ} {tokens rest : List Token} {tree : Tree} → Derives Means rank tokens tree rest → (n : ℕ) → place_after many (operand n) tokens ≡ place_after many (operator n) rest
  runs (alone d) n = runs d n
  runs (joined {middle = middle} {s = s} h d e) n =
      runs d n ∙ goes many (operator n) (operand n) (symbol s) binary middle (binary-kind s _ h) refl ∙ runs e n
  runs (constant {rest = rest} {s = s} h) n = goes many (operand n) (operator n) (symbol s) leaf rest (leaf-kind s _ h) refl
  runs (prefixed {tokens = tokens} {s = s} h d) n =
      goes many (operand n) (operand n) (symbol s) prefix tokens (prefix-kind s _ h) refl ∙ runs d n
  runs (named_atom h) n = refl
  runs (grouped d) n = runs d (suc n)

  -- behind `.` a body is read as where an operand is wanted
  pub body-runs : {rank : ℕ} {tokens rest : List Token} {tree : Tree} → Derives Means rank tokens tree rest → place_after many dotted tokens ≡ place_after many (operand zero) tokens
  body-runs (alone d) = body-runs d
  body-runs (joined h d e) = body-runs d
  body-runs (constant {rest = rest} {s = s} h) =
      goes many dotted (operator zero) (symbol s) leaf rest (leaf-kind s _ h) refl ∙ sym (goes many (operand zero) (operator zero) (symbol s) leaf rest (leaf-kind s _ h) refl)
  body-runs (prefixed {tokens = tokens} {s = s} h d) =
      goes many dotted (operand zero) (symbol s) prefix tokens (prefix-kind s _ h) refl ∙ sym (goes many (operand zero) (operand zero) (symbol s) prefix tokens (prefix-kind s _ h) refl)
  body-runs (named_atom h) = refl
  body-runs (grouped d) = refl

-- a quantifier, where one may stand
word-runs : (many : Bool) (q : Quant) (v : List ℕ) (ts : List Token) → place_after many dotted (quantifier_tokens (record { quant = q; bound = v } ∷ []) ++ ts) ≡ place_after many dotted ts
word-runs many quants.Exists v ts = refl
word-runs many quants.Forall v ts = refl

begin-runs : (many : Bool) (q : Quant) (v : List ℕ) (ts : List Token) → place_after many start (quantifier_tokens (record { quant = q; bound = v } ∷ []) ++ ts) ≡ place_after many dotted ts
begin-runs many quants.Exists v ts = refl
begin-runs many quants.Forall v ts = refl

quantifiers-run : (many : Bool) (qs : List Quantifier) (body : List Token) → place_after many dotted (quantifier_tokens qs ++ body) ≡ place_after many dotted body
quantifiers-run many [] body = refl
quantifiers-run many (q ∷ qs) body = word-runs many q.quant q.bound (quantifier_tokens qs ++ body) ∙ quantifiers-run many qs body

heads-run : (many : Bool) (qs : List Quantifier) (body : List Token) → 1 ≤ length qs → place_after many start (quantifier_tokens qs ++ body) ≡ place_after many dotted body
heads-run many [] body h = absurd (omega arith)
heads-run many (q ∷ qs) body h = begin-runs many q.quant q.bound (quantifier_tokens qs ++ body) ∙ quantifiers-run many qs body

module _ (Means : List Quantifier → List ℕ → List ℕ → Tree → Type 0) where
  pub formula-runs : (many : Bool) (f : Read) (tokens rest : List Token) → IsFormula Means f tokens rest → place_after many start tokens ≡ place_after many (operator zero) rest
  formula-runs many f tokens rest h =
      ap (place_after many start) h.split ∙ heads-run many f.quantifiers h.body h.some ∙ body-runs (Means f.quantifiers) many h.derived ∙ runs (Means f.quantifiers) many h.derived zero

  -- what the grammar derives is allowed to its end
  pub formulas-run : (many : Bool) (fs : List Read) (tokens : List Token) → AreFormulas Means many fs tokens → IsAllowed many tokens
  formulas-run many [] tokens h = absurd h
  formulas-run many (f ∷ []) tokens h = formula-runs many f tokens [] h
  formulas-run true (f ∷ g ∷ fs) tokens (m, (rest, h, hs)) =
      formula-runs true f tokens (symbol signs.Semicolon ∷ rest) h ∙ formulas-run true (g ∷ fs) rest hs
  formulas-run false (f ∷ g ∷ fs) tokens (m, hs) = absurd (none-true m)

pub text-runs : (many : Bool) (tokens : List Token) → IsText many tokens → IsAllowed many tokens
text-runs many tokens (fs, are) = formulas-run Anything many fs tokens are
