-- The counts of a text by its tokens are those of its formulas.
use Rattle.std.proofs.Common.{◌≡◌, ℕ, zero, suc, max, ◌+◌, List, [], ◌∷◌, ◌++◌, length, Bool, refl, ap, sym, ◌∙◌, arith, add-zero}
use Rattle.hy_formula.specs.Trees.{Tree}
use Rattle.hy_read.specs.declared.symbol.Symbol.TheVariants as signs
use Rattle.hy_read.specs.Builds.{most_of_quantifiers}
use Rattle.hy_read.specs.Counting.{ended_by, quantified_by, most_quantified, semicolons}
use Rattle.hy_read.specs.Grammar.{AreFormulas, Derives, alone, joined, constant, prefixed, named, grouped, IsFormula, Quantifier, Read, quantifier_tokens}
use Rattle.hy_read.specs.Tokens.{Token, Kind, symbol, variable, kind_of, binary, prefix, leaf}
use Rattle.hy_read.proofs.Once.{is-word}
use Rattle.hy_read.proofs.Passing.{words_at_least}
use Rattle.hy_read.proofs.TokenKinds.{binary-kind, prefix-kind, leaf-kind}

-- Both counts are the same where these tokens begin and where those do.
record Alike (tokens rest : List Token) : Type 0 where
  pub ends : (n : ℕ) → semicolons n tokens ≡ semicolons n rest
  pub words : (n : ℕ) → most_quantified n tokens ≡ most_quantified n rest

passed : (t : Token) (k : Kind) (rest : List Token) → kind_of t ≡ k → ((n : ℕ) → ended_by k n ≡ n) → ((n : ℕ) → quantified_by k n ≡ n) → Alike (t ∷ rest) rest
passed t k rest is e q = record {
  ends = λ n. ap (λ x. semicolons x rest) (ap (λ x. ended_by x n) is ∙ e n);
  words = λ n.
      let same : most_quantified (quantified_by (kind_of t) n) rest ≡ most_quantified n rest = ap (λ x. most_quantified x rest) (ap (λ x. quantified_by x n) is ∙ q n) in
      let low = words_at_least n rest in
      omega arith;
}

then : (a b c : List Token) → Alike a b → Alike b c → Alike a c
then a b c one two = record {
  ends = λ n. one.ends n ∙ two.ends n;
  words = λ n. one.words n ∙ two.words n;
}

body_alike : {Means : List ℕ → List ℕ → Tree → Type 0} {rank : ℕ} {tokens rest : List Token} {tree : Tree} → Derives Means rank tokens tree rest → Alike tokens rest
body_alike (alone d) = body_alike d
body_alike {tokens = tokens} {rest = rest} (joined {middle = middle} {s = s} h d e) =
    then tokens (symbol s ∷ middle) rest (body_alike d)
    (then (symbol s ∷ middle) middle rest (passed (symbol s) binary middle (binary-kind s _ h) (λ n. refl) (λ n. refl)) (body_alike e))
body_alike {rest = rest} (constant {s = s} h) = passed (symbol s) leaf rest (leaf-kind s _ h) (λ n. refl) (λ n. refl)
body_alike {rest = rest} (prefixed {tokens = tokens} {s = s} h d) =
    then (symbol s ∷ tokens) tokens rest (passed (symbol s) prefix tokens (prefix-kind s _ h) (λ n. refl) (λ n. refl)) (body_alike d)
body_alike {tokens = t ∷ ts} {rest = rest} (named h) = passed t leaf rest refl (λ n. refl) (λ n. refl)
body_alike {rest = rest} (grouped {tokens = tokens} d) =
    then (symbol signs.OpenParen ∷ tokens) tokens rest (passed (symbol signs.OpenParen) _ tokens refl (λ n. refl) (λ n. refl))
    (then tokens (symbol signs.CloseParen ∷ rest) rest (body_alike d) (passed (symbol signs.CloseParen) _ rest refl (λ n. refl) (λ n. refl)))

heads_ends : (qs : List Quantifier) (body : List Token) (n : ℕ) → semicolons n (quantifier_tokens qs ++ body) ≡ semicolons n body
heads_ends [] body n = refl
heads_ends (q ∷ qs) body n =
    ap (λ k. semicolons (ended_by k n) (variable q.bound ∷ symbol signs.Dot ∷ quantifier_tokens qs ++ body)) (is-word q.quant) ∙ heads_ends qs body n

heads_words : (qs : List Quantifier) (body : List Token) (n : ℕ) → most_quantified n (quantifier_tokens qs ++ body) ≡ most_quantified (n + length qs) body
heads_words [] body n = ap (λ x. most_quantified x body) (sym (add-zero n))
heads_words (q ∷ qs) body n =
    let more : List Token = quantifier_tokens qs ++ body in
    let word = ap (λ k. max n (most_quantified (quantified_by k n) (variable q.bound ∷ symbol signs.Dot ∷ more))) (is-word q.quant) in
    let low = words_at_least (suc n) more in
    let left = heads_words qs body (suc n) in
    let long : suc n + length qs ≡ n + suc (length qs) = omega arith in
    let last = ap (λ x. most_quantified x body) long in
    omega arith

-- a formula
formula_ends : (Means : List Quantifier → List ℕ → List ℕ → Tree → Type 0) (f : Read) (tokens rest : List Token) (n : ℕ) → IsFormula Means f tokens rest → semicolons n tokens ≡ semicolons n rest
formula_ends Means f tokens rest n k = ap (semicolons n) k.split ∙ heads_ends f.quantifiers k.body n ∙ (body_alike k.derived).ends n

formula_words : (Means : List Quantifier → List ℕ → List ℕ → Tree → Type 0) (f : Read) (tokens rest : List Token) → IsFormula Means f tokens rest → most_quantified zero tokens ≡ most_quantified (length f.quantifiers) rest
formula_words Means f tokens rest k =
    let long : zero + length f.quantifiers ≡ length f.quantifiers = omega arith in
    ap (most_quantified zero) k.split ∙ heads_words f.quantifiers k.body zero ∙ ap (λ x. most_quantified x k.body) long ∙ (body_alike k.derived).words (length f.quantifiers)

-- all of them
pub formulas_ended : (Means : List Quantifier → List ℕ → List ℕ → Tree → Type 0) (many : Bool) (fs : List Read) (tokens : List Token) (n : ℕ) → AreFormulas Means many fs tokens → suc (semicolons n tokens) ≡ n + length fs
formulas_ended Means many [] tokens n are = absurd are
formulas_ended Means many (f ∷ []) tokens n are = let e = formula_ends Means f tokens [] n are in omega arith
formulas_ended Means many (f ∷ g ∷ gs) tokens n (m, (rest, is, are)) =
    let e = formula_ends Means f tokens (symbol signs.Semicolon ∷ rest) n is in
    let more = formulas_ended Means many (g ∷ gs) rest (suc n) are in
    omega arith

pub formulas_quantified : (Means : List Quantifier → List ℕ → List ℕ → Tree → Type 0) (many : Bool) (fs : List Read) (tokens : List Token) → AreFormulas Means many fs tokens → most_quantified zero tokens ≡ most_of_quantifiers fs
formulas_quantified Means many [] tokens are = absurd are
formulas_quantified Means many (f ∷ []) tokens are = let e = formula_words Means f tokens [] are in omega arith
formulas_quantified Means many (f ∷ g ∷ gs) tokens (m, (rest, is, are)) =
    let e = formula_words Means f tokens (symbol signs.Semicolon ∷ rest) is in
    let more = formulas_quantified Means many (g ∷ gs) rest are in
    omega arith
