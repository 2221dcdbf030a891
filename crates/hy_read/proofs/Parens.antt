-- The bound on open parentheses is the count of the tokens.
use Rattle.std.proofs.Common.{◌≡◌, ℕ, zero, suc, max, ◌+◌, ◌≤◌, ◌↔◌, List, [], ◌∷◌, ◌++◌, refl, ap, sym, ◌∙◌, arith}
use Rattle.hy_formula.specs.declared.prefix.Quant.{Quant}
use Rattle.hy_formula.specs.declared.prefix.Quant.TheVariants as quants
use Rattle.hy_read.specs.declared.symbol.Symbol.{Symbol}
use Rattle.hy_read.specs.declared.symbol.Symbol.TheVariants as signs
use Rattle.hy_formula.specs.Trees.{Tree}
use Rattle.hy_read.specs.Tokens.{Token, symbol, variable, Kind, binary, prefix, leaf, open_paren, close_paren, kind_of_symbol}
use Rattle.hy_read.specs.Grammar.{Derives, alone, joined, constant, prefixed, named, grouped, loosest, quantifier_word, Quantifier, quantifier_tokens, Read, IsFormula}
use Rattle.hy_read.specs.Within as within
use Rattle.hy_read.specs.Within.{Within}
use Rattle.hy_read.specs.Results.{opened, most_open, IsBound}
use Rattle.hy_read.proofs.TokenKinds.{binary-kind, prefix-kind, leaf-kind}
use Rattle.hy_read.proofs.Passing.{opens_at_least}

same-open : (s : Symbol) (n : ℕ) → (kind_of_symbol s ≡ open_paren → ⊥) → (kind_of_symbol s ≡ close_paren → ⊥) → opened (symbol s) n ≡ n
same-open signs.OpenParen n h g = absurd (h refl)
same-open signs.CloseParen n h g = absurd (g refl)
same-open _ n h g = refl

other : (k l : Kind) → k ≡ l → (l ≡ open_paren → ⊥) → k ≡ open_paren → ⊥
other k l e h f = h (sym e ∙ f)

another : (k l : Kind) → k ≡ l → (l ≡ close_paren → ⊥) → k ≡ close_paren → ⊥
another k l e h f = h (sym e ∙ f)

skips : (s : Symbol) (k : Kind) (n : ℕ) (ts : List Token) → kind_of_symbol s ≡ k → (k ≡ open_paren → ⊥) → (k ≡ close_paren → ⊥) → most_open n (symbol s ∷ ts) ≡ max n (most_open n ts)
skips s k n ts e h g = ap (λ x. max n (most_open x ts)) (same-open s n (other (kind_of_symbol s) k e h) (another (kind_of_symbol s) k e g))

binary-skips : (s : Symbol) (n : ℕ) (ts : List Token) → kind_of_symbol s ≡ binary → most_open n (symbol s ∷ ts) ≡ max n (most_open n ts)
binary-skips s n ts e = skips s binary n ts e (λ x. cc) (λ x. cc)

prefix-skips : (s : Symbol) (n : ℕ) (ts : List Token) → kind_of_symbol s ≡ prefix → most_open n (symbol s ∷ ts) ≡ max n (most_open n ts)
prefix-skips s n ts e = skips s prefix n ts e (λ x. cc) (λ x. cc)

leaf-skips : (s : Symbol) (n : ℕ) (ts : List Token) → kind_of_symbol s ≡ leaf → most_open n (symbol s ∷ ts) ≡ max n (most_open n ts)
leaf-skips s n ts e = skips s leaf n ts e (λ x. cc) (λ x. cc)

-- the counts, as numbers
alike : (k a b w x y z : ℕ) → x ≡ max (k + a) y → y ≡ max k z → z ≡ max (k + b) w → x ≡ max (k + max a b) w
alike k a b w x y z e f g = omega arith

deeper : (k a w x y z : ℕ) → x ≡ max k y → y ≡ max (suc k + a) z → z ≡ max (suc k) w → k ≤ w → x ≡ max (k + suc a) w
deeper k a w x y z e f g h = omega arith

at-front : (k a w x y : ℕ) → x ≡ max k y → y ≡ max (k + a) w → x ≡ max (k + a) w
at-front k a w x y e f = omega arith

at-leaf : (k w x : ℕ) → x ≡ max k w → x ≡ max (k + 0) w
at-leaf k w x e = omega arith

module _ (Means : List ℕ → List ℕ → Tree → Type 0) where
  abbrev pub opens : {rank : ℕ} {tokens rest : List Token} {tree : Tree} → Derives Means rank tokens tree rest → ℕ
  opens (alone d) = opens d
  opens (joined h d e) = max (opens d) (opens e)
  opens (constant h) = 0
  opens (prefixed h d) = opens d
  opens (named h) = 0
  opens (grouped d) = suc (opens d)

  pub opens-counted : {rank : ℕ} {tokens rest : List Token} {tree : Tree} (d : Derives Means rank tokens tree rest) (k : ℕ) → most_open k tokens ≡ max (k + opens d) (most_open k rest)
  opens-counted (alone d) k = opens-counted d k
  opens-counted {tokens = tokens} {rest = rest} (joined {middle = middle} {s = s} h d e) k =
      alike k (opens d) (opens e) (most_open k rest) (most_open k tokens) (most_open k (symbol s ∷ middle)) (most_open k middle) (opens-counted d k) (binary-skips s k middle (binary-kind s _ h)) (opens-counted e k)
  opens-counted (constant {rest = rest} {s = s} h) k = at-leaf k (most_open k rest) (most_open k (symbol s ∷ rest)) (leaf-skips s k rest (leaf-kind s _ h))
  opens-counted {rest = rest} (prefixed {tokens = tokens} {s = s} h d) k =
      at-front k (opens d) (most_open k rest) (most_open k (symbol s ∷ tokens)) (most_open k tokens) (prefix-skips s k tokens (prefix-kind s _ h)) (opens-counted d k)
  opens-counted (named {rest = rest} h) k = at-leaf k (most_open k rest) (max k (most_open k rest)) refl
  opens-counted {rest = rest} (grouped {tokens = tokens} d) k =
      deeper k (opens d) (most_open k rest) (max k (most_open (suc k) tokens)) (most_open (suc k) tokens) (max (suc k) (most_open k rest)) refl (opens-counted d (suc k)) refl (opens_at_least k rest)

  to-within : {rank : ℕ} {tokens rest : List Token} {tree : Tree} (d : Derives Means rank tokens tree rest) (n : ℕ) → opens d ≤ n → Within Means n rank tokens tree rest
  to-within (alone d) n le = within.alone (to-within d n le)
  to-within (joined h d e) n le = within.joined h (to-within d n (omega arith)) (to-within e n (omega arith))
  to-within (constant h) n le = within.constant h
  to-within (prefixed h d) n le = within.prefixed h (to-within d n le)
  to-within (named h) n le = within.named h
  to-within (grouped d) zero le = absurd (omega arith)
  to-within (grouped d) (suc n) le = within.grouped (to-within d n (omega arith))

  from-within : {n rank : ℕ} {tokens rest : List Token} {tree : Tree} → Within Means n rank tokens tree rest → (d : Derives Means rank tokens tree rest) × (opens d ≤ n)
  from-within (within.alone d) = let (c, le) = from-within d in (alone c, le)
  from-within (within.joined h d e) =
      let (a, one) = from-within d in
      let (b, two) = from-within e in
      (joined h a b, omega arith)
  from-within (within.constant h) = (constant h, omega arith)
  from-within (within.prefixed h d) = let (c, le) = from-within d in (prefixed h c, le)
  from-within (within.named h) = (named h, omega arith)
  from-within (within.grouped d) = let (c, le) = from-within d in (grouped c, omega arith)

  within-counted : (n : ℕ) (tokens : List Token) (tree : Tree) → Within Means n loosest tokens tree [] ↔ (Derives Means loosest tokens tree [] × (most_open zero tokens ≤ n))
  within-counted n tokens tree = (
    λ w. let (d, le) = from-within w in let e = opens-counted d zero in (d, omega arith),
    λ (d, le). let e = opens-counted d zero in to-within d n (omega arith),
  )

pub parens-counted : (names variables : List (List ℕ)) (n : ℕ) (tokens : List Token) (tree : Tree) → Within (IsBound names variables) n loosest tokens tree [] ↔ (Derives (IsBound names variables) loosest tokens tree [] × (most_open zero tokens ≤ n))
parens-counted names variables n tokens tree = within-counted (IsBound names variables) n tokens tree

no-parens : (q : Quant) (v : List ℕ) (ts : List Token) → most_open zero (symbol (quantifier_word q) ∷ variable v ∷ symbol signs.Dot ∷ ts) ≡ most_open zero ts
no-parens quants.Exists v ts = omega arith
no-parens quants.Forall v ts = omega arith

heads-open : (qs : List Quantifier) (body : List Token) → most_open zero (quantifier_tokens qs ++ body) ≡ most_open zero body
heads-open [] body = refl
heads-open (q ∷ qs) body = no-parens q.quant q.bound (quantifier_tokens qs ++ body) ∙ heads-open qs body

-- Where the count of a text is within the number, so is each of its bodies.
pub formula-within : (Means : List Quantifier → List ℕ → List ℕ → Tree → Type 0) (n : ℕ) (f : Read) (tokens rest : List Token) → (h : IsFormula Means f tokens rest) → most_open zero tokens ≤ n → Within (Means f.quantifiers) n loosest h.body f.tree rest × (most_open zero rest ≤ n)
formula-within Means n f tokens rest h le =
    let split = ap (most_open zero) h.split in
    let heads = heads-open f.quantifiers h.body in
    let e = opens-counted (Means f.quantifiers) h.derived zero in
    (to-within (Means f.quantifiers) h.derived n (omega arith), omega arith)
