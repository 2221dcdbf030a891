-- Operands joined by operators of any rank derive from the loosest line.
use Rattle.std.proofs.Common.{◌≡◌, ℕ, zero, suc, ◌<◌, ◌≤◌, ◌⊎◌, inl, inr, List, ◌∷◌, Some, refl, sym, ap, subst, arith}
use Rattle.hy_read.specs.declared.symbol.Symbol.{Symbol}
use Rattle.hy_formula.specs.Trees.{Tree}
use Rattle.hy_read.specs.Tokens.{Token, symbol}
use Rattle.hy_read.specs.Grammar.{Derives, alone, joined, binary_of, loosest}

-- operators of ranks above this one, each before an operand of this rank
pub data Chain (Means : List ℕ → List ℕ → Tree → Type 0) (rank : ℕ) : List Token → List Token → Type 0 where
  done : {rest : List Token} → Chain Means rank rest rest
  more : {k : ℕ} {s : Symbol} {join : Tree → Tree → Tree} {tokens middle rest : List Token} {tree : Tree} → binary_of s ≡ Some (suc k, join) → rank ≤ k → k < 5 → Derives Means rank tokens tree middle → Chain Means rank middle rest → Chain Means rank (symbol s ∷ tokens) rest

order : (r k : ℕ) → r ≤ k → (r ≡ k) ⊎ (suc r ≤ k)
order zero zero h = inl refl
order zero (suc k) h = inr (omega arith)
order (suc r) zero h = absurd (omega arith)
order (suc r) (suc k) h = elim (order r k (omega arith)) [ inl e ↦ inl (ap suc e) | inr l ↦ inr (omega arith) ]

module _ (Means : List ℕ → List ℕ → Tree → Type 0) where
  abbrev Lifted : ℕ → List Token → List Token → Type 0
  Lifted rank tokens rest = (tree : Tree) × (left : List Token) × Derives Means rank tokens tree left × Chain Means rank left rest

  place : (rank k : ℕ) (s : Symbol) (join : Tree → Tree → Tree) (tokens ts rest : List Token) (a : Tree) → binary_of s ≡ Some (suc k, join) → k < 5 → (rank ≡ k) ⊎ (suc rank ≤ k) → Derives Means rank tokens a (symbol s ∷ ts) → Lifted (suc rank) ts rest → Lifted (suc rank) tokens rest
  place rank k s join tokens ts rest a h lt (inl e) d (b, left, right, chain) =
      (join a b, left, joined (subst (λ x. binary_of s ≡ Some (suc x, join)) (sym e) h) d right, chain)
  place rank k s join tokens ts rest a h lt (inr le) d (b, left, right, chain) =
      (a, symbol s ∷ ts, alone d, more h le lt right chain)

  lift : {rank : ℕ} {tokens middle rest : List Token} {a : Tree} → Derives Means rank tokens a middle → Chain Means rank middle rest → Lifted (suc rank) tokens rest
  lift {a = a} d done = (a, _, alone d, done)
  lift {rank = rank} {tokens = tokens} {rest = rest} {a = a} d (more {k = k} {s = s} {join = join} {tokens = ts} h le lt e chain) =
      place rank k s join tokens ts rest a h lt (order rank k le) d (lift e chain)

  again : (rank : ℕ) {tokens rest : List Token} → Lifted rank tokens rest → Lifted (suc rank) tokens rest
  again rank (a, middle, d, chain) = lift d chain

  none-left : {middle rest : List Token} → Chain Means 5 middle rest → middle ≡ rest
  none-left done = refl
  none-left (more h le lt d chain) = absurd (omega arith)

  whole : {tokens rest : List Token} → Lifted 5 tokens rest → (tree : Tree) × Derives Means loosest tokens tree rest
  whole {tokens = tokens} (a, middle, d, chain) = (a, subst (λ x. Derives Means 5 tokens a x) (none-left chain) d)

  -- precedence and grouping never fail
  pub build : {tokens middle rest : List Token} {a : Tree} → Derives Means 0 tokens a middle → Chain Means 0 middle rest → (tree : Tree) × Derives Means loosest tokens tree rest
  build d chain = whole (again 4 (again 3 (again 2 (again 1 (lift d chain)))))
