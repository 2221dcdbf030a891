-- The height of a body does not depend on what its atoms mean.
use Rattle.std.proofs.Common.{◌≡◌, ℕ, suc, max, List, [], Some, refl, ap, sym, ◌∙◌}
use Rattle.std.proofs.lemmas.Option.{same_Some}
use Rattle.hy_read.specs.declared.symbol.Symbol.{Symbol}
use Rattle.hy_read.specs.declared.symbol.Symbol.TheVariants as signs
use Rattle.hy_formula.specs.Trees.{Tree, always, height}
use Rattle.hy_read.specs.Tokens.{Token}
use Rattle.hy_read.specs.Grammar.{Derives, alone, joined, constant, prefixed, named, grouped, loosest, unary_of, binary_of, Flat}
use Rattle.hy_read.specs.Results.{IsBound}
use Rattle.hy_read.proofs.Once.{derives_once}

prefix-height : (s : Symbol) (make : Tree → Tree) (t : Tree) → unary_of s ≡ Some make → height (make t) ≡ suc (height t)
prefix-height signs.Not make t h = let e : make ≡ Rattle.hy_formula.specs.Trees.not = cc in ap (λ f. height (f t)) e
prefix-height signs.Next make t h = let e : make ≡ Rattle.hy_formula.specs.Trees.next = cc in ap (λ f. height (f t)) e
prefix-height signs.Finally make t h = let e : make ≡ Rattle.hy_formula.specs.Trees.finally = cc in ap (λ f. height (f t)) e
prefix-height signs.Globally make t h = let e : make ≡ Rattle.hy_formula.specs.Trees.globally = cc in ap (λ f. height (f t)) e
prefix-height _ make t h = absurd cc

joined-as : (s : Symbol) (k r : ℕ) (join op : Tree → Tree → Tree) (a b : Tree) → binary_of s ≡ Some (k, op) → binary_of s ≡ Some (r, join) → height (op a b) ≡ suc (max (height a) (height b)) → height (join a b) ≡ suc (max (height a) (height b))
joined-as s k r join op a b g h e =
    let one : ℕ × (Tree → Tree → Tree) = (k, op) in
    let two : ℕ × (Tree → Tree → Tree) = (r, join) in
    let pairs : one ≡ two = same_Some one two (sym g ∙ h) in
    let same : op ≡ join = ap (λ (p : ℕ × (Tree → Tree → Tree)). p.1) pairs in
    ap (λ f. height (f a b)) (sym same) ∙ e

pub binary-height : (s : Symbol) (r : ℕ) (join : Tree → Tree → Tree) (a b : Tree) → binary_of s ≡ Some (r, join) → height (join a b) ≡ suc (max (height a) (height b))
binary-height signs.And r join a b h = joined-as signs.And 2 r join Rattle.hy_formula.specs.Trees.and a b refl h refl
binary-height signs.Or r join a b h = joined-as signs.Or 3 r join Rattle.hy_formula.specs.Trees.or a b refl h refl
binary-height signs.Implies r join a b h = joined-as signs.Implies 4 r join Rattle.hy_formula.specs.Trees.implies a b refl h refl
binary-height signs.Iff r join a b h = joined-as signs.Iff 5 r join Rattle.hy_formula.specs.Trees.iff a b refl h refl
binary-height signs.Until r join a b h = joined-as signs.Until 1 r join Rattle.hy_formula.specs.Trees.until a b refl h refl
binary-height signs.Release r join a b h = joined-as signs.Release 1 r join Rattle.hy_formula.specs.Trees.release a b refl h refl
binary-height signs.Weak r join a b h = joined-as signs.Weak 1 r join Rattle.hy_formula.specs.Trees.weak a b refl h refl
binary-height _ r join a b h = absurd cc

module _ (Means : List ℕ → List ℕ → Tree → Type 0) (low : (n v : List ℕ) (t : Tree) → Means n v t → height t ≡ 1) where
  pub flatten : {rank : ℕ} {tokens rest : List Token} {tree : Tree} → Derives Means rank tokens tree rest → (b : Tree) × Derives Flat rank tokens b rest × (height tree ≡ height b)
  flatten (alone d) = let (b, c, e) = flatten d in (b, alone c, e)
  flatten (joined {left = left} {right = right} {s = s} {join = join} h d e) =
      let (a, c, f) = flatten d in
      let (b, g, k) = flatten e in
      (join a b, joined h c g, binary-height s _ join left right h ∙ ap (λ x. suc (max x (height right))) f ∙ ap (λ x. suc (max (height a) x)) k ∙ sym (binary-height s _ join a b h))
  flatten (constant {tree = tree} h) = (tree, constant h, refl)
  flatten (prefixed {tree = tree} {s = s} {make = make} h d) =
      let (b, c, e) = flatten d in
      (make b, prefixed h c, prefix-height s make tree h ∙ ap suc e ∙ sym (prefix-height s make b h))
  flatten (named {tree = tree} {name = n} {bound = v} h) = (always, named refl, low n v tree h)
  flatten (grouped d) = let (b, c, e) = flatten d in (b, grouped c, e)

pub same-height : (names variables : List (List ℕ)) (tokens : List Token) (a b : Tree) → Derives (IsBound names variables) loosest tokens a [] → Derives Flat loosest tokens b [] → height a ≡ height b
same-height names variables tokens a b d c =
    let (t, f, e) = flatten (IsBound names variables) (λ n v x h. ap height h.is_atom) d in
    e ∙ ap height (derives_once Flat (λ n v x y p q. p ∙ sym q) f c tt tt).0
