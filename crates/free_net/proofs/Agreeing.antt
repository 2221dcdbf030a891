-- The members of a closure say the same of words that agree on its literals.
use Rattle.std.proofs.Common.{◌≡◌, ℕ, zero, suc, ◌+◌, ◌<◌, Bool, List, length, inl, inr, refl, sym, ◌∙◌, subst, arith}
use Rattle.hy_formula.specs.Temporal.{Span, Words}
use Rattle.hy_formula.specs.Normals.{HoldsAt, Normal}
use Rattle.ltl_closure.specs.Nodes as node
use Rattle.ltl_closure.specs.Nodes.{Node, Numbers, PartsBelow, form_of, node_at}

module _ (P : ℕ → ℕ → Type 0) (span : Span) (words words' : Words)
    (same : (a v i : ℕ) → P a v → words a v i ≡ words' a v i) (nodes : List Node) (form : ℕ → Normal)
    (numbers : Numbers nodes form) (literals : (k a v : ℕ) (b : Bool) → k < length nodes →
    node_at nodes k ≡ node.literal b a v → P a v) where
  abbrev Says : Normal → Type 0
  Says f = (i : ℕ) → HoldsAt span words f i → HoldsAt span words' f i

  node-says : (k : ℕ) → ((g : ℕ) → g < k → Says (form g)) → (x : Node) →
      ((a v : ℕ) (b : Bool) → x ≡ node.literal b a v → P a v) → PartsBelow k x →
      Says (form_of form x)
  node-says k part node.always l parts i h = tt
  node-says k part node.never l parts i h = h
  node-says k part (node.literal b a v) l parts i h = sym (same a v i (l a v b refl)) ∙ h
  node-says k part (node.and f g) l (x, y) i (p, q) = (part f x i p, part g y i q)
  node-says k part (node.or f g) l (x, y) i (inl p) = inl (part f x i p)
  node-says k part (node.or f g) l (x, y) i (inr q) = inr (part g y i q)
  node-says k part (node.next f) l x i (there, h) = (there, part f x (i + 1) h)
  node-says k part (node.weak_next f) l x i h = λ there. part f x (i + 1) (h there)
  node-says k part (node.until f g) l (x, y) i (j, le, there, h, before) =
      (j, le, there, part g y j h, λ q from to. part f x q (before q from to))
  node-says k part (node.release f g) l (x, y) i h = λ j le there.
      elim (h j le there) [
        | inl now ↦ inl (part g y j now)
        | inr (q, from, to, done) ↦ inr (q, from, to, part f x q done)
      ]

  below-say : (m k : ℕ) → k < m → k < length nodes → Says (form k)
  below-say zero k lt in_range = absurd (omega arith)
  below-say (suc m) k lt in_range =
      let S : Normal → Type 0 = Says in
      subst S (sym (numbers.forms k in_range))
      (node-says k (λ g less. below-say m g (omega (arith, lt, less)) (omega (arith, in_range, less)))
      (node_at nodes k) (λ a v b e. literals k a v b in_range e) (numbers.parts k in_range))

  pub members-say : (k : ℕ) → k < length nodes → Says (form k)
  members-say k in_range = below-say (suc k) k (omega arith) in_range
