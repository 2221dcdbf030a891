-- What is known of a list of traces by number that has two parts.
use Rattle.std.proofs.Common.{◌≡◌, ℕ, ◌<◌, ◌≤◌, List, [], ◌∷◌, ◌++◌, length, length-append, sym, ap, ◌∙◌, subst, arith}
use Rattle.hy_formula.specs.Quantifiers.{Each}
use Rattle.hy_formula.proofs.Each.{each-right, each-like}
use Rattle.trace_trie.specs.Numbered.{Numbered, with_number, without_number}
use Rattle.trace_trie.specs.NumberTrees.{pairs, IsSplit}
use Rattle.trace_trie.specs.declared.numbers.NumberTree.{NumberTree}
use Rattle.trace_trie.specs.declared.numbers.NumberTree.TheVariants.{Two}
use Rattle.trace_trie.proofs.Numbering.{without-other, without-append, with-first, with-second}

pub record AtTwo (list : List Numbered) (split : ℕ) (l r : List Numbered) : Type 0 where
  pub is : list ≡ l ++ r
  pub below : Each (λ (p : Numbered). p.0 < split) l
  pub above : Each (λ (p : Numbered). split ≤ p.0) r
  pub first : 0 < length l
  pub second : 0 < length r

pub at_two : {tree : NumberTree} {list : List Numbered} {split count : ℕ} {l r : _} → pairs tree ≡ list → IsSplit tree → tree ≡ Two split count l r
    → AtTwo list split l.value r.value
at_two {tree} {list} {split} {count} {l} {r} view_is h is =
    let s : IsSplit (Two split count l r) = subst IsSplit is h in
    record { is = sym view_is ∙ ap pairs is; below = s.2; above = s.3; first = s.0; second = s.1 }

not-below : (n split : ℕ) (xs : List Numbered) → split ≤ n → Each (λ (p : Numbered). p.0 < split) xs → Each (λ (p : Numbered). p.0 ≡ n → ⊥) xs
not-below n split xs le = each-like (λ (p : Numbered). p.0 < split) (λ (p : Numbered). p.0 ≡ n → ⊥) (λ p lt e. omega arith) xs

not-above : (n split : ℕ) (xs : List Numbered) → n < split → Each (λ (p : Numbered). split ≤ p.0) xs → Each (λ (p : Numbered). p.0 ≡ n → ⊥) xs
not-above n split xs lt = each-like (λ (p : Numbered). split ≤ p.0) (λ (p : Numbered). p.0 ≡ n → ⊥) (λ p le e. omega arith) xs

module _ {list l r : List Numbered} {split : ℕ} (n : ℕ) (at : AtTwo list split l r) where
  pub with-below : n < split → with_number n list ≡ with_number n l
  with-below lt = ap (with_number n) at.is ∙ with-first n l r (not-above n split r lt at.above)

  pub with-above : split ≤ n → with_number n list ≡ with_number n r
  with-above le = ap (with_number n) at.is ∙ with-second n l r (not-below n split l le at.below)

  pub without-below : n < split → without_number n list ≡ without_number n l ++ r
  without-below lt =
      ap (without_number n) at.is ∙ without-append n l r ∙ ap (λ q. without_number n l ++ q) (without-other n r (not-above n split r lt at.above))

  pub without-above : split ≤ n → without_number n list ≡ l ++ without_number n r
  without-above le =
      ap (without_number n) at.is ∙ without-append n l r ∙ ap (λ q. q ++ without_number n r) (without-other n l (not-below n split l le at.below))

  pub split-le : Each (λ (p : Numbered). p.0 < n) list → split ≤ n
  split-le h =
      let P : List Numbered → Type 0 = Each (λ (p : Numbered). p.0 < n) in
      some r (each-right (λ (p : Numbered). p.0 < n) l r (subst P at.is h)) at.above at.second
    where
      some : (ps : List Numbered) → Each (λ (p : Numbered). p.0 < n) ps → Each (λ (p : Numbered). split ≤ p.0) ps → 0 < length ps → split ≤ n
      some [] h k lt = absurd (omega arith)
      some (p ∷ ps) h k lt = omega (arith, h.0, k.0)

  pub all-second : Each (λ (p : Numbered). p.0 < n) list → Each (λ (p : Numbered). p.0 < n) r
  all-second h =
      let P : List Numbered → Type 0 = Each (λ (p : Numbered). p.0 < n) in
      each-right (λ (p : Numbered). p.0 < n) l r (subst P at.is h)

  pub shorter-second : length r < length list
  shorter-second = omega (arith, ap length at.is, length-append l r, at.first)
