-- The order of the ands: each uses earlier ones, and none on a cycle is in it.
use Rattle.std.proofs.Common.{◌≡◌, ℕ, zero, suc, ◌<◌, true, false, not, inl, inr, refl, sym, ◌∙◌, subst, arith, Option, Some, None, List, [], ◌∷◌, ◌++◌, length, get_or, take, length-append, append-nil}
use Rattle.std.specs.Prelude.{option_to_list, IsTrue}
use Rattle.std.proofs.lemmas.Bool.{cases_lt, and_parts, and_from, not-true, not_from_false, cases_Bool}
use Rattle.std.proofs.lemmas.List.{take-append-le, get_or_append_left, get_or-take, length-take-le}
use Rattle.std.proofs.Math.Seq.{take-append_seam, get_or-append_seam}
use Rattle.aig_order.specs.declared.gate.Gate.{Gate}
use Rattle.aig_order.specs.Firsts.{holds}
use Rattle.aig_order.specs.Gates.{uses, waits, is_next, next_gate, taken, IsOrder, Depends, at_once, through, depends}
use Rattle.aig_order.proofs.Firsts.{below-found, some-any, holds-place, place-holds}

module _ (gates : List Gate) where
  abbrev Stands : List ℕ → ℕ → Type 0
  Stands list p = (get_or list p 0 < length gates) × IsTrue (is_next gates (take p list) (get_or list p 0))

  one-more : (list : List ℕ) (k : ℕ) → IsOrder gates list → k < length gates → is_next gates list k ≡ true → IsOrder gates (list ++ k ∷ [])
  one-more list k good lt next p less =
      elim (cases_lt p (length list)) [
        | inl inside ↦
            let same_take : take p (list ++ k ∷ []) ≡ take p list = take-append-le p list (k ∷ []) (omega arith) in
            let same_at : get_or (list ++ k ∷ []) p 0 ≡ get_or list p 0 = get_or_append_left list (k ∷ []) 0 p inside in
            let P : List ℕ → ℕ → Type 0 = λ front v. (v < length gates) × IsTrue (is_next gates front v) in
            let Q : List ℕ → Type 0 = λ front. P front (get_or (list ++ k ∷ []) p 0) in
            subst Q (sym same_take) (subst (P (take p list)) (sym same_at) (good p inside))
        | inr past ↦
            let last : length list ≡ p = omega (arith, length-append list (k ∷ [])) in
            let R : ℕ → Type 0 = λ q. Stands (list ++ k ∷ []) q in
            let P : List ℕ → ℕ → Type 0 = λ front v. (v < length gates) × IsTrue (is_next gates front v) in
            let Q : List ℕ → Type 0 = λ front. P front (get_or (list ++ k ∷ []) (length list) 0) in
            subst R last (subst Q (sym (take-append_seam list (k ∷ []))) (subst (P list) (sym (get_or-append_seam list k [] 0)) (lt, next)))
      ]

  step : (list : List ℕ) (o : Option ℕ) → next_gate gates list ≡ o → IsOrder gates list → IsOrder gates (list ++ option_to_list o)
  step list None e good = subst (IsOrder gates) (sym (append-nil list)) good
  step list (Some k) e good =
      let (lt, next) = below-found (length gates) (is_next gates list) k e in
      one-more list k good lt next

  pub taken-order : (n : ℕ) → IsOrder gates (taken gates n)
  taken-order zero = λ p lt. absurd (omega arith)
  taken-order (suc n) = step (taken gates n) (next_gate gates (taken gates n)) refl (taken-order n)

  -- ---- what stands in an order depends on what stands before it

  module _ (list : List ℕ) (good : IsOrder gates list) where
    pub before-used : (p j : ℕ) → p < length list → j < length gates → IsTrue (uses gates (get_or list p 0) j) → (q : ℕ) × (q < p) × (get_or list q 0 ≡ j)
    before-used p j lt inside used =
        let here = good p lt in
        let parts = and_parts (not (holds (get_or list p 0) (take p list))) _ here.1 in
        let idle : waits gates (take p list) (get_or list p 0) ≡ false = not-true _ parts.1 in
        elim (cases_Bool (holds j (take p list))) [
          | inl found ↦
              let (q, less, is) = holds-place j (take p list) found in
              let small : q < p = omega (arith, less, length-take-le p list (omega arith)) in
              (q, small, sym (get_or-take p list q 0 small) ∙ is)
          | inr missing ↦
              let waiting : waits gates (take p list) (get_or list p 0) ≡ true = some-any (length gates) _ j inside (and_from _ _ used (not_from_false _ missing)) in
              absurd (cc)
        ]

    before-depends : (k j : ℕ) → Depends gates k j → (p : ℕ) → p < length list → get_or list p 0 ≡ k → (q : ℕ) × (q < p) × (get_or list q 0 ≡ j)
    before-depends _ _ (at_once k j lt inside used) p less is =
        let P : ℕ → Type 0 = λ v. IsTrue (uses gates v j) in
        before-used p j less inside (subst P (sym is) used)
    before-depends _ _ (through k i j lt inside used rest) p less is =
        let P : ℕ → Type 0 = λ v. IsTrue (uses gates v i) in
        let (q, small, there) = before-used p i less inside (subst P (sym is) used) in
        let (r, smaller, end) = before-depends i j rest q (omega arith) there in
        (r, omega arith, end)

    apart : (p q : ℕ) → q < p → p < length list → get_or list q 0 ≡ get_or list p 0 → ⊥
    apart p q small less same =
        let parts = and_parts (not (holds (get_or list p 0) (take p list))) _ (good p less).1 in
        let absent : holds (get_or list p 0) (take p list) ≡ false = not-true _ parts.0 in
        let present : holds (get_or list p 0) (take p list) ≡ true = place-holds _ (take p list) q (omega (arith, length-take-le p list (omega arith))) (get_or-take p list q 0 small ∙ same) in
        cc

    pub cyclic-absent : (k : ℕ) → Depends gates k k → ¬ IsTrue (holds k list)
    cyclic-absent k depends has =
        let (p, less, is) = holds-place k list has in
        let (q, small, same) = before-depends k k depends p less is in
        apart p q small less (same ∙ sym is)

  pub distinct : (list : List ℕ) → IsOrder gates list → (p q : ℕ) → q < p → p < length list → get_or list q 0 ≡ get_or list p 0 → ⊥
  distinct list good p q small less same = apart list good p q small less same
