-- Ends of lone runs, one kept after another.
use Rattle.std.proofs.Common.{◌≡◌, ℕ, ◌<◌, List, [], ◌∷◌, ◌++◌, length, get_or, slice_get, Some, set, inl, inr, refl, sym, ap, ◌∙◌, subst, arith, length-append}
use Rattle.std.proofs.lemmas.Bool.{cases_eq}
use Rattle.std.proofs.lemmas.List.{get_or-set_same, get_or-set_other, get_or_append_left, length-set}
use Rattle.std.proofs.lemmas.Option.{get_or_from_slice_get}
use Rattle.std.proofs.Math.Seq.{get_or-append_seam}
use Rattle.fin_monitor.specs.Machines.{Machine, states_of}
use Rattle.dominance.specs.declared.lone_ends.LoneEnd.{LoneEnd}
use Rattle.dominance.specs.LoneEnds.{IsLoneEnd, AreLoneEnds}

module _ (m : Machine) (column : List ℕ) where
  -- at the end of the column a state comes to itself
  end-itself : (q : ℕ) → q < states_of m → IsLoneEnd m column (length column) q q
  end-itself q within = record {
    past = λ le. refl;
    state = λ code le state same. state;
    within = within;
  }

  -- one state more, at the end of the column
  pub ends-more : (ends : List LoneEnd) (positions : ℕ) → length column ≡ positions
      → length ends < states_of m → AreLoneEnds m column ends
      → AreLoneEnds m column (ends ++ record { at = positions; end = length ends } ∷ [])
  ends-more ends positions long few are q lt =
      let none : LoneEnd = record { at = 0; end = 0 } in
      let last : LoneEnd = record { at = positions; end = length ends } in
      let P : LoneEnd → Type 0 = λ x. IsLoneEnd m column x.at q x.end in
      elim (cases_eq q (length ends)) [
        | inl e ↦
            let Q : ℕ → Type 0 = λ k. IsLoneEnd m column positions k (length ends) in
            let R : ℕ → Type 0 = λ k. IsLoneEnd m column k (length ends) (length ends) in
            let at : get_or (ends ++ last ∷ []) q none ≡ last =
            ap (λ k. get_or (ends ++ last ∷ []) k none) e
            ∙ get_or-append_seam ends last [] none in
            subst P (sym at) (subst Q (sym e) (subst R long (end-itself (length ends) few)))
        | inr apart ↦
            let less : q < length ends = omega (arith, length-append ends (last ∷ [])) in
            subst P (sym (get_or_append_left ends (last ∷ []) none q less)) (are q less)
      ]

  -- one put in the place of another
  pub ends-kept : (ends : List LoneEnd) (at q end : ℕ) → q < length ends
      → AreLoneEnds m column ends → IsLoneEnd m column at q end
      → AreLoneEnds m column (set ends q (record { at = at; end = end }))
  ends-kept ends at q end inside are is p lt =
      let none : LoneEnd = record { at = 0; end = 0 } in
      let put : LoneEnd = record { at = at; end = end } in
      let P : LoneEnd → Type 0 = λ x. IsLoneEnd m column x.at p x.end in
      elim (cases_eq p q) [
        | inl e ↦
            let Q : ℕ → Type 0 = λ k. IsLoneEnd m column at k end in
            let here : get_or (set ends q put) p none ≡ put =
            ap (λ k. get_or (set ends q put) k none) e
            ∙ get_or-set_same ends q put none inside in
            subst P (sym here) (subst Q (sym e) is)
        | inr apart ↦
            let less : p < length ends = omega (arith, length-set ends q put) in
            subst P (sym (get_or-set_other ends q p put none apart)) (are p less)
      ]

  -- one that is asked for
  pub end-known : (ends : List LoneEnd) (q : ℕ) (x : LoneEnd) → q < length ends
      → slice_get ends q ≡ Some x → (at : ℕ) → x.at ≡ at → AreLoneEnds m column ends
      → IsLoneEnd m column at q x.end
  end-known ends q x lt is at same are =
      let P : LoneEnd → Type 0 = λ y. IsLoneEnd m column y.at q y.end in
      let Q : ℕ → Type 0 = λ k. IsLoneEnd m column k q x.end in
      subst Q same
      (subst P (get_or_from_slice_get ends q x (record { at = 0; end = 0 }) is) (are q lt))
