-- Stamps as marks.
use Rattle.std.proofs.Common.{◌≡◌, ℕ, ◌<◌, ◌≤◌, Bool, false, List, [], ◌∷◌, ◌++◌, length, get_or, map, nat_eq, inl, inr, sym, ◌∙◌, subst, arith}
use Rattle.std.specs.List.{All}
use Rattle.std.proofs.lemmas.Bool.{cases_lt, cases_eq, ne_eqb}
use Rattle.std.proofs.lemmas.List.{map_push, length_push, length-map, get_or-map, get_or_append_left, get_or_push, get_or_past}
use Rattle.sat_core.specs.Marks.{AreNone}

abbrev pub marks_of : ℕ → List ℕ → List Bool
marks_of today stamps = map (λ s. nat_eq s today) stamps

-- stamps of earlier days
pub none-early : (today old : ℕ) (stamps : List ℕ) → old < today → All (λ s. s ≤ old) stamps →
    AreNone (marks_of today stamps)
none-early today old stamps lt all i =
    elim (cases_lt i (length stamps)) [
      | inr past ↦ get_or_past (marks_of today stamps) i false
          (omega (arith, length-map stamps (λ s. nat_eq s today)))
      | inl inside ↦ get_or-map (λ s. nat_eq s today) stamps i 0 false inside ∙
          ne_eqb (get_or stamps i 0) today (λ e. omega (arith, e, all i 0 inside))
    ]

-- one place more
pub none-more : (today : ℕ) (stamps : List ℕ) → 0 < today → AreNone (marks_of today stamps) →
    AreNone (marks_of today (stamps ++ 0 ∷ []))
none-more today stamps some none i =
    let P : List Bool → Type 0 = λ xs. get_or xs i false ≡ false in
    subst P (sym (map_push (λ s. nat_eq s today) stamps 0)) (elim (cases_lt i (length stamps)) [
      | inl old ↦ get_or_append_left (marks_of today stamps) (nat_eq 0 today ∷ []) false i
          (omega (arith, length-map stamps (λ s. nat_eq s today), old)) ∙ none i
      | inr past ↦ elim (cases_eq i (length stamps)) [
        | inl here ↦ get_or_push (marks_of today stamps) (nat_eq 0 today) false i
            (length-map stamps (λ s. nat_eq s today) ∙ sym here) ∙
            ne_eqb 0 today (λ e. omega (arith, e))
        | inr beyond ↦ get_or_past (marks_of today stamps ++ nat_eq 0 today ∷ []) i false
            (omega (
              arith,
              length_push (marks_of today stamps) (nat_eq 0 today),
              length-map stamps (λ s. nat_eq s today),
            ))
      ]
    ])
