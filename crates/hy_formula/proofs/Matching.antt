-- Quantifiers over members of two kinds that match both ways say the same, where what is said of matching tuples is the same.
use Rattle.std.proofs.Common.{◌↔◌, List, [], ◌∷◌}
use Rattle.hy_formula.specs.declared.prefix.Quant.{Quant}
use Rattle.hy_formula.specs.declared.prefix.Quant.TheVariants.{Exists, Forall}
use Rattle.hy_formula.specs.Quantifiers.{Quantified, MatchBothWays, SayTheSame}

module _ {A B : Type 0} (Member : A → Type 0) (Other : B → Type 0) (Match : A → B → Type 0)
    (ways : MatchBothWays Member Other Match) where
  -- behind a choice from each kind that matches
  behind-choice : (Body : List A → Type 0) (Told : List B → Type 0) → SayTheSame Match Body Told → (x : A) (y : B) → Match x y
      → SayTheSame Match (λ t. Body (x ∷ t)) (λ t. Told (y ∷ t))
  behind-choice Body Told same x y fits xs ys match = same (x ∷ xs) (y ∷ ys) (fits, match)

  pub matched : (Body : List A → Type 0) (Told : List B → Type 0) → SayTheSame Match Body Told → (prefix : List Quant)
      → Quantified Member Body prefix ↔ Quantified Other Told prefix
  matched Body Told same [] = same [] [] tt
  matched Body Told same (Exists ∷ prefix) = (
    λ (x, m, q).
        let (y, o, fits) = ways.there x m in
        (y, o, (matched (λ t. Body (x ∷ t)) (λ t. Told (y ∷ t)) (behind-choice Body Told same x y fits) prefix).0 q),
    λ (y, o, q).
        let (x, m, fits) = ways.back y o in
        (x, m, (matched (λ t. Body (x ∷ t)) (λ t. Told (y ∷ t)) (behind-choice Body Told same x y fits) prefix).1 q),
  )
  matched Body Told same (Forall ∷ prefix) = (
    λ q y o.
        let (x, m, fits) = ways.back y o in
        (matched (λ t. Body (x ∷ t)) (λ t. Told (y ∷ t)) (behind-choice Body Told same x y fits) prefix).0 (q x m),
    λ q x m.
        let (y, o, fits) = ways.there x m in
        (matched (λ t. Body (x ∷ t)) (λ t. Told (y ∷ t)) (behind-choice Body Told same x y fits) prefix).1 (q y o),
  )
