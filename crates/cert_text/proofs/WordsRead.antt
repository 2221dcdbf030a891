-- Words that each say a value, and words that end in a 0.
use Rattle.std.proofs.Common.{◌≡◌, ℕ, ◌↔◌, ◌⊎◌, List, [], ◌∷◌, ◌++◌, inl, inr, refl, sym, ◌∙◌, ap, subst}
use Rattle.std.specs.Prelude.{codes}
use Rattle.hy_formula.specs.Quantifiers.{Each}
use Rattle.cert_text.specs.Lines.{Speaks, Say}
use Rattle.cert_text.specs.Numbers.{SayEnded}

module _ {A : Type 0} (Says : List ℕ → A → Type 0) where
  -- Each word says some value.
  abbrev pub EachSpeaks : List (List ℕ) → Type 0
  EachSpeaks = Each (Speaks Says)

  pub each_said : (words : List (List ℕ)) → EachSpeaks words → (xs : List A) × Say Says words xs
  each_said [] each = ([], tt)
  each_said (word ∷ words) ((x, says), each) =
      let (xs, said) = each_said words each in (x ∷ xs, (says, said))

  pub said_each : (words : List (List ℕ)) (xs : List A) → Say Says words xs → EachSpeaks words
  said_each [] xs said = tt
  said_each (word ∷ words) [] said = absurd said
  said_each (word ∷ words) (x ∷ xs) (says, said) = ((x, says), said_each words xs said)

  -- one word more
  pub each_step : (words rest : List (List ℕ)) (word : List ℕ) → words ≡ word ∷ rest
      → Speaks Says word → EachSpeaks words ↔ EachSpeaks rest
  each_step words rest word cut speaks =
      (λ each. (subst EachSpeaks cut each).1, λ each. subst EachSpeaks (sym cut) (speaks, each))

  pub each_bad : (words rest : List (List ℕ)) (word : List ℕ) → words ≡ word ∷ rest
      → ¬ Speaks Says word → ¬ EachSpeaks words
  each_bad words rest word cut silent each = silent (subst EachSpeaks cut each).0

  -- the last word
  pub each_alone : (words : List (List ℕ)) (word : List ℕ) → words ≡ word ∷ []
      → EachSpeaks words ↔ Speaks Says word
  each_alone words word cut =
      (λ each. (subst EachSpeaks cut each).0, λ speaks. subst EachSpeaks (sym cut) (speaks, tt))

  -- Words that each say a value, a 0, and these words behind it.
  abbrev pub EndedBy : List (List ℕ) → List (List ℕ) → Type 0
  EndedBy [] rest = ⊥
  EndedBy (word ∷ words) rest =
      ((word ≡ codes "0") × (words ≡ rest)) ⊎ (Speaks Says word × EndedBy words rest)

  pub ended_said : (words rest : List (List ℕ)) → EndedBy words rest
      → (xs : List A) × SayEnded Says words xs rest
  ended_said [] rest ended = absurd ended
  ended_said (word ∷ words) rest (inl (is, same)) =
      ([], ([], ap (λ w. w ∷ words) is ∙ ap (λ l. codes "0" ∷ l) same, tt))
  ended_said (word ∷ words) rest (inr ((x, says), ended)) =
      let (xs, (front, parts, said)) = ended_said words rest ended in
      (x ∷ xs, (word ∷ front, ap (λ l. word ∷ l) parts, (says, said)))

  ended-front : (front rest : List (List ℕ)) (xs : List A) → Say Says front xs
      → EndedBy (front ++ codes "0" ∷ rest) rest
  ended-front [] rest xs said = inl (refl, refl)
  ended-front (word ∷ front) rest [] said = absurd said
  ended-front (word ∷ front) rest (x ∷ xs) (says, said) =
      inr ((x, says), ended-front front rest xs said)

  pub said_ended : (words rest : List (List ℕ)) (xs : List A) → SayEnded Says words xs rest
      → EndedBy words rest
  said_ended words rest xs (front, parts, said) =
      let P : List (List ℕ) → Type 0 = λ l. EndedBy l rest in
      subst P (sym parts) (ended-front front rest xs said)

  -- one value more
  pub ended_step : ¬ Speaks Says (codes "0") → (word : List ℕ) (words rest : List (List ℕ))
      → Speaks Says word → EndedBy (word ∷ words) rest ↔ EndedBy words rest
  ended_step no_zero word words rest speaks = (
    λ ended. elim ended [
      | inl (is, same) ↦ absurd (no_zero (subst (Speaks Says) is speaks))
      | inr (_, ended) ↦ ended
    ],
    λ ended. inr (speaks, ended),
  )

  -- all words, and those that are left
  abbrev pub EndedLeft : List (List ℕ) → List (List ℕ) → Type 0
  EndedLeft words left = (rest : List (List ℕ)) → EndedBy words rest ↔ EndedBy left rest

  pub ended_more : ¬ Speaks Says (codes "0") → (words left more : List (List ℕ)) (word : List ℕ)
      → EndedLeft words left → left ≡ word ∷ more → Speaks Says word → EndedLeft words more
  ended_more no_zero words left more word same cut speaks rest =
      let here = subst (EndedLeft words) cut same rest in
      let step = ended_step no_zero word more rest speaks in
      (λ ended. step.0 (here.0 ended), λ ended. here.1 (step.1 ended))

  -- The 0 stands here.
  pub ended_here : (words left more : List (List ℕ)) (word : List ℕ) → EndedLeft words left
      → left ≡ word ∷ more → word ≡ codes "0" → (xs : List A) × SayEnded Says words xs more
  ended_here words left more word same cut is =
      ended_said words more ((subst (EndedLeft words) cut same more).1 (inl (is, refl)))

  -- A word that says no value and is no 0, or behind whose 0 is something else.
  pub ended_bad : (words left more : List (List ℕ)) (word : List ℕ) → EndedLeft words left
      → left ≡ word ∷ more → (rest : List (List ℕ)) → ¬ ((word ≡ codes "0") × (more ≡ rest))
      → ¬ (Speaks Says word × EndedBy more rest) → (xs : List A) → ¬ SayEnded Says words xs rest
  ended_bad words left more word same cut rest no_end no_more xs said =
      elim ((subst (EndedLeft words) cut same rest).0 (said_ended words rest xs said)) [
        | inl end ↦ no_end end
        | inr go ↦ no_more go
      ]

  -- The last word is the 0, and nothing stands behind it.
  pub ended_last : (words left : List (List ℕ)) (word : List ℕ) → EndedLeft words left
      → left ≡ word ∷ [] → (rest : List (List ℕ)) (xs : List A) → SayEnded Says words xs rest
      → (word ≡ codes "0") × ([] ≡ rest)
  ended_last words left word same cut rest xs said =
      elim ((subst (EndedLeft words) cut same rest).0 (said_ended words rest xs said)) [
        | inl end ↦ end
        | inr (_, none) ↦ absurd none
      ]

  -- What stands behind the 0 is one.
  pub ended_once : ¬ Speaks Says (codes "0") → (words rest other : List (List ℕ))
      → EndedBy words rest → EndedBy words other → rest ≡ other
  ended_once no_zero [] rest other one two = absurd one
  ended_once no_zero (word ∷ words) rest other (inl (is, same)) (inl (_, also)) = sym same ∙ also
  ended_once no_zero (word ∷ words) rest other (inl (is, same)) (inr (speaks, _)) =
      absurd (no_zero (subst (Speaks Says) is speaks))
  ended_once no_zero (word ∷ words) rest other (inr (speaks, _)) (inl (is, same)) =
      absurd (no_zero (subst (Speaks Says) is speaks))
  ended_once no_zero (word ∷ words) rest other (inr (_, one)) (inr (_, two)) =
      ended_once no_zero words rest other one two

  -- There is a word at least.
  pub ended_some : (words rest : List (List ℕ)) (xs : List A) → SayEnded Says words xs rest
      → (word : List ℕ) × (more : List (List ℕ)) × (words ≡ word ∷ more)
  ended_some words rest xs ([], parts, said) = (codes "0", rest, parts)
  ended_some words rest xs (word ∷ front, parts, said) = (word, front ++ codes "0" ∷ rest, parts)
