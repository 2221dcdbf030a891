-- The first line that is at fault, where a line is no text if it is.
use Rattle.std.proofs.Common.{◌≡◌, ℕ, suc, List, [], ◌∷◌, inl, inr, sym, ◌∙◌}
use Rattle.hy_formula.specs.Quantifiers.{Each}
use Rattle.hy_text.specs.Lines.{FirstFault}

-- No line is both.
abbrev pub Apart : (List ℕ → Type 0) → (List ℕ → Type 0) → Type 0
Apart IsText IsFaulty = (line : List ℕ) → IsText line → ¬ IsFaulty line

pub one_fault : (IsText IsFaulty : List ℕ → Type 0) → Apart IsText IsFaulty
    → (n : ℕ) (lines : List (List ℕ)) (j k : ℕ) → FirstFault IsText IsFaulty n lines j
    → FirstFault IsText IsFaulty n lines k → j ≡ k
one_fault IsText IsFaulty apart n [] j k one two = absurd one
one_fault IsText IsFaulty apart n (line ∷ lines) j k (inl (fault, e)) (inl (also, f)) = e ∙ sym f
one_fault IsText IsFaulty apart n (line ∷ lines) j k (inl (fault, e)) (inr (text, two)) =
    absurd (apart line text fault)
one_fault IsText IsFaulty apart n (line ∷ lines) j k (inr (text, one)) (inl (fault, f)) =
    absurd (apart line text fault)
one_fault IsText IsFaulty apart n (line ∷ lines) j k (inr (text, one)) (inr (also, two)) =
    one_fault IsText IsFaulty apart (suc n) lines j k one two

-- Where all lines are texts none is at fault.
pub texts_no_fault : (IsText IsFaulty : List ℕ → Type 0) → Apart IsText IsFaulty
    → (n : ℕ) (lines : List (List ℕ)) (k : ℕ) → Each IsText lines
    → ¬ FirstFault IsText IsFaulty n lines k
texts_no_fault IsText IsFaulty apart n [] k each fault = fault
texts_no_fault IsText IsFaulty apart n (line ∷ lines) k (text, each) (inl (fault, e)) =
    apart line text fault
texts_no_fault IsText IsFaulty apart n (line ∷ lines) k (text, each) (inr (also, later)) =
    texts_no_fault IsText IsFaulty apart (suc n) lines k each later
