-- The first formula of a class that is not taken.
use Rattle.std.proofs.Common.{◌≡◌, ℕ, zero, suc, Bool, true≢false, List, [], ◌∷◌, refl, sym, ap, ◌∙◌}
use Rattle.hy_formula.specs.Formulas.{Plain}
use Rattle.hy_formula.specs.declared.classes.Class.{Class}
use Rattle.hy_formula.specs.declared.prefix.Quant.{Quant}
use Rattle.hy_run.specs.Classes.{AreTaken, FirstUntaken}

pub untaken_or_taken : (takes : List Quant → Bool) (formulas : List Plain) (place : ℕ) (found : Class) → FirstUntaken takes formulas place found
    → ¬ AreTaken takes formulas
untaken_or_taken takes [] place found first all = first
untaken_or_taken takes (f ∷ formulas) zero found (is, out) (fits, all) = absurd (true≢false (sym fits ∙ out))
untaken_or_taken takes (f ∷ formulas) (suc place) found (fits, first) (also, all) = untaken_or_taken takes formulas place found first all

-- One formula is the first whose prefix is not taken.
pub untaken_once : (takes : List Quant → Bool) (formulas : List Plain) (place other : ℕ) (found next : Class) → FirstUntaken takes formulas place found
    → FirstUntaken takes formulas other next → (place ≡ other) × (found ≡ next)
untaken_once takes [] place other found next one two = absurd one
untaken_once takes (f ∷ formulas) zero zero found next (is, out) (also, two) = (refl, sym is ∙ also)
untaken_once takes (f ∷ formulas) zero (suc other) found next (is, out) (fits, two) = absurd (true≢false (sym fits ∙ out))
untaken_once takes (f ∷ formulas) (suc place) zero found next (fits, one) (is, out) = absurd (true≢false (sym fits ∙ out))
untaken_once takes (f ∷ formulas) (suc place) (suc other) found next (fits, one) (also, two) =
    let (same, known) = untaken_once takes formulas place other found next one two in (ap suc same, known)
