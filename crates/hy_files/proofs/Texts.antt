-- Bytes are one text of formulas, or are refused by one fault, and never both.
use Rattle.std.proofs.Common.{◌≡◌, ℕ, Bool, List, sym, subst, ◌∙◌}
use Rattle.hy_formula.specs.Formulas.{Plain}
use Rattle.hy_read.specs.Answers.{Answer as Found, faulty, free, over, read_as}
use Rattle.hy_read.proofs.Spanning.{answer-once}
use Rattle.hy_files.specs.Contents.{IsText, IsRefused}
use Rattle.hy_files.specs.Faults.{Refuses}
use Rattle.hy_files.specs.declared.fault.FileFault.{FileFault}

refuses_once : (found : Found) (a b : FileFault) → Refuses found a → Refuses found b → a ≡ b
refuses_once (faulty token byte) a b e f = e ∙ sym f
refuses_once (free byte) a b e f = e ∙ sym f
refuses_once (over count limit) a b e f = e ∙ sym f
refuses_once (read_as formulas names) a b e f = absurd e

module _ (many : Bool) (quantifiers : ℕ) (old : List (List ℕ)) (bytes : List ℕ) where
  pub text_once : (formulas others : List Plain) (new later : List (List ℕ)) → IsText many quantifiers old bytes formulas new
      → IsText many quantifiers old bytes others later → (formulas ≡ others) × (new ≡ later)
  text_once formulas others new later one two =
      let same = answer-once many quantifiers old bytes _ _ one two in (cc, cc)

  pub refused_once : (a b : FileFault) → IsRefused many quantifiers old bytes a → IsRefused many quantifiers old bytes b → a ≡ b
  refused_once a b (found, one, e) (other, two, f) =
      let P : Found → Type 0 = λ x. Refuses x b in
      refuses_once found a b e (subst P (sym (answer-once many quantifiers old bytes found other one two)) f)

  pub text_not_refused : (formulas : List Plain) (new : List (List ℕ)) (a : FileFault)
      → IsText many quantifiers old bytes formulas new → ¬ IsRefused many quantifiers old bytes a
  text_not_refused formulas new a one (found, two, refuses) =
      let P : Found → Type 0 = λ f. Refuses f a in
      subst P (sym (answer-once many quantifiers old bytes (read_as formulas new) found one two)) refuses
