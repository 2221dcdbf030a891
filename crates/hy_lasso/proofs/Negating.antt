-- Whether a list of lassos satisfies a formula is decided, and its negation says that it does not.
use Rattle.std.proofs.Common.{zero, suc, ◌<◌, ◌↔◌, List, [], ◌∷◌, length, map, subst, arith}
use Rattle.std.specs.List.{Contains}
use Rattle.std.proofs.lemmas.List.{get_or_default}
use Rattle.hy_bits.specs.Letter.{Letter}
use Rattle.hy_formula.specs.Trees.{Tree, not}
use Rattle.hy_formula.specs.Temporal.{Decided}
use Rattle.hy_formula.specs.declared.prefix.Quant.{Quant}
use Rattle.hy_formula.specs.Quantifiers.{turned, Each}
use Rattle.hy_formula.specs.Lassos.{Lasso}
use Rattle.hy_formula.proofs.Choices.{decided-quantified, negated}
use Rattle.hy_formula.proofs.Tuples.{searched-members}
use Rattle.hy_lasso.specs.Words.{no_lasso, AreLassos, Meets, Satisfies}
use Rattle.hy_lasso.proofs.LassoWords.{decided-lassos}

pub are-lassos : (list : List (Lasso Letter)) → AreLassos list → (tuple : List (Lasso Letter)) → Each (Contains list) tuple → AreLassos tuple
are-lassos list are [] m v lt = absurd (omega arith)
are-lassos list are (x ∷ xs) ((k, lt', e), m) zero lt =
    let P : Lasso Letter → Type 0 = λ l. 0 < length l.cycle in subst P e (subst P (get_or_default list k no_lasso x lt') (are k lt'))
are-lassos list are (x ∷ xs) (_, m) (suc v) lt = are-lassos list are xs m v (omega arith)

module _ (list : List (Lasso Letter)) (are : AreLassos list) (prefix : List Quant) (body : Tree) where
  known : (tuple : List (Lasso Letter)) → Each (Contains list) tuple → Decided (Meets body tuple)
  known tuple m = decided-lassos tuple (are-lassos list are tuple m) body 0

  pub decided-satisfies : Decided (Satisfies list prefix body)
  decided-satisfies = decided-quantified (Contains list) (searched-members list) (Meets body) known prefix

  pub negation : Satisfies list (map turned prefix) (not body) ↔ (¬ Satisfies list prefix body)
  negation = negated (Contains list) (searched-members list) (Meets body) known prefix
