-- What the decisions on formulas say.
use Rattle.std.specs.Prelude.{◌≡◌, ◌⊎◌, ℕ, ◌<◌, List, length, slice_index_or, IsTrue}
use Rattle.hy_bits.specs.Letter.{Letter}
use Rattle.hy_formula.specs.Trees.{Tree, always, never, atom, not, next, finally, globally, and, or, implies, iff, until, release, weak}
use Rattle.hy_formula.specs.Lassos.{Lasso}
use Rattle.hy_formula.specs.declared.prefix.Quant.{Quant}
use Rattle.hy_lasso.specs.NormalForms.{IsNormal}
use Rattle.hy_lasso.specs.Words.{no_lasso, AreLassos, lasso_words, Satisfies, IsSatisfiable}
use Rattle.ea_reduce.specs.Plans.{reduction, implication}
use Rattle.ea_reduce.specs.Fulfilled.{IsModel, Separates}
use Rattle.ea_core.specs.declared.decision.Decision.{Decision}
use Rattle.ea_core.specs.declared.decision.Decision.TheVariants.{Sat, Unsat}
use Rattle.ea_core.specs.declared.decision.Both.{Both}
use Rattle.ea_core.specs.declared.decision.Both.TheVariants.{Same, First, Second}
use Rattle.ea_core.specs.Proofs.{IsProofOf}

-- Some atom of the tree has the name.
abbrev pub Mentions : Tree → ℕ → Type 0
Mentions always name = ⊥
Mentions never name = ⊥
Mentions (atom n v) name = n ≡ name
Mentions (not f) name = Mentions f name
Mentions (next f) name = Mentions f name
Mentions (finally f) name = Mentions f name
Mentions (globally f) name = Mentions f name
Mentions (and f g) name = Mentions f name ⊎ Mentions g name
Mentions (or f g) name = Mentions f name ⊎ Mentions g name
Mentions (implies f g) name = Mentions f name ⊎ Mentions g name
Mentions (iff f g) name = Mentions f name ⊎ Mentions g name
Mentions (until f g) name = Mentions f name ⊎ Mentions g name
Mentions (release f g) name = Mentions f name ⊎ Mentions g name
Mentions (weak f g) name = Mentions f name ⊎ Mentions g name

-- The lassos are in normal form, and each name at a position of theirs is one of these names.
pub record IsShort (Named : ℕ → Type 0) (list : List (Lasso Letter)) : Type 0 where
  pub normal : (v : ℕ) → v < length list → IsNormal (slice_index_or list v no_lasso)
  pub names : (name v i : ℕ) → IsTrue (lasso_words list name v i) → Named name

-- What a decision says of a formula. As many lassos satisfy it as its plan has variables.
abbrev pub Decides : List Quant → Tree → Decision → Type 0
Decides prefix body (Sat list) =
    IsModel prefix body list × (length list ≡ (reduction prefix body).vars) × IsShort (Mentions body) list
Decides prefix body (Unsat proof) = (¬ IsSatisfiable prefix body) × IsProofOf (reduction prefix body) proof

-- Each list of lassos that satisfies the first formula satisfies the second.
abbrev pub Implies : List Quant → Tree → List Quant → Tree → Type 0
Implies first body second other =
    (list : List (Lasso Letter)) → 0 < length list → AreLassos list → Satisfies list first body → Satisfies list second other

-- The list satisfies the first formula and not the second, in short, with as many lassos as the plan has variables.
pub record TellsApart (first : List Quant) (body : Tree) (second : List Quant) (other : Tree) (list : List (Lasso Letter)) : Type 0 where
  pub separates : Separates first body second other list
  pub count : length list ≡ (implication first body second other).vars
  pub short : IsShort (λ name. Mentions body name ⊎ Mentions other name) list

-- What a decision says of an implication.
abbrev pub DecidesImplication : List Quant → Tree → List Quant → Tree → Decision → Type 0
DecidesImplication first body second other (Sat list) = TellsApart first body second other list
DecidesImplication first body second other (Unsat proof) = Implies first body second other × IsProofOf (implication first body second other) proof

-- What a decision says of an equivalence. The first direction is tried first.
abbrev pub DecidesEquivalence : List Quant → Tree → List Quant → Tree → Both → Type 0
DecidesEquivalence first body second other (Same proof back) =
    DecidesImplication first body second other (Unsat proof) × DecidesImplication second other first body (Unsat back)
DecidesEquivalence first body second other (First list) = TellsApart first body second other list
DecidesEquivalence first body second other (Second list) = Implies first body second other × TellsApart second other first body list
