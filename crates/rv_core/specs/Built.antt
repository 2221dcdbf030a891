-- Which specs are monitored: universal formulas, none of them too large.
use Rattle.std.specs.Prelude.{◌≡◌, ◌⊎◌, ℕ, ◌<◌, ◌≤◌, List, [], ◌∷◌, length, slice_get, Option, Some, None}
use Rattle.std.specs.List.{AllZip}
use Rattle.hy_base.specs.declared.limit.Kind.{Kind}
use Rattle.hy_base.specs.declared.limit.Kind.TheVariants as kind
use Rattle.hy_formula.specs.declared.classes.Class.{Class}
use Rattle.hy_formula.specs.declared.classes.Class.TheVariants as class
use Rattle.hy_formula.specs.declared.formula.Formula.{Formula}
use Rattle.hy_formula.specs.Classes.{class_of}
use Rattle.hy_formula.specs.Quantifiers.{Each}
use Rattle.hy_formula.specs.Trees.{Tree, tree_of}
use Rattle.fin_monitor.specs.Limits.{HasLargeClosure, HasSmallClosure, HasManyAtoms, HasFewAtoms, HasLargeTable, IsTaken}
use Rattle.fin_monitor.specs.Machines.{Machine}
use Rattle.rv_core.specs.declared.rv_error.RvNewError.{RvNewError}
use Rattle.rv_core.specs.declared.rv_error.RvNewError.TheVariants.{Prefix, Limit, Memory}
use Rattle.rv_core.specs.Endings.{Spec}
use Rattle.rv_core.specs.Held.{spec_of}

abbrev pub spec_of_formula : Formula → Spec
spec_of_formula f = record { variables = length f.prefix; body = tree_of f.body }

-- Each quantifier is universal.
abbrev pub IsUniversal : Formula → Type 0
IsUniversal f = class_of f.prefix ≡ class.Forall

abbrev pub HasFewQuantifiers : Formula → Type 0
HasFewQuantifiers f = length f.prefix ≤ 4

-- It holds of the body of some formula.
abbrev pub SomeBody : (Tree → Type 0) → List Formula → Type 0
SomeBody P [] = ⊥
SomeBody P (f ∷ fs) = P (tree_of f.body) ⊎ SomeBody P fs

-- It holds of each body.
abbrev pub EachBody : (Tree → Type 0) → List Formula → Type 0
EachBody P formulas = Each (λ (f : Formula). P (tree_of f.body)) formulas

-- The formula with this number is the first that is not universal, and of this class.
pub record FirstOther (formulas : List Formula) (k : ℕ) (c : Class) : Type 0 where
  pub formula : Formula
  pub there : slice_get formulas k ≡ Some formula
  pub class : class_of formula.prefix ≡ c
  pub other : ¬ IsUniversal formula
  pub before : (j : ℕ) (f : Formula) → j < k → slice_get formulas j ≡ Some f → IsUniversal f

-- Each formula is universal.
abbrev pub AreUniversal : List Formula → Type 0
AreUniversal formulas = (j : ℕ) (f : Formula) → slice_get formulas j ≡ Some f → IsUniversal f

-- why formulas have no monitors: each cause over all of them before the next
abbrev pub IsTooLarge : List Formula → Kind → Type 0
IsTooLarge formulas kind.Closure = SomeBody HasLargeClosure formulas
IsTooLarge formulas kind.Atoms = EachBody HasSmallClosure formulas × SomeBody HasManyAtoms formulas
IsTooLarge formulas kind.Table =
    EachBody HasSmallClosure formulas × EachBody HasFewAtoms formulas
    × SomeBody HasLargeTable formulas
IsTooLarge formulas _ = ⊥

-- why formulas are not monitored
abbrev pub IsNewRefusal : List Formula → RvNewError → Type 0
IsNewRefusal formulas (Prefix k c) = FirstOther formulas k c
IsNewRefusal formulas (Limit k) = AreUniversal formulas × IsTooLarge formulas k
IsNewRefusal formulas Memory = Unit {0}

-- what is known of formulas some of which may be too large
abbrev pub IsCause : List Formula → Option Kind → Type 0
IsCause formulas None = EachBody IsTaken formulas
IsCause formulas (Some k) = IsTooLarge formulas k

-- Of two kinds that are refused, the one that is answered.
abbrev pub earlier : Option Kind → Kind → Kind
earlier r kind.Closure = kind.Closure
earlier (Some kind.Closure) k = kind.Closure
earlier r kind.Atoms = kind.Atoms
earlier (Some kind.Atoms) k = kind.Atoms
earlier r k = k

-- The monitor of a formula, of some variables.
pub record IsFresh (f : Formula) (m : Machine) : Type 0 where
  pub spec : spec_of m ≡ spec_of_formula f
  pub some : 1 ≤ m.variables

abbrev pub AreFresh : List Formula → List Machine → Type 0
AreFresh formulas machines = AllZip IsFresh formulas machines
