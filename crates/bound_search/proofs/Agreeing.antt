-- Words that agree on the atoms of a body: it holds at the same positions of both.
use Rattle.std.proofs.Common.{◌≡◌, ℕ, ◌+◌, ◌⊎◌, Bool, true, false, IsTrue, refl, ap, ap₂}
use Rattle.hy_formula.specs.Trees.{Tree}
use Rattle.hy_formula.specs.Temporal.{endless, Within, Words, IsUntil, IsRelease, SatisfiesAt}
use Rattle.bound_search.specs.declared.connectives.Binary.{Binary}
use Rattle.bound_search.specs.declared.connectives.Binary.TheVariants.{And, Or, Implies, Iff, Until, Release, Weak}
use Rattle.bound_search.specs.declared.connectives.Unary.{Unary}
use Rattle.bound_search.specs.declared.connectives.Unary.TheVariants.{Not, Next, Finally, Globally}
use Rattle.bound_search.specs.Shapes.{Shape, constant, atom, one, two}
use Rattle.bound_search.proofs.Atoms.{EachAtom}
use Rattle.bound_search.proofs.Shapes.{one_tree, two_tree, shape_tree}

module _ (u w : Words) where
  abbrev Same : Tree → Type 1
  Same f = SatisfiesAt endless u f ≡ SatisfiesAt endless w f

  same-one : (op : Unary) (f : Tree) → Same f → Same (one_tree op f)
  same-one Not f e = ap (λ (P : ℕ → Type 0). λ (i : ℕ). ¬ P i) e
  same-one Next f e =
      ap (λ (P : ℕ → Type 0). λ (i : ℕ). Within endless (i + 1) × P (i + 1)) e
  same-one Finally f e = ap (IsUntil endless (λ _. Unit {0})) e
  same-one Globally f e = ap (IsRelease endless (λ _. ⊥)) e

  same-two : (op : Binary) (f g : Tree) → Same f → Same g → Same (two_tree op f g)
  same-two And f g d e = ap₂ (λ (P Q : ℕ → Type 0). λ (i : ℕ). P i × Q i) d e
  same-two Or f g d e = ap₂ (λ (P Q : ℕ → Type 0). λ (i : ℕ). P i ⊎ Q i) d e
  same-two Implies f g d e = ap₂ (λ (P Q : ℕ → Type 0). λ (i : ℕ). P i → Q i) d e
  same-two Iff f g d e =
      ap₂ (λ (P Q : ℕ → Type 0). λ (i : ℕ). (P i → Q i) × (Q i → P i)) d e
  same-two Until f g d e = ap₂ (IsUntil endless) d e
  same-two Release f g d e = ap₂ (IsRelease endless) d e
  same-two Weak f g d e =
      ap₂ (λ (P Q : ℕ → Type 0). IsRelease endless Q (λ k. P k ⊎ Q k)) d e

  pub satisfies-same : (f : Shape) → EachAtom (λ name v. u name v ≡ w name v) f →
      Same (shape_tree f)
  satisfies-same (constant true) h = refl
  satisfies-same (constant false) h = refl
  satisfies-same (atom name v) h = ap (λ (p : ℕ → Bool). λ (i : ℕ). IsTrue (p i)) h
  satisfies-same (one op f) h = same-one op (shape_tree f) (satisfies-same f h)
  satisfies-same (two op f g) h =
      same-two op (shape_tree f) (shape_tree g) (satisfies-same f h.0) (satisfies-same g h.1)
