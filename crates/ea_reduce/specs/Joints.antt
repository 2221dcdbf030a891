-- Lassos side by side: at each position a letter for each variable.
use Rattle.std.specs.Prelude.{◌≡◌, ℕ, zero, suc, ◌<◌, List, [], ◌∷◌, map, length, slice_index_or, All}
use Rattle.std.specs.FinSet.{empty}
use Rattle.hy_bits.specs.Letter.{Letter}
use Rattle.hy_formula.specs.Lassos.{Lasso}
use Rattle.hy_lasso.specs.Words.{no_lasso, letter_at}
use Rattle.hy_lasso.specs.NormalForms.{IsNormal}
use Rattle.ea_reduce.specs.declared.joint.Joint.{Joint}

-- the letters of a variable
abbrev pub column : ℕ → List (List Letter) → List Letter
column v rows = map (λ row. slice_index_or row v empty) rows

-- the lasso of a variable, and those of n variables from v on
abbrev pub lasso_of : Joint → ℕ → Lasso Letter
lasso_of joint v = record { stem = column v joint.stem; cycle = column v joint.cycle }

abbrev pub lassos_from : Joint → ℕ → ℕ → List (Lasso Letter)
lassos_from joint v zero = []
lassos_from joint v (suc n) = lasso_of joint v ∷ lassos_from joint (suc v) n

-- Each position has a letter for each of n variables, and some are gone round.
pub record IsJoint (n : ℕ) (joint : Joint) : Type 0 where
  pub some : 0 < length joint.cycle
  pub stem : All (λ row. length row ≡ n) joint.stem
  pub cycle : All (λ row. length row ≡ n) joint.cycle

-- The list has the normal form of each lasso of the tuple.
pub record AreShortened (tuple list : List (Lasso Letter)) : Type 0 where
  pub count : length list ≡ length tuple
  pub some : (v : ℕ) → v < length list → 0 < length (slice_index_or list v no_lasso).cycle
  pub words : (v i : ℕ) → v < length list
      → letter_at (slice_index_or list v no_lasso) i ≡ letter_at (slice_index_or tuple v no_lasso) i
  pub normal : (v : ℕ) → v < length list → IsNormal (slice_index_or list v no_lasso)
