-- Rows of values by place, and lists of the values at numbers.
use Rattle.std.specs.Prelude.{ℕ, zero, suc, Bool, false, List, [], ◌∷◌, slice_index_or}

-- a row of values by place; false behind its end
abbrev pub row : List Bool → ℕ → Bool
row values u = slice_index_or values u false

-- f of c, c + 1 and so on, n in all
abbrev pub listed : {B : Type 0} → ℕ → ℕ → (ℕ → B) → List B
listed c zero f = []
listed c (suc n) f = f c ∷ listed (suc c) n f
