-- Pieces that are printed one after another, with a byte between each two.
use Rattle.std.specs.Prelude.{ℕ, Bool, true, false, List, [], ◌∷◌, ◌++◌}

-- a piece, with the byte before it unless it is the first one
abbrev pub piece : Bool → ℕ → List ℕ → List ℕ
piece true b x = x
piece false b x = b ∷ x

-- pieces of which the first one is the first of all, or is not
abbrev pub pieces : Bool → ℕ → List (List ℕ) → List ℕ
pieces first b [] = []
pieces first b (x ∷ xs) = piece first b x ++ pieces false b xs
