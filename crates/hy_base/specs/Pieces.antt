-- Pieces of bytes: one after the other, and the front of one.
use Rattle.std.specs.Prelude.{◌≡◌, ℕ, ◌<◌, List, [], ◌∷◌, ◌++◌, length}
use Rattle.std.specs.Borrow.{Bor}

-- the bytes of all pieces, one after the other
abbrev pub joined : List (Bor (List ℕ)) → List ℕ
joined [] = []
joined (p ∷ ps) = p.now ++ joined ps

-- `front` is a front of `whole`, and not all of it
abbrev pub IsProperPrefix : List ℕ → List ℕ → Type 0
IsProperPrefix front whole = (rest : List ℕ) × (whole ≡ front ++ rest) × (0 < length rest)

-- between `old` and `new` a proper prefix of `whole` was given
abbrev pub GaveFront : List ℕ → List ℕ → List ℕ → Type 0
GaveFront old new whole = (front : List ℕ) × (new ≡ old ++ front) × IsProperPrefix front whole
