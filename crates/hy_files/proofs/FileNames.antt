-- The names of files, as slices and as lists.
use Rattle.std.proofs.Common.{◌≡◌, ℕ, zero, suc, ◌<◌, ◌≤◌, List, [], ◌∷◌, length, slice_index_or, Bor, refl, arith}
use Rattle.hy_files.specs.ErrorLines.{plain, name_of_file}

pub name_within : (names : List (Bor (List ℕ))) (k : ℕ) (default : Bor (List ℕ)) → k < length names → (slice_index_or names k default).now ≡ name_of_file (plain names) k
name_within [] k default lt = absurd (omega arith)
name_within (name ∷ names) zero default lt = refl
name_within (name ∷ names) (suc k) default lt = name_within names k default (omega arith)

pub name_past : (names : List (Bor (List ℕ))) (k : ℕ) → length names ≤ k → [] ≡ name_of_file (plain names) k
name_past [] k le = refl
name_past (name ∷ names) zero le = absurd (omega arith)
name_past (name ∷ names) (suc k) le = name_past names k (omega arith)
