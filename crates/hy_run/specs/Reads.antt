-- What reads gave, as the bytes of files.
use Rattle.std.specs.Prelude.{◌≡◌, ◌≢◌, ℕ, List, [], ◌∷◌, Ok, Err}
use Rattle.hy_base.specs.Shelf.{Files, HasBytes, Read}
use Rattle.hy_base.specs.declared.reading.FileError.TheVariants as errors

-- The files of these names have these bytes, within the limit.
abbrev pub HaveBytes : Files → List (List ℕ) → List (List ℕ) → Type 0
HaveBytes told [] [] = Unit {0}
HaveBytes told (name ∷ names) (bytes ∷ files) = HasBytes told name bytes × HaveBytes told names files
HaveBytes told _ _ = ⊥

-- Reads gave the bytes of these files, as far as they came; what ended them before was want of memory.
abbrev pub GaveOnly : List Read → List (List ℕ) → Type 0
GaveOnly [] files = Unit {0}
GaveOnly (Ok bytes ∷ given) (file ∷ files) = (bytes ≡ file) × GaveOnly given files
GaveOnly (Err errors.Memory ∷ given) files = Unit {0}
GaveOnly _ _ = ⊥

-- No open and no read failed.
abbrev pub HasNoFault : Read → Type 0
HasNoFault read = (read ≢ Err errors.OpenFailed) × (read ≢ Err errors.ReadFailed)
