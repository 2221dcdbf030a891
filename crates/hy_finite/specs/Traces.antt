-- Finite traces, the length on which a tuple of them is judged, and lists that violate a universal formula.
use Rattle.std.specs.Prelude.{ℕ, zero, suc, min, max, List, [], ◌∷◌, length, map, slice_index_or}
use Rattle.std.specs.List.{Contains}
use Rattle.std.specs.FinSet.{empty, contains}
use Rattle.hy_bits.specs.Letter.{Letter}
use Rattle.hy_formula.specs.Quantifiers.{IsTuple}
use Rattle.hy_formula.specs.Temporal.{Words, below, SatisfiesAt}
use Rattle.hy_formula.specs.Trees.{Tree}
use Rattle.hy_finite.specs.declared.lengths.Lengths.{Lengths}
use Rattle.hy_finite.specs.declared.lengths.Lengths.TheVariants.{Min, Pad}

-- a finite trace: its letters
abbrev pub Trace : Type 0
Trace = List Letter

-- most letters of a trace
abbrev pub most_letters : ℕ
most_letters = 1024

abbrev pub of_two : Lengths → ℕ → ℕ → ℕ
of_two Min a b = min a b
of_two Pad a b = max a b

-- the length on which a tuple is judged
abbrev pub judged : Lengths → List Trace → ℕ
judged lengths [] = 0
judged lengths (t ∷ []) = length t
judged lengths (t ∷ u ∷ ts) = of_two lengths (length t) (judged lengths (u ∷ ts))

-- the words of a tuple; past its end a trace goes on with empty letters
abbrev pub trace_words : List Trace → Words
trace_words tuple name variable i =
    contains (slice_index_or (slice_index_or tuple variable []) i empty) name

-- The tuple satisfies the body.
abbrev pub Meets : Lengths → Tree → List Trace → Type 0
Meets lengths body tuple = SatisfiesAt (below (judged lengths tuple)) (trace_words tuple) body 0

-- The tuple, of n members of the list, does not satisfy the body.
abbrev pub ViolatesBy : Lengths → ℕ → Tree → List Trace → List Trace → Type 0
ViolatesBy lengths n body list tuple =
    IsTuple (Contains list) n tuple × (¬ Meets lengths body tuple)

-- The list violates the universal formula with n variables and this body.
abbrev pub Violates : Lengths → ℕ → Tree → List Trace → Type 0
Violates lengths n body list = (tuple : List Trace) × ViolatesBy lengths n body list tuple

-- the traces at these places
abbrev pub picked : List Trace → List ℕ → List Trace
picked list pick = map (λ k. slice_index_or list k []) pick

-- the first m letters, with empty ones where the trace has ended
abbrev pub fit : ℕ → Trace → Trace
fit zero t = []
fit (suc m) [] = empty ∷ fit m []
fit (suc m) (a ∷ t) = a ∷ fit m t
