-- Texts cut at a byte.
use Rattle.std.specs.Prelude.{ℕ, nat_eq, List}
use Rattle.std.specs.List.{slice_split}

-- the text cut at each byte of this value
abbrev pub cut_at : ℕ → List ℕ → List (List ℕ)
cut_at byte text = slice_split (λ b. nat_eq b byte) text
