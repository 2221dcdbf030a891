-- Numbers that are joined by spaces are the first one, and each other one behind a space.
use Rattle.std.proofs.Common.{◌≡◌, ℕ, List, [], ◌∷◌, ◌++◌, map, decimal, ap, sym, append-nil}
use Rattle.std.specs.List.{join_with_byte}
use Rattle.rv_tool.specs.Texts.{spaced}

pub joined_numbers : (n : ℕ) (ns : List ℕ) → join_with_byte 32 (map decimal (n ∷ ns)) ≡ decimal n ++ spaced ns
joined_numbers n [] = sym (append-nil (decimal n))
joined_numbers n (m ∷ ns) = ap (λ xs. decimal n ++ (32 ∷ xs)) (joined_numbers m ns)
