-- Names as they are kept, each in a buffer of its own.
use Rattle.std.specs.Prelude.{ℕ, Bool, List, map, Vec, vec_items, nat_eq}
use Rattle.std.specs.Cmp.Lexicographic.{pointwise}

-- the names in the buffers
abbrev pub kept_names : {A : Type 0} → List (Vec ℕ A) → List (List ℕ)
kept_names buffers = map (λ b. vec_items b) buffers

-- The buffer holds the name.
abbrev pub is_named : {A : Type 0} → List ℕ → Vec ℕ A → Bool
is_named name buffer = pointwise nat_eq buffer.items name
