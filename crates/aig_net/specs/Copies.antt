-- Things of the copies of a net in lists: that of item j in copy c of n stands at place j * n + c.
use Rattle.std.specs.Prelude.{ℕ, ◌+◌, ◌*◌, Bool, List, [], ◌∷◌, ◌++◌}
use Rattle.hy_base.specs.Rows.{row, listed}

-- the copies of the first item, then those of the next
abbrev pub copied : {A B : Type 0} → ℕ → (ℕ → A → B) → List A → List B
copied n f [] = []
copied n f (x ∷ xs) = listed 0 n (λ c. f c x) ++ copied n f xs

-- the values of copy c of n, so many
abbrev pub own_values : ℕ → ℕ → ℕ → List Bool → List Bool
own_values many n c values = listed 0 many (λ j. row values (j * n + c))
