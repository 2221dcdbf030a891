-- What a body says at a place, by what its parts say there and by what is carried to the place from the one before
-- it. Places count the positions from the last one on: place 0 is the last position.
use Rattle.std.specs.Prelude.{ℕ, zero, suc, Bool, true, false, not, ◌&&◌, ◌||◌}
use Rattle.std.specs.Bool.{beq}
use Rattle.hy_finite.specs.declared.rule.Rule.{Rule}
use Rattle.hy_finite.specs.declared.rule.Rule.TheVariants.{Not, Next, Finally, Globally, And, Or, Implies, Iff, Until, Release, Weak}

-- what the body says, where its left part says f, its right part g, and c is carried; one part alone is the left
abbrev pub says : Rule → Bool → Bool → Bool → Bool
says Not f g c = not f
says Next f g c = c
says Finally f g c = f || c
says Globally f g c = f && c
says And f g c = f && g
says Or f g c = f || g
says Implies f g c = not f || g
says Iff f g c = beq f g
says Until f g c = g || (f && c)
says Release f g c = g && (f || c)
says Weak f g c = (f || g) && (g || c)

-- what is carried on, where the left part says f and the body said
abbrev pub carries : Rule → Bool → Bool → Bool
carries Next f said = f
carries _ f said = said

-- what is carried to a place, where the parts say f and g at each, and c is carried to the first
abbrev pub carry_at : Rule → (ℕ → Bool) → (ℕ → Bool) → Bool → ℕ → Bool
carry_at rule f g c zero = c
carry_at rule f g c (suc k) = carries rule (f k) (says rule (f k) (g k) (carry_at rule f g c k))

-- what is carried to the last position
abbrev pub start : Rule → Bool
start Globally = true
start Release = true
start Weak = true
start _ = false
