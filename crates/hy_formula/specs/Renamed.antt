-- Variables renamed.
use Rattle.std.specs.Prelude.{ℕ}
use Rattle.hy_formula.specs.Trees.{Tree, always, never, atom, not, next, finally, globally, and, or, implies, iff, until, release, weak}
use Rattle.hy_formula.specs.Temporal.{Words}

abbrev pub renamed : (ℕ → ℕ) → Tree → Tree
renamed map always = always
renamed map never = never
renamed map (atom n v) = atom n (map v)
renamed map (not f) = not (renamed map f)
renamed map (next f) = next (renamed map f)
renamed map (finally f) = finally (renamed map f)
renamed map (globally f) = globally (renamed map f)
renamed map (and f g) = and (renamed map f) (renamed map g)
renamed map (or f g) = or (renamed map f) (renamed map g)
renamed map (implies f g) = implies (renamed map f) (renamed map g)
renamed map (iff f g) = iff (renamed map f) (renamed map g)
renamed map (until f g) = until (renamed map f) (renamed map g)
renamed map (release f g) = release (renamed map f) (renamed map g)
renamed map (weak f g) = weak (renamed map f) (renamed map g)

-- variable v stands for the word of variable `map v`
abbrev pub with_variables : (ℕ → ℕ) → Words → Words
with_variables map words name variable i = words name (map variable) i
