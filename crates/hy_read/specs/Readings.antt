-- What is known of the formulas that a reader answers.
use Rattle.std.specs.Prelude.{ℕ, ◌≤◌, ◌&&◌, nat_lt, length, Bool, true, IsTrue}
use Rattle.hy_formula.specs.Trees.{Tree, always, never, atom, not, next, finally, globally, and, or, implies, iff, until, release, weak, height, vars_below}
use Rattle.hy_formula.specs.Formulas.{Plain}

-- whether the number of every name is below a number
abbrev pub names_below : ℕ → Tree → Bool
names_below n always = true
names_below n never = true
names_below n (atom a v) = nat_lt a n
names_below n (not f) = names_below n f
names_below n (next f) = names_below n f
names_below n (finally f) = names_below n f
names_below n (globally f) = names_below n f
names_below n (and f g) = names_below n f && names_below n g
names_below n (or f g) = names_below n f && names_below n g
names_below n (implies f g) = names_below n f && names_below n g
names_below n (iff f g) = names_below n f && names_below n g
names_below n (until f g) = names_below n f && names_below n g
names_below n (release f g) = names_below n f && names_below n g
names_below n (weak f g) = names_below n f && names_below n g

-- A formula that may be read, where so many quantifiers may stand and there are so many names.
pub record IsReading (limit names : ℕ) (f : Plain) : Type 0 where
  pub some : 1 ≤ length f.prefix
  pub few : length f.prefix ≤ limit
  pub low : height f.body ≤ 200
  pub bound : IsTrue (vars_below (length f.prefix) f.body)
  pub named : IsTrue (names_below names f.body)
