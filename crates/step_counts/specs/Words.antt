-- Words over two letters.
use Rattle.std.specs.Prelude.{◌≡◌, ◌⊎◌}
use Rattle.hy_bits.specs.Letter.{Letter}
use Rattle.hy_formula.specs.Quantifiers.{Each}
use Rattle.hy_finite.specs.Traces.{Trace}

-- Each letter is one of the two.
abbrev pub IsOver : Letter → Letter → Trace → Type 0
IsOver x y t = Each (λ (a : Letter). (a ≡ x) ⊎ (a ≡ y)) t
