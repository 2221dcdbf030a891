-- Lassos are equal where their stems are and their cycles are.
use Rattle.std.specs.Prelude.{Bool, nat_eq}
use Rattle.std.specs.Cmp.Lexicographic.{pointwise}
use Rattle.std.specs.Ordering.{on, eq_of_both}
use Rattle.hy_bits.specs.Binary.{number}
use Rattle.hy_bits.specs.Letter.{Letter}
use Rattle.hy_formula.specs.Lassos.{Lasso}

-- whether two letters have the same names
abbrev pub are_same : Letter → Letter → Bool
are_same = on number nat_eq

abbrev pub is_equal : Lasso Letter → Lasso Letter → Bool
is_equal =
    eq_of_both (on (λ l. l.stem) (pointwise are_same)) (on (λ l. l.cycle) (pointwise are_same))
