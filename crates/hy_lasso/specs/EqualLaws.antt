-- The test of equal lassos is an equivalence, and finds those that are the same.
use Rattle.std.specs.Cmp.{IsEquivalence, IsPartialEquivalence, on_equiv, and_equiv, partial_equiv_from_equiv, nat_eq_equiv}
use Rattle.std.specs.Cmp.Lexicographic.{pointwise, lists_equiv}
use Rattle.hy_bits.specs.Binary.{number}
use Rattle.hy_bits.specs.Letter.{Letter}
use Rattle.hy_formula.specs.Lassos.{Lasso}
use Rattle.hy_lasso.specs.Equal.{are_same, is_equal}

pub equal_laws : IsEquivalence is_equal
equal_laws =
    let letters : IsEquivalence (pointwise are_same) = lists_equiv (on_equiv number nat_eq_equiv) in
    and_equiv (on_equiv (λ (l : Lasso Letter). l.stem) letters)
    (on_equiv (λ (l : Lasso Letter). l.cycle) letters)

pub equal_partial_laws : IsPartialEquivalence is_equal
equal_partial_laws = partial_equiv_from_equiv equal_laws
