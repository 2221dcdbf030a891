-- What a watch is for: the monitor of a spec's body, and whether exchanging two traces changes what
-- it says.
use Rattle.std.specs.Prelude.{◌≡◌, Bool, true, IsTrue, [], ◌∷◌}
use Rattle.std.specs.Coded.{×_prop, Π_prop, →_prop, Coded-set, coded_ℕ, coded_bool}
use Rattle.hy_finite.specs.declared.lengths.Lengths.{Lengths}
use Rattle.hy_finite.specs.Traces.{Trace, Meets}
use Rattle.fin_monitor.specs.Machines.{Machine}
use Rattle.dominance.specs.Dominance.{IsTrace, IsSymmetric}

-- Exchanging two traces that violate the body leaves them violating.
abbrev pub MayTurn : Machine → Type 0
MayTurn m =
    (m.variables ≡ 2)
    × ((rule : Lengths) (t u : Trace) → IsTrace t → IsTrace u
    → ¬ Meets rule m.body (t ∷ u ∷ []) → ¬ Meets rule m.body (u ∷ t ∷ []))

-- Where the order of two traces does not matter, it is said.
abbrev pub IsExact : Bool → Machine → Type 0
IsExact said m = (rule : Lengths) → IsSymmetric rule m.variables m.body → IsTrue said

pub IsExact-prop : (said : Bool) (m : Machine) → IsProp (IsExact said m)
IsExact-prop said m = Π_prop (λ rule. →_prop (Coded-set coded_bool said true))

pub MayTurn-prop : (m : Machine) → IsProp (MayTurn m)
MayTurn-prop m =
    ×_prop (Coded-set coded_ℕ m.variables 2)
    (Π_prop (λ rule. Π_prop (λ t. Π_prop (λ u.
    →_prop (→_prop (→_prop (→_prop (λ x y. absurd x))))))))
