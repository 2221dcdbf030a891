-- What a session keeps: where it is sound, its search is, over its variables; where it is refuted, the
-- clauses can't be true.
use Rattle.std.specs.Prelude.{◌≡◌, true, []}
use Rattle.sat_core.specs.declared.session.Session.TheInside.{Inside}
use Rattle.sat_core.specs.Searches.{IsSound}
use Rattle.sat_core.specs.Sessions.{Excludes}

abbrev pub IsKept : Inside → Type 0
IsKept s =
    (s.sound ≡ true → IsSound s.search × (s.search.solver.partial.variables ≡ s.variables)) ×
    (s.refuted ≡ true → Excludes s.search.solver.clauses [])
