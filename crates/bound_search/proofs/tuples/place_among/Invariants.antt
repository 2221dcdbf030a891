use Rattle.std.proofs.Common.{◌≡◌, ◌-◌, ◌^◌, ◌<◌, ◌≤◌, drop, length}
use Rattle.bound_search.specs.Sheets.{place_among}
use Rattle.bound_search.proofs.tuples.place_among.Given as goal

-- the place among the choices for the variables from i on
abbrev pub invariant-loop-i : goal.invariant-loop-i
invariant-loop-i l = record {
  within : l.i ≤ length l.variables;
  place : l.place ≡ place_among l.frame.traces (drop l.i l.variables) l.tuple;
  few : l.place < l.frame.traces ^ (length l.variables - l.i);
}
