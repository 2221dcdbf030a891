use Rattle.std.proofs.Common.{◌≡◌, ◌+◌, drop}
use Rattle.bound_search.specs.Names.{name_place}
use Rattle.bound_search.proofs.names.place_of.Given as goal

abbrev pub invariant-loop-x : goal.invariant-loop-x
invariant-loop-x l = record {
  within : l.place ≡ l.x-index;
  rest : name_place l.name l.x-items ≡ l.place + name_place l.name (drop l.x-index l.x-items);
}
