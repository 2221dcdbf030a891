use Rattle.std.proofs.Common.{◌≡◌, take}
use Rattle.invar_find.specs.Standing.{AllStand, IsOf, others_of}
use Rattle.invar_find.proofs.seen.Seen.of_facts.Given as goal

abbrev pub invariant-loop-fact : goal.invariant-loop-fact
invariant-loop-fact l = record {
  of : IsOf l.latches l.seen;
  others : l.seen.others ≡ others_of (take l.fact-index l.fact-items);
  stand : AllStand l.seen (take l.fact-index l.fact-items);
}
