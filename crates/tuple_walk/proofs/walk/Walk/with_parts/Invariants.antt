use Rattle.std.proofs.Common.{◌≡◌, length, take}
use Rattle.fin_monitor.specs.Parts.{AreParts}
use Rattle.tuple_walk.specs.Alone.{left_of}
use Rattle.tuple_walk.specs.TraceParts.{traces_in, parts_in}
use Rattle.tuple_walk.specs.Walks.{machine_in}
use Rattle.tuple_walk.proofs.walk.Walk.with_parts.Given as goal

abbrev pub invariant-loop-var : goal.invariant-loop-var
invariant-loop-var g l =
    record {
      long : length l.all ≡ 4;
      traces : traces_in (take l.var l.all) ≡ take l.var (left_of l.rests);
      parts : AreParts (parts_in (take l.var l.all)) (machine_in l.self).atoms l.var;
    }
