use Rattle.std.proofs.Common.{◌≡◌, ◌<◌, length, take}
use Rattle.std.specs.Prelude.{All}
use Rattle.hy_lasso.specs.Words.{picked}
use Rattle.run_judge.proofs.judging.places_of.Given as goal

abbrev pub invariant-loop-k : goal.invariant-loop-k
invariant-loop-k l = record {
  members : All (λ j. j < length l.traces) l.places;
  all : picked l.traces l.places ≡ take l.k l.traces;
  many : length l.places ≡ l.k;
}
