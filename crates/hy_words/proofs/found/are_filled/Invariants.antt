use Rattle.std.proofs.Common.{◌≡◌, true, map, take}
use Rattle.std.specs.List.{list_all}
use Rattle.hy_words.specs.Words.{is_filled}
use Rattle.hy_words.proofs.found.are_filled.Given as goal

abbrev pub invariant-loop-name : goal.invariant-loop-name
invariant-loop-name l = list_all is_filled (map (λ name. name.now) (take l.name-index l.names)) ≡ true
