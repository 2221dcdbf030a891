use Rattle.std.proofs.Common.{◌≡◌, true, map, take}
use Rattle.std.specs.List.{list_all}
use Rattle.hy_words.specs.Found.{found_value}
use Rattle.hy_words.specs.Words.{is_value}
use Rattle.hy_words.proofs.found.are_values.Given as goal

abbrev pub invariant-loop-name : goal.invariant-loop-name
invariant-loop-name l =
    list_all (λ name. list_all is_value (found_value l.found name)) (map (λ name. name.now) (take l.name-index l.names)) ≡ true
