use Rattle.std.proofs.Common.{◌≡◌, take}
use Rattle.std.specs.FinSet.{from_list}
use Rattle.std.specs.List.{filter}
use Rattle.std.specs.Ordering.{nat_cmp}
use Rattle.hy_base.specs.Rows.{row}
use Rattle.bound_search.specs.Names.{name_place}
use Rattle.bound_search.specs.Queries.{letter_variable}
use Rattle.bound_search.proofs.spelling.Spelling.letter.Given as goal

abbrev pub invariant-loop-name : goal.invariant-loop-name
invariant-loop-name l = l.letter ≡ from_list {R = nat_cmp} (filter (λ name. row l.self.values.now
    (letter_variable l.self.names.now l.self.bound l.t (name_place name l.self.names.now) l.i))
    (take l.name-index l.name-items))
