use Rattle.std.proofs.Common.{◌≡◌, All, length}
use Rattle.hy_base.specs.Rows.{listed}
use Rattle.bound_search.specs.Queries.{letters_row, places}
use Rattle.bound_search.proofs.asked.Asked.atom.Given as goal

abbrev pub invariant-loop-t : goal.invariant-loop-t
invariant-loop-t l = record {
  rows : l.rows ≡ listed 0 l.t (letters_row l.self.names.now l.self.bound l.a.name);
  long : All (λ row. length row ≡ places l.self.bound) l.rows;
}
