-- When two answers of a watch say the same.
use Rattle.std.specs.Prelude.{ℕ, List, Ok}
use Rattle.rv_tool.specs.declared.verdict.RvVerdict.TheVariants.{Violation}
use Rattle.rv_watch.specs.Courses.{WatchAnswer}

-- Two answers say the same, but may name different tuples that violate a formula.
pub data Agree : WatchAnswer → WatchAnswer → Type 0 where
  same : (answer : WatchAnswer) → Agree answer answer
  other_tuple : (spec trace : ℕ) (tuple other : List ℕ) → Agree (Ok (Violation spec trace tuple)) (Ok (Violation spec trace other))
