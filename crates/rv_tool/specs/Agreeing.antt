-- When two answers say the same.
use Rattle.std.specs.Prelude.{ℕ, List, Ok}
use Rattle.rv_tool.specs.Monitoring.{RvAnswer}
use Rattle.rv_tool.specs.declared.verdict.RvVerdict.TheVariants.{NoViolation, Violation}

-- Two answers say the same, but may name different tuples that violate a formula.
pub data Agree : RvAnswer → RvAnswer → Type 0 where
  same : (answer : RvAnswer) → Agree answer answer
  other_tuple : (spec trace : ℕ) (tuple other : List ℕ) → Agree (Ok (Violation spec trace tuple)) (Ok (Violation spec trace other))

-- Two answers say the same of what was violated, but may count the traces that are kept in two ways.
pub data AgreeUncounted : RvAnswer → RvAnswer → Type 0 where
  counted_alike : (a b : RvAnswer) → Agree a b → AgreeUncounted a b
  counted_otherwise : (traces live : ℕ) (kept other : List ℕ)
      → AgreeUncounted (Ok (NoViolation traces kept live)) (Ok (NoViolation traces other live))
