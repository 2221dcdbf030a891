-- The row that a tuple of traces has on top for a body.
use Rattle.std.specs.Prelude.{ℕ, List}
use Rattle.hy_formula.specs.Trees.{Tree}
use Rattle.hy_finite.specs.declared.meaning.Picked.{Picked}
use Rattle.hy_finite.specs.Traces.{picked, trace_words}
use Rattle.hy_finite.specs.Rows.{IsFilled}

abbrev pub IsRowOn : Picked → Tree → List ℕ → List ℕ → Type 0
IsRowOn tuple tree old new =
    let words = trace_words (picked tuple.list.now tuple.pick.now) in
    IsFilled tree words tuple.positions tuple.width old new
