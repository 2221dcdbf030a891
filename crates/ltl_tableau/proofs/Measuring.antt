-- How much a draft has to do.
use Rattle.std.proofs.Common.{ℕ, Option, Some, None}
use Rattle.ltl_tableau.specs.declared.settle.Draft.{Draft}

abbrev pub some_below : {w : ℕ} → Option (Draft w) → ℕ
some_below None = 0
some_below (Some draft) = draft.work.below
