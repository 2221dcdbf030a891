-- Going on from line to line, past those that say nothing.
use Rattle.std.proofs.Common.{◌≡◌, ℕ, List, [], sym, subst}
use Rattle.hy_formula.specs.Quantifiers.{Each}
use Rattle.hy_finite.specs.EventLines.{SaysNothing}
use Rattle.hy_finite.specs.LinesLeft.{LinesLeft}
use Rattle.hy_finite.specs.NextEvents.{Reaches}

-- From the old lines on to the new ones all say nothing.
pub record Onward (old new : LinesLeft) : Type 0 where
  pub reaches : (k : ℕ) (line : List ℕ) (rest : List (List ℕ))
      → Reaches new.first new.lines k line rest → Reaches old.first old.lines k line rest
  pub silent : Each SaysNothing new.lines → Each SaysNothing old.lines

pub onward-start : (old : LinesLeft) → Onward old old
onward-start old = record { reaches = λ k line rest r. r; silent = λ each. each }

pub onward-end : (old here : LinesLeft) → Onward old here → here.lines ≡ []
    → Each SaysNothing old.lines × (here.lines ≡ [])
onward-end old here before none =
    let P : List (List ℕ) → Type 0 = Each SaysNothing in
    (before.silent (subst P (sym none) tt), none)
