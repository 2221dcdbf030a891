-- What the calls of a sink keep, and what its outcomes say of it.
use Rattle.std.specs.Prelude.{◌≡◌, ℕ, ◌≤◌, List, [], ◌++◌}
use Rattle.hy_base.specs.Counts.{Rose}
use Rattle.hy_base.specs.Pieces.{IsProperPrefix}
use Rattle.hy_base.specs.Talks.{took, not_taken}
use Rattle.hy_base.specs.declared.sink.Sink.{Ghosts}

-- No call stops telling or lowers the count of faults.
pub record KeepsSink {S : Type 0} (g : Ghosts S) (old new : S) : Type 0 where
  pub tells : g.tells old → g.tells new
  pub faults : g.faults old ≤ g.faults new

-- Puts, one after another, took these bytes.
pub data Took {S : Type 0} (g : Ghosts S) (old : S) : List ℕ → S → Type 0 where
  nothing : Took g old [] old
  more : (bytes piece : List ℕ) (mid new : S) → Took g old bytes mid → g.called mid (took piece) new
      → Took g old (bytes ++ piece) new

-- Puts took all of the text, and none failed.
pub record GivesWhole {S : Type 0} (g : Ghosts S) (old new : S) (text : List ℕ) : Type 0 where
  pub taken : Took g old text new
  pub kept : g.faults new ≡ g.faults old
  pub given : g.tells old → g.given new ≡ g.given old ++ text

-- Puts took less than all of the text; then one failed, which was counted, and none came behind it.
pub record FailsToGive {S : Type 0} (g : Ghosts S) (old new : S) (text : List ℕ) : Type 0 where
  pub front : List ℕ
  pub last : S
  pub less : IsProperPrefix front text
  pub taken : Took g old front last
  pub refused : g.called last not_taken new
  pub counted : Rose (g.faults old) (g.faults new)
  pub given : g.tells old → g.given new ≡ g.given old ++ front
