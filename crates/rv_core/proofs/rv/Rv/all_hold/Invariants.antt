use Rattle.std.proofs.Common.{◌≡◌, ◌<◌, ℕ, slice_get, Some}
use Rattle.fin_monitor.specs.Machines.{Machine}
use Rattle.trace_trie.specs.Numbered.{IsHeld}
use Rattle.rv_core.specs.Held.{spec_of}
use Rattle.rv_core.specs.Keeping.{kept_at}
use Rattle.rv_core.specs.Masks.{masked}
use Rattle.rv_core.specs.Seen.{watched_by}
use Rattle.rv_core.proofs.rv.Rv.all_hold.Given as goal

-- the specs before keep an equal one
abbrev pub invariant-loop-spec : goal.invariant-loop-spec
invariant-loop-spec l = (s : ℕ) (m : Machine) → s < l.spec
    → slice_get (watched_by l.self.watches) s ≡ Some m
    → IsHeld (masked (spec_of m) l.trace) (kept_at l.self.kept s)
