use Rattle.std.proofs.Common.{◌≡◌, ◌+◌, ◌≤◌, ◌-◌, ◌*◌, ◌^◌, length, IfSome}
use Rattle.cnf_frames.specs.Fronts.{IsKeepFront}
use Rattle.invar_find.specs.Searches.{IsSearching}
use Rattle.invar_find.proofs.Settled.{AreSettled}
use Rattle.invar_find.proofs.finding.ask_all.Given as goal

abbrev pub invariant-groups : goal.invariant-groups
invariant-groups l = record {
  searching : IsSearching l.trial.safe.now l.trial.candidates.now l.trial.conflicts l.facts l.spent;
  fewer : length l.facts ≤ length l.fn.facts;
  settled : length l.facts ≡ length l.fn.facts → AreSettled l.trial.safe.now l.facts l.group l.logs;
  front : IfSome l.kept (IsKeepFront l.trial.safe.now l.facts);
  small : 64 * l.group ≤ 2 ^ 37 + 64;
}

abbrev pub decreases-groups : goal.decreases-groups
decreases-groups l = length l.facts - 64 * l.group
