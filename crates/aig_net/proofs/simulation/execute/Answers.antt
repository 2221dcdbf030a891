use Rattle.std.proofs.Common.{rules}
use Rattle.aig_net.proofs.Executing.{no_stem, execution, follows_full}
use Rattle.aig_net.proofs.simulation.execute.Goals as goal

pub returns-in_default-clause-none : goal.returns-in_default-clause-none
returns-in_default-clause-none c = no_stem _ c.requires.net _ (search rules)

pub returns-then-is_round-clause-some : goal.returns-then-is_round-clause-some
returns-then-is_round-clause-some c =
    execution _ c.requires.net _ c.follow.new.latches c.follow-2.new.latches _ _ c.requires.starts
    (search rules) (search rules) (search rules)

pub is_round-requires-clause-full : goal.is_round-requires-clause-full
is_round-requires-clause-full c = search (rules, follows_full)
