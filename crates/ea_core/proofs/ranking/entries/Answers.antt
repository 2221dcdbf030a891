use Rattle.std.proofs.Common.{Some, ap, sym, ◌∙◌}
use Rattle.ea_core.proofs.Entering.{entries-more}
use Rattle.ea_core.proofs.ranking.entries.Goals as goal

pub loop-i-preserved : goal.loop-i-preserved
loop-i-preserved g c =
    entries-more c.args.tableau.now.branches.keys c.args.ranks.now c.loop-i.entries c.push.new.self c.loop-i.i c.branch-tableau.result.now c.in_ok-entry.field-0
    c.branch-tableau.ensures c.in_ok-entry.ensures.branch (sym c.rank.ensures ∙ c.in-Some.is ∙ ap (λ k. Some k) (sym c.in_ok-entry.ensures.rank))
    c.in_ok-entry.ensures.ascending c.loop-i.invariant c.in_ok-push.ensures.added
