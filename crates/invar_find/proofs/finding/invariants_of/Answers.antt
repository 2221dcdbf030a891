use Rattle.std.proofs.Common.{List, sym, subst, ◌∙◌}
use Rattle.invar_find.specs.declared.kept.SpentGroup.{SpentGroup}
use Rattle.invar_find.specs.Searches.{IsSearching}
use Rattle.invar_find.proofs.Searching.{kept}
use Rattle.invar_find.proofs.finding.invariants_of.Goals as goal

pub rounds-init : goal.rounds-init
rounds-init c =
    let S : List SpentGroup → Type 0 =
    IsSearching c.args.safe.now c.args.candidates.now c.args.conflicts c.in_ok-facts.facts in
    subst S (sym c.new-spent.ensures) c.in_ok-facts.ensures

pub returns-then-len-before-clause-kept : goal.returns-then-len-before-clause-kept
returns-then-len-before-clause-kept c =
    kept c.args.safe.now c.args.candidates.now c.args.conflicts c.ask_all.new.facts c.in_ok-logs.logs
    c.ask_all.new.spent c.requires.safe c.in_ok-logs.ensures.searching
    (c.in_ok-logs.ensures.kept (sym c.len.ensures ∙ c.if-len-before.true ∙ c.len-before.ensures))
