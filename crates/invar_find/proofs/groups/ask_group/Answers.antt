use Rattle.std.proofs.Common.{ap, subst, ◌∙◌}
use Rattle.std.proofs.lemmas.Result.{err_from_is_err_and}
use Rattle.aig_net.specs.Nets.{latch_variable}
use Rattle.cnf_frames.specs.QueryPaths.{word_of}
use Rattle.sat_core.specs.declared.solving.Outcome.{Outcome}
use Rattle.sat_core.specs.Outcomes.{IsOutcome}
use Rattle.invar_find.proofs.Searching.{stopped, satisfied-left, spent-pushed}
use Rattle.invar_find.proofs.groups.ask_group.Goals as goal

pub keep_clauses-requires-clause-inside : goal.keep_clauses-requires-clause-inside
keep_clauses-requires-clause-inside c =
    c.requires.searching.starting.inside

pub returns-in_err-cnf-clause-refused : goal.returns-in_err-cnf-clause-refused
returns-in_err-cnf-clause-refused c =
    let p = err_from_is_err_and c.from_residual.result c.from_residual.ensures.1 in
    rw (p.1, p.2)
    (stopped c.args.trial.now.safe.now c.args.trial.now.candidates.now c.args.facts.now c.args.group c.in_err-cnf.field-0.0
    c.requires.searching.starting c.requires.group c.in_err-cnf.ensures.refused)

pub walked-requires-clause-inside : goal.walked-requires-clause-inside
walked-requires-clause-inside c =
    c.requires.searching.starting.inside

pub returns-in_ok-facts-in-Satisfied : goal.returns-in_ok-facts-in-Satisfied
returns-in_ok-facts-in-Satisfied c =
    let (searching, fewer) =
    satisfied-left c.args.trial.now.safe.now c.args.trial.now.candidates.now c.args.trial.now.conflicts c.args.group c.args.facts.now _
    c.args.spent.now c.state_after-after.result.now c.in-Satisfied.values c.in_ok-cnf.cnf
    c.requires.safe c.requires.searching c.in_ok-cnf.ensures.query
    (let P : Outcome → Type 0 = IsOutcome c.in_ok-cnf.cnf.variables
    c.in_ok-cnf.cnf.clauses c.args.trial.now.conflicts in
    subst P c.in-Satisfied.is c.in_ok-log.ensures)
    (λ j lt. c.state_after-after.ensures.state j lt
    ∙ ap (λ values. word_of c.args.trial.now.safe.now values 1 (latch_variable c.args.trial.now.safe.now.net j))
    c.as_slice.ensures)
    c.in_ok-facts-in-Satisfied.ensures in
    record { searching = searching; reply = fewer; refused = tt }

pub returns-in_ok-push-in-Spent : goal.returns-in_ok-push-in-Spent
returns-in_ok-push-in-Spent c =
    let (searching, fewer) =
    spent-pushed c.args.trial.now.safe.now c.args.trial.now.candidates.now c.args.trial.now.conflicts c.args.group c.args.facts.now
    c.replace-asked.result c.in_ok-left-in-Spent.left c.replace-asked.new.dest c.args.spent.now
    c.push.new.self c.in-Spent.log c.in_ok-cnf.cnf c.requires.searching c.requires.group
    c.in_ok-cnf.ensures.query
    (let P : Outcome → Type 0 = IsOutcome c.in_ok-cnf.cnf.variables
    c.in_ok-cnf.cnf.clauses c.args.trial.now.conflicts in
    subst P c.in-Spent.is c.in_ok-log.ensures)
    c.in_ok-left-in-Spent.ensures c.replace-asked.ensures.value c.replace-asked.ensures.after
    c.in_ok-push-in-Spent.ensures.added in
    record { searching = searching; reply = fewer; refused = tt }
