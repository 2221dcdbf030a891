use Rattle.std.proofs.Common.{◌<◌, ◌^◌, false, length, arith}
use Rattle.std.proofs.lemmas.List.{get_or-replicate}
use Rattle.invar_find.specs.Candidates.{candidates}
use Rattle.invar_find.specs.Standing.{start_values}
use Rattle.invar_find.proofs.Starting.{candidate-in, candidates-few, candidates-simple, if-err-map, if-ok-map, kept-further, stopped-further}
use Rattle.invar_find.proofs.Sublists.{sublist-among, sublist-length}
use Rattle.invar_find.proofs.finding.invariants.Goals as goal

pub invariants_of-requires-clause-inside : goal.invariants_of-requires-clause-inside
invariants_of-requires-clause-inside c f has =
    candidate-in (length c.args.safe.now.net.latches) f
    (sublist-among _ _ c.in_ok-all.ensures.sublist f has)

pub invariants_of-requires-clause-few : goal.invariants_of-requires-clause-few
invariants_of-requires-clause-few c =
    let room : length c.args.safe.now.net.latches < 2 ^ 31 =
    let most = c.variables.ensures.room in omega (arith, most) in
    let few = candidates-few (length c.args.safe.now.net.latches) room in
    let less = sublist-length c.in_ok-all.ensures.sublist in
    omega (arith, few, less)

pub returns-clause-kept : goal.returns-clause-kept
returns-clause-kept c =
    let n = length c.args.safe.now.net.latches in
    if-ok-map c.invariants_of.result _ _ c.invariants_of.ensures.kept (λ kept is.
    let further = kept-further c.args.safe.now c.args.conflicts (candidates n) c.in_ok-all.all
    (start_values c.args.safe.now.net) kept c.requires.safe (candidate-in n)
    (λ j lt. get_or-replicate n j false false lt) c.in_ok-all.ensures is in
    record { part = further; simple = candidates-simple n kept.inv further.starting.sublist })

pub returns-clause-refused : goal.returns-clause-refused
returns-clause-refused c =
    if-err-map c.invariants_of.result _ _ c.invariants_of.ensures.refused (λ e stopped.
    stopped-further c.args.safe.now _ c.in_ok-all.all e c.in_ok-all.ensures.sublist stopped)
