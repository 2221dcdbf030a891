use Rattle.std.proofs.Common.{◌≡◌, ◌+◌, ◌-◌, ◌++◌, ◌∙◌, suc, ap, arith}
use Rattle.bound_search.proofs.Adding.{one_added, all_added}
use Rattle.bound_search.specs.Queries.{repeat_clauses, round}
use Rattle.bound_search.proofs.MadeCycles.{repeat-is}
use Rattle.bound_search.proofs.cycles.add_repeats.Goals as goal

pub loop-j-preserved : goal.loop-j-preserved
loop-j-preserved c =
    one_added _ _ _ (repeat_clauses c.args.names.now c.args.bound c.args.t c.args.d c.args.r)
    c.loop-j.j c.loop-j.invariant
    (c.in_ok-add_same_where.ensures ∙ ap (λ l. c.loop-j.clauses ++ l)
    (repeat-is c.args.names.now c.args.bound c.args.t c.args.d c.args.r c.loop-j.j
    (c.in_ok-start.field-0 + c.args.bound.stem) c.in_ok-cycles.field-0 _ _ _
    (ap (λ k. k + c.args.bound.stem) c.in_ok-start.ensures.start) c.in_ok-cycles.ensures.start
    c.further-cycle.ensures c.further-here.ensures c.further.ensures))

pub returns : goal.returns
returns c =
    let many = c.round.ensures.count in
    let end : c.loop-j.j ≡ round c.args.bound - suc c.args.d =
    omega (arith, many, c.loop-j-test.false) in
    all_added _ _ (repeat_clauses c.args.names.now c.args.bound c.args.t c.args.d c.args.r)
    c.loop-j.j (round c.args.bound - suc c.args.d) c.loop-j.invariant end
