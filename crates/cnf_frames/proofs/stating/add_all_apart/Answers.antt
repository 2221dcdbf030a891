use Rattle.std.proofs.Common.{◌∙◌, ◌≤◌, ap, length, suc, subst, sym, arith, ℕ}
use Rattle.cnf_frames.specs.Queries.{pair_start, apart_from}
use Rattle.cnf_frames.proofs.Adding.{one_added}
use Rattle.cnf_frames.proofs.Pairs.{next-start, next-room, start-room}
use Rattle.cnf_frames.proofs.stating.add_all_apart.Goals as goal

pub add_apart_from-requires-clause-room : goal.add_apart_from-requires-clause-room
add_apart_from-requires-clause-room c =
    let P : ℕ → Type 0 = λ n. pair_start c.args.net.now c.args.k (suc c.loop-i.i) 0 ≤ n in
    subst P (sym c.loop-i.invariant.0)
    (start-room c.args.net.now c.args.k c.loop-i.i c.args.cnf.now.variables (omega arith) c.requires)

pub overflow_add-d-in-loop-i : goal.overflow_add-d-in-loop-i
overflow_add-d-in-loop-i c = omega (
  arith,
  c.args.cnf.now.few_variables,
  next-room c.args.net.now c.args.k c.loop-i.i c.args.cnf.now.variables c.len-latches.result
      c.loop-i.d (c.len-latches.ensures ∙ ap length c.latches.ensures) c.loop-i.invariant.2
      (omega arith) c.requires,
)

pub loop-i-preserved : goal.loop-i-preserved
loop-i-preserved c = (
  c.add_apart_from.ensures.variables ∙ c.loop-i.invariant.0,
  one_added _ _ _ (apart_from c.args.net.now c.args.k) c.loop-i.i c.loop-i.invariant.1
      c.in_ok-add_apart_from.ensures.added,
  next-start c.args.net.now c.args.k c.loop-i.i c.len-latches.result c.loop-i.d
      (c.len-latches.ensures ∙ ap length c.latches.ensures) c.loop-i.invariant.2,
)
