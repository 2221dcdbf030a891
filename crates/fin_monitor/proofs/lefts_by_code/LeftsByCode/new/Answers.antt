use Rattle.std.proofs.Common.{◌∷◌, [], map, length, ap, arith, length-append}
use Rattle.hy_formula.specs.Atoms.{plain_atom}
use Rattle.fin_monitor.proofs.Exploring.{all-lefts}
use Rattle.fin_monitor.proofs.KeptLefts.{each-push, each-first}
use Rattle.fin_monitor.proofs.lefts_by_code.LeftsByCode.new.Goals as goal
use Rattle.fin_monitor.proofs.lefts_by_code.LeftsByCode.new.Goals.{then-len-judge+else-loop-code-test, else-len-judge}

pub loop-code-preserved : goal.loop-code-preserved
loop-code-preserved g c =
    let l = c.in_ok-new-2.field-0 in
    record {
      some = omega (arith, ap length c.in_ok-push-2.ensures.items, length-append c.loop-code.kept.items (l ∷ []));
      each = each-push _ c.loop-code.kept.items c.push-in-loop-code.new.self.items l c.in_ok-push-2.ensures.items c.loop-code.invariant.each
          (all-lefts c.args.judge.now.closure.now.nodes (map plain_atom c.args.judge.now.atoms.now) l.code l.lists c.in_ok-new-2.ensures.long c.in_ok-new-2.ensures.lefts);
    }

pub returns-clause-kept : goal.returns-clause-kept
returns-clause-kept g c =
    let l = c.in_ok-new.field-0 in
    elim c.if-len-judge.branch [
      | then-len-judge+else-loop-code-test w ↦ rw w.kept-is w.loop-code.invariant.each
      | else-len-judge w ↦
          rw w.kept-is
          (each-first _ c.new-kept.result.items c.push.new.self.items l c.new-kept.ensures.items c.in_ok-push.ensures.items
          (all-lefts c.args.judge.now.closure.now.nodes (map plain_atom c.args.judge.now.atoms.now) l.code l.lists c.in_ok-new.ensures.long c.in_ok-new.ensures.lefts))
    ]
