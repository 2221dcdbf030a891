use Rattle.std.proofs.Common.{◌≡◌, ◌+◌, suc, take, bit_or, sym, ap, ◌∙◌, arith}
use Rattle.fin_monitor.specs.Codes.{code_of, joint_letter}
use Rattle.fin_monitor.proofs.CodeBits.{code-lt}
use Rattle.hy_finite.specs.Traces.{trace_words}
use Rattle.tuple_walk.specs.TraceParts.{traces_in}
use Rattle.tuple_walk.specs.Walks.{machine_in}
use Rattle.tuple_walk.proofs.Following.{letters_at_position, part-small, trace-more, traces-code}
use Rattle.tuple_walk.proofs.Scanning.{code-none}
use Rattle.tuple_walk.proofs.walk.Walk.joint_at.Goals as goal

pub loop-t-init : goal.loop-t-init
loop-t-init g c = sym (code-none (machine_in c.args.self.now).atoms)

pub at-code-requires : goal.at-code-requires
at-code-requires g c =
    part-small (machine_in c.args.self.now) c.args.all.now c.requires c.loop-t.t-index
    c.t-item.result (omega arith) c.t-item.is c.args.self.now.monitor.monitor.now.right c.args.i

pub loop-t-preserved : goal.loop-t-preserved
loop-t-preserved g c =
    let m = machine_in c.args.self.now in
    let all = c.args.all.now in
    let v = c.loop-t.t-index in
    let one : suc v ≡ v + 1 = omega arith in
    ap (bit_or c.loop-t.code) c.at-code.ensures
    ∙ trace-more m all c.requires v c.t-item.result (omega arith) c.t-item.is c.args.i
    c.loop-t.code c.loop-t.invariant
    ∙ ap (λ k. code_of (joint_letter (take k (letters_at_position c.args.i (traces_in all)))) m.atoms) one

pub returns-clause-code : goal.returns-clause-code
returns-clause-code g c =
    c.loop-t.invariant
    ∙ traces-code (machine_in c.args.self.now) c.args.all.now c.args.i c.loop-t.t-index (omega arith)

pub returns-clause-within : goal.returns-clause-within
returns-clause-within g c =
    let ts = traces_in c.args.all.now in
    omega (
      arith,
      returns-clause-code g c,
      code-lt (λ name variable. trace_words ts name variable c.args.i)
          (machine_in c.args.self.now).atoms,
    )
