use Rattle.std.proofs.Common.{◌≡◌, ◌-◌, arith}
use Rattle.fin_monitor.specs.Codes.{joint_letter}
use Rattle.fin_monitor.proofs.Places.{code-none, code-more, code-small, code-all, code-within}
use Rattle.fin_monitor.proofs.monitor.Monitor.joint.Goals as goal

pub loop-i-init : goal.loop-i-init
loop-i-init c =
    record {
      inside = omega (arith, c.len-i.ensures);
      code = code-none (joint_letter c.args.letters.now) c.args.self.now.atoms c.len-i.result c.len-i.ensures;
    }

pub with_bit-code-requires : goal.with_bit-code-requires
with_bit-code-requires c = code-small (joint_letter c.args.letters.now) c.args.self.now.atoms c.loop-i.i c.loop-i.code c.args.self.now.right.few_atoms c.loop-i.invariant.code

pub loop-i-preserved : goal.loop-i-preserved
loop-i-preserved c =
    record {
      inside = omega (arith, c.loop-i.invariant.inside);
      code =
          code-more (joint_letter c.args.letters.now) c.args.self.now.atoms c.loop-i.i (c.loop-i.i - 1) c.at-a.result.now c.has_name.result c.loop-i.code c.with_bit-code.result
          c.at-a.ensures (omega (arith, c.loop-i-test.true)) c.has_name.ensures c.loop-i.invariant.code c.with_bit-code.ensures;
    }

pub returns : goal.returns
returns c =
    let none : c.loop-i.i ≡ 0 = omega (arith, c.loop-i-test.false) in
    record {
      joint = code-all (joint_letter c.args.letters.now) c.args.self.now.atoms c.loop-i.i c.loop-i.code none c.loop-i.invariant.code;
      within = code-within (joint_letter c.args.letters.now) c.args.self.now.atoms c.loop-i.i c.loop-i.code none c.loop-i.invariant.code;
    }
