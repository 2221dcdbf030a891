use Rattle.std.proofs.Common.{◌≡◌, ◌∙◌, arith}
use Rattle.hy_base.specs.Rows.{row}
use Rattle.bound_search.proofs.ReadLassos.{members_step}
use Rattle.bound_search.proofs.spelling.Spelling.members.Goals as goal

pub loop-t-preserved : goal.loop-t-preserved
loop-t-preserved c =
    let (long, each) =
    members_step (row c.args.self.now.values.now) c.args.self.now.names.now c.args.self.now.bound
    c.loop-t.t _ _ _ c.loop-t.invariant.long c.loop-t.invariant.each c.in_ok-push.ensures.added
    c.in_ok-member.ensures in
    record { long = long; each = each }

pub returns : goal.returns
returns c =
    let end : c.loop-t.t ≡ c.args.self.now.bound.traces = omega arith in
    record {
      long = c.loop-t.invariant.long ∙ end;
      each = λ k lt. c.loop-t.invariant.each k (omega (arith, end, lt));
    }
