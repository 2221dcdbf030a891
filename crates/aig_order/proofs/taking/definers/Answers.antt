use Rattle.std.proofs.Common.{◌≡◌, length, subst, arith, ℕ}
use Rattle.aig_order.specs.Takings.{AreDefiners}
use Rattle.aig_order.proofs.Takes.{definers_none, definers_more}
use Rattle.aig_order.proofs.taking.definers.Goals as goal

pub loop-k-init : goal.loop-k-init
loop-k-init c = definers_none c.args.gates.now c.args.top c.in_ok-list.list c.in_ok-list.ensures.long c.in_ok-list.ensures.none

pub loop-k-preserved : goal.loop-k-preserved
loop-k-preserved c = definers_more c.args.gates.now c.args.top c.loop-k.k c.loop-k.list c.set.new.self c.requires.apart c.loop-k.invariant c.loop-k-test.true c.set.ensures

pub returns : goal.returns
returns c =
    let q : c.loop-k.k ≡ length c.args.gates.now = omega arith in
    let P : ℕ → Type 0 = λ n. AreDefiners c.args.gates.now c.args.top n c.loop-k.list in
    record { top = c.args.top; apart = c.requires.apart; few = c.requires.few; definers_are = subst P q c.loop-k.invariant }
