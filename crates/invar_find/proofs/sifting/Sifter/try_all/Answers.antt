use Rattle.std.proofs.Common.{length, ap, arith, ◌∙◌}
use Rattle.invar_find.proofs.Standings.{spares_again}
use Rattle.invar_find.proofs.sifting.Sifter.try_all.Goals as goal

pub loop-latch-preserved : goal.loop-latch-preserved
loop-latch-preserved c = record {
  spares = spares_again _ _ _ _ c.loop-latch.invariant.spares c.in_ok-broken.ensures.spares;
  asker = c.try_latch.ensures.asker ∙ c.loop-latch.invariant.asker;
}

pub try_other-requires-clause-place : goal.try_other-requires-clause-place
try_other-requires-clause-place c =
    let same = ap length c.loop-k.invariant.others in omega (arith, same)

pub loop-k-preserved : goal.loop-k-preserved
loop-k-preserved c = record {
  spares = spares_again _ _ _ _ c.loop-k.invariant.spares c.in_ok-broken-2.ensures.spares;
  others = c.in_ok-broken-2.ensures.spares.others ∙ c.loop-k.invariant.others;
  asker = c.try_other.ensures.asker ∙ c.loop-k.invariant.asker;
}
