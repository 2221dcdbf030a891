use Rattle.bound_search.proofs.ReadLassos.{word_step}
use Rattle.bound_search.proofs.spelling.Spelling.word.Goals as goal

pub loop-i-preserved : goal.loop-i-preserved
loop-i-preserved c = word_step _ c.args.from c.loop-i.i _ _ _ c.loop-i.invariant
    c.in_ok-push.ensures.added c.in_ok-letter.ensures
