use Rattle.bound_search.proofs.ReadLassos.{letter_step}
use Rattle.bound_search.proofs.spelling.Spelling.letter.Goals as goal

pub loop-name-preserved : goal.loop-name-preserved
loop-name-preserved c =
    letter_step c.args.self.now.values.now c.args.self.now.names.now c.args.self.now.bound c.args.t
    c.args.i _ c.loop-name.name-index _ _ _ _ _ c.loop-name-test.true c.loop-name.invariant
    c.place_of-place.ensures.place c.in_ok-start.ensures.start c.value.ensures
    c.with_name-letter.ensures
