use Rattle.bound_search.proofs.ReadLassos.{member_made, no_word}
use Rattle.bound_search.proofs.spelling.Spelling.member.Goals as goal

pub unreachable-requires : goal.unreachable-requires
unreachable-requires c =
    no_word _ c.in_ok-last.last _ c.in_ok-round.round c.in_ok-round.ensures c.in_default.ensures.refused

pub returns : goal.returns
returns c =
    member_made c.args.self.now.values.now c.args.self.now.names.now c.args.self.now.bound c.args.t
    c.in_ok-last.last c.in_ok-before.before c.in_ok-round.round c.in-Some.lasso c.shorten.result
    c.requires.met c.in_ok-last.ensures.within c.in_ok-last.ensures.may_be c.in_ok-before.ensures
    c.in_ok-round.ensures c.in-Some.ensures.made.0 c.in-Some.ensures.made.1 c.shorten.ensures.word
    c.shorten.ensures.normal c.shorten.ensures.stem c.shorten.ensures.cycle
