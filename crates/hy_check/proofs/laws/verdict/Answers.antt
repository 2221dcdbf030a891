use Rattle.hy_check.proofs.Claims.{claim_texts}
use Rattle.hy_check.proofs.Due.{due_or_short}
use Rattle.hy_check.proofs.laws.verdict.Goals as goal

pub returns-clause-follows : goal.returns-clause-follows
returns-clause-follows g c = c.verdict.ensures.follows c.settled.ensures

pub returns-clause-sound : goal.returns-clause-sound
returns-clause-sound g c words files question contents table claim cert old new answer text is tells sound have ready comes =
    due_or_short table claim cert answer _ (c.due.ensures question contents table claim cert answer ready)
    (c.verdict.ensures.sound c.settled.ensures words files question contents table old new answer text is tells sound have
    (claim_texts question contents claim table ready.makes) comes)
