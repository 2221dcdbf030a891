use Rattle.cert_laws.specs.Claimed.{models_of, traces_in}
use Rattle.cert_laws.proofs.Accepting.{written-accepted}
use Rattle.cert_laws.proofs.Written.{ea-writes, mc-writes}
use Rattle.cert_laws.proofs.laws.runs_are_accepted.Goals as goal

pub returns-clause-formulas : goal.returns-clause-formulas
returns-clause-formulas g c words old new verdict text comes known short judged =
    let (question, files, asks, writes) = ea-writes g.S.Shelf words old new text short verdict known comes in (
      question,
      files,
      asks,
      λ shows. let (asked, certifies, is) = writes shows in (
        asked,
        certifies,
        written-accepted c.one_verdict.ensures g.R.Shelf c.verdict.ensures.sound asked (models_of verdict) text judged
            g.S.Shelf old new files is,
      ),
    )

pub returns-clause-circuits : goal.returns-clause-circuits
returns-clause-circuits g c words old new verdict text comes found short judged =
    let (question, files, asks, writes) = mc-writes g.S.Shelf words old new text short verdict found comes in (
      question,
      files,
      asks,
      λ shows. let (asked, certifies, is) = writes shows in (
        asked,
        certifies,
        written-accepted c.one_verdict.ensures g.R.Shelf c.verdict.ensures.sound asked (traces_in verdict) text judged
            g.S.Shelf old new files is,
      ),
    )
