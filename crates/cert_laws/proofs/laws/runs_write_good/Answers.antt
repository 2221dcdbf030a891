use Rattle.cert_laws.specs.Claimed.{models_of, traces_in}
use Rattle.cert_laws.proofs.Written.{ea-writes, mc-writes, written-good}
use Rattle.cert_laws.proofs.laws.runs_write_good.Goals as goal

pub returns-clause-formulas : goal.returns-clause-formulas
returns-clause-formulas g c words old new verdict text comes known short =
    let (question, files, asks, writes) = ea-writes g.S.Shelf words old new text short verdict known comes in (
      question,
      files,
      asks,
      λ shows. let (asked, certifies, is) = writes shows in
          (asked, certifies, written-good g.S.Shelf old new files asked (models_of verdict) text is),
    )

pub returns-clause-circuits : goal.returns-clause-circuits
returns-clause-circuits g c words old new verdict text comes found short =
    let (question, files, asks, writes) = mc-writes g.S.Shelf words old new text short verdict found comes in (
      question,
      files,
      asks,
      λ shows. let (asked, certifies, is) = writes shows in
          (asked, certifies, written-good g.S.Shelf old new files asked (traces_in verdict) text is),
    )
