use Rattle.std.proofs.Common.{◌≡◌, true, List, [], subst}
use Rattle.hy_formula.specs.Formulas.{Plain}
use Rattle.hy_files.proofs.Texts.{text_once}
use Rattle.rv_tool.specs.Monitoring.{IsOutcome}
use Rattle.rv_tool.specs.Rules.{AreEvents, lengths_of}
use Rattle.rv_tool.specs.Texts.{drops}
use Rattle.rv_tool.proofs.Outcomes.{monitored}
use Rattle.rv_tool.proofs.laws.complete.Goals as goal

pub returns-clause-texts : goal.returns-clause-texts
returns-clause-texts c = c.complete.ensures c.settled.ensures

pub returns-clause-events : goal.returns-clause-events
returns-clause-events c question specs others names formulas answer text universal taken (found, also, outcome) =
    let alike : found ≡ formulas = (text_once true 4 [] specs found formulas names names also text).0 in
    let P : List Plain → Type 0 = λ fs. IsOutcome (lengths_of question) (drops question) fs (AreEvents question others names) answer in
    monitored (lengths_of question) (drops question) formulas (AreEvents question others names) answer universal taken (subst P alike outcome)
