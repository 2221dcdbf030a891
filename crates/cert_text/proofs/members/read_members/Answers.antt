use Rattle.std.proofs.Common.{◌≡◌, ◌≢◌, true, false, sym, ◌∙◌}
use Rattle.std.specs.Prelude.{codes}
use Rattle.std.proofs.lemmas.Result.{IfOk-weaker}
use Rattle.cert_text.proofs.MembersRead.{ascending_members}
use Rattle.cert_text.proofs.NumbersRead.{members_said}
use Rattle.cert_text.proofs.members.read_members.Goals as goal

pub returns-clause-says : goal.returns-clause-says
returns-clause-says c =
    let word = c.args.word.now in
    let no_dash : word ≢ codes "-" = λ dash.
    let clash : false ≡ true = sym c.if-equals.false ∙ c.equals.ensures.1 dash in absurd (cc)
    in
    IfOk-weaker c.read_ascending.result _ _ (λ b. members_said word b no_dash)
    c.read_ascending.ensures.says

pub returns-clause-members : goal.returns-clause-members
returns-clause-members c =
    IfOk-weaker c.read_ascending.result _ _
    (λ b says yes. ascending_members c.args.word.now c.read_ascending.new.list (says yes))
    c.read_ascending.ensures.numbers
