use Rattle.std.proofs.Common.{ℕ, Option, None, subst}
use Rattle.cert_text.specs.declared.question.Question.{Question}
use Rattle.cert_text.specs.Texts.{IsAnswer}
use Rattle.claim_check.specs.Claims.{claim_of}
use Rattle.claim_check.proofs.Answered.{answered}
use Rattle.claim_check.proofs.verdict.certify.Goals as goal

pub returns : goal.returns
returns c =
    let P : Option ℕ → Type 0 = IsAnswer c.question.result c.args.text.now in
    let Q : Question → Type 0 = λ q. IsAnswer q c.args.text.now None in
    let (certificate, text) = subst Q c.question.ensures (subst P c.in_default.is c.in_ok-fault.ensures) in
    answered c.args.names.now (claim_of c.args.claim.now) c.args.text.now c.judge.result
    (λ other is. c.judge.ensures other (c.in_ok-read.ensures.read _ other is)) certificate text
