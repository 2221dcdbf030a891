use Rattle.claim_check.specs.Claims.{question_of}
use Rattle.claim_check.proofs.OneVerdict.{one-verdict}
use Rattle.claim_check.proofs.laws.one_verdict.Goals as goal

pub returns : goal.returns
returns c names claim bytes a b firm also one two =
    one-verdict names claim bytes (c.one_certificate.ensures (question_of claim) bytes)
    (c.one_fault.ensures.one (question_of claim) bytes)
    (c.one_fault.ensures.none (question_of claim) bytes) a b firm also one two
