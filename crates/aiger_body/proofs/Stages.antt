-- The outcome by its stages.
use Rattle.std.proofs.Common.{◌≡◌, ℕ, suc, ◌<◌, ◌≤◌, arith, true, false, cond, List, length, ◌∙◌, ap, Option, Some, None}
use Rattle.aig_kind.specs.declared.kind.AigKind.TheVariants.{Truncated}
use Rattle.aiger_body.specs.declared.error.AigerError.{AigerError}
use Rattle.aiger_body.specs.declared.error.AigerError.TheVariants.{Bad, Limit as PastLimit, Memory}
use Rattle.aiger_body.specs.declared.header.Header.{Header}
use Rattle.aiger_body.specs.Texts.{is_ended, is_feed, line_text}
use Rattle.aig_order.specs.Firsts.{otherwise, first_some}
use Rattle.aiger_body.specs.Files.{header_of}
use Rattle.aiger_body.specs.Outcomes.{Refusal, refused, fault, limit, first_line, outcome, with_header, judged, circuit, of_header, after_header}
use Rattle.aig_order.proofs.Firsts.{first-more, first-here}
use Rattle.aiger_body.specs.Answers.{Refuses, Tells, of_found}

pub outcome_truncated : (bytes : List ℕ) → is_ended is_feed (first_line bytes) ≡ false → outcome bytes ≡ refused (fault Truncated (length bytes))
outcome_truncated bytes e = ap (λ b. cond b (with_header bytes (header_of (line_text (first_line bytes)))) (refused (fault Truncated (length bytes)))) e

pub outcome_headed : (bytes : List ℕ) (found : Option Header) → is_ended is_feed (first_line bytes) ≡ true → header_of (line_text (first_line bytes)) ≡ found → outcome bytes ≡ with_header bytes found
outcome_headed bytes found e is =
    ap (λ b. cond b (with_header bytes (header_of (line_text (first_line bytes)))) (refused (fault Truncated (length bytes)))) e ∙ ap (with_header bytes) is

judged-first : (bytes : List ℕ) (h : Header) (r : Refusal) → of_header h ≡ Some r → with_header bytes (Some h) ≡ refused r
judged-first bytes h r e = ap (λ o. judged (circuit h bytes) (otherwise o (after_header h bytes))) e

found-first : (bytes : List ℕ) (found : Option Header) (r : Refusal) → of_found found ≡ Some r → with_header bytes found ≡ refused r
found-first bytes None r e = let same : fault _ 0 ≡ r = cc in ap refused same
found-first bytes (Some h) r e = judged-first bytes h r e

-- the error that the header answers
pub header_refuses : (bytes : List ℕ) (found : Option Header) (e : AigerError) → outcome bytes ≡ with_header bytes found → Tells (of_found found) e → Refuses (outcome bytes) e
header_refuses bytes found (Bad kind byte) is tells = is ∙ found-first bytes found (fault kind byte) tells
header_refuses bytes found (PastLimit l) is tells = (is ∙ found-first bytes found limit tells.0, tells.1)
header_refuses bytes found Memory is tells = tt

-- ---- what is found at one place

pub tells_at : (find : ℕ → Option Refusal) (k n : ℕ) (e : AigerError) → first_some k find ≡ None → k < n → Tells (find k) e → Tells (first_some n find) e
tells_at find k n (Bad kind byte) none lt tells = first-more find (suc k) n _ (omega arith) (first-here find k none ∙ tells)
tells_at find k n (PastLimit l) none lt tells = (first-more find (suc k) n _ (omega arith) (first-here find k none ∙ tells.0), tells.1)
tells_at find k n Memory none lt tells = tt

pub tells_more : (find : ℕ → Option Refusal) (m n : ℕ) (e : AigerError) → m ≤ n → Tells (first_some m find) e → Tells (first_some n find) e
tells_more find m n (Bad kind byte) le tells = first-more find m n _ le tells
tells_more find m n (PastLimit l) le tells = (first-more find m n _ le tells.0, tells.1)
tells_more find m n Memory le tells = tt

-- Where nothing is found, the error is that memory ran out.
pub tells_nothing : (found other : Option Refusal) (e : AigerError) → found ≡ None → Tells found e → Tells other e
tells_nothing found other (Bad kind byte) none tells = absurd (cc)
tells_nothing found other (PastLimit l) none tells = let some = tells.0 in absurd (cc)
tells_nothing found other Memory none tells = tt
