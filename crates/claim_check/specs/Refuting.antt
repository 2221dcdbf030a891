-- What comes of a proof about a formula at the front of a text.
use Rattle.std.specs.Prelude.{◌≡◌, ℕ, List, [], ◌∷◌, ◌++◌, Option, Some, None, Result, Ok, Err}
use denote.Ref.{Bor}
use Rattle.hy_text.specs.Lines.{lines_of}
use Rattle.ea_reduce.specs.Plans.{PlainPlan}
use Rattle.ea_reduce.specs.Refused.{HasFewMaps}
use Rattle.free_net.specs.Reduced.{IsOfFormulas}
use Rattle.cert_text.specs.Certificates.{Refutation}
use Rattle.cert_text.specs.InductionLines.{SaysFreeHead}
use Rattle.cert_text.specs.Lines.{Line}
use Rattle.claim_check.specs.declared.error.CertError.{CertError}
use Rattle.claim_check.specs.Counting.{IsRefusalBy}
use Rattle.claim_check.specs.Good.{Refutes}
use Rattle.claim_check.specs.Verdicts.{RefusesIn}

-- The plan is one of which a free net is made, for which there is room.
pub record HasFreeNet (plan : PlainPlan) : Type 0 where
  pub formulas : IsOfFormulas plan
  pub few : HasFewMaps plan

-- The first line is the head of a proof over a free net.
pub record StartsFree (text : List ℕ) : Type 0 where
  pub line : Line
  pub more : List Line
  pub depth : ℕ
  pub facts : ℕ
  pub parts : lines_of text ≡ line ∷ more
  pub says : SaysFreeHead line depth facts

-- The proof shows that nothing fulfils the plan, with this text behind it; or it does not; or a query
-- of it is past a limit.
abbrev pub IsPassed : PlainPlan → Refutation → List Line → Result (Option (Bor (List ℕ))) CertError → Type 0
IsPassed plan proof rest (Ok None) = ¬ Refutes plan proof
IsPassed plan proof rest (Ok (Some left)) =
    Refutes plan proof × (lines_of left.now ≡ rest ++ [] ∷ [])
IsPassed plan proof rest (Err e) = IsRefusalBy (RefusesIn plan proof) e
