-- What a text shows of a claim: good evidence, before which nothing stands.
use Rattle.std.proofs.Common.{◌≡◌, inl, inr, ℕ, Bool, true, List, Result, Ok, Err, refl, sym, subst}
use Rattle.hy_base.specs.declared.limit.Limit.{Limit as Past}
use Rattle.hy_bits.specs.Letter.{Letter}
use Rattle.hy_formula.specs.Lassos.{Lasso}
use Rattle.hy_formula.specs.Quantifiers.{Each}
use Rattle.hy_lasso.specs.Joint.{IsJudged}
use Rattle.ea_reduce.specs.Refused.{HasFewMaps}
use Rattle.claim_check.specs.Claims.{Claim}
use Rattle.claim_check.specs.Truths.{IsFree}
use Rattle.claim_check.specs.Verdicts.{AreNamed, AreTaken, IsCounted, IsSmall, IsVerdict, PassesLimit, closures_of, large_query, many_instances, many_members, many_positions, plans_of}
use Rattle.claim_check.specs.declared.error.CertError.{CertError}
use Rattle.claim_check.specs.declared.error.CertError.TheVariants.{Limit}
use Rattle.cert_laws.proofs.Shown.{IsShown}

-- The text shows the claim, whose classes are taken, whose instances and members are counted, and whose names are found.
pub record IsEvidence (names : List (List ℕ)) (claim : Claim) (lassos : List (Lasso Letter)) (text : List ℕ) : Type 0 where
  pub shows : IsShown names claim lassos text
  pub taken : AreTaken claim
  pub instances : Each HasFewMaps (plans_of claim)
  pub members : Each IsSmall (closures_of claim)
  pub named : AreNamed names claim

module _ (once : (names : List (List ℕ)) (claim : Claim) (bytes : List ℕ) (a b : Result Bool CertError) → ¬ IsFree a → ¬ IsFree b
    → IsVerdict names claim bytes a → IsVerdict names claim bytes b → a ≡ b)
    (names : List (List ℕ)) (claim : Claim) (lassos : List (Lasso Letter)) (text : List ℕ) (is : IsEvidence names claim lassos text)
    (judged : IsJudged lassos) where
  counted : IsCounted names claim is.shows.certificate
  counted = record {
    taken = is.taken;
    instances = is.instances;
    members = is.members;
    positions = subst IsJudged (sym is.shows.shown) judged;
  }

  accepted : IsVerdict names claim text (Ok true)
  accepted = (is.shows.certificate, is.shows.spelled, (counted, is.named, (λ _. is.shows.good, λ _. refl)))

  -- A limit that alone may be answered is none that is passed.
  firm-not-passed : (limit : Past) → ¬ IsFree (Err (Limit limit)) → ¬ PassesLimit names claim is.shows.certificate limit
  firm-not-passed limit firm passes =
      let same : Ok true ≡ Err (Limit limit) =
      once names claim text (Ok true) (Err (Limit limit)) (λ free. free) firm accepted (is.shows.certificate, is.shows.spelled, passes) in
      cc

  -- The certificate passes no limit.
  pub never-passed : (limit : Past) → ¬ PassesLimit names claim is.shows.certificate limit
  never-passed _ (many_instances taken many) =
      firm-not-passed _ (λ free. elim free [ inl e ↦ cc | inr e ↦ cc ]) (many_instances taken many)
  never-passed _ (many_members taken few many) =
      firm-not-passed _ (λ free. elim free [ inl e ↦ cc | inr e ↦ cc ]) (many_members taken few many)
  never-passed _ (many_positions taken few small past) =
      firm-not-passed _ (λ free. elim free [ inl e ↦ cc | inr e ↦ cc ]) (many_positions taken few small past)
  never-passed limit (large_query also refused) = is.shows.unrefused limit refused
