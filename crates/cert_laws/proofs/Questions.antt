-- What is printed of verdicts on questions shows the claims that their files make.
use Rattle.std.proofs.Common.{◌≡◌, ℕ, ◌≤◌, ◌==◌, Bool, true, false, cond, List, [], ◌∷◌, ◌++◌, Ok, sym, subst, arith, true≢false}
use Rattle.std.specs.Prelude.{codes}
use Rattle.hy_bits.specs.Letter.{Letter}
use Rattle.hy_formula.specs.Formulas.{Plain}
use Rattle.hy_formula.specs.Lassos.{Lasso}
use Rattle.aig_net.specs.Nets.{Net}
use Rattle.cert_text.specs.declared.question.Question.{Question}
use Rattle.cert_text.specs.declared.question.Question.TheVariants as certificates
use Rattle.induction_judge.specs.Good.{most_depth}
use Rattle.claim_check.specs.Claims.{Claim, circuit, equivalence, formula, implication}
use Rattle.circuit_files.specs.Circuits.{IsCircuit}
use Rattle.hy_files.specs.Contents.{IsText}
use Rattle.hy_run.specs.Names.{Text}
use Rattle.hy_run.specs.Runs.{Answer}
use Rattle.hy_words.specs.Words.{Item, given_in}
use Rattle.ea_tool.specs.Rules.{ComesTo as EaComesTo}
use Rattle.ea_tool.specs.Texts.{shows_proof as ea_shows_proof, text_of as ea_text_of, verdict_text}
use Rattle.ea_tool.specs.Words.{AsksFor, IsEngine, IsDepth as IsEaDepth}
use Rattle.ea_tool.specs.declared.verdict.EaFault.{EaFault}
use Rattle.ea_tool.specs.declared.verdict.EaVerdict.{EaVerdict}
use Rattle.ea_tool.specs.declared.verdict.Engine.{Engine}
use Rattle.ea_tool.specs.declared.verdict.Engine.TheVariants.{Branches, Circuit}
use Rattle.ea_tool.specs.declared.verdict.Question.{Question as EaQuestion}
use Rattle.ea_tool.specs.declared.verdict.Question.TheVariants.{Judge, Decide, Relate, Find}
use Rattle.ea_tool.specs.declared.verdict.Relation.TheVariants.{Implication, Equivalence}
use Rattle.mc_tool.specs.Rules.{ComesTo as McComesTo}
use Rattle.mc_tool.specs.Texts.{checked_text, shows_proof as mc_shows_proof, text_of as mc_text_of}
use Rattle.mc_tool.specs.Words.{Asks, IsDepth, usual_depth}
use Rattle.mc_tool.specs.declared.verdict.McFault.{McFault}
use Rattle.mc_tool.specs.declared.verdict.McVerdict.{McVerdict}
use Rattle.mc_tool.specs.declared.verdict.McVerdict.TheVariants as verdicts
use Rattle.mc_tool.specs.declared.verdict.Question.{Question as McQuestion}
use Rattle.mc_tool.specs.declared.verdict.Question.TheVariants.{Check, CheckByStrategy}
use Rattle.hy_check.specs.Contents.{MakeClaim}
use Rattle.hy_check.proofs.Claims.{one_claim}
use Rattle.cert_laws.specs.Claimed.{AsksLow, CertifiesEa, CertifiesMc, IsFound, IsKnown, IsLow, models_of, traces_in, traces_of}
use Rattle.cert_laws.specs.GoodTexts.{IsGoodText, IsShort}
use Rattle.cert_laws.proofs.Evidence.{IsEvidence}
use Rattle.cert_laws.proofs.Files.{formula-over, two-over}
use Rattle.cert_laws.proofs.Shown.{good-text}
use Rattle.cert_laws.proofs.Verdicts.{EaShows, McShows, check-shown, comparison-shown, decision-shown, implication-shown}

-- The files and a text make a claim for a question of the checker, and the text is evidence for it.
pub record MakesEvidence (asked : Question) (files : List (List ℕ)) (names : List Text) (shows : Claim → Type 0) (text : List ℕ) : Type 0 where
  pub claim : Claim
  pub makes : MakeClaim asked (files ++ text ∷ []) claim names
  pub is : shows claim

-- ---- questions of formulas

module _ (names : List Text) (text : List ℕ) (a : Answer EaVerdict EaFault) where
  ea-claim : (question : EaQuestion) (asked : Question) (files : List (List ℕ)) → AsksLow question → CertifiesEa question asked → EaComesTo question files names a
      → MakesEvidence asked files names (λ claim. EaShows names claim a) text
  ea-claim (Decide engine proof) certificates.Formula (one ∷ []) low certifies (f, is, comes) = record {
    claim = formula f;
    makes = is;
    is = decision-shown names f engine low (formula-over 8 one f names is) a comes;
  }
  ea-claim (Relate Implication engine proof) certificates.Implication (one ∷ two ∷ []) low certifies (f, g, known, is, also, comes) = record {
    claim = implication f g;
    makes = (known, is, also);
    is = implication-shown names f g engine low (two-over one two f g names (known, is, also)) a comes;
  }
  ea-claim (Relate Equivalence engine proof) certificates.Equivalence (one ∷ two ∷ []) low certifies (f, g, known, is, also, comes) = record {
    claim = equivalence f g;
    makes = (known, is, also);
    is = comparison-shown names f g engine low (two-over one two f g names (known, is, also)) a comes;
  }
  ea-claim (Decide engine proof) certificates.Formula _ low certifies comes = absurd comes
  ea-claim (Relate Implication engine proof) certificates.Implication _ low certifies comes = absurd comes
  ea-claim (Relate Equivalence engine proof) certificates.Equivalence _ low certifies comes = absurd comes
  ea-claim _ _ files low certifies comes = absurd certifies

-- A question with a certificate shows proofs.
ea-shows : (question : EaQuestion) (asked : Question) → CertifiesEa question asked → ea_shows_proof question ≡ true
ea-shows (Decide engine proof) certificates.Formula certifies = certifies
ea-shows (Relate Implication engine proof) certificates.Implication certifies = certifies
ea-shows (Relate Equivalence engine proof) certificates.Equivalence certifies = certifies
ea-shows _ _ certifies = absurd certifies

-- One that shows proofs has one.
pub ea-certifies : (question : EaQuestion) → ea_shows_proof question ≡ true → (asked : Question) × CertifiesEa question asked
ea-certifies (Decide engine proof) shows = (certificates.Formula, shows)
ea-certifies (Relate Implication engine proof) shows = (certificates.Implication, shows)
ea-certifies (Relate Equivalence engine proof) shows = (certificates.Equivalence, shows)
ea-certifies _ shows = absurd (true≢false (sym shows))

pub ea-evidence : (question : EaQuestion) (asked : Question) (files : List (List ℕ)) (names : List Text) (verdict : EaVerdict)
    → AsksLow question → CertifiesEa question asked → IsKnown verdict → EaComesTo question files names (Ok verdict) → (text : List ℕ)
    → text ≡ ea_text_of question names verdict
    → IsShort text → MakesEvidence asked files names (λ claim. IsEvidence names claim (models_of verdict) text) text
ea-evidence question asked files names verdict low certifies known comes text same short =
    let shown = ea-shows question asked certifies in
    let P : Bool → Type 0 = λ b. text ≡ verdict_text b names verdict in
    let printed : text ≡ verdict_text true names verdict = subst P shown same in
    let made = ea-claim names text (Ok verdict) question asked files low certifies comes in
    let R : List ℕ → Type 0 = λ t. IsEvidence names made.claim (models_of verdict) t in
    record { claim = made.claim; makes = made.makes; is = subst R (sym printed) (made.is known (subst IsShort printed short)) }

-- Words ask a free circuit for no more steps than a certificate has.
given-low : (given : List Text) (n : ℕ) → IsEaDepth given n → n ≤ most_depth
given-low [] n e = omega (arith, e)
given-low (value ∷ more) n (is, least, most) = most

low-engine : (items : List Item) (engine : Engine) → IsEngine items engine → IsLow engine
low-engine items (Branches states) is = tt
low-engine items (Circuit ask) (calls, deep, budget, bare, missing) = given-low (given_in (codes "depth") items) ask.depth deep

pub asks-low : (words files : List Text) (question : EaQuestion) → AsksFor words question files → AsksLow question
asks-low words (one ∷ []) (Decide engine proof) (items, are, asks) = low-engine items engine asks.by
asks-low words (one ∷ two ∷ []) (Relate Implication engine proof) (items, are, asks) = low-engine items engine asks.by
asks-low words (one ∷ two ∷ []) (Relate Equivalence engine proof) (items, are, asks) = low-engine items engine asks.by
asks-low words files Judge (items, are, asks) = tt
asks-low words files (Find bound conflicts) (items, are, asks) = tt
asks-low words [] (Decide engine proof) (items, are, none) = absurd none
asks-low words (one ∷ two ∷ files) (Decide engine proof) (items, are, none) = absurd none
asks-low words [] (Relate Implication engine proof) (items, are, none) = absurd none
asks-low words (one ∷ []) (Relate Implication engine proof) (items, are, none) = absurd none
asks-low words (one ∷ two ∷ three ∷ files) (Relate Implication engine proof) (items, are, none) = absurd none
asks-low words [] (Relate Equivalence engine proof) (items, are, none) = absurd none
asks-low words (one ∷ []) (Relate Equivalence engine proof) (items, are, none) = absurd none
asks-low words (one ∷ two ∷ three ∷ files) (Relate Equivalence engine proof) (items, are, none) = absurd none

-- ---- questions of circuits

usual-low : (calls : ℕ) → usual_depth calls ≤ most_depth
usual-low calls = by (calls == 0)
  where
    by : (b : Bool) → cond b 64 10 ≤ most_depth
    by true = omega arith
    by false = omega arith

depth-low : (calls : ℕ) (given : List Text) (n : ℕ) → IsDepth calls given n → n ≤ most_depth
depth-low calls [] n e = let low = usual-low calls in omega (arith, e, low)
depth-low calls (value ∷ more) n (is, least, most) = most

module _ (names : List Text) (text : List ℕ) (a : Answer McVerdict McFault) (words given : List Text) where
  mc-claim : (question : McQuestion) (asked : Question) (files : List (List ℕ)) → Asks words question given → CertifiesMc question asked
      → McComesTo question files names a → MakesEvidence asked files names (λ claim. McShows names claim a) text
  mc-claim (Check ask proof) certificates.Circuit (one ∷ two ∷ []) said certifies (net, f, is, also, comes) = record {
    claim = circuit net f;
    makes = (is, also);
    is = check-shown names net f ask (formula-over 4 two f names also) (deep given said) a comes;
  }
    where
      deep : (named : List Text) → Asks words (Check ask proof) named → ask.depth ≤ most_depth
      deep (file ∷ other ∷ []) (items, are, checks) = depth-low ask.calls (given_in (codes "depth") items) ask.depth checks.tries.deep
      deep _ (items, are, none) = absurd none
  mc-claim (Check ask proof) certificates.Circuit _ said certifies comes = absurd comes
  mc-claim _ _ files said certifies comes = absurd certifies

mc-shows : (question : McQuestion) (asked : Question) → CertifiesMc question asked → mc_shows_proof question ≡ true
mc-shows (Check ask proof) certificates.Circuit certifies = certifies
mc-shows _ _ certifies = absurd certifies

pub mc-certifies : (question : McQuestion) → mc_shows_proof question ≡ true → (asked : Question) × CertifiesMc question asked
mc-certifies (Check ask proof) shows = (certificates.Circuit, shows)
mc-certifies (CheckByStrategy ask) shows = absurd (true≢false (sym shows))

pub mc-evidence : (words given : List Text) (question : McQuestion) (asked : Question) (files : List (List ℕ)) (names : List Text)
    (verdict : McVerdict) → Asks words question given → CertifiesMc question asked → IsFound verdict → McComesTo question files names (Ok verdict)
    → (text : List ℕ) → text ≡ mc_text_of question names verdict → IsShort text
    → MakesEvidence asked files names (λ claim. IsEvidence names claim (traces_in verdict) text) text
mc-evidence words given question asked files names (verdicts.Checked checked) said certifies found comes text same short =
    let shown = mc-shows question asked certifies in
    let P : Bool → Type 0 = λ b. text ≡ checked_text b names checked in
    let printed : text ≡ checked_text true names checked = subst P shown same in
    let made = mc-claim names text (Ok (verdicts.Checked checked)) words given question asked files said certifies comes in
    let R : List ℕ → Type 0 = λ t. IsEvidence names made.claim (traces_of checked) t in
    record { claim = made.claim; makes = made.makes; is = subst R (sym printed) (made.is found (subst IsShort printed short)) }
mc-evidence words given question asked files names _ said certifies found comes text same short = absurd found

-- ---- one claim

module _ (once : (many : Bool) (quantifiers : ℕ) (old : List Text) (bytes : List ℕ) (formulas others : List Plain) (new later : List Text)
    → IsText many quantifiers old bytes formulas new → IsText many quantifiers old bytes others later → (formulas ≡ others) × (new ≡ later))
    (one-net : (bytes : List ℕ) (net other : Net) → IsCircuit bytes net → IsCircuit bytes other → net ≡ other)
    (asked : Question) (files : List (List ℕ)) (names : List Text) (text : List ℕ) where
  -- Evidence is good for whatever claim the files make.
  pub claim-good : (lassos : List (Lasso Letter)) (claim : Claim) → MakeClaim asked (files ++ text ∷ []) claim names
      → MakesEvidence asked files names (λ c. IsEvidence names c lassos text) text → IsGoodText names claim text
  claim-good lassos claim makes made =
      let P : Claim → Type 0 = λ c. IsGoodText names c text in
      subst P (one_claim once one-net asked (files ++ text ∷ []) made.claim claim names made.makes makes)
      (good-text names made.claim lassos text made.is.shows)
