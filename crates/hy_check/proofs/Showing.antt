-- What a verdict shows.
use Rattle.std.proofs.Common.{◌≡◌, ◌<◌, ℕ, Bool, true, false, List, [], ◌∷◌, length, map, Result, Ok, Err, refl, sym, subst, arith, true≢false}
use Rattle.hy_base.specs.Shelf.{Read, ReadsFiles}
use Rattle.hy_base.specs.declared.shelf.Shelf.{Ghosts}
use Rattle.hy_formula.specs.Classes.{class_of}
use Rattle.hy_formula.specs.Formulas.{Plain}
use Rattle.hy_formula.specs.declared.classes.Class.TheVariants as class
use Rattle.hy_read.specs.Readings.{IsReading}
use Rattle.ea_reduce.specs.Fulfilled.{IsOfOneKind}
use Rattle.aig_net.specs.Nets.{IsNet, Net}
use Rattle.cert_text.specs.declared.question.Question.{Question}
use Rattle.cert_text.specs.declared.question.Question.TheVariants.{Formula, Implication, Equivalence, Circuit}
use Rattle.cert_text.specs.Certificates.{Certificate}
use Rattle.cert_text.specs.Texts.{IsText}
use Rattle.circuit_files.specs.Circuits.{IsCircuit}
use Rattle.claim_check.specs.Claims.{Claim, formula, implication, equivalence, circuit, question_of}
use Rattle.claim_check.specs.Good.{IsGood}
use Rattle.claim_check.specs.Truths.{IsBound, IsSaid}
use Rattle.claim_check.specs.Verdicts.{AreTaken, IsVerdict}
use Rattle.claim_check.specs.declared.error.CertError.{CertError}
use Rattle.hy_files.specs.Contents.{IsFormula}
use Rattle.hy_run.specs.Names.{Text}
use Rattle.hy_run.specs.Runs.{Answer, Comes, Decides, unworded, short, worded}
use Rattle.hy_check.specs.Contents.{MakeClaim}
use Rattle.hy_check.specs.Judging.{IsJudged, answer_to}
use Rattle.hy_check.specs.Rules.{check_rules}
use Rattle.hy_check.specs.Shown.{HasRead, IsAccepted, IsRejected}
use Rattle.hy_check.specs.Texts.{last_of}
use Rattle.hy_check.specs.Words.{IsCommand}
use Rattle.hy_check.specs.declared.answer.CertFault.{CertFault}
use Rattle.hy_check.specs.declared.answer.CheckVerdict.{CheckVerdict}
use Rattle.hy_check.specs.declared.answer.CheckVerdict.TheVariants.{Accepted, Rejected}
use Rattle.hy_check.proofs.Reading.{all_read}

-- ---- the verdict that an answer is

accepted_by : (question : Question) (names : List Text) (result : Result Bool CertError) → Ok Accepted ≡ answer_to question names result
    → result ≡ Ok true
accepted_by question names (Ok true) e = refl
accepted_by question names (Ok false) e = cc
accepted_by question names (Err error) e = cc

rejected_by : (question : Question) (names : List Text) (result : Result Bool CertError) → Ok Rejected ≡ answer_to question names result
    → result ≡ Ok false
rejected_by question names (Ok true) e = cc
rejected_by question names (Ok false) e = refl
rejected_by question names (Err error) e = cc

-- The words are a command whose files were read, and make a claim, to whose certificate this verdict came.
record HasJudged {S : Type 0} (g : Ghosts S) (words : List Text) (old new : S) (verdict : CheckVerdict) : Type 0 where
  pub question : Question
  pub names : List Text
  pub command : IsCommand words question names
  pub files : List (List ℕ)
  pub read : ReadsFiles g old new names (map Ok files)
  pub table : List Text
  pub claim : Claim
  pub makes : MakeClaim question files claim table
  pub judged : IsJudged table claim (last_of files) (Ok verdict)

has_judged : {S : Type 0} (g : Ghosts S) (words : List Text) (old new : S) (verdict : CheckVerdict) (answer : Answer CheckVerdict CertFault)
    (text : List ℕ) → answer ≡ Ok verdict → Comes check_rules g words old new answer text → HasJudged g words old new verdict
has_judged g words old new verdict _ _ e (unworded none same) = cc
has_judged g words old new verdict _ _ e (short same) = cc
has_judged g words old new verdict _ _ e (worded question names table answer is follows) =
    let P : Answer CheckVerdict CertFault → Type 0 = λ a. Decides check_rules question names follows.given table a in
    let all = all_read check_rules question names [] [] table follows.given verdict (subst P e follows.decided) in
    let (claim, makes, judged) = all.comes in
    let R : List Read → Type 0 = λ rs. ReadsFiles g old new names rs in
    record {
      question = question;
      names = names;
      command = is;
      files = all.contents;
      read = subst R all.read follows.read;
      table = table;
      claim = claim;
      makes = makes;
      judged = judged;
    }

module _ {S : Type 0} (g : Ghosts S) (words : List Text) (old new : S) where
  -- The files that were read, with the certificate in them.
  has_read : (verdict : CheckVerdict) (has : HasJudged g words old new verdict) (c : Certificate)
      → IsText (question_of has.claim) (last_of has.files) c → HasRead g words old new has.table has.claim c
  has_read verdict has c text = record {
    question = has.question;
    names = has.names;
    command = has.command;
    files = has.files;
    read = has.read;
    makes = has.makes;
    text = text;
  }

  pub is_rejected : (text : List ℕ) → Comes check_rules g words old new (Ok Rejected) text → IsRejected g words old new
  is_rejected text comes =
      let has = has_judged g words old new Rejected (Ok Rejected) text refl comes in
      let e = rejected_by (question_of has.claim) has.table has.judged.result has.judged.answered in
      let P : Result Bool CertError → Type 0 = λ r. IsVerdict has.table has.claim (last_of has.files) r in
      let (c, spelled, (counted, named, is)) = subst P e has.judged.is in
      (has.table, has.claim, c, has_read Rejected has c spelled, λ good. true≢false (sym (is.1 good)))

module _ (nets : (bytes : List ℕ) (net : Net) → IsCircuit bytes net → IsNet net)
    (readings : (quantifiers : ℕ) (old : List Text) (bytes : List ℕ) (f : Plain) (table : List Text)
    → IsFormula quantifiers old bytes f table → IsReading quantifiers (length table) f)
    (formulas : (names : List Text) (f : Plain) (c : Certificate) → IsBound f
    → (class_of f.prefix ≡ class.Other → ⊥) → IsGood names (formula f) c → IsSaid names (formula f) c)
    (implications : (names : List Text) (f g : Plain) (c : Certificate) → IsBound f → IsBound g
    → IsOfOneKind f.prefix → IsOfOneKind g.prefix → IsGood names (implication f g) c
    → IsSaid names (implication f g) c)
    (equivalences : (names : List Text) (f g : Plain) (c : Certificate) → IsBound f → IsBound g
    → IsOfOneKind f.prefix → IsOfOneKind g.prefix → IsGood names (equivalence f g) c
    → IsSaid names (equivalence f g) c)
    (circuits : (names : List Text) (net : Net) (f : Plain) (c : Certificate) → IsNet net
    → 0 < length f.prefix → IsBound f → IsOfOneKind f.prefix → IsGood names (circuit net f) c
    → IsSaid names (circuit net f) c) where
  -- What a good certificate says of the claim of files is so.
  is_said : (question : Question) (files : List (List ℕ)) (claim : Claim) (names : List Text)
      (c : Certificate) → MakeClaim question files claim names → AreTaken claim
      → IsGood names claim c → IsSaid names claim c
  is_said Formula (one ∷ out ∷ []) (formula f) names c is taken good =
      formulas names f c (readings 8 [] one f names is).bound taken good
  is_said Implication (one ∷ two ∷ out ∷ []) (implication f g) names c (old, is, also) taken good =
      implications names f g c (readings 8 [] one f old is).bound (readings 8 old two g names also).bound
      taken.0 taken.1 good
  is_said Equivalence (one ∷ two ∷ out ∷ []) (equivalence f g) names c (old, is, also) taken good =
      equivalences names f g c (readings 8 [] one f old is).bound (readings 8 old two g names also).bound
      taken.0 taken.1 good
  is_said Circuit (one ∷ two ∷ out ∷ []) (circuit net f) names c (is, also) taken good =
      let reading = readings 4 [] two f names also in
      circuits names net f c (nets one net is) (omega (arith, reading.some)) reading.bound taken good
  is_said _ _ _ names c makes taken good = absurd makes

  pub is_accepted : {S : Type 0} (g : Ghosts S) (words : List Text) (old new : S) (text : List ℕ)
      → Comes check_rules g words old new (Ok Accepted) text → IsAccepted g words old new
  is_accepted g words old new text comes =
      let has = has_judged g words old new Accepted (Ok Accepted) text refl comes in
      let e = accepted_by (question_of has.claim) has.table has.judged.result has.judged.answered in
      let P : Result Bool CertError → Type 0 = λ r. IsVerdict has.table has.claim (last_of has.files) r in
      let (c, spelled, (counted, named, is)) = subst P e has.judged.is in
      let good = is.0 refl in (
        has.table,
        has.claim,
        c,
        has_read g words old new Accepted has c spelled,
        good,
        is_said has.question has.files has.claim has.table c has.makes counted.taken good,
      )
