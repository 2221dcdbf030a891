-- How a run of a command goes through its files.
use Rattle.std.proofs.Common.{◌≡◌, ℕ, Bool, true, false, List, [], ◌∷◌, ◌++◌, length, Ok, Err, if◌then◌else◌, refl, sym, subst, ◌∙◌}
use Rattle.hy_base.specs.Shelf.{ReadsFile}
use Rattle.hy_base.specs.declared.reading.FileError.{FileError}
use Rattle.hy_base.specs.declared.shelf.Shelf.{Ghosts}
use Rattle.hy_formula.specs.Formulas.{Plain}
use Rattle.aig_net.specs.Nets.{Net}
use Rattle.cert_text.specs.declared.question.Question.{Question}
use Rattle.cert_text.specs.declared.question.Question.TheVariants.{Implication, Equivalence}
use Rattle.circuit_files.specs.Circuits.{IsCircuit, IsNoCircuit}
use Rattle.claim_check.specs.Claims as claims
use Rattle.claim_check.specs.Claims.{Claim}
use Rattle.hy_files.specs.Contents.{IsFormula, IsNoFormula}
use Rattle.hy_files.specs.Faults.{read_fault}
use Rattle.hy_files.specs.Steps.{Fails, Takes, unread}
use Rattle.hy_files.specs.declared.fault.FileFault.{FileFault}
use Rattle.hy_run.specs.Names.{Text}
use Rattle.hy_run.specs.Refusals.{file_refusal}
use Rattle.hy_run.specs.Runs.{Answer, Follows}
use Rattle.hy_run.proofs.Steps.{Onward, finish, pass, stop}
use Rattle.hy_check.specs.Contents.{AreTwo, Content, IsRefusedAs, IsTextOf, MakeClaim, certificate, circuit, content_of, formula}
use Rattle.hy_check.specs.Judging.{IsJudged}
use Rattle.hy_check.specs.Rules.{check_rules}
use Rattle.hy_check.specs.declared.answer.CertFault.{CertFault}
use Rattle.hy_check.specs.declared.answer.CheckVerdict.{CheckVerdict}
use Rattle.hy_check.proofs.Last.{last-appended}

module _ (question : Question) (files : List Text) {S : Type 0} (g : Ghosts S) (old mid : S) (file : Text) (rest : List Text)
    (done : List (List ℕ)) (names : List Text) (on : Onward check_rules question files g old mid (file ∷ rest) done names) where
  -- the answer where the run ends at this file
  abbrev pub EndsBy : S → List Text → FileFault → Type 0
  EndsBy new any fault = Follows check_rules g old new question files any (Err (file_refusal (length done) fault))

  refuses : (content : Content) → content_of question (length done) ≡ content → (bytes : List ℕ) (fault : FileFault)
      → IsRefusedAs content names bytes fault → IsRefusedAs (content_of question (length done)) names bytes fault
  refuses content at bytes fault is = let P : Content → Type 0 = λ k. IsRefusedAs k names bytes fault in subst P (sym at) is

  takes : (content : Content) → content_of question (length done) ≡ content → (bytes : List ℕ) (new : List Text)
      → IsTextOf content names bytes new → IsTextOf (content_of question (length done)) names bytes new
  takes content at bytes new is = let P : Content → Type 0 = λ k. IsTextOf k names bytes new in subst P (sym at) is

  module _ (quantifiers : ℕ) (at : content_of question (length done) ≡ formula quantifiers) where
    pub formula_fails : (new : S) (any : List Text) (fault : FileFault) → Fails g mid new file (IsNoFormula quantifiers names) fault
        → EndsBy new any fault
    formula_fails new any fault fails =
        stop check_rules question files g old mid file rest done names on new any (IsNoFormula quantifiers names)
        (refuses (formula quantifiers) at) fault fails

    pub formula_passes : (next : S) (f : Plain) (new : List Text) (taken : Takes g mid next file (λ bytes. IsFormula quantifiers names bytes f new))
        → Onward check_rules question files g old next rest (done ++ taken.bytes ∷ []) new
    formula_passes next f new taken =
        pass check_rules question files g old mid file rest done names on next new (λ bytes. IsFormula quantifiers names bytes f new) taken
        (takes (formula quantifiers) at taken.bytes new (f, taken.is))

  module _ (at : content_of question (length done) ≡ circuit) where
    pub circuit_fails : (new : S) (any : List Text) (fault : FileFault) → Fails g mid new file IsNoCircuit fault → EndsBy new any fault
    circuit_fails new any fault fails =
        stop check_rules question files g old mid file rest done names on new any IsNoCircuit (refuses circuit at) fault fails

    pub circuit_passes : (next : S) (net : Net) (taken : Takes g mid next file (λ bytes. IsCircuit bytes net))
        → Onward check_rules question files g old next rest (done ++ taken.bytes ∷ []) names
    circuit_passes next net taken =
        pass check_rules question files g old mid file rest done names on next names (λ bytes. IsCircuit bytes net) taken
        (takes circuit at taken.bytes names ((net, taken.is), refl))

  -- The certificate was not read.
  pub unread_ends : (new : S) (any : List Text) (fault : FileFault) (error : FileError) → ReadsFile g mid new file (Err error)
      → fault ≡ read_fault error → EndsBy new any fault
  unread_ends new any fault error came e =
      let P : FileFault → Type 0 = λ f. EndsBy new any f in
      subst P (sym e)
      (stop check_rules question files g old mid file rest done names on new any (λ bytes found. ⊥)
      (λ bytes found none. absurd none) (read_fault error) (unread error came))

-- It was read, and is judged.
pub judged_ends : (question : Question) (files : List Text) {S : Type 0} (g : Ghosts S) (old mid : S) (file : Text)
    (done : List (List ℕ)) (names : List Text) → Onward check_rules question files g old mid (file ∷ []) done names
    → content_of question (length done) ≡ certificate → (new : S) (bytes text : List ℕ) → text ≡ bytes → ReadsFile g mid new file (Ok bytes)
    → (claim : Claim) → MakeClaim question (done ++ bytes ∷ []) claim names
    → (answer : Answer CheckVerdict CertFault) → IsJudged names claim text answer → Follows check_rules g old new question files names answer
judged_ends question files g old mid file done names on at new bytes text same came claim makes answer is =
    let P : List ℕ → Type 0 = λ b. IsJudged names claim b answer in
    let on-end =
    pass check_rules question files g old mid file [] done names on new names (λ b. Unit {0}) (record { bytes = bytes; read = came; is = tt })
    (takes question files g old mid file [] done names on certificate at bytes names refl) in
    finish check_rules question files g old new (done ++ bytes ∷ []) names answer on-end (claim, makes, subst P (same ∙ sym (last-appended done bytes)) is)

-- ---- two formulas

-- what is asked of two formulas, or, where both, of each direction
abbrev pub relation : Bool → Question
relation both = if both then Equivalence else Implication

pub first_content : (both : Bool) → content_of (relation both) 0 ≡ formula 8
first_content true = refl
first_content false = refl

pub second_content : (both : Bool) → content_of (relation both) 1 ≡ formula 8
second_content true = refl
second_content false = refl

pub third_content : (both : Bool) → content_of (relation both) 2 ≡ certificate
third_content true = refl
third_content false = refl

pub two_make : (both : Bool) (one two out : List ℕ) (f g : Plain) (names : List Text) → AreTwo one two f g names
    → MakeClaim (relation both) (one ∷ two ∷ out ∷ []) (if both then (claims.equivalence f g) else (claims.implication f g)) names
two_make true one two out f g names are = are
two_make false one two out f g names are = are
