-- What a run writes of a verdict shows a claim of the files that it read.
use Rattle.std.proofs.Common.{◌≡◌, ℕ, true, List, [], Ok, map, refl, sym, subst}
use Rattle.hy_base.specs.Shelf.{Read, ReadsFiles}
use Rattle.hy_base.specs.declared.shelf.Shelf.{Ghosts}
use Rattle.hy_bits.specs.Letter.{Letter}
use Rattle.hy_formula.specs.Lassos.{Lasso}
use Rattle.cert_text.specs.declared.question.Question.{Question}
use Rattle.hy_run.specs.Names.{Text}
use Rattle.hy_run.specs.Rules.{Rules}
use Rattle.hy_run.specs.Runs.{Answer, Comes, Decides, out_text, unworded, short, worded}
use Rattle.hy_check.proofs.Reading.{all_read}
use Rattle.ea_tool.specs.Rules.{ea_rules}
use Rattle.ea_tool.specs.Texts.{shows_proof as ea_shows_proof}
use Rattle.ea_tool.specs.Words.{AsksFor}
use Rattle.ea_tool.specs.declared.verdict.EaVerdict.{EaVerdict}
use Rattle.ea_tool.specs.declared.verdict.Question.{Question as EaQuestion}
use Rattle.mc_tool.specs.Rules.{mc_rules}
use Rattle.mc_tool.specs.Texts.{shows_proof as mc_shows_proof}
use Rattle.mc_tool.specs.Words.{Asks}
use Rattle.mc_tool.specs.declared.verdict.McVerdict.{McVerdict}
use Rattle.mc_tool.specs.declared.verdict.Question.{Question as McQuestion}
use Rattle.cert_laws.specs.Claimed.{CertifiesEa, CertifiesMc, IsFound, IsKnown, models_of, traces_in}
use Rattle.cert_laws.specs.GoodTexts.{IsShort}
use Rattle.cert_laws.specs.Written.{IsWrittenGood}
use Rattle.cert_laws.proofs.Evidence.{IsEvidence}
use Rattle.cert_laws.proofs.Questions.{MakesEvidence, asks-low, ea-certifies, ea-evidence, mc-certifies, mc-evidence}
use Rattle.cert_laws.proofs.Shown.{good-text}

-- ---- a run with a verdict, of any tool

-- The words are a command whose files were read to their ends, and its question comes to the verdict, with this text.
record HasVerdict {Q V F S : Type 0} (rules : Rules Q V F) (g : Ghosts S) (words : List Text) (old new : S) (verdict : V) (text : List ℕ) : Type 0 where
  pub question : Q
  pub files : List Text
  pub asks : rules.asks words question files
  pub contents : List (List ℕ)
  pub read : ReadsFiles g old new files (map Ok contents)
  pub names : List Text
  pub comes : rules.comes question contents names (Ok verdict)
  pub printed : text ≡ rules.text question names verdict

has-verdict : {Q V F S : Type 0} (rules : Rules Q V F) (g : Ghosts S) (words : List Text) (old new : S) (verdict : V) (answer : Answer V F)
    (text : List ℕ) → answer ≡ Ok verdict → Comes rules g words old new answer text → HasVerdict rules g words old new verdict text
has-verdict rules g words old new verdict _ _ e (unworded none same) = cc
has-verdict rules g words old new verdict _ _ e (short same) = cc
has-verdict {Q} {V} {F} rules g words old new verdict _ _ e (worded question files names answer asks follows) =
    let P : Answer V F → Type 0 = λ a. Decides rules question files follows.given names a in
    let all = all_read rules question files [] [] names follows.given verdict (subst P e follows.decided) in
    let R : List Read → Type 0 = λ rs. ReadsFiles g old new files rs in
    let T : Answer V F → Type 0 = λ a. out_text rules question names a ≡ rules.text question names verdict in
    record {
      question = question;
      files = files;
      asks = asks;
      contents = all.contents;
      read = subst R all.read follows.read;
      names = names;
      comes = all.comes;
      printed = subst T (sym e) refl;
    }

-- ---- evidence that is written

-- The files were read to their ends, and with the text they make evidence of a claim.
pub record WritesEvidence {S : Type 0} (g : Ghosts S) (old new : S) (files : List Text) (asked : Question) (lassos : List (Lasso Letter)) (text : List ℕ) : Type 0 where
  pub contents : List (List ℕ)
  pub read : ReadsFiles g old new files (map Ok contents)
  pub names : List Text
  pub made : MakesEvidence asked contents names (λ claim. IsEvidence names claim lassos text) text

module _ {S : Type 0} (g : Ghosts S) (words : List Text) (old new : S) (text : List ℕ) (few : IsShort text) where
  pub ea-writes : (verdict : EaVerdict) → IsKnown verdict → Comes ea_rules g words old new (Ok verdict) text → (question : EaQuestion) × (files : List Text)
      × AsksFor words question files × (ea_shows_proof question ≡ true → (asked : Question) × CertifiesEa question asked
      × WritesEvidence g old new files asked (models_of verdict) text)
  ea-writes verdict known comes =
      let has = has-verdict ea_rules g words old new verdict (Ok verdict) text refl comes in (
        has.question,
        has.files,
        has.asks,
        λ shows. let (asked, certifies) = ea-certifies has.question shows in (
          asked,
          certifies,
          record {
            contents = has.contents;
            read = has.read;
            names = has.names;
            made =
                ea-evidence has.question asked has.contents has.names verdict (asks-low words has.files has.question has.asks) certifies known has.comes
                text has.printed few;
          },
        ),
      )

  pub mc-writes : (verdict : McVerdict) → IsFound verdict → Comes mc_rules g words old new (Ok verdict) text
      → (question : McQuestion) × (files : List Text) × Asks words question files × (mc_shows_proof question ≡ true
      → (asked : Question) × CertifiesMc question asked × WritesEvidence g old new files asked (traces_in verdict) text)
  mc-writes verdict found comes =
      let has = has-verdict mc_rules g words old new verdict (Ok verdict) text refl comes in (
        has.question,
        has.files,
        has.asks,
        λ shows. let (asked, certifies) = mc-certifies has.question shows in (
          asked,
          certifies,
          record {
            contents = has.contents;
            read = has.read;
            names = has.names;
            made =
                mc-evidence words has.files has.question asked has.contents has.names verdict has.asks certifies found has.comes text
                has.printed few;
          },
        ),
      )

-- Evidence that is written is good.
pub written-good : {S : Type 0} (g : Ghosts S) (old new : S) (files : List Text) (asked : Question) (lassos : List (Lasso Letter)) (text : List ℕ)
    → WritesEvidence g old new files asked lassos text → IsWrittenGood g old new files asked text
written-good g old new files asked lassos text is = record {
  contents = is.contents;
  read = is.read;
  names = is.names;
  claim = is.made.claim;
  makes = is.made.makes;
  good = good-text is.names is.made.claim lassos text is.made.is.shows;
}
