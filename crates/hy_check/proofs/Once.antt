-- The rules are settled: words are one command, files are one text, and a question comes to one answer.
use Rattle.std.proofs.Common.{◌≡◌, ◌⊎◌, inl, inr, ℕ, Bool, true, false, List, [], ◌∷◌, Result, Ok, Err, refl, sym, ap, subst, ◌∙◌}
use Rattle.hy_base.specs.declared.limit.Kind.{Kind}
use Rattle.hy_base.specs.declared.limit.Kind.TheVariants.{CnfVariables, CnfLiterals}
use Rattle.hy_formula.specs.Formulas.{Plain}
use Rattle.aig_net.specs.Nets.{Net}
use Rattle.cert_text.specs.declared.question.Question.{Question}
use Rattle.circuit_files.specs.Circuits.{IsCircuit, IsNoCircuit}
use Rattle.claim_check.specs.Claims.{Claim, question_of}
use Rattle.claim_check.specs.Truths.{IsFree}
use Rattle.claim_check.specs.Verdicts.{IsVerdict}
use Rattle.claim_check.specs.declared.error.CertError.{CertError}
use Rattle.claim_check.specs.declared.error.CertError.TheVariants as errors
use Rattle.hy_files.specs.Contents.{IsText, IsRefused}
use Rattle.hy_files.specs.declared.fault.FileFault.{FileFault}
use Rattle.hy_run.specs.Laws.{AgreeOrShort, AreSettled}
use Rattle.hy_run.specs.Names.{Text}
use Rattle.hy_run.specs.Runs.{Answer}
use Rattle.hy_run.specs.declared.refusal.Refusal.TheVariants.{Memory}
use Rattle.hy_check.specs.Contents.{Content, IsRefusedAs, IsTextOf, certificate, circuit, content_of, formula}
use Rattle.hy_check.specs.Judging.{IsJudged, answer_to}
use Rattle.hy_check.specs.Rules.{ComesTo, HasLargeQuery, IsQueryLimit, check_rules}
use Rattle.hy_check.specs.Texts.{last_of}
use Rattle.hy_check.specs.Words.{IsCommand}
use Rattle.hy_check.specs.declared.answer.CertFault.{CertFault}
use Rattle.hy_check.specs.declared.answer.CheckVerdict.{CheckVerdict}
use Rattle.hy_check.proofs.Claims.{formula_once, one_claim}

abbrev Said : Type 0
Said = Answer CheckVerdict CertFault

-- ---- verdicts that are free

-- A query is past a limit.
abbrev IsLarge : Result Bool CertError → Type 0
IsLarge (Err (errors.Limit past)) = IsQueryLimit past.kind
IsLarge _ = ⊥

query_or_not : (kind : Kind) → IsQueryLimit kind ⊎ (¬ ((kind ≡ CnfVariables) ⊎ (kind ≡ CnfLiterals)))
query_or_not CnfVariables = inl tt
query_or_not CnfLiterals = inl tt
query_or_not _ = inr (λ is. elim is [ inl e ↦ cc | inr e ↦ cc ])

free_or_firm : (result : Result Bool CertError) → (result ≡ Err errors.Memory) ⊎ IsLarge result ⊎ (¬ IsFree result)
free_or_firm (Ok good) = inr (inr (λ free. free))
free_or_firm (Err (errors.Prefix second class)) = inr (inr (λ free. free))
free_or_firm (Err (errors.Limit past)) = inr (query_or_not past.kind)
free_or_firm (Err (errors.Name name twice)) = inr (inr (λ free. free))
free_or_firm (Err (errors.Text line)) = inr (inr (λ free. free))
free_or_firm (Err errors.Memory) = inl refl

large_answer : (question : Question) (names : List Text) (result : Result Bool CertError) → IsLarge result
    → HasLargeQuery (answer_to question names result)
large_answer question names (Ok true) large = absurd large
large_answer question names (Ok false) large = absurd large
large_answer question names (Err (errors.Prefix second class)) large = absurd large
large_answer question names (Err (errors.Limit past)) large = large
large_answer question names (Err (errors.Name name twice)) large = absurd large
large_answer question names (Err (errors.Text line)) large = absurd large
large_answer question names (Err errors.Memory) large = absurd large

module _ (names : List Text) (claim : Claim) (bytes : List ℕ) where
  -- What is answered is free for a cause that may come where another answer may, or else as firm as what came.
  sorted : (a : Said) (is : IsJudged names claim bytes a) → (a ≡ Err Memory) ⊎ HasLargeQuery a ⊎ (¬ IsFree is.result)
  sorted a is = elim (free_or_firm is.result) [
    | inl short ↦ inl (is.answered ∙ ap (answer_to (question_of claim) names) short)
    | inr (inl large) ↦
        let P : Said → Type 0 = λ x. HasLargeQuery x in
        inr (inl (subst P (sym is.answered) (large_answer (question_of claim) names is.result large)))
    | inr (inr firm) ↦ inr (inr firm)
  ]

  judged_once : ((a b : Result Bool CertError) → ¬ IsFree a → ¬ IsFree b → IsVerdict names claim bytes a → IsVerdict names claim bytes b → a ≡ b)
      → (a b : Said) (one : IsJudged names claim bytes a) (two : IsJudged names claim bytes b) → AgreeOrShort check_rules a b
  judged_once once a b one two = elim (sorted a one) [
    | inl short ↦ inl short
    | inr (inl large) ↦ inr (inr (inr (inl large)))
    | inr (inr firm) ↦ elim (sorted b two) [
      | inl short ↦ inr (inl short)
      | inr (inl large) ↦ inr (inr (inr (inr large)))
      | inr (inr also) ↦
          inr (inr (inl (one.answered ∙ ap (answer_to (question_of claim) names) (once one.result two.result firm also one.is two.is)
          ∙ sym two.answered)))
    ]
  ]

-- ---- files and questions

module _ (commands : (words files others : List Text) (question other : Question) → IsCommand words question files → IsCommand words other others
    → (question ≡ other) × (files ≡ others))
    (texts : (many : Bool) (quantifiers : ℕ) (old : List Text) (bytes : List ℕ) (formulas others : List Plain) (new later : List Text)
    → IsText many quantifiers old bytes formulas new → IsText many quantifiers old bytes others later → (formulas ≡ others) × (new ≡ later))
    (faults : (many : Bool) (quantifiers : ℕ) (old : List Text) (bytes : List ℕ) (a b : FileFault)
    → IsRefused many quantifiers old bytes a → IsRefused many quantifiers old bytes b → a ≡ b)
    (apart : (many : Bool) (quantifiers : ℕ) (old : List Text) (bytes : List ℕ) (formulas : List Plain) (new : List Text) (fault : FileFault)
    → IsText many quantifiers old bytes formulas new → ¬ IsRefused many quantifiers old bytes fault)
    (circuits : (bytes : List ℕ) (net other : Net) → IsCircuit bytes net → IsCircuit bytes other → net ≡ other)
    (circuit-faults : (bytes : List ℕ) (a b : FileFault) → IsNoCircuit bytes a → IsNoCircuit bytes b → a ≡ b)
    (circuit-apart : (bytes : List ℕ) (net : Net) (fault : FileFault) → IsCircuit bytes net → ¬ IsNoCircuit bytes fault)
    (verdicts : (names : List Text) (claim : Claim) (bytes : List ℕ) (a b : Result Bool CertError) → ¬ IsFree a → ¬ IsFree b
    → IsVerdict names claim bytes a → IsVerdict names claim bytes b → a ≡ b) where
  text_once : (content : Content) (old : List Text) (bytes : List ℕ) (new later : List Text) → IsTextOf content old bytes new
      → IsTextOf content old bytes later → new ≡ later
  text_once (formula n) old bytes new later (f, is) (g, also) = (formula_once texts circuits n old bytes f g new later is also).1
  text_once circuit old bytes new later (net, one) (other, two) = one ∙ sym two
  text_once certificate old bytes new later one two = one ∙ sym two

  fault_once : (content : Content) (old : List Text) (bytes : List ℕ) (a b : FileFault) → IsRefusedAs content old bytes a
      → IsRefusedAs content old bytes b → a ≡ b
  fault_once (formula n) old bytes a b one two = faults false n old bytes a b one two
  fault_once circuit old bytes a b one two = circuit-faults bytes a b one two
  fault_once certificate old bytes a b one two = absurd one

  never_both : (content : Content) (old : List Text) (bytes : List ℕ) (new : List Text) (fault : FileFault) → IsTextOf content old bytes new
      → ¬ IsRefusedAs content old bytes fault
  never_both (formula n) old bytes new fault (f, is) refused = apart false n old bytes (f ∷ []) new fault is refused
  never_both circuit old bytes new fault ((net, is), same) refused = circuit-apart bytes net fault is refused
  never_both certificate old bytes new fault same refused = refused

  comes_once : (question : Question) (files : List (List ℕ)) (names : List Text) (a b : Said) → ComesTo question files names a
      → ComesTo question files names b → AgreeOrShort check_rules a b
  comes_once question files names a b (claim, makes, is) (other, also, was) =
      let same = one_claim texts circuits question files claim other names makes also in
      let P : Claim → Type 0 = λ x. IsJudged names x (last_of files) a in
      judged_once names other (last_of files) (verdicts names other (last_of files)) a b (subst P same is) was

  pub check_settled : AreSettled check_rules
  check_settled = record {
    command = commands;
    text = λ question k. text_once (content_of question k);
    fault = λ question k. fault_once (content_of question k);
    apart = λ question k. never_both (content_of question k);
    answer = comes_once;
    same = λ a. inl refl;
  }
