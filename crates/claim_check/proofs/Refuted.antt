-- What the judges say of one proof about a formula, and of two.
use Rattle.std.proofs.Common.{◌≡◌, ◌↔◌, ℕ, Bool, false, IsTrue, List, [], ◌∷◌, ◌++◌, Option, Some, None, Result, Ok, Err, append_assoc, append-nil, inl, inr, refl, sym, ap, ◌∙◌, subst, true≢false}
use Rattle.std.specs.Prelude.{MatchOption, is_some}
use denote.Ref.{Bor}
use Rattle.hy_base.specs.declared.limit.Limit.{Limit as Past}
use Rattle.hy_text.specs.Lines.{lines_of}
use Rattle.ea_reduce.specs.Plans.{PlainPlan}
use Rattle.live_safe.specs.declared.safe_net.SafeNet.{SafeNet}
use Rattle.rank_proofs.specs.declared.rank_proof.RankProof.{RankProof}
use Rattle.cnf_frames.specs.declared.inductions.InductionProof.{InductionProof}
use Rattle.cert_text.specs.Certificates.{Refutation, SayRefutation, ranks, free}
use Rattle.cert_text.specs.InductionLines.{SayFreeProof, SaysFreeHead}
use Rattle.cert_text.specs.Lines.{Line}
use Rattle.cert_text.specs.RankLines.{SayRankProof, SaysRankHead}
use Rattle.cert_text.proofs.Lists.{heads}
use Rattle.cert_text.proofs.Stepping.{words_apart}
use Rattle.induction_judge.specs.Judged as inductions
use Rattle.rank_judge.specs.Judged.{IsJudged}
use Rattle.free_net.specs.FreeNets.{plan_safe}
use Rattle.claim_check.specs.declared.error.CertError.{CertError}
use Rattle.claim_check.specs.declared.error.CertError.TheVariants.{Prefix, Limit, Name, Text, Memory}
use Rattle.claim_check.specs.Counting.{IsFound, IsRefusalBy}
use Rattle.claim_check.specs.Good.{Refutes}
use Rattle.claim_check.specs.Refuting.{IsPassed, StartsFree}
use Rattle.claim_check.specs.Verdicts.{RefusesEither, RefusesIn}

-- ---- which kind of proof stands first

free_starts : (text : List ℕ) (proof : InductionProof) (front rest : List Line)
    → lines_of text ≡ (front ++ rest) ++ [] ∷ [] → SayFreeProof front proof → StartsFree text
free_starts text proof front rest ended said = record {
  line = said.head;
  more = ((said.facts ++ said.logs) ++ rest) ++ [] ∷ [];
  depth = _;
  facts = _;
  parts = ended ∙ ap (λ l. (l ++ rest) ++ [] ∷ []) said.parts;
  says = said.counts;
}

not_ranks : (text : List ℕ) (proof : RankProof) (front rest : List Line) → StartsFree text
    → lines_of text ≡ (front ++ rest) ++ [] ∷ [] → ¬ SayRankProof front proof
not_ranks text proof front rest starts ended said =
    let both : said.head ∷ (((said.branches ++ said.reasons) ++ rest) ++ [] ∷ [])
    ≡ starts.line ∷ starts.more =
    ap (λ l. (l ++ rest) ++ [] ∷ []) (sym said.parts) ∙ sym ended ∙ starts.parts in
    let P : Line → Type 0 = λ l. SaysRankHead l _ _ in
    words_apart starts.line _ _ starts.depth starts.facts (subst P (heads both) said.counts)
    starts.says

-- whether the first line was read as such a head
pub head_starts : (text line : List ℕ) (rest : List Line) (head : Option (ℕ × ℕ)) (is : Bool)
    → lines_of text ≡ line ∷ rest → is ≡ is_some head
    → MatchOption head ((k f : ℕ) → ¬ SaysFreeHead line k f) (λ h. SaysFreeHead line h.0 h.1)
    → IsTrue is ↔ StartsFree text
head_starts text line rest None is cut so none = (
  λ t. absurd (true≢false (sym t ∙ so)),
  λ starts.
      let P : Line → Type 0 = λ l. SaysFreeHead l starts.depth starts.facts in
      absurd (none starts.depth starts.facts
      (subst P (heads (sym starts.parts ∙ cut)) starts.says)),
)
head_starts text line rest (Some (k, f)) is cut so says = (
  λ t. record { line = line; more = rest; depth = k; facts = f; parts = cut; says = says },
  λ starts. so,
)

-- ---- one proof

-- What is said of the proof at the front of a text.
abbrev pub Passes : List ℕ → PlainPlan → Result (Option (Bor (List ℕ))) CertError → Type 0
Passes text plan result =
    (proof : Refutation) (front rest : List Line) → lines_of text ≡ (front ++ rest) ++ [] ∷ []
    → SayRefutation front proof → IsPassed plan proof rest result

-- What is said of the rank proof at the front of a text.
abbrev pub Judges : List ℕ → PlainPlan → Option (Bor (List ℕ)) → Type 0
Judges text plan left =
    (proof : RankProof) (front : List Line) (line : Line) (more : List Line)
    → lines_of text ≡ front ++ line ∷ more → SayRankProof front proof
    → IsJudged plan proof (line ∷ more) left

ranks-so : (plan : PlainPlan) (proof : RankProof) (rest lines : List Line)
    (left : Option (Bor (List ℕ))) → rest ++ [] ∷ [] ≡ lines → IsJudged plan proof lines left
    → IsPassed plan (ranks proof) rest (Ok left)
ranks-so plan proof rest lines None same not = not
ranks-so plan proof rest lines (Some left) same (good, behind) = (good, behind ∙ sym same)

ranks_passed : (text : List ℕ) (plan : PlainPlan) (left : Option (Bor (List ℕ)))
    → Judges text plan left → (proof : RankProof) (front rest : List Line)
    → lines_of text ≡ (front ++ rest) ++ [] ∷ [] → SayRankProof front proof
    → IsPassed plan (ranks proof) rest (Ok left)
ranks_passed text plan left judges proof front [] ended said =
    ranks-so plan proof [] ([] ∷ []) left refl
    (judges proof front [] [] (ended ∙ append_assoc front [] ([] ∷ [])) said)
ranks_passed text plan left judges proof front (line ∷ rest) ended said =
    ranks-so plan proof (line ∷ rest) (line ∷ (rest ++ [] ∷ [])) left refl
    (judges proof front line (rest ++ [] ∷ [])
    (ended ∙ append_assoc front (line ∷ rest) ([] ∷ [])) said)

pub free_passed : (plan : PlainPlan) (safe : SafeNet) (proof : InductionProof) (rest : List Line)
    (left : Option (Bor (List ℕ))) → safe ≡ plan_safe plan
    → inductions.IsJudged safe proof rest left → IsPassed plan (free proof) rest (Ok left)
free_passed plan safe proof rest left same judged =
    let P : SafeNet → Type 0 = λ s. inductions.IsJudged s proof rest left in
    so left (subst P same judged)
  where
    so : (left : Option (Bor (List ℕ))) → inductions.IsJudged (plan_safe plan) proof rest left
        → IsPassed plan (free proof) rest (Ok left)
    so None not = not
    so (Some left) good = good

-- a proof over a free net is said to be one
pub either_passed : (text : List ℕ) (plan : PlainPlan)
    (result : Result (Option (Bor (List ℕ))) CertError) → StartsFree text
    → ((proof : InductionProof) (front rest : List Line)
    → lines_of text ≡ (front ++ rest) ++ [] ∷ [] → SayFreeProof front proof
    → IsPassed plan (free proof) rest result)
    → Passes text plan result
either_passed text plan result starts passed (ranks proof) front rest ended said =
    absurd (not_ranks text proof front rest starts ended said)
either_passed text plan result starts passed (free proof) front rest ended said =
    passed proof front rest ended said

-- and a rank proof not to be one
pub ranks_alone : (text : List ℕ) (plan : PlainPlan) (left : Option (Bor (List ℕ)))
    → ¬ StartsFree text → Judges text plan left → Passes text plan (Ok left)
ranks_alone text plan left none judges (ranks proof) front rest ended said =
    ranks_passed text plan left judges proof front rest ended said
ranks_alone text plan left none judges (free proof) front rest ended said =
    absurd (none (free_starts text proof front rest ended said))

-- a proof behind which nothing stands
pub whole_found : (plan : PlainPlan) (proof : Refutation) (left : Option (Bor (List ℕ)))
    (answer : Bool) → answer ≡ is_some left → IsPassed plan proof [] (Ok left)
    → IsFound (Refutes plan proof) (RefusesIn plan proof) (Ok answer)
whole_found plan proof None answer is not =
    (λ t. absurd (true≢false (sym t ∙ is)), λ good. absurd (not good))
whole_found plan proof (Some left) answer is (good, lines) = (λ t. good, λ g. is)

pub nothing_behind : (text : List ℕ) (lines : List Line) → lines_of text ≡ lines ++ [] ∷ []
    → lines_of text ≡ (lines ++ []) ++ [] ∷ []
nothing_behind text lines ended = ended ∙ ap (λ l. l ++ [] ∷ []) (sym (append-nil lines))

-- ---- two proofs

-- A refusal is one of whatever is refused where this is.
refusal-so : (P Q : Past → Type 0) → ((limit : Past) → P limit → Q limit) → (e : CertError)
    → IsRefusalBy P e → IsRefusalBy Q e
refusal-so P Q so (Prefix which found) refused = refused
refusal-so P Q so (Limit limit) refused = so limit refused
refusal-so P Q so (Name name twice) refused = refused
refusal-so P Q so (Text line) refused = refused
refusal-so P Q so Memory refused = tt

module _ (text : List ℕ) (there back : PlainPlan) where
  -- What is found of the text as a proof for each plan.
  abbrev pub BothFound : Result Bool CertError → Type 0
  BothFound result =
      (one two : Refutation) (front rest : List Line)
      → lines_of text ≡ (front ++ rest) ++ [] ∷ [] → SayRefutation front one
      → SayRefutation rest two
      → IsFound (Refutes there one × Refutes back two) (RefusesEither there one back two) result

  pub first_refused_so : (e : CertError) → Passes text there (Err e) → BothFound (Err e)
  first_refused_so e passed one two front rest ended a b =
      refusal-so (RefusesIn there one) (RefusesEither there one back two) (λ limit is. inl is) e
      (passed one front rest ended a)

  pub both_passed : (left : Bor (List ℕ)) (result : Result Bool CertError)
      → Passes text there (Ok (Some left))
      → ((proof : Refutation) (lines : List Line) → lines_of left.now ≡ lines ++ [] ∷ []
      → SayRefutation lines proof → IsFound (Refutes back proof) (RefusesIn back proof) result)
      → BothFound result
  both_passed left result passed found one two front rest ended a b =
      let (good, lines) = passed one front rest ended a in
      so result good (found two rest lines b)
    where
      so : (result : Result Bool CertError) → Refutes there one
          → IsFound (Refutes back two) (RefusesIn back two) result
          → IsFound (Refutes there one × Refutes back two) (RefusesEither there one back two)
          result
      so (Ok answer) good is = (λ t. (good, is.0 t), λ (_, also). is.1 also)
      so (Err e) good refused =
          refusal-so (RefusesIn back two) (RefusesEither there one back two) (λ limit is. inr is) e
          refused

  pub first_not_passed : Passes text there (Ok None) → BothFound (Ok false)
  first_not_passed passed one two front rest ended a b = (
    λ t. absurd (true≢false (sym t)),
    λ (good, _). absurd (passed one front rest ended a good),
  )
