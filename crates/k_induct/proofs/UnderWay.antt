-- Induction under way: what it knows before each number of steps.
use Rattle.std.proofs.Common.{true, ◌≡◌, ℕ, suc, ◌+◌, ◌<◌, ◌≤◌, List, [], ◌∷◌, ◌++◌, length, inl, inr, refl, subst, sym, ap, ◌∙◌, arith, length-append}
use Rattle.std.proofs.Math.Seq.{get_or-append_seam}
use Rattle.std.proofs.lemmas.Bool.{cases_eq}
use Rattle.std.proofs.lemmas.List.{get_or_append_left}
use Rattle.aig_net.specs.Executions.{Word}
use Rattle.chain_check.specs.declared.logs.Learned.{Learned}
use Rattle.chain_check.specs.Clauses.{Clause}
use Rattle.chain_check.specs.Logs.{IsRefutation}
use Rattle.live_safe.specs.Paths.{IsBadPath}
use Rattle.live_safe.specs.declared.safe_net.SafeNet.{SafeNet}
use Rattle.live_safe.specs.declared.safe_net.Path.{Path}
use Rattle.cnf_frames.specs.declared.facts.Fact.{Fact}
use Rattle.cnf_frames.specs.declared.queries.Asked.TheVariants.{Base, Step}
use Rattle.cnf_frames.specs.declared.queries.Query.{Query}
use Rattle.cnf_frames.specs.declared.queries.FrameError.{FrameError}
use Rattle.cnf_frames.specs.declared.queries.FrameError.TheVariants.{Limit, Memory}
use Rattle.cnf_frames.specs.Facts.{IsInductive, IsSafe}
use Rattle.cnf_frames.specs.Queries.{IsQuery, IsRefusal, IsWithin, variables_of}
use Rattle.cnf_frames.specs.QueryPaths.{CanAsk, IsReached, IsStepPath}
use Rattle.cnf_frames.specs.Proofs.{AreBases, AreBasesWithin, IsRefuted, log_at}
use Rattle.cnf_frames.proofs.Concluding.{none-answers}
use Rattle.cnf_frames.proofs.Inducing.{never-bad}
use Rattle.cnf_frames.proofs.States.{short-step}
use Rattle.sat_core.specs.declared.solving.Outcome.TheVariants.{Refuted as RefutedOutcome}
use Rattle.sat_core.specs.Outcomes.{IsOutcome}
use Rattle.k_induct.specs.declared.asking.Reply.TheVariants.{Refuted}
use Rattle.k_induct.specs.Replies.{IsAnswer, IsReply}
use Rattle.k_induct.specs.Verdicts.{IsDeep, IsGoodBelow, IsMet, IsSafeProof, IsStopped}

-- a refuted query has no answer
pub refuted-reply : (safe : SafeNet) (query : Query) (conflicts : ℕ) (log : List Learned) →
    IsSafe safe → CanAsk safe query.asked → IsQuery safe query.asked query →
    IsOutcome query.cnf.variables query.cnf.clauses conflicts (RefutedOutcome log) →
    IsReply safe query.asked conflicts (Refuted log)
refuted-reply safe query conflicts log is can right (passes, ends) =
    let V : ℕ → Type 0 = λ n. IsRefutation n query.cnf.clauses log in
    let P : List Clause → Type 0 = λ clauses.
    IsRefutation (variables_of safe query.asked) clauses log in
    let refuted : IsRefuted safe query.asked log = subst P right.clauses
    (subst V right.variables (record { passes = passes; ends = ends })) in
    (refuted, none-answers safe query.asked log is can refuted, right.within)

-- what is known before the queries at k are asked
pub record IsUnderWay (safe : SafeNet) (facts : List Fact) (depth k : ℕ)
    (logs : List (List Learned)) : Type 0 where
  pub within : k ≤ depth
  pub reached : IsReached safe facts k
  pub many : length logs ≡ k
  pub each : (i : ℕ) → i < k → IsRefuted safe (Base i) (log_at logs i)
  pub made : (i : ℕ) → i < k → IsWithin safe (Base i)

pub starting : (safe : SafeNet) (facts : List Fact) (depth : ℕ) →
    IsUnderWay safe facts depth 0 []
starting safe facts depth = record {
  within = omega arith;
  reached = record {
    before = λ i lt. absurd (omega arith);
    stepped = λ j e. absurd (omega arith);
  };
  many = refl;
  each = λ i lt. absurd (omega arith);
  made = λ i lt. absurd (omega arith);
}

-- a further base query is refuted
pub refuted-bases : (safe : SafeNet) (facts : List Fact) (depth k : ℕ)
    (logs more : List (List Learned)) (log : List Learned) → IsUnderWay safe facts depth k logs →
    IsRefuted safe (Base k) log → more ≡ logs ++ log ∷ [] → AreBases safe k more
refuted-bases safe facts depth k logs more log on refuted e =
    let B : List (List Learned) → Type 0 = AreBases safe k in
    subst B (sym e) (record {
      many = simp length-append (omega (arith, on.many));
      each = each;
    })
  where
    each : (i : ℕ) → i ≤ k → IsRefuted safe (Base i) (log_at (logs ++ log ∷ []) i)
    each i le =
        elim (cases_eq i k) [
          | inl same ↦
              let here : log ≡ log_at (logs ++ log ∷ []) i = sym (get_or-append_seam logs log [] [])
              ∙ ap (log_at (logs ++ log ∷ [])) (on.many ∙ sym same) in
              let P : ℕ → Type 0 = λ i. IsRefuted safe (Base i) log in
              let Q : List Learned → Type 0 = IsRefuted safe (Base i) in
              subst Q here (subst P (sym same) refuted)
          | inr apart ↦
              let Q : List Learned → Type 0 = IsRefuted safe (Base i) in
              subst Q (sym (get_or_append_left logs (log ∷ []) [] i (omega (arith, on.many))))
              (on.each i (omega arith))
        ]

-- and within its limits
pub within-bases : (safe : SafeNet) (facts : List Fact) (depth k : ℕ) (logs : List (List Learned)) →
    IsUnderWay safe facts depth k logs → IsWithin safe (Base k) → AreBasesWithin safe k
within-bases safe facts depth k logs on here i le =
    let P : ℕ → Type 0 = λ i. IsWithin safe (Base i) in
    elim (cases_eq i k) [
      | inl same ↦ subst P (sym same) here
      | inr apart ↦ on.made i (omega arith)
    ]

pub good-below : (safe : SafeNet) (k : ℕ) → IsGoodBelow safe k →
    ((word : Word) → ¬ IsBadPath safe k word) → IsGoodBelow safe (suc k)
good-below safe k before none i lt word bad =
    let P : ℕ → Type 0 = λ i. IsBadPath safe i word in
    elim (cases_eq i k) [
      | inl same ↦ none word (subst P same bad)
      | inr apart ↦ before i (omega arith) word bad
    ]

pub going-on : (safe : SafeNet) (facts : List Fact) (depth k : ℕ)
    (logs more : List (List Learned)) (path : Path) → IsUnderWay safe facts depth k logs →
    AreBases safe k more → AreBasesWithin safe k → ((word : Word) → ¬ IsBadPath safe k word) →
    IsAnswer safe (Step facts k) path → ¬ (k ≡ depth) →
    IsUnderWay safe facts depth (k + 1) more
going-on safe facts depth k logs more path on bases made none (word, answers, _, _) apart = record {
  within = let w = on.within in omega arith;
  reached = record {
    before = λ i lt. good-below safe k on.reached.before none i (omega arith);
    stepped = λ j e.
        let P : ℕ → Type 0 = λ j. IsStepPath safe facts j word in
        let same : k ≡ j = omega arith in
        (word, subst P same answers);
  };
  many = omega (arith, bases.many);
  each = λ i lt. bases.each i (omega arith);
  made = λ i lt. made i (omega arith);
}

-- the step query is one that induction comes to
pub met-step : (safe : SafeNet) (facts : List Fact) (depth k : ℕ) (logs : List (List Learned)) →
    IsUnderWay safe facts depth k logs → ((word : Word) → ¬ IsBadPath safe k word) →
    IsMet safe facts depth k true (Step facts k)
met-step safe facts depth k logs on none = record {
  within = on.within;
  reached = on.reached;
  asks = (refl, good-below safe k on.reached.before none);
}

pub stopped-step : (safe : SafeNet) (facts : List Fact) (depth k : ℕ)
    (logs : List (List Learned)) (e : FrameError) → IsUnderWay safe facts depth k logs →
    ((word : Word) → ¬ IsBadPath safe k word) → IsRefusal safe (Step facts k) e →
    IsStopped safe facts depth e
stopped-step safe facts depth k logs (Limit limit) on none (past, most) =
    (k, true, Step facts k, met-step safe facts depth k logs on none, past, most)
stopped-step safe facts depth k logs Memory on none refused = tt

pub proved : (safe : SafeNet) (facts : List Fact) (depth k : ℕ)
    (logs more : List (List Learned)) (log : List Learned) → IsUnderWay safe facts depth k logs →
    IsInductive safe.net facts → AreBases safe k more → AreBasesWithin safe k →
    ((word : Word) → ¬ IsBadPath safe k word) → IsRefuted safe (Step facts k) log →
    ((word : Word) → ¬ IsStepPath safe facts k word) → IsWithin safe (Step facts k) →
    IsSafeProof safe facts depth (record { depth = k; base = more; step = log })
proved safe facts depth k logs more log on inductive bases made none step no_step made_step = record {
  within = on.within;
  base = bases;
  step = step;
  base_within = made;
  step_within = made_step;
  good = never-bad safe facts inductive k
      (λ i le. good-below safe k on.reached.before none i (omega arith)) no_step;
}

pub deep : (safe : SafeNet) (facts : List Fact) (depth k : ℕ) (logs : List (List Learned))
    (path : Path) → IsUnderWay safe facts depth k logs → k ≡ depth →
    ((word : Word) → ¬ IsBadPath safe k word) → IsAnswer safe (Step facts k) path →
    IsDeep safe facts depth path
deep safe facts depth k logs path on same none (word, answers, shows, rows) =
    let D : ℕ → Type 0 = λ k. IsDeep safe facts k path in
    subst D same (record {
      good = good-below safe k on.reached.before none;
      answers = (word, answers, shows, rows);
      few = short-step safe facts k word answers;
    })
