use Rattle.std.proofs.Common.{◌≡◌, ℕ, ◌+◌, ◌<◌, ◌≤◌, List, drop, length, refl, ◌∙◌, ap, subst, arith, Option, IfSome}
use denote.Ref.{Bor}
use Rattle.std.proofs.lemmas.Result.{err_from_is_err_and}
use Rattle.cnf_frames.specs.declared.queries.Asked.TheVariants.{Step, Keep}
use Rattle.chain_check.specs.Clauses.{Clause}
use Rattle.chain_check.specs.Known.{Known}
use Rattle.cnf_frames.specs.Queries.{clauses_of, groups, variables_of}
use Rattle.induction_judge.specs.Asking.{AreRefuted, asked_at}
use Rattle.induction_judge.specs.Keeps.{AreKeepsJudged}
use Rattle.induction_judge.specs.Reading.{AreLogs, IsLogJudged}
use Rattle.induction_judge.proofs.Places.{kept_refuted, none_left, not_refuted, of_behind, one_refuted, refuted_kept}
use Rattle.induction_judge.proofs.queries.past_logs.Goals as goal

pub returns-in-Err-clause-refused : goal.returns-in-Err-clause-refused
returns-in-Err-clause-refused c =
    (Step c.args.facts.now c.args.depth, (refl, refl), c.in-Err.ensures.past)

pub returns-in_err-rest-clause-refused : goal.returns-in_err-rest-clause-refused
returns-in_err-rest-clause-refused c =
    let p = err_from_is_err_and c.from_residual-in_err-rest.result
    c.from_residual-in_err-rest.ensures.1 in
    rw (p.1, p.2) (Step c.args.facts.now c.args.depth, (refl, refl), tt)

pub returns-in_err-checker-clause-refused : goal.returns-in_err-checker-clause-refused
returns-in_err-checker-clause-refused c =
    let p = err_from_is_err_and c.from_residual-in_err-checker.result
    c.from_residual-in_err-checker.ensures.1 in
    rw (p.1, p.2) (Step c.args.facts.now c.args.depth, (refl, refl), tt)

pub returns-in_err-left-clause-refused : goal.returns-in_err-left-clause-refused
returns-in_err-left-clause-refused c =
    let p = err_from_is_err_and c.from_residual.result c.from_residual.ensures.1 in
    let (g, lt, is) = c.in_err-left.ensures.refused in
    rw (p.1, p.2) (Keep c.args.facts.now g, (refl, lt), is)

-- some keep query has no refutation
pub returns-in_default-2-clause-judged : goal.returns-in_default-2-clause-judged
returns-in_default-2-clause-judged c = λ logs behind are many right.
    let P : Option (Bor (List ℕ)) → Type 0 =
    AreKeepsJudged c.args.safe.now c.args.facts.now c.args.text.now in
    let none = subst P c.in_default-2.is c.in_ok-left.ensures.judged in
    none logs behind are (omega (arith, many))
    (refuted_kept c.args.safe.now c.args.facts.now c.args.depth (length logs) logs
    (omega (arith, many)) right)

pub loop-place-init : goal.loop-place-init
loop-place-init c =
    let P : Option (Bor (List ℕ)) → Type 0 =
    AreKeepsJudged c.args.safe.now c.args.facts.now c.args.text.now in
    let Q : Option (Bor (List ℕ)) → Type 0 =
    λ o. IfSome o (λ left. length left.now ≤ length c.args.text.now) in
    let kept = subst P c.in-Some.is c.in_ok-left.ensures.judged in
    record {
      shorter = subst Q c.in-Some.is c.in_ok-left.ensures.shorter;
      going = λ logs behind are many.
          let (left, right) = kept logs behind are (omega (arith, many)) in
          let up : groups c.args.facts.now ≡ groups c.args.facts.now + 0 = omega arith in
          let R : ℕ → Type 0 = λ n. AreLogs c.in-Some.left.now (drop n logs) behind
          × AreRefuted c.args.safe.now c.args.facts.now c.args.depth logs n in
          subst R up
          (left, kept_refuted c.args.safe.now c.args.facts.now c.args.depth logs right);
    }

pub returns-in_default-3-clause-judged : goal.returns-in_default-3-clause-judged
returns-in_default-3-clause-judged c = λ logs behind are many right.
    let V : Known → ℕ = λ k. k.variables in
    let K : Known → List Clause = λ k. k.clauses in
    let P : Option (Bor (List ℕ)) → Type 0 =
    IsLogJudged c.in_ok-checker.checker.variables c.in_ok-checker.checker.clauses
    c.loop-place.left.now in
    let here : ℕ = groups c.args.facts.now + c.loop-place.place in
    let lt : here < length logs = omega (arith, c.loop-place-test.true, many) in
    not_refuted c.args.safe.now (asked_at c.args.facts.now c.args.depth) here
    c.in_ok-checker.checker.variables c.in_ok-checker.checker.clauses
    c.loop-place.left.now logs behind lt
    (of_behind (variables_of c.args.safe.now) c.args.facts.now c.args.depth c.loop-place.place _
    (ap V c.in_ok-checker.ensures ∙ c.in_ok-query.ensures.query.variables))
    (of_behind (clauses_of c.args.safe.now) c.args.facts.now c.args.depth c.loop-place.place _
    (ap K c.in_ok-checker.ensures ∙ c.in_ok-query.ensures.query.clauses))
    (subst P c.in_default-3.is c.in_ok-rest.ensures.judged)
    (c.loop-place.invariant.going logs behind are many).0 (length logs) lt right

pub loop-place-preserved : goal.loop-place-preserved
loop-place-preserved c =
    let V : Known → ℕ = λ k. k.variables in
    let K : Known → List Clause = λ k. k.clauses in
    let P : Option (Bor (List ℕ)) → Type 0 =
    IsLogJudged c.in_ok-checker.checker.variables c.in_ok-checker.checker.clauses
    c.loop-place.left.now in
    let Q : Option (Bor (List ℕ)) → Type 0 =
    λ o. IfSome o (λ left. length left.now ≤ length c.loop-place.left.now) in
    let shorter = subst Q c.in-Some-2.is c.in_ok-rest.ensures.shorter in
    let up : groups c.args.facts.now + c.loop-place.place + 1
    ≡ groups c.args.facts.now + (c.loop-place.place + 1) = omega arith in
    record {
      shorter = omega (arith, shorter, c.loop-place.invariant.shorter);
      going = λ logs behind are many.
          let R : ℕ → Type 0 = λ n. AreLogs c.in-Some-2.rest.now (drop n logs) behind
          × AreRefuted c.args.safe.now c.args.facts.now c.args.depth logs n in
          subst R up
          (one_refuted c.args.safe.now (asked_at c.args.facts.now c.args.depth)
          (groups c.args.facts.now + c.loop-place.place) c.in_ok-checker.checker.variables
          c.in_ok-checker.checker.clauses c.loop-place.left.now logs behind
          (omega (arith, c.loop-place-test.true, many))
          (of_behind (variables_of c.args.safe.now) c.args.facts.now c.args.depth
          c.loop-place.place _
          (ap V c.in_ok-checker.ensures ∙ c.in_ok-query.ensures.query.variables))
          (of_behind (clauses_of c.args.safe.now) c.args.facts.now c.args.depth
          c.loop-place.place _
          (ap K c.in_ok-checker.ensures ∙ c.in_ok-query.ensures.query.clauses))
          c.in-Some-2.rest.now (subst P c.in-Some-2.is c.in_ok-rest.ensures.judged)
          (c.loop-place.invariant.going logs behind are many));
    }

pub returns-clause-judged : goal.returns-clause-judged
returns-clause-judged c = λ logs behind are many.
    let (left, right) = c.loop-place.invariant.going logs behind are many in
    let all : groups c.args.facts.now + c.loop-place.place ≡ length logs =
    omega (arith, many, c.loop-place-test.false, c.loop-place.auto.place-end) in
    let R : ℕ → Type 0 = AreRefuted c.args.safe.now c.args.facts.now c.args.depth logs in (
      subst R all right,
      none_left c.loop-place.left.now logs behind (groups c.args.facts.now + c.loop-place.place)
          (omega (arith, all)) left,
    )
