use Rattle.std.proofs.Common.{ℕ, ◌<◌, ◌≤◌, List, drop, length, ◌∙◌, ap, subst, arith, Option, IfSome}
use denote.Ref.{Bor}
use Rattle.std.proofs.lemmas.Result.{err_from_is_err_and}
use Rattle.chain_check.specs.Clauses.{Clause}
use Rattle.chain_check.specs.Known.{Known}
use Rattle.cnf_frames.specs.declared.queries.Asked.TheVariants.{Keep}
use Rattle.cnf_frames.specs.Queries.{groups}
use Rattle.induction_judge.specs.Keeps.{AreKeepsRefuted}
use Rattle.induction_judge.specs.Reading.{AreLogs, IsLogJudged}
use Rattle.induction_judge.proofs.Places.{none_kept, not_refuted, one_refuted}
use Rattle.induction_judge.proofs.keeps.past_keeps.Goals as goal

pub returns-then-groups-eq0-clause-judged : goal.returns-then-groups-eq0-clause-judged
returns-then-groups-eq0-clause-judged c = λ logs rest are many.
    none_kept c.args.safe.now c.args.facts.now c.args.text.now logs rest
    (omega (arith, c.groups_of-groups.ensures.groups, c.if-groups-eq0.true)) are

pub returns-in_err-restart-clause-refused : goal.returns-in_err-restart-clause-refused
returns-in_err-restart-clause-refused c =
    let p = err_from_is_err_and c.from_residual-in_err-restart.result
    c.from_residual-in_err-restart.ensures.1 in
    let few : c.loop-group.group < groups c.args.facts.now =
    omega (arith, c.loop-group-test.true, c.groups_of-groups.ensures.groups) in
    rw (p.1, p.2) (c.loop-group.group, few, tt)

pub returns-in_err-rest-clause-refused : goal.returns-in_err-rest-clause-refused
returns-in_err-rest-clause-refused c =
    let p = err_from_is_err_and c.from_residual-in_err-rest.result
    c.from_residual-in_err-rest.ensures.1 in
    let few : c.loop-group.group < groups c.args.facts.now =
    omega (arith, c.loop-group-test.true, c.groups_of-groups.ensures.groups) in
    rw (p.1, p.2) (c.loop-group.group, few, tt)

pub restart-requires : goal.restart-requires
restart-requires c =
    omega (arith, c.in_ok-front.ensures.front.variables, c.in_ok-others.ensures.rest.variables)

pub past_log-requires-clause-variables : goal.past_log-requires-clause-variables
past_log-requires-clause-variables c =
    let V : Known → ℕ = λ k. k.variables in
    omega (arith, ap V c.in_ok-restart.ensures.started, c.in_ok-others.others.few_variables)

pub past_log-requires-clause-few : goal.past_log-requires-clause-few
past_log-requires-clause-few c =
    let K : Known → List Clause = λ k. k.clauses in
    omega (arith, ap length (ap K c.in_ok-restart.ensures.started), c.in_ok-others.ensures.rest.few)

pub returns-in_default-clause-judged : goal.returns-in_default-clause-judged
returns-in_default-clause-judged c = λ logs behind are many right.
    let V : Known → ℕ = λ k. k.variables in
    let K : Known → List Clause = λ k. k.clauses in
    let P : Option (Bor (List ℕ)) → Type 0 =
    IsLogJudged c.restart.new.self.variables c.restart.new.self.clauses c.loop-group.left.now in
    let (left, before) = c.loop-group.invariant.going logs behind are many in
    let few : c.loop-group.group < groups c.args.facts.now =
    omega (arith, c.loop-group-test.true, c.groups_of-groups.ensures.groups) in
    not_refuted c.args.safe.now (Keep c.args.facts.now) c.loop-group.group
    c.restart.new.self.variables c.restart.new.self.clauses c.loop-group.left.now logs
    behind (omega (arith, few, many))
    (ap V c.in_ok-restart.ensures.started ∙ c.in_ok-others.ensures.rest.variables)
    (ap K c.in_ok-restart.ensures.started ∙ c.in_ok-others.ensures.rest.clauses)
    (subst P c.in_default.is c.in_ok-rest.ensures.judged) left (groups c.args.facts.now) few right

pub loop-group-preserved : goal.loop-group-preserved
loop-group-preserved c =
    let V : Known → ℕ = λ k. k.variables in
    let K : Known → List Clause = λ k. k.clauses in
    let P : Option (Bor (List ℕ)) → Type 0 =
    IsLogJudged c.restart.new.self.variables c.restart.new.self.clauses c.loop-group.left.now in
    let Q : Option (Bor (List ℕ)) → Type 0 =
    λ o. IfSome o (λ left. length left.now ≤ length c.loop-group.left.now) in
    let shorter = subst Q c.in-Some.is c.in_ok-rest.ensures.shorter in
    record {
      shorter = omega (arith, shorter, c.loop-group.invariant.shorter);
      going = λ logs behind are many.
          one_refuted c.args.safe.now (Keep c.args.facts.now) c.loop-group.group
          c.restart.new.self.variables c.restart.new.self.clauses c.loop-group.left.now logs
          behind (omega (arith, c.loop-group-test.true, c.groups_of-groups.ensures.groups, many))
          (ap V c.in_ok-restart.ensures.started ∙ c.in_ok-others.ensures.rest.variables)
          (ap K c.in_ok-restart.ensures.started ∙ c.in_ok-others.ensures.rest.clauses)
          c.in-Some.rest.now (subst P c.in-Some.is c.in_ok-rest.ensures.judged)
          (c.loop-group.invariant.going logs behind are many);
    }

pub returns-clause-judged : goal.returns-clause-judged
returns-clause-judged c = λ logs behind are many.
    let R : ℕ → Type 0 = λ n. AreLogs c.loop-group.left.now (drop n logs) behind
    × AreKeepsRefuted c.args.safe.now c.args.facts.now logs n in
    subst R
    (omega (arith, c.loop-group-test.false, c.loop-group.auto.group-end, c.groups_of-groups.ensures.groups))
    (c.loop-group.invariant.going logs behind are many)
