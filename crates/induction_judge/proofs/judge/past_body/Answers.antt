use Rattle.std.proofs.Common.{ℕ, List, refl, subst, arith, Option, ◌≤◌, length, IfSome}
use denote.Ref.{Bor}
use Rattle.std.proofs.lemmas.Result.{IfOk-weaker, IfErr-weaker, err_from_is_err_and}
use Rattle.cnf_frames.specs.declared.queries.Asked.TheVariants.{Step}
use Rattle.induction_judge.specs.Good.{IsRefusedOf}
use Rattle.induction_judge.specs.Judged.{AreLogsJudged}
use Rattle.induction_judge.specs.Reading.{AreFactsTaken}
use Rattle.induction_judge.proofs.Whole.{Judges, Refuses, bad_facts, judged, read_so, refused, too_deep, no_longer}
use Rattle.induction_judge.proofs.judge.past_body.Goals as goal

pub returns-then-depth-gt-MOST_DEPTH-clause-judged :
    goal.returns-then-depth-gt-MOST_DEPTH-clause-judged
returns-then-depth-gt-MOST_DEPTH-clause-judged c = λ proof rest body good.
    too_deep c.args.head.0 c.args.safe.now c.args.text.now c.args.head.1 c.args.head.2 proof rest body
    (omega (arith, c.if-depth-gt-MOST_DEPTH.true)) good

pub returns-in_err-logs-clause-refused : goal.returns-in_err-logs-clause-refused
returns-in_err-logs-clause-refused c =
    let p = err_from_is_err_and c.from_residual.result c.from_residual.ensures.1 in
    rw (p.1, p.2) (λ proof rest body. (Step proof.inv proof.depth, (refl, refl), tt))

pub returns-in_default-clause-judged : goal.returns-in_default-clause-judged
returns-in_default-clause-judged c = λ proof rest body good.
    let P : Option (Bor (List ℕ)) → Type 0 =
    λ o. AreFactsTaken c.args.head.0 c.latches_of-latches.result c.args.text.now c.args.head.2 o
    c.take_facts.new.facts in
    bad_facts c.args.head.0 c.args.safe.now c.args.text.now c.args.head.1 c.args.head.2 proof rest body
    c.latches_of-latches.result c.requires.safe c.latches_of-latches.ensures.count
    (subst P c.in_default.is c.in_ok-logs.ensures.taken) good

pub returns : goal.returns
returns c =
    let so = read_so c.args.head.0 c.args.safe.now c.latches_of-latches.result c.args.text.now
    c.in-Some.logs c.args.head.1 c.args.head.2 c.take_facts.new.facts c.in_ok-logs.field-0
    c.requires.safe c.latches_of-latches.ensures.count
    (omega (arith, c.if-depth-gt-MOST_DEPTH.false)) c.in_ok-logs.ensures.starts
    c.in_ok-logs.ensures.taken c.in-Some.is in
    record {
      judged =
          IfOk-weaker c.past_logs.result
          (AreLogsJudged c.args.safe.now c.take_facts.new.facts c.args.head.1 c.in-Some.logs.now)
          (Judges c.args.head.0 c.args.safe.now c.args.text.now c.args.head.1 c.args.head.2)
          (judged c.args.head.0 c.args.safe.now c.args.text.now c.in-Some.logs.now c.args.head.1
          c.args.head.2 c.take_facts.new.facts so)
          c.past_logs.ensures.judged;
      refused =
          IfErr-weaker c.past_logs.result
          (IsRefusedOf c.args.safe.now c.take_facts.new.facts c.args.head.1)
          (Refuses c.args.head.0 c.args.safe.now c.args.text.now c.args.head.1 c.args.head.2)
          (refused c.args.head.0 c.args.safe.now c.args.text.now c.in-Some.logs.now c.args.head.1
          c.args.head.2 c.take_facts.new.facts so)
          c.past_logs.ensures.refused;
      shorter =
          let Q : Option (Bor (List ℕ)) → Type 0 =
          λ o. IfSome o (λ left. length left.now ≤ length c.args.text.now) in
          let behind = subst Q c.in-Some.is c.in_ok-logs.ensures.shorter in
          IfOk-weaker c.past_logs.result _ _ (λ left. no_longer left
          c.in-Some.logs.now c.args.text.now behind) c.past_logs.ensures.shorter;
    }
