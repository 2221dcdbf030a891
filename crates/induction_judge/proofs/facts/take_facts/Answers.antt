use Rattle.std.proofs.Common.{◌+◌, ◌-◌, [], ◌∷◌, length, ap, subst, arith, length-append, Option}
use Rattle.std.specs.Option.{option_copied}
use Rattle.hy_text.specs.Lines.{left_len}
use Rattle.cnf_frames.specs.declared.facts.Fact.{Fact}
use Rattle.cert_text.specs.InductionLines.{SaysFact}
use Rattle.cert_text.proofs.OneReading.{one_fact}
use Rattle.induction_judge.specs.Reading.{IsFactTaken}
use Rattle.induction_judge.proofs.Starting.{all_taken, bad_fact, no_more_lines, one_start}
use Rattle.induction_judge.proofs.Walking.{one_taken, cut_line}
use Rattle.induction_judge.proofs.facts.take_facts.Goals as goal

pub returns-in_default-clause-taken : goal.returns-in_default-clause-taken
returns-in_default-clause-taken c = λ facts rest said start.
    no_more_lines c.args.clauses c.args.text.now c.loop-i.left.now c.split_line.result.0.now c.args.count
    (c.args.count - c.loop-i._i) c.loop-i.facts (omega (arith, c.loop-i-test.true))
    c.loop-i.invariant.left
    (cut_line c.split_line.ensures.lines c.in_default.is) facts rest said

pub returns-in_default-2-clause-taken : goal.returns-in_default-2-clause-taken
returns-in_default-2-clause-taken c =
    let P : Option Fact → Type 0 =
    IsFactTaken c.args.clauses c.args.latches c.split_line.result.0.now in
    bad_fact c.args.clauses c.args.latches c.args.text.now c.loop-i.left.now c.in-Some.rest.now
    c.split_line.result.0.now c.args.count (c.args.count - c.loop-i._i)
    (c.args.count - (c.loop-i._i + 1)) c.loop-i.facts (omega (arith, c.loop-i-test.true))
    c.loop-i.invariant.left
    (cut_line c.split_line.ensures.lines c.in-Some.is) (subst P c.in_default-2.is c.in_ok-fact.ensures)

pub loop-i-preserved : goal.loop-i-preserved
loop-i-preserved c =
    let P : Option Fact → Type 0 =
    IsFactTaken c.args.clauses c.args.latches c.split_line.result.0.now in
    let (says, start) = subst P c.in-Some-2.is c.in_ok-fact.ensures in
    let added = c.in_ok-push.ensures.added in
    let shorter = ap (λ o. left_len (option_copied o)) c.in-Some.is in
    record {
      left =
          one_taken (SaysFact c.args.clauses) (one_fact c.args.clauses) c.args.text.now c.loop-i.left.now c.in-Some.rest.now
          c.split_line.result.0.now c.args.count (c.args.count - c.loop-i._i)
          (c.args.count - (c.loop-i._i + 1)) c.loop-i.facts c.push.new.self
          c.in-Some-2.fact (omega (arith, c.loop-i-test.true)) c.loop-i.invariant.left
          (cut_line c.split_line.ensures.lines c.in-Some.is) says added;
      starts =
          one_start c.args.latches c.loop-i.facts c.push.new.self c.in-Some-2.fact
          c.loop-i.invariant.starts start added;
      few =
          omega (
            arith,
            ap length added,
            length-append c.loop-i.facts (c.in-Some-2.fact ∷ []),
            c.loop-i.invariant.few,
          );
      shorter =
          omega (arith, shorter, c.split_line.ensures.fewer, c.loop-i.invariant.shorter);
    }

pub returns-clause-taken : goal.returns-clause-taken
returns-clause-taken c =
    all_taken c.args.clauses c.args.text.now c.loop-i.left.now c.args.count (c.args.count - c.loop-i._i)
    c.loop-i.facts (omega (arith, c.loop-i-test.false)) c.loop-i.invariant.left
