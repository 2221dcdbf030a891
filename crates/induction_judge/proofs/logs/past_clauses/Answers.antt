use Rattle.std.proofs.Common.{◌≡◌, ℕ, ◌+◌, ◌-◌, ◌<◌, Bool, true, false, List, [], ◌∷◌, ◌++◌, length, refl, sym, ◌∙◌, ap, subst, arith, length-append}
use Rattle.std.specs.Option.{option_copied}
use Rattle.chain_check.specs.Clauses.{Clause}
use Rattle.chain_check.specs.Known.{Known}
use Rattle.hy_text.specs.Lines.{left_len}
use Rattle.cert_text.specs.Shortened.{IsLearnedRead}
use Rattle.induction_judge.proofs.Walking.{cut_line}
use Rattle.induction_judge.proofs.Ending.{going_first, going_on, cut_short, says_nothing, not_following, as_tried, at_end}
use Rattle.induction_judge.proofs.logs.past_clauses.Goals as goal

pub loop-i-init : goal.loop-i-init
loop-i-init c = record {
  same = refl;
  few = omega arith;
  shorter = omega arith;
  going = going_first c.args.checker.now.variables c.args.checker.now.clauses
      c.args.checker.now.clauses c.args.text.now c.args.count (c.args.count - 0)
      ((0 < 0) × (c.new-clause.result ≡ [])) (omega arith) refl
      (λ (some, _). omega (arith, some));
}

pub returns-in_default-clause-judged : goal.returns-in_default-clause-judged
returns-in_default-clause-judged c = λ log rest said refutes.
    cut_short c.args.checker.now.variables c.args.checker.now.clauses c.args.text.now c.args.count
    c.loop-i.left.now c.split_line.result.0.now (c.args.count - c.loop-i._i)
    c.loop-i.checker.clauses ((0 < c.loop-i._i) × (c.loop-i.clause ≡ []))
    (omega (arith, c.loop-i-test.true))
    (cut_line c.split_line.ensures.lines c.in_default.is) c.loop-i.invariant.going log rest said

pub returns-then-not-branch-clause-judged : goal.returns-then-not-branch-clause-judged
returns-then-not-branch-clause-judged c = λ log rest said refutes.
    let P : Bool → Type 0 = λ b.
    IsLearnedRead c.split_line.result.0.now b c.read_learned.new.clause c.read_learned.new.chain in
    says_nothing c.args.checker.now.variables c.args.checker.now.clauses c.args.text.now c.args.count
    c.loop-i.left.now c.in-Some.rest.now c.split_line.result.0.now (c.args.count - c.loop-i._i)
    (c.args.count - (c.loop-i._i + 1)) c.loop-i.checker.clauses
    ((0 < c.loop-i._i) × (c.loop-i.clause ≡ [])) (omega (arith, c.loop-i-test.true))
    (cut_line c.split_line.ensures.lines c.in-Some.is) (subst P c.if-not-branch.true c.in_ok-read_learned.ensures)
    c.loop-i.invariant.going log rest said

pub returns-then-not-branch-2-clause-judged : goal.returns-then-not-branch-2-clause-judged
returns-then-not-branch-2-clause-judged c =
    let P : Bool → Type 0 = λ b.
    IsLearnedRead c.split_line.result.0.now b c.read_learned.new.clause c.read_learned.new.chain in
    let tried = as_tried c.loop-i.invariant.same c.as_slice.ensures c.as_slice-in-loop-i.ensures
    c.in_ok-next.ensures.exact in
    not_following c.args.checker.now.variables c.args.checker.now.clauses c.args.text.now c.args.count
    c.loop-i.left.now c.in-Some.rest.now c.split_line.result.0.now (c.args.count - c.loop-i._i)
    (c.args.count - (c.loop-i._i + 1)) c.loop-i.checker.clauses
    ((0 < c.loop-i._i) × (c.loop-i.clause ≡ [])) c.read_learned.new.clause
    c.read_learned.new.chain c.requires.variables
    (omega (arith, c.loop-i.invariant.few, c.requires.few, c.requires.short))
    (omega (arith, c.loop-i-test.true))
    (cut_line c.split_line.ensures.lines c.in-Some.is) (subst P c.if-not-branch.false c.in_ok-read_learned.ensures)
    (λ follows.
    let clash : false ≡ true = sym c.if-not-branch-2.true ∙ tried.1 follows in absurd (cc))
    c.loop-i.invariant.going

pub loop-i-preserved : goal.loop-i-preserved
loop-i-preserved c =
    let P : Bool → Type 0 = λ b.
    IsLearnedRead c.split_line.result.0.now b c.read_learned.new.clause c.read_learned.new.chain in
    let tried = as_tried c.loop-i.invariant.same c.as_slice.ensures c.as_slice-in-loop-i.ensures
    c.in_ok-next.ensures.exact in
    let V : Known → ℕ = λ k. k.variables in
    let K : Known → List Clause = λ k. k.clauses in
    let now = c.in_ok-next.ensures.learned c.if-not-branch-2.false in
    let known : c.next.new.self.clauses
    ≡ c.loop-i.checker.clauses ++ c.read_learned.new.clause ∷ [] =
    ap K now ∙ ap (λ d. c.loop-i.checker.clauses ++ d ∷ []) c.as_slice.ensures in
    let shorter = ap (λ o. left_len (option_copied o)) c.in-Some.is in
    record {
      same = ap V now ∙ c.loop-i.invariant.same;
      few =
          omega (
            arith,
            ap length known,
            length-append c.loop-i.checker.clauses (c.read_learned.new.clause ∷ []),
            shorter,
            c.split_line.ensures.fewer,
            c.loop-i.invariant.few,
          );
      shorter =
          omega (arith, shorter, c.split_line.ensures.fewer, c.loop-i.invariant.shorter);
      going =
          going_on c.args.checker.now.variables c.args.checker.now.clauses c.args.text.now c.args.count
          c.loop-i.left.now c.in-Some.rest.now c.split_line.result.0.now
          (c.args.count - c.loop-i._i) (c.args.count - (c.loop-i._i + 1))
          c.loop-i.checker.clauses c.next.new.self.clauses
          ((0 < c.loop-i._i) × (c.loop-i.clause ≡ []))
          ((0 < c.loop-i._i + 1) × (c.read_learned.new.clause ≡ [])) c.read_learned.new.clause
          c.read_learned.new.chain c.requires.variables
          (omega (arith, c.loop-i.invariant.few, c.requires.few, c.requires.short))
          (omega (arith, c.loop-i-test.true))
          (cut_line c.split_line.ensures.lines c.in-Some.is) (subst P c.if-not-branch.false c.in_ok-read_learned.ensures)
          (tried.0 c.if-not-branch-2.false) known (λ e. (omega arith, e), λ (_, e). e)
          c.loop-i.invariant.going;
    }

pub returns-then-not-is_end-clause-judged : goal.returns-then-not-is_end-clause-judged
returns-then-not-is_end-clause-judged c = λ log rest said refutes.
    let ((ends, _), _) = at_end c.args.checker.now.variables c.args.checker.now.clauses c.args.text.now
    c.args.count c.loop-i.left.now (c.args.count - c.loop-i._i) c.loop-i.checker.clauses
    ((0 < c.loop-i._i) × (c.loop-i.clause ≡ [])) (omega (arith, c.loop-i-test.false))
    c.loop-i.invariant.going log rest said in
    let (some, empty) = ends refutes in
    let clash : false ≡ true = sym c.if-not-is_end.true
    ∙ c.is_end.ensures.1 (omega (arith, some, c.loop-i.auto._i-end), empty) in
    absurd (cc)

pub returns-clause-judged : goal.returns-clause-judged
returns-clause-judged c = λ log rest said.
    let ((_, refutes), lines) = at_end c.args.checker.now.variables c.args.checker.now.clauses
    c.args.text.now c.args.count c.loop-i.left.now (c.args.count - c.loop-i._i)
    c.loop-i.checker.clauses ((0 < c.loop-i._i) × (c.loop-i.clause ≡ []))
    (omega (arith, c.loop-i-test.false)) c.loop-i.invariant.going log rest said in
    let (some, empty) = c.is_end.ensures.0 c.if-not-is_end.false in
    (refutes (omega (arith, some, c.loop-i-test.false), empty), lines)
