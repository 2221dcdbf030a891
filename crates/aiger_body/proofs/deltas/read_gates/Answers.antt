use Rattle.std.proofs.Common.{◌≡◌, ◌+◌, ◌-◌, ◌*◌, ◌/◌, ◌%◌, ◌∙◌, ℕ, suc, sym, ap, subst, arith, rules, None, List}
use Rattle.std.proofs.lemmas.Result.{err_from_is_err_and}
use Rattle.aiger_body.specs.declared.header.Header.{Header}
use Rattle.aig_order.specs.Firsts.{first_some}
use Rattle.aiger_body.specs.Files.{delta, binary_lhs}
use Rattle.aiger_body.specs.Outcomes.{of_number, greatest}
use Rattle.aiger_body.specs.Deltas.{IsNumberAt}
use Rattle.aig_order.proofs.Firsts.{first-here}
use Rattle.aiger_body.proofs.Stages.{tells_at}
use Rattle.aiger_body.proofs.Groups.{gates_more}
use Rattle.aiger_body.proofs.deltas.read_gates.Goals as goal

-- the bound of the second number of an and
greatest-second : (h : Header) (bytes : List ℕ) (k first : ℕ) → first ≡ delta h bytes (2 * k) → 2 * (1 + h.inputs + h.latches + k) - first ≡ greatest h bytes (2 * k + 1)
greatest-second h bytes k first is =
    let half : (2 * k + 1) / 2 ≡ k = omega arith in
    let odd : (2 * k + 1) % 2 ≡ 1 = omega arith in
    let last : 2 * k + 1 - 1 ≡ 2 * k = omega arith in
    let one : first ≡ 1 * delta h bytes (2 * k) = omega (arith, is) in
    ap (λ x. binary_lhs h k - x) one
    ∙ ap (λ n. binary_lhs h k - 1 * delta h bytes n) (sym last)
    ∙ ap (λ m. binary_lhs h k - m * delta h bytes (2 * k + 1 - 1)) (sym odd)
    ∙ ap (λ n. binary_lhs h n - (2 * k + 1) % 2 * delta h bytes (2 * k + 1 - 1)) (sym half)

pub returns-in_err-first : goal.returns-in_err-first
returns-in_err-first c =
    let p = err_from_is_err_and c.from_residual.result c.from_residual.ensures.1 in
    rw (p.1, p.2)
    (tells_at (of_number c.args.header.now c.args.bytes.now) (2 * c.loop-k.k) (2 * c.args.header.now.ands) c.in_err-first.field-0.0 c.loop-k.invariant.clear (omega (arith, c.loop-k-test.true)) c.in_err-first.ensures)

pub read_delta-requires-in-loop-k-clause-number : goal.read_delta-requires-in-loop-k-clause-number
read_delta-requires-in-loop-k-clause-number c =
    let P : ℕ → Type 0 = λ n. IsNumberAt c.args.header.now c.args.bytes.now n c.in_ok-first.next in
    let q : suc (2 * c.loop-k.k) ≡ 2 * c.loop-k.k + 1 = omega arith in
    subst P q c.in_ok-first.ensures.at

pub read_delta-requires-in-loop-k-clause-high : goal.read_delta-requires-in-loop-k-clause-high
read_delta-requires-in-loop-k-clause-high c = greatest-second c.args.header.now c.args.bytes.now c.loop-k.k c.in_ok-first.first c.in_ok-first.ensures.value_is

pub returns-in_err-second : goal.returns-in_err-second
returns-in_err-second c =
    let p = err_from_is_err_and c.from_residual-in_err-second.result c.from_residual-in_err-second.ensures.1 in
    let find = of_number c.args.header.now c.args.bytes.now in
    let q : 2 * c.loop-k.k + 1 ≡ suc (2 * c.loop-k.k) = omega arith in
    let clear : first_some (2 * c.loop-k.k + 1) find ≡ None = ap (λ n. first_some n find) q ∙ first-here find (2 * c.loop-k.k) c.loop-k.invariant.clear ∙ c.in_ok-first.ensures.clear in
    rw (p.1, p.2)
    (tells_at find (2 * c.loop-k.k + 1) (2 * c.args.header.now.ands) c.in_err-second.field-0.0 clear (omega (arith, c.loop-k-test.true)) c.in_err-second.ensures)

pub overflow_sub-left-in-loop-k : goal.overflow_sub-left-in-loop-k
overflow_sub-left-in-loop-k c = omega (arith, c.in_ok-second.ensures.high, greatest-second c.args.header.now c.args.bytes.now c.loop-k.k c.in_ok-first.first c.in_ok-first.ensures.value_is)

pub loop-k-preserved : goal.loop-k-preserved
loop-k-preserved c =
    let h = c.args.header.now in
    let bytes = c.args.bytes.now in
    let find = of_number h bytes in
    let q : 2 * c.loop-k.k + 1 ≡ suc (2 * c.loop-k.k) = omega arith in
    let clear : first_some (2 * c.loop-k.k + 1) find ≡ None = ap (λ n. first_some n find) q ∙ first-here find (2 * c.loop-k.k) c.loop-k.invariant.clear ∙ c.in_ok-first.ensures.clear in
    let r : suc (2 * c.loop-k.k + 1) ≡ 2 * (c.loop-k.k + 1) = omega arith in
    let P : ℕ → Type 0 = λ n. IsNumberAt h bytes n c.in_ok-second.end in
    record {
      clear = ap (λ n. first_some n find) (sym r) ∙ first-here find (2 * c.loop-k.k + 1) clear ∙ c.in_ok-second.ensures.clear;
      are = c.in_ok-push.ensures.added ∙ gates_more h bytes c.loop-k.k c.loop-k.gates _ _ _ c.in_ok-first.first c.in_ok-second.second c.loop-k.invariant.are (search rules) c.in_ok-first.ensures.value_is c.in_ok-second.ensures.value_is (search rules) (search rules);
      at = subst P r c.in_ok-second.ensures.at;
    }
