use Rattle.std.proofs.Common.{◌≡◌, ◌<◌, ◌≤◌, Bool, if◌then◌else◌, List, length, ap, sym, subst, arith}
use Rattle.hy_formula.specs.Quantifiers.{Each}
use Rattle.hy_formula.proofs.Each as each
use Rattle.trace_trie.specs.Numbered.{Numbered}
use Rattle.rv_core.specs.Keeping.{kept_at}
use Rattle.rv_core.specs.Seen.{held}
use Rattle.rv_core.proofs.Places.{each-at}
use Rattle.rv_core.proofs.Seeing.{kept-there}
use Rattle.rv_core.proofs.Sifting.{rest-start, rest-head, rest-next, rest-contains}
use Rattle.rv_core.proofs.rv.Rv.kept.Goals as goal

pub loop-number-init : goal.loop-number-init
loop-number-init c =
    record {
      counted = omega (arith, ap length (rest-start c.at-version.result.now));
      few = omega arith;
    }

pub prove-unreachable-requires : goal.prove-unreachable-requires
prove-unreachable-requires c =
    let list = c.at-version.result.now in
    let p : Numbered = (c.in-Some.number, c.in-Some.field-0-1.now) in
    let (more, e) = c.in-Some.ensures.some in
    let below = each-at
    (λ (list : List Numbered). Each (λ (q : Numbered). q.0 < c.args.self.now.traces) list)
    c.args.self.now.kept c.args.spec list c.args.self.now.below.1 c.at-version.ensures in
    let lt : c.in-Some.number < c.args.self.now.traces =
    each.each-at (λ (q : Numbered). q.0 < c.args.self.now.traces) list p below
    (rest-contains c.loop-number.from list p more e) in
    omega arith

pub overflow_add-count : goal.overflow_add-count
overflow_add-count c =
    let list = c.at-version.result.now in
    let p : Numbered = (c.in-Some.number, c.in-Some.field-0-1.now) in
    let (more, e) = c.in-Some.ensures.some in
    let le : c.loop-number.from ≤ c.in-Some.number = rest-head c.loop-number.from list p more e in
    omega arith

pub loop-number-smaller : goal.loop-number-smaller
loop-number-smaller c =
    let list = c.at-version.result.now in
    let p : Numbered = (c.in-Some.number, c.in-Some.field-0-1.now) in
    let (more, e) = c.in-Some.ensures.some in
    let next = rest-next c.loop-number.from list p more c.numbers_ascend.ensures.ascending e in
    omega (arith, ap length e, ap length next)

pub loop-number-preserved : goal.loop-number-preserved
loop-number-preserved c =
    let list = c.at-version.result.now in
    let p : Numbered = (c.in-Some.number, c.in-Some.field-0-1.now) in
    let (more, e) = c.in-Some.ensures.some in
    let le : c.loop-number.from ≤ c.in-Some.number = rest-head c.loop-number.from list p more e in
    let next = rest-next c.loop-number.from list p more c.numbers_ascend.ensures.ascending e in
    record {
      counted = omega (arith, ap length e, ap length next, c.loop-number.invariant.counted);
      few = omega (arith, c.loop-number.invariant.few);
    }

pub returns : goal.returns
returns c =
    let m = held c.args.self.now in
    let list = c.at-version.result.now in
    let none = c.in_default.ensures.none in
    let same = kept-there m.kept c.args.spec list c.at-version.ensures in
    let P : Bool → Type 0 =
    λ b. c.loop-number.count ≡ (if b then length (kept_at m.kept c.args.spec) else m.arrived) in
    subst P (sym c.if-not-self.false)
    (omega (arith, ap length none, ap length same, c.loop-number.invariant.counted))
