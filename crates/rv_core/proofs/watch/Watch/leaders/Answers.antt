use Rattle.std.proofs.Common.{◌≡◌, ◌<◌, true, false, ◌+◌, List, length, ap, sym, ◌∙◌, subst, arith}
use Rattle.hy_formula.specs.Quantifiers.{Each}
use Rattle.hy_formula.proofs.Each.{each-filter, each-at}
use Rattle.trace_trie.specs.Numbered.{Numbered}
use Rattle.rv_core.specs.Arrivals.{IsOver, IsUnder, over}
use Rattle.rv_core.specs.Seen.{watched}
use Rattle.rv_core.proofs.Places.{ok-more}
use Rattle.rv_core.proofs.Sifting.{IsSifted, rest-next, rest-contains, sifted-start, sifted-stays, sifted-dropped, sifted-end}
use Rattle.rv_core.proofs.watch.Watch.leaders.Goals as goal
use Rattle.rv_core.proofs.watch.Watch.leaders.Goals.{then-order-2+in_ok-left-2, else-order-2}

differ : ¬ (false ≡ true)
differ e = cc

pub loop-other-init : goal.loop-other-init
loop-other-init c =
    let m = watched c.args.self.now in
    let P : List Numbered → Type 0 =
    IsSifted c.args.rule true m c.args.trace.now c.args.kept.now 0 in
    let Q : List Numbered → Type 0 = Each (λ (p : Numbered). p.0 < c.args.number) in
    record {
      sifted = subst P (sym c.in_ok-left.ensures)
          (sifted-start c.args.rule true m c.args.trace.now c.args.kept.now);
      below = subst Q (sym c.in_ok-left.ensures) c.requires;
    }

pub returns-then-order : goal.returns-then-order
returns-then-order c =
    let p : Numbered = (c.in-Some.other, c.in-Some.held.now) in
    let (more, e) = c.in-Some.ensures.some in
    let has = rest-contains c.loop-other.from c.args.kept.now p more e in
    ok-more c.share-then-order.result
    (λ made same. over p has (c.in_ok-order.ensures.over.0 c.if-order.true) same)
    c.share-then-order.ensures

pub overflow_add-from : goal.overflow_add-from
overflow_add-from c =
    let p : Numbered = (c.in-Some.other, c.in-Some.held.now) in
    let (more, e) = c.in-Some.ensures.some in
    let has = rest-contains c.loop-other.from c.args.kept.now p more e in
    let lt : c.in-Some.other < c.args.number =
    each-at (λ (q : Numbered). q.0 < c.args.number) c.args.kept.now p c.requires has in
    omega arith

pub loop-other-smaller : goal.loop-other-smaller
loop-other-smaller c =
    let p : Numbered = (c.in-Some.other, c.in-Some.held.now) in
    let (more, e) = c.in-Some.ensures.some in
    let next =
    rest-next c.loop-other.from c.args.kept.now p more c.numbers_ascend.ensures.ascending e in
    omega (arith, ap length e, ap length next)

pub loop-other-preserved : goal.loop-other-preserved
loop-other-preserved c =
    let rule = c.args.rule in
    let m = watched c.args.self.now in
    let t = c.args.trace.now in
    let kept = c.args.kept.now in
    let from = c.loop-other.from in
    let p : Numbered = (c.in-Some.other, c.in-Some.held.now) in
    let (more, e) = c.in-Some.ensures.some in
    let ascending = c.numbers_ascend.ensures.ascending in
    let not_over : ¬ IsOver rule true m t p =
    λ is. differ (sym c.if-order.false ∙ c.in_ok-order.ensures.over.1 is) in
    let P : List Numbered → Type 0 =
    IsSifted rule true m t kept (c.in-Some.other + 1) in
    let Q : List Numbered → Type 0 = Each (λ (p : Numbered). p.0 < c.args.number) in
    elim c.if-order-2.branch [
      | then-order-2+in_ok-left-2 w ↦
          let same = w.left-is ∙ w.in_ok-left-2.ensures in
          record {
            sifted = subst P (sym same) (sifted-dropped rule true m t kept from
                c.loop-other.left p more c.loop-other.invariant.sifted ascending e not_over
                (c.in_ok-order.ensures.under.0 w.if-order-2.true));
            below = subst Q (sym same)
                (each-filter (λ (p : Numbered). p.0 < c.args.number) _ c.loop-other.left c.loop-other.invariant.below);
          }
      | else-order-2 w ↦
          let not_under : ¬ IsUnder rule true m t p =
          λ is. differ (sym w.if-order-2.false ∙ c.in_ok-order.ensures.under.1 is) in
          record {
            sifted = subst P (sym w.left-is) (sifted-stays rule true m t kept from
                c.loop-other.left p more c.loop-other.invariant.sifted ascending e not_over
                not_under);
            below = subst Q (sym w.left-is) c.loop-other.invariant.below;
          }
    ]

pub returns : goal.returns
returns c =
    let m = watched c.args.self.now in
    ok-more c.insert.result
    (λ made added. sifted-end c.args.rule true m c.args.trace.now c.args.number c.args.kept.now
    c.loop-other.from c.loop-other.left made c.loop-other.invariant.sifted
    c.in_default.ensures.none added)
    c.insert.ensures
