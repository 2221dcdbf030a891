use Rattle.std.proofs.Common.{◌≡◌, ◌≤◌, List, [], get_or, sym, ◌∙◌, subst, arith, below_more}
use Rattle.std.proofs.lemmas.List.{get_or_default}
use Rattle.trace_trie.specs.Numbered.{Numbered}
use Rattle.tuple_walk.specs.Four.{four}
use Rattle.tuple_walk.specs.Places.{HasEnded}
use Rattle.tuple_walk.specs.Walks.{machine_in, rests_in}
use Rattle.tuple_walk.proofs.Nexts.{long-places}
use Rattle.tuple_walk.proofs.Placing.{at-left}
use Rattle.tuple_walk.proofs.Scanning.{at-member, has-ended, none-ended}
use Rattle.tuple_walk.proofs.Stepping.{left_at}
use Rattle.tuple_walk.proofs.walk.Walk.some_ended.Goals as goal

pub loop-i-init : goal.loop-i-init
loop-i-init g c = λ k lt. absurd (omega arith)

pub returns-then-is_some-clause-yes : goal.returns-then-is_some-clause-yes
returns-then-is_some-clause-yes g c = (
  left_at c.at.result,
  at-member (machine_in c.args.self.now).variables c.loop-i.i (four c.args.places.now) c.at.result
      (omega (arith, c.vars-i-end.ensures.vars)) c.at.ensures,
  has-ended c.ended.result (left_at c.at.result) (sym c.is_some.ensures ∙ c.if-is_some.true)
      c.ended.ensures.some,
)

pub loop-i-preserved : goal.loop-i-preserved
loop-i-preserved g c =
    let n = (machine_in c.args.self.now).variables in
    let P : List Numbered → Type 0 = λ l. ¬ HasEnded l in
    below_more (λ k. ¬ HasEnded (get_or (rests_in c.args.self.now c.args.places.now) k [])) _
    c.loop-i.invariant
    (subst P (sym (at-left n c.loop-i.i (four c.args.places.now) c.at.result
    (omega (arith, c.vars-i-end.ensures.vars)) c.at.ensures))
    (none-ended c.ended.result (left_at c.at.result) (sym c.is_some.ensures ∙ c.if-is_some.false)
    c.ended.ensures.none))

pub returns-clause-no : goal.returns-clause-no
returns-clause-no g c = λ (l, (k, lt, e), ended).
    let w = c.args.self.now in
    let rests = rests_in w c.args.places.now in
    let few : (machine_in w).variables ≤ 4 = w.monitor.monitor.now.right.few in
    let long = long-places (machine_in w).variables left_at (four c.args.places.now) few in
    let is : get_or rests k [] ≡ l = get_or_default rests k [] l lt ∙ e in
    c.loop-i.invariant k (omega (arith, c.vars-i-end.ensures.vars, long))
    (subst HasEnded (sym is) ended)
