use Rattle.std.proofs.Common.{◌≡◌, ◌+◌, ◌<◌, ◌≤◌, ℕ, suc, List, [], ◌∷◌, ◌++◌, length, set, take, Option, IfNone, refl, sym, ap, ◌∙◌, subst, arith, length-set}
use Rattle.std.proofs.Math.Seq.{take-suc-set}
use Rattle.std.proofs.lemmas.List.{map_push, take_all}
use Rattle.hy_formula.proofs.Each.{each-at}
use Rattle.trace_trie.specs.Numbered.{Numbered}
use Rattle.tuple_walk.specs.Finds.{numbers_of}
use Rattle.tuple_walk.specs.Four.{four}
use Rattle.tuple_walk.specs.Places.{AreSome}
use Rattle.tuple_walk.specs.Searches.{AreEnded}
use Rattle.tuple_walk.specs.Walks.{machine_in, rests_in}
use Rattle.tuple_walk.proofs.Nexts.{long-places}
use Rattle.tuple_walk.proofs.Scanning.{at-member, ended-more}
use Rattle.tuple_walk.proofs.Stepping.{left_at}
use Rattle.tuple_walk.proofs.walk.Walk.tuple_of.Goals as goal

pub loop-i-init : goal.loop-i-init
loop-i-init g c = (refl, ([], tt, refl))

pub returns-in_err-numbers-clause-none : goal.returns-in_err-numbers-clause-none
returns-in_err-numbers-clause-none g c =
    let w = c.args.self.now in
    let P : Option (List ℕ) → Type 0 = λ r. IfNone r (¬ AreSome (rests_in w c.args.places.now)) in
    let empty : left_at c.at.result ≡ [] = c.in_err-numbers.ensures.none in
    subst P (sym c.from_residual.ensures)
    (λ some.
    let here : 0 < length (left_at c.at.result) =
    each-at (λ (l : List Numbered). 0 < length l) (rests_in w c.args.places.now)
    (left_at c.at.result) some
    (at-member (machine_in w).variables c.loop-i.i (four c.args.places.now) c.at.result
    (omega (arith, c.vars-count.ensures.vars)) c.at.ensures) in
    let none = ap length empty in
    omega arith)

pub loop-i-preserved : goal.loop-i-preserved
loop-i-preserved g c =
    let w = c.args.self.now in
    let n = (machine_in w).variables in
    let i = c.loop-i.i in
    let rests = rests_in w c.args.places.now in
    let few : n ≤ 4 = w.monitor.monitor.now.right.few in
    let (long, (ps, ended, same)) = c.loop-i.invariant in
    let number = c.in_ok-numbers.field-0 in
    let (t, here, done) = c.in_ok-numbers.ensures.some in
    let lt : i < length c.loop-i.numbers = omega (arith, long, c.vars-count.ensures.vars) in
    let one : suc i ≡ i + 1 = omega arith in
    let P : ℕ → Type 0 = λ k. AreEnded (take k rests) (ps ++ (number, t) ∷ [])
    × (numbers_of (ps ++ (number, t) ∷ []) ≡ take k (set c.loop-i.numbers i number)) in
    let (e, f) = subst P one (
      ended-more n i (four c.args.places.now) c.at.result ps (number, t)
          (omega (arith, c.vars-count.ensures.vars)) c.at.ensures ended here done,
      map_push (λ (p : Numbered). p.0) ps (number, t)
          ∙ ap (λ l. l ++ number ∷ []) same
          ∙ sym (take-suc-set c.loop-i.numbers i number lt),
    ) in
    (length-set c.loop-i.numbers i number ∙ long, (ps ++ (number, t) ∷ [], e, f))

pub returns-clause-some : goal.returns-clause-some
returns-clause-some g c =
    let w = c.args.self.now in
    let rests = rests_in w c.args.places.now in
    let few : (machine_in w).variables ≤ 4 = w.monitor.monitor.now.right.few in
    let long = long-places (machine_in w).variables left_at (four c.args.places.now) few in
    let (l, (ps, ended, same)) = c.loop-i.invariant in
    let all : c.loop-i.i ≡ c.vars-count.result = omega arith in
    let P : List (List Numbered) → Type 0 = λ ls. AreEnded ls ps in (
      ps,
      subst P (take_all c.loop-i.i rests (omega (arith, c.vars-count.ensures.vars, long))) ended,
      same ∙ ap (λ k. take k c.loop-i.numbers) all ∙ sym c.new.ensures,
    )
