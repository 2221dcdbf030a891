use Rattle.std.proofs.Common.{◌≡◌, ◌<◌, List, length, set, IfSome, IfNone, ap, ◌∙◌, subst, arith}
use Rattle.std.proofs.lemmas.Bool.{OnTrue_at, OnFalse_at}
use Rattle.trace_trie.specs.Numbered.{Numbered}
use Rattle.tuple_walk.specs.Finds.{numbers_of}
use Rattle.tuple_walk.specs.Four.{four}
use Rattle.tuple_walk.specs.Places.{AreSome}
use Rattle.tuple_walk.specs.Searches.{CanStop, AreEnded}
use Rattle.tuple_walk.specs.Serving.{sought_of}
use Rattle.tuple_walk.specs.Walks.{machine_in, rests_in}
use Rattle.tuple_walk.proofs.Coming.{marked-at}
use Rattle.tuple_walk.proofs.Nexts.{long-places}
use Rattle.tuple_walk.proofs.Placing.{lists-set}
use Rattle.tuple_walk.proofs.Stepping.{left_at}
use Rattle.tuple_walk.proofs.Stopping.{stopped-with, some-stopped, goes-with}
use Rattle.tuple_walk.proofs.walk.Walk.stopped_with.Goals as goal

pub returns-then-stops-clause-stopped : goal.returns-then-stops-clause-stopped
returns-then-stops-clause-stopped g c =
    let w = c.args.self.now in
    let n = (machine_in w).variables in
    let s = sought_of c.args.given.now in
    let ps = four c.args.places.now in
    let ls = rests_in w c.args.places.now in
    let lt : c.args.i < length ls =
    omega (arith, c.requires.within, long-places n left_at ps w.monitor.monitor.now.right.few) in
    let is = lists-set left_at n ps c.args.i c.place.result (four c.with-with.result) c.with-with.ensures
    ∙ ap (set ls c.args.i) c.place.ensures.alone in
    let P : List (List Numbered) → Type 0 = λ l. IfSome c.tuple_of.result (λ numbers. (qs : List Numbered)
    × AreEnded l qs × (numbers_of qs ≡ numbers)) in
    let Q : List (List Numbered) → Type 0 = CanStop w.lengths in
    stopped-with s w.lengths ls c.requires.ready c.args.i lt
    (marked-at c.args.given.now.stands c.args.i c.if-not-given-i.false) c.tuple_of.result
    (subst P is c.tuple_of.ensures.some) (subst Q is (OnTrue_at c.if-stops.true c.stops.ensures.yes))

pub returns-then-stops-clause-none : goal.returns-then-stops-clause-none
returns-then-stops-clause-none g c =
    let w = c.args.self.now in
    let n = (machine_in w).variables in
    let s = sought_of c.args.given.now in
    let ps = four c.args.places.now in
    let ls = rests_in w c.args.places.now in
    let lt : c.args.i < length ls =
    omega (arith, c.requires.within, long-places n left_at ps w.monitor.monitor.now.right.few) in
    let is = lists-set left_at n ps c.args.i c.place.result (four c.with-with.result) c.with-with.ensures
    ∙ ap (set ls c.args.i) c.place.ensures.alone in
    let P : List (List Numbered) → Type 0 = λ l. IfNone c.tuple_of.result (¬ AreSome l) in
    some-stopped s w.lengths ls c.requires.ready c.args.i lt
    (marked-at c.args.given.now.stands c.args.i c.if-not-given-i.false) c.tuple_of.result
    (subst P is c.tuple_of.ensures.none) _

pub returns-else-stops-clause-none : goal.returns-else-stops-clause-none
returns-else-stops-clause-none g c tuple h marked at =
    let w = c.args.self.now in
    let n = (machine_in w).variables in
    let s = sought_of c.args.given.now in
    let ps = four c.args.places.now in
    let ls = rests_in w c.args.places.now in
    let lt : c.args.i < length ls =
    omega (arith, c.requires.within, long-places n left_at ps w.monitor.monitor.now.right.few) in
    let is = lists-set left_at n ps c.args.i c.place.result (four c.with-with.result) c.with-with.ensures
    ∙ ap (set ls c.args.i) c.place.ensures.alone in
    let P : List (List Numbered) → Type 0 = λ l. ¬ CanStop w.lengths l in
    goes-with s w.lengths ls c.requires.ready c.args.i lt marked
    (subst P is (OnFalse_at c.if-stops.false c.stops.ensures.no)) tuple h at
