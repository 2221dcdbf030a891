use Rattle.std.proofs.Common.{◌-◌, ℕ, List, sym, ap, ◌∙◌, subst}
use Rattle.trace_trie.specs.Numbered.{Numbered}
use Rattle.tuple_walk.specs.Places.{rests_of}
use Rattle.tuple_walk.specs.Four.{four}
use Rattle.tuple_walk.specs.Searches.{IsSearch, AreReady, AreSteps}
use Rattle.tuple_walk.specs.Serving.{sought_of}
use Rattle.tuple_walk.specs.Walks.{machine_in, rests_in}
use Rattle.tuple_walk.proofs.Starting.{all-left}
use Rattle.tuple_walk.proofs.walk.Walk.search_root.Goals as goal

pub search_left-requires-clause-ready : goal.search_left-requires-clause-ready
search_left-requires-clause-ready g c =
    let w = c.args.self.now in
    let n = (machine_in w).variables in
    let same = all-left n (four c.all-places.result) c.at.result c.args.version.now
    w.monitor.monitor.now.right.few c.all-places.ensures
    (ap rests_of c.at.ensures.spot ∙ c.of.ensures ∙ c.root.ensures) in
    subst (AreReady (sought_of c.args.given.now)) (sym same) c.requires.ready

pub returns-clause-searched : goal.returns-clause-searched
returns-clause-searched g c =
    let w = c.args.self.now in
    let m = machine_in w in
    let s = sought_of c.args.given.now in
    let same = all-left m.variables (four c.all-places.result) c.at.result c.args.version.now
    w.monitor.monitor.now.right.few c.all-places.ensures
    (ap rests_of c.at.ensures.spot ∙ c.of.ensures ∙ c.root.ensures) in
    let P : List (List Numbered) → Type 0 = λ lists.
    IsSearch s m w.lengths 0 0 lists c.search_left.result in
    let Q : ℕ → Type 0 = λ q.
    IsSearch s m w.lengths q 0 (rests_in w c.all-places.result) c.search_left.result in
    subst P same (subst Q c.start.ensures.start c.search_left.ensures.searched)

pub returns-clause-counted : goal.returns-clause-counted
returns-clause-counted g c =
    let w = c.args.self.now in
    let n = (machine_in w).variables in
    let same = all-left n (four c.all-places.result) c.at.result c.args.version.now
    w.monitor.monitor.now.right.few c.all-places.ensures
    (ap rests_of c.at.ensures.spot ∙ c.of.ensures ∙ c.root.ensures) in
    let P : List (List Numbered) → Type 0 = λ lists.
    AreSteps (sought_of c.args.given.now) w.lengths lists (c.search_left.new.steps - c.args.steps.now) in
    subst P same c.search_left.ensures.counted
