use Rattle.std.proofs.Common.{◌-◌, ℕ, List, nat_eq, Some, None, sym, subst}
use Rattle.trace_trie.specs.Cursors.{rests_at}
use Rattle.tuple_walk.specs.Pairs.{pair_of}
use Rattle.tuple_walk.specs.Searches.{AreRejected}
use Rattle.tuple_walk.specs.Serving.{sought_of}
use Rattle.tuple_walk.specs.Walks.{machine_in, rests_in}
use Rattle.tuple_walk.proofs.Pairs.{beside-search, beside-steps}
use Rattle.tuple_walk.proofs.walk.Walk.search_pair.Goals as goal

pub returns-in-Some-clause-searched : goal.returns-in-Some-clause-searched
returns-in-Some-clause-searched g c =
    let w = c.args.self.now in
    let P : List ℕ → Type 0 = AreRejected (sought_of c.args.given.now) (machine_in w) w.lengths
    c.args.q (rests_in w c.args.places.now) in
    subst P (sym c.pair.ensures)
    (beside-search (sought_of c.args.given.now) c.args.places.now (machine_in w).variables c.args.place
    c.requires.two c.requires.only c.requires.ready c.places_of-other.result.1 c.at.result
    c.places_of-other.ensures.other c.at.ensures (rests_at c.node-node.result) c.node-node.ensures
    (machine_in w) w.lengths c.args.q
    (Some (pair_of (nat_eq c.args.place 0) c.args.given.now.number c.in-Some.number))
    (c.in-Some.ensures.searched c.args.given.now.number))

pub returns-in-Some-clause-counted : goal.returns-in-Some-clause-counted
returns-in-Some-clause-counted g c =
    let w = c.args.self.now in
    beside-steps (sought_of c.args.given.now) c.args.places.now (machine_in w).variables c.args.place
    c.requires.two c.requires.only c.requires.ready c.places_of-other.result.1 c.at.result
    c.places_of-other.ensures.other c.at.ensures (rests_at c.node-node.result) c.node-node.ensures
    w.lengths (c.search_beside.new.steps - c.args.steps.now)
    (c.search_beside.ensures.counted c.args.given.now.number)

pub returns-in-None-clause-searched : goal.returns-in-None-clause-searched
returns-in-None-clause-searched g c =
    let w = c.args.self.now in
    beside-search (sought_of c.args.given.now) c.args.places.now (machine_in w).variables c.args.place
    c.requires.two c.requires.only c.requires.ready c.places_of-other.result.1 c.at.result
    c.places_of-other.ensures.other c.at.ensures (rests_at c.node-node.result) c.node-node.ensures
    (machine_in w) w.lengths c.args.q None (c.in-None.ensures.searched c.args.given.now.number)

pub returns-in-None-clause-counted : goal.returns-in-None-clause-counted
returns-in-None-clause-counted g c =
    let w = c.args.self.now in
    beside-steps (sought_of c.args.given.now) c.args.places.now (machine_in w).variables c.args.place
    c.requires.two c.requires.only c.requires.ready c.places_of-other.result.1 c.at.result
    c.places_of-other.ensures.other c.at.ensures (rests_at c.node-node.result) c.node-node.ensures
    w.lengths (c.search_beside.new.steps - c.args.steps.now)
    (c.search_beside.ensures.counted c.args.given.now.number)
