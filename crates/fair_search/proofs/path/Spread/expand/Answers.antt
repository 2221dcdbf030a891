use Rattle.std.proofs.Common.{◌≡◌, ◌≢◌, ◌<◌, ℕ, true, false, length, get_or, sym, ap, ◌∙◌, subst, arith, below_more}
use Rattle.std.proofs.lemmas.Option.{get_or_from_slice_get}
use Rattle.rank_check.specs.Graphs.{members_of, successors_of}
use Rattle.fair_search.specs.Paths.{no_reached, reached_at}
use Rattle.fair_search.proofs.Looking.{degree_is, member_is, edge_is}
use Rattle.fair_search.proofs.Spreading.{node_made, added_step, spent_from, grows_on, grown_at, grown_long}
use Rattle.fair_search.proofs.path.Spread.expand.Goals as goal

pub group_of-group-requires : goal.group_of-group-requires
group_of-group-requires g c =
    let p = c.args.self.now in
    let here = ap (λ r. r.node) (get_or_from_slice_get p.reached c.args.head c.at.result.now
    no_reached c.at.ensures) in
    omega (
      arith,
      here,
      node_made c.args.g.now p.seen p.reached c.requires.spread c.args.head
          c.requires.there,
    )

pub returns-then-next-to-clause-found : goal.returns-then-next-to-clause-found
returns-then-next-to-clause-found g c =
    let p = c.args.self.now in
    let node = c.at.result.now.node in
    let here = ap (λ r. r.node) (get_or_from_slice_get p.reached c.args.head c.at.result.now
    no_reached c.at.ensures) in
    let made : node < length c.args.g.now.nodes = omega (
      arith,
      here,
      node_made c.args.g.now p.seen p.reached c.requires.spread c.args.head
          c.requires.there,
    ) in
    let degree = degree_is c.args.g.now node c.group_of-group.result c.group_len-i-end.result
    c.group_of-group.ensures.group c.group_len-i-end.ensures in
    let size = ap (λ v. length (successors_of c.args.g.now v)) here in
    let member = member_is c.args.g.now node c.group_of-group.result c.loop-i.i
    c.member_at-next.result c.group_of-group.ensures.group c.member_at-next.ensures.member in
    edge_is c.args.g.now (reached_at p.reached c.args.head).node node c.loop-i.i c.args.to here made
    (omega (arith, degree, c.loop-i-test.true)) (sym c.if-next-to.true ∙ member)

pub returns-then-next-to-clause-most : goal.returns-then-next-to-clause-most
returns-then-next-to-clause-most g c =
    let p = c.args.self.now in
    let node = c.at.result.now.node in
    let here = ap (λ r. r.node) (get_or_from_slice_get p.reached c.args.head c.at.result.now
    no_reached c.at.ensures) in
    let made : node < length c.args.g.now.nodes = omega (
      arith,
      here,
      node_made c.args.g.now p.seen p.reached c.requires.spread c.args.head
          c.requires.there,
    ) in
    let degree = degree_is c.args.g.now node c.group_of-group.result c.group_len-i-end.result
    c.group_of-group.ensures.group c.group_len-i-end.ensures in
    let size = ap (λ v. length (successors_of c.args.g.now v)) here in
    omega (
      arith,
      degree,
      size,
      c.loop-i-test.true,
      c.loop-i.invariant.counted,
      c.member_at-next.ensures.step,
    )

pub returns-in_err-add-clause-most : goal.returns-in_err-add-clause-most
returns-in_err-add-clause-most g c =
    let p = c.args.self.now in
    let node = c.at.result.now.node in
    let here = ap (λ r. r.node) (get_or_from_slice_get p.reached c.args.head c.at.result.now
    no_reached c.at.ensures) in
    let made : node < length c.args.g.now.nodes = omega (
      arith,
      here,
      node_made c.args.g.now p.seen p.reached c.requires.spread c.args.head
          c.requires.there,
    ) in
    let degree = degree_is c.args.g.now node c.group_of-group.result c.group_len-i-end.result
    c.group_of-group.ensures.group c.group_len-i-end.ensures in
    let size = ap (λ v. length (successors_of c.args.g.now v)) here in
    omega (
      arith,
      degree,
      size,
      c.loop-i-test.true,
      c.loop-i.invariant.counted,
      c.member_at-next.ensures.step,
    )

pub returns-clause-most : goal.returns-clause-most
returns-clause-most g c =
    let p = c.args.self.now in
    let node = c.at.result.now.node in
    let here = ap (λ r. r.node) (get_or_from_slice_get p.reached c.args.head c.at.result.now
    no_reached c.at.ensures) in
    let made : node < length c.args.g.now.nodes = omega (
      arith,
      here,
      node_made c.args.g.now p.seen p.reached c.requires.spread c.args.head
          c.requires.there,
    ) in
    let degree = degree_is c.args.g.now node c.group_of-group.result c.group_len-i-end.result
    c.group_of-group.ensures.group c.group_len-i-end.ensures in
    let size = ap (λ v. length (successors_of c.args.g.now v)) here in
    omega (
      arith,
      degree,
      size,
      c.loop-i-test.false,
      c.loop-i.auto.i-end,
      c.loop-i.invariant.counted,
    )

pub returns-clause-spent : goal.returns-clause-spent
returns-clause-spent g c =
    let p = c.args.self.now in
    let node = c.at.result.now.node in
    let here = ap (λ r. r.node) (get_or_from_slice_get p.reached c.args.head c.at.result.now
    no_reached c.at.ensures) in
    let made : node < length c.args.g.now.nodes = omega (
      arith,
      here,
      node_made c.args.g.now p.seen p.reached c.requires.spread c.args.head
          c.requires.there,
    ) in
    let degree = degree_is c.args.g.now node c.group_of-group.result c.group_len-i-end.result
    c.group_of-group.ensures.group c.group_len-i-end.ensures in
    let size = ap (λ v. length (successors_of c.args.g.now v)) here in
    spent_from c.args.g.now c.args.to (reached_at p.reached c.args.head).node node
    c.group_of-group.result c.loop-i.self.seen here c.group_of-group.ensures.group
    (λ k lt. c.loop-i.invariant.done k (omega (
      arith,
      lt,
      c.group_len-i-end.ensures,
      c.loop-i-test.false,
    )))

pub loop-i-preserved : goal.loop-i-preserved
loop-i-preserved g c =
    let p = c.args.self.now in
    let node = c.at.result.now.node in
    let here = ap (λ r. r.node) (get_or_from_slice_get p.reached c.args.head c.at.result.now
    no_reached c.at.ensures) in
    let made : node < length c.args.g.now.nodes = omega (
      arith,
      here,
      node_made c.args.g.now p.seen p.reached c.requires.spread c.args.head
          c.requires.there,
    ) in
    let degree = degree_is c.args.g.now node c.group_of-group.result c.group_len-i-end.result
    c.group_of-group.ensures.group c.group_len-i-end.ensures in
    let size = ap (λ v. length (successors_of c.args.g.now v)) here in
    let q = c.loop-i.self in
    let r = c.add.new.self in
    let is = c.loop-i.invariant in
    let next = c.member_at-next.result in
    let there : c.args.head < length q.reached = omega
    (arith, c.requires.there, grown_long p.seen q.seen p.reached q.reached is.grows) in
    let at = ap (λ r. r.node) (grown_at p.seen q.seen p.reached q.reached is.grows c.args.head
    c.requires.there) ∙ here in
    let member = member_is c.args.g.now node c.group_of-group.result c.loop-i.i next
    c.group_of-group.ensures.group c.member_at-next.ensures.member in
    let edge = edge_is c.args.g.now (reached_at q.reached c.args.head).node node c.loop-i.i next at
    made (omega (arith, degree, c.loop-i-test.true)) member in
    let (spread, grows, seen) = added_step c.args.g.now q r next c.args.head is.spread
    c.member_at-next.ensures.made there edge c.in_ok-add.ensures in
    let D : ℕ → Type 0 = λ k. (get_or (members_of c.args.g.now c.group_of-group.result) k 0 ≢
    c.args.to) × (get_or r.seen (get_or (members_of c.args.g.now c.group_of-group.result) k 0)
    false ≡ true) in
    let N : ℕ → Type 0 = λ w. (w ≢ c.args.to) × (get_or r.seen w false ≡ true) in
    record {
      spread = spread;
      grows = grows_on p.seen q.seen r.seen p.reached q.reached r.reached is.grows grows;
      done = below_more D c.loop-i.i (λ k lt. let (apart, was) = is.done k lt in
          (apart, grows.still _ was)) (subst N c.member_at-next.ensures.member
          (c.if-next-to.false, seen));
      counted = omega (arith, is.counted, c.member_at-next.ensures.step);
    }
