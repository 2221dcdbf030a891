use Rattle.std.proofs.Common.{◌≡◌, ℕ, ◌+◌, ◌-◌, ◌<◌, true, List, length, set, take, sym, ◌∙◌, subst, arith}
use Rattle.std.proofs.lemmas.Option.{get_or_from_slice_get}
use Rattle.fair_search.specs.declared.pass.Pass.{Pass}
use Rattle.fair_search.specs.Passing.{degree_of, Goes}
use Rattle.fair_search.proofs.Counting.{looks_within, looks_left}
use Rattle.fair_search.proofs.Lists.{without_last}
use Rattle.fair_search.proofs.Looking.{degree_is, member_is, edge_is, look_spent, stack_made, look_other, look_loop}
use Rattle.fair_search.proofs.pass.Pass.look.Goals as goal

pub group_of-group-requires : goal.group_of-group-requires
group_of-group-requires g c =
    let p = c.args.self.now in
    let at = get_or_from_slice_get p.stack c.args.place c.at-node.result.now 0 c.at-node.ensures in
    omega (
      arith,
      at,
      stack_made c.args.g.now p c.requires.pass c.args.steps.now c.args.place
          c.requires.last.0,
    )

pub at-i-requires : goal.at-i-requires
at-i-requires g c =
    let p = c.args.self.now in
    let at = get_or_from_slice_get p.stack c.args.place c.at-node.result.now 0 c.at-node.ensures in
    omega (
      arith,
      at,
      stack_made c.args.g.now p c.requires.pass c.args.steps.now c.args.place
          c.requires.last.0,
      c.requires.pass.explored_long,
    )

pub returns-then-i-group_len-clause-goes : goal.returns-then-i-group_len-clause-goes
returns-then-i-group_len-clause-goes g c =
    let p = c.args.self.now in
    let node = c.at-node.result.now in
    let at = get_or_from_slice_get p.stack c.args.place node 0 c.at-node.ensures in
    let is_k = get_or_from_slice_get p.explored node c.at-i.result.now 0 c.at-i.ensures in
    let degree = degree_is c.args.g.now node c.group_of-group.result c.group_len.result
    c.group_of-group.ensures.group c.group_len.ensures in
    let (front, ends) = c.requires.ends in
    let P : List ℕ → Type 0 = λ xs. Goes c.args.g.now p (record p { pending = xs }) c.args.steps.now
    c.args.steps.now in
    let same = c.truncate.ensures ∙ (λ t. take (c.len.ensures t - 1) p.pending)
    ∙ without_last p.pending front c.args.place ends in
    subst P (sym same)
    (look_spent c.args.g.now p c.requires.pass c.args.steps.now front c.args.place node ends at
    (omega (arith, is_k, degree, c.if-i-group_len.true)))

pub returns-then-i-group_len-clause-most : goal.returns-then-i-group_len-clause-most
returns-then-i-group_len-clause-most g c = omega
    (arith, looks_within c.args.g.now c.args.self.now c.requires.pass)

pub member_at-next-requires-clause-place : goal.member_at-next-requires-clause-place
member_at-next-requires-clause-place g c =
    let p = c.args.self.now in
    let node = c.at-node.result.now in
    let is_k = get_or_from_slice_get p.explored node c.at-i.result.now 0 c.at-i.ensures in
    let degree = degree_is c.args.g.now node c.group_of-group.result c.group_len.result
    c.group_of-group.ensures.group c.group_len.ensures in
    omega (
      arith,
      is_k,
      degree,
      c.group_len.ensures,
      c.if-i-group_len.false,
      c.requires.pass.within node,
    )

pub reach-requires-clause-edge : goal.reach-requires-clause-edge
reach-requires-clause-edge g c =
    let p = c.args.self.now in
    let node = c.at-node.result.now in
    let at = get_or_from_slice_get p.stack c.args.place node 0 c.at-node.ensures in
    let is_k = get_or_from_slice_get p.explored node c.at-i.result.now 0 c.at-i.ensures in
    let degree = degree_is c.args.g.now node c.group_of-group.result c.group_len.result
    c.group_of-group.ensures.group c.group_len.ensures in
    let made = stack_made c.args.g.now p c.requires.pass c.args.steps.now c.args.place
    c.requires.last.0 in
    edge_is c.args.g.now _ node c.at-i.result.now c.member_at-next.result at
    (omega (arith, at, made))
    (omega (arith, is_k, degree, c.if-i-group_len.false, c.requires.pass.within node))
    (member_is c.args.g.now node c.group_of-group.result c.at-i.result.now c.member_at-next.result
    c.group_of-group.ensures.group c.member_at-next.ensures.member)

pub returns-in_err-reach-clause-most : goal.returns-in_err-reach-clause-most
returns-in_err-reach-clause-most g c =
    let p = c.args.self.now in
    let node = c.at-node.result.now in
    let at = get_or_from_slice_get p.stack c.args.place node 0 c.at-node.ensures in
    let is_k = get_or_from_slice_get p.explored node c.at-i.result.now 0 c.at-i.ensures in
    let degree = degree_is c.args.g.now node c.group_of-group.result c.group_len.result
    c.group_of-group.ensures.group c.group_len.ensures in
    let made : node < length c.args.g.now.nodes = omega (
      arith,
      at,
      stack_made c.args.g.now p c.requires.pass c.args.steps.now c.args.place
          c.requires.last.0,
    ) in
    let more : c.at-i.result.now < degree_of c.args.g.now node = omega
    (arith, is_k, degree, c.if-i-group_len.false, c.requires.pass.within node) in
    omega (
      arith,
      c.member_at-next.ensures.step,
      looks_left c.args.g.now p c.requires.pass node made (omega (arith, is_k, more)),
    )

pub returns-then-next-node-clause-most : goal.returns-then-next-node-clause-most
returns-then-next-node-clause-most g c =
    let p = c.args.self.now in
    let node = c.at-node.result.now in
    let at = get_or_from_slice_get p.stack c.args.place node 0 c.at-node.ensures in
    let is_k = get_or_from_slice_get p.explored node c.at-i.result.now 0 c.at-i.ensures in
    let degree = degree_is c.args.g.now node c.group_of-group.result c.group_len.result
    c.group_of-group.ensures.group c.group_len.ensures in
    let made : node < length c.args.g.now.nodes = omega (
      arith,
      at,
      stack_made c.args.g.now p c.requires.pass c.args.steps.now c.args.place
          c.requires.last.0,
    ) in
    let more : c.at-i.result.now < degree_of c.args.g.now node = omega
    (arith, is_k, degree, c.if-i-group_len.false, c.requires.pass.within node) in
    omega (
      arith,
      c.member_at-next.ensures.step,
      looks_left c.args.g.now p c.requires.pass node made (omega (arith, is_k, more)),
    )

pub returns-else-next-node-clause-most : goal.returns-else-next-node-clause-most
returns-else-next-node-clause-most g c =
    let p = c.args.self.now in
    let node = c.at-node.result.now in
    let at = get_or_from_slice_get p.stack c.args.place node 0 c.at-node.ensures in
    let is_k = get_or_from_slice_get p.explored node c.at-i.result.now 0 c.at-i.ensures in
    let degree = degree_is c.args.g.now node c.group_of-group.result c.group_len.result
    c.group_of-group.ensures.group c.group_len.ensures in
    let made : node < length c.args.g.now.nodes = omega (
      arith,
      at,
      stack_made c.args.g.now p c.requires.pass c.args.steps.now c.args.place
          c.requires.last.0,
    ) in
    let more : c.at-i.result.now < degree_of c.args.g.now node = omega
    (arith, is_k, degree, c.if-i-group_len.false, c.requires.pass.within node) in
    omega (
      arith,
      c.member_at-next.ensures.step,
      looks_left c.args.g.now p c.requires.pass node made (omega (arith, is_k, more)),
    )

pub overflow_add-i : goal.overflow_add-i
overflow_add-i g c =
    let p = c.args.self.now in
    let node = c.at-node.result.now in
    let at = get_or_from_slice_get p.stack c.args.place node 0 c.at-node.ensures in
    let is_k = get_or_from_slice_get p.explored node c.at-i.result.now 0 c.at-i.ensures in
    let degree = degree_is c.args.g.now node c.group_of-group.result c.group_len.result
    c.group_of-group.ensures.group c.group_len.ensures in
    let made : node < length c.args.g.now.nodes = omega (
      arith,
      at,
      stack_made c.args.g.now p c.requires.pass c.args.steps.now c.args.place
          c.requires.last.0,
    ) in
    let more : c.at-i.result.now < degree_of c.args.g.now node = omega
    (arith, is_k, degree, c.if-i-group_len.false, c.requires.pass.within node) in
    omega (
      arith,
      degree,
      c.group_len.ensures,
      c.whole.ensures.few_members c.group_of-group.result,
      more,
    )

pub set-requires : goal.set-requires
set-requires g c =
    let p = c.args.self.now in
    let node = c.at-node.result.now in
    let at = get_or_from_slice_get p.stack c.args.place node 0 c.at-node.ensures in
    let is_k = get_or_from_slice_get p.explored node c.at-i.result.now 0 c.at-i.ensures in
    let degree = degree_is c.args.g.now node c.group_of-group.result c.group_len.result
    c.group_of-group.ensures.group c.group_len.ensures in
    let made : node < length c.args.g.now.nodes = omega (
      arith,
      at,
      stack_made c.args.g.now p c.requires.pass c.args.steps.now c.args.place
          c.requires.last.0,
    ) in
    let more : c.at-i.result.now < degree_of c.args.g.now node = omega
    (arith, is_k, degree, c.if-i-group_len.false, c.requires.pass.within node) in
    omega (arith, made, c.in_ok-reach.ensures.pass.explored_long)

pub returns-then-next-node-clause-goes : goal.returns-then-next-node-clause-goes
returns-then-next-node-clause-goes g c =
    let p = c.args.self.now in
    let node = c.at-node.result.now in
    let at = get_or_from_slice_get p.stack c.args.place node 0 c.at-node.ensures in
    let is_k = get_or_from_slice_get p.explored node c.at-i.result.now 0 c.at-i.ensures in
    let degree = degree_is c.args.g.now node c.group_of-group.result c.group_len.result
    c.group_of-group.ensures.group c.group_len.ensures in
    let made : node < length c.args.g.now.nodes = omega (
      arith,
      at,
      stack_made c.args.g.now p c.requires.pass c.args.steps.now c.args.place
          c.requires.last.0,
    ) in
    let more : c.at-i.result.now < degree_of c.args.g.now node = omega
    (arith, is_k, degree, c.if-i-group_len.false, c.requires.pass.within node) in
    let member = member_is c.args.g.now node c.group_of-group.result c.at-i.result.now
    c.member_at-next.result c.group_of-group.ensures.group c.member_at-next.ensures.member in
    let q = c.reach.new.self in
    let S : ℕ → Type 0 = λ s. Goes c.args.g.now p
    (record q { explored = c.set.new.self; loops = c.set-then-next-node.new.self })
    c.args.steps.now s in
    let P : Pass → Type 0 = λ r. Goes c.args.g.now p r c.args.steps.now (c.args.steps.now + 1) in
    let same : record q {
      explored = set q.explored node (c.at-i.result.now + 1);
      loops = set
          q.loops node true;
    } ≡ record q {
      explored = c.set.new.self;
      loops =
          c.set-then-next-node.new.self;
    } =
    λ t. record q { explored = sym c.set.ensures t; loops = sym c.set-then-next-node.ensures t }
    in
    subst S (sym c.member_at-next.ensures.step)
    (subst P same (look_loop c.args.g.now p c.requires.pass c.args.steps.now c.args.place
    c.member_at-next.result q c.in_ok-reach.ensures node c.at-i.result.now c.requires.last.0 at
    is_k more member c.if-next-node.true))

pub returns-else-next-node-clause-goes : goal.returns-else-next-node-clause-goes
returns-else-next-node-clause-goes g c =
    let p = c.args.self.now in
    let node = c.at-node.result.now in
    let at = get_or_from_slice_get p.stack c.args.place node 0 c.at-node.ensures in
    let is_k = get_or_from_slice_get p.explored node c.at-i.result.now 0 c.at-i.ensures in
    let degree = degree_is c.args.g.now node c.group_of-group.result c.group_len.result
    c.group_of-group.ensures.group c.group_len.ensures in
    let made : node < length c.args.g.now.nodes = omega (
      arith,
      at,
      stack_made c.args.g.now p c.requires.pass c.args.steps.now c.args.place
          c.requires.last.0,
    ) in
    let more : c.at-i.result.now < degree_of c.args.g.now node = omega
    (arith, is_k, degree, c.if-i-group_len.false, c.requires.pass.within node) in
    let member = member_is c.args.g.now node c.group_of-group.result c.at-i.result.now
    c.member_at-next.result c.group_of-group.ensures.group c.member_at-next.ensures.member in
    let q = c.reach.new.self in
    let S : ℕ → Type 0 = λ s. Goes c.args.g.now p (record q { explored = c.set.new.self })
    c.args.steps.now s in
    let P : Pass → Type 0 = λ r. Goes c.args.g.now p r c.args.steps.now (c.args.steps.now + 1) in
    let same : record q { explored = set q.explored node (c.at-i.result.now + 1) } ≡ record q
    { explored = c.set.new.self } = λ t. record q { explored = sym c.set.ensures t } in
    subst S (sym c.member_at-next.ensures.step)
    (subst P same (look_other c.args.g.now p c.requires.pass c.args.steps.now c.args.place
    c.member_at-next.result q c.in_ok-reach.ensures node c.at-i.result.now c.requires.last.0 at
    is_k more member c.if-next-node.false))
