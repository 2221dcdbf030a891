use Rattle.std.proofs.Common.{◌≤◌, ℕ, List, length, get_or, refl, sym, ap, subst, arith}
use Rattle.std.proofs.lemmas.List.Elements.{Contains-get_or}
use Rattle.rank_check.specs.Graphs.{node_of, IsFair}
use Rattle.fair_search.specs.Paths.{IsPathFrom}
use Rattle.fair_search.specs.Tours.{IsTour}
use Rattle.fair_search.proofs.Touring.{tour_begins, tour_cost, tour_closed, tour_fair}
use Rattle.fair_search.proofs.lasso.tour.Goals as goal

pub postponed-requires : goal.postponed-requires
postponed-requires g c = c.requires.made _ (Contains-get_or c.args.nodes.now 0 0 c.requires.some)

pub loop-i-init : goal.loop-i-init
loop-i-init g c =
    let root = get_or c.args.nodes.now 0 0 in
    let list = (node_of c.args.g.now root).postponed in
    let P : List ℕ → Type 0 = λ xs. IsTour c.args.g.now c.args.nodes.now list 0 xs root
    c.args.steps.now c.args.steps.now in
    subst P (sym c.new-cycle.ensures) (tour_begins c.args.g.now c.args.nodes.now list
    c.args.steps.now c.requires.some)

pub returns-in_err-at-clause-most : goal.returns-in_err-at-clause-most
returns-in_err-at-clause-most g c = omega (
  arith,
  c.visit.ensures.most c.args.steps.now c.loop-i.invariant,
)

pub loop-i-preserved : goal.loop-i-preserved
loop-i-preserved g c = c.in_ok-at.ensures.tour c.args.steps.now c.loop-i.invariant

pub path-requires-clause-made : goal.path-requires-clause-made
path-requires-clause-made g c = c.requires.made c.loop-i.at c.loop-i.invariant.here

pub returns-in_err-part-clause-most : goal.returns-in_err-part-clause-most
returns-in_err-part-clause-most g c =
    let root = get_or c.args.nodes.now 0 0 in
    let list = (node_of c.args.g.now root).postponed in
    omega (
      arith,
      c.path.ensures.most,
      tour_cost c.args.g.now c.args.nodes.now list c.loop-i.i
          c.loop-i.cycle c.loop-i.at c.args.steps.now c.loop-i.steps c.loop-i.invariant root refl,
    )

pub returns-in_err-append-clause-most : goal.returns-in_err-append-clause-most
returns-in_err-append-clause-most g c =
    let root = get_or c.args.nodes.now 0 0 in
    let list = (node_of c.args.g.now root).postponed in
    omega (
      arith,
      c.path.ensures.most,
      tour_cost c.args.g.now c.args.nodes.now list c.loop-i.i
          c.loop-i.cycle c.loop-i.at c.args.steps.now c.loop-i.steps c.loop-i.invariant root refl,
    )

pub returns-clause-most : goal.returns-clause-most
returns-clause-most g c =
    let root = get_or c.args.nodes.now 0 0 in
    let list = (node_of c.args.g.now root).postponed in
    omega (
      arith,
      c.path.ensures.most,
      tour_cost c.args.g.now c.args.nodes.now list c.loop-i.i
          c.loop-i.cycle c.loop-i.at c.args.steps.now c.loop-i.steps c.loop-i.invariant root refl,
    )

pub returns-clause-path : goal.returns-clause-path
returns-clause-path g c =
    let root = get_or c.args.nodes.now 0 0 in
    let list = (node_of c.args.g.now root).postponed in
    let all : length list ≤ c.loop-i.i = omega
    (arith, c.loop-i-test.false, c.len-count.ensures, ap length c.postponed.ensures) in
    let P : List ℕ → Type 0 = IsPathFrom c.args.g.now root root in
    subst P (sym c.in_ok-append.ensures) (tour_closed c.args.g.now c.args.nodes.now list c.loop-i.i
    c.loop-i.cycle c.loop-i.at c.args.steps.now c.loop-i.steps c.loop-i.invariant all refl
    c.in_ok-part.part c.in_ok-part.ensures.path)

pub returns-clause-fair : goal.returns-clause-fair
returns-clause-fair g c =
    let root = get_or c.args.nodes.now 0 0 in
    let list = (node_of c.args.g.now root).postponed in
    let all : length list ≤ c.loop-i.i = omega
    (arith, c.loop-i-test.false, c.len-count.ensures, ap length c.postponed.ensures) in
    let P : List ℕ → Type 0 = IsFair c.args.g.now in
    subst P (sym c.in_ok-append.ensures) (tour_fair c.args.g.now c.args.nodes.now list c.loop-i.i
    c.loop-i.cycle c.loop-i.at c.args.steps.now c.loop-i.steps c.loop-i.invariant all refl
    c.in_ok-part.part c.in_ok-part.ensures.path)
