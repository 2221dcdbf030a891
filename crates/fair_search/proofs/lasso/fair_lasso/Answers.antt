use Rattle.std.proofs.Common.{◌≡◌, ℕ, List, get_or, sym, ap, ◌∙◌, subst, arith}
use Rattle.fair_search.specs.Paths.{IsPathFrom}
use Rattle.fair_search.specs.Tours.{IsJoined}
use Rattle.fair_search.proofs.Touring.{walk_round, part_joined, start_there, root_at}
use Rattle.fair_search.proofs.lasso.fair_lasso.Goals as goal

pub from_place-requires : goal.from_place-requires
from_place-requires g c = omega (
  arith,
  start_there c.args.g.now c.args.pass.now c.args.start
      c.requires,
)

pub tour-requires : goal.tour-requires
tour-requires g c =
    let P : List ℕ → Type 0 = IsJoined c.args.g.now in
    subst P (sym c.from_place.ensures) (part_joined c.args.g.now c.args.pass.now c.args.start
    c.requires)

pub returns-clause-lasso : goal.returns-clause-lasso
returns-clause-lasso g c =
    let p = c.args.pass.now in
    let root = get_or p.stack c.args.start 0 in
    let at : get_or c.from_place.result.now 0 0 ≡ root = ap (λ xs. get_or xs 0 0)
    c.from_place.ensures ∙ root_at c.args.g.now p c.args.start c.requires in
    let P : ℕ → Type 0 = λ v. IsPathFrom c.args.g.now v v c.in_ok-cycle.cycle in (
      walk_round c.args.g.now c.in_ok-stem.stem c.in_ok-cycle.cycle root c.in_ok-stem.ensures.path
          (subst P at c.in_ok-cycle.ensures.path) c.in_ok-stem.ensures.starts,
      c.in_ok-cycle.ensures.fair,
    )
