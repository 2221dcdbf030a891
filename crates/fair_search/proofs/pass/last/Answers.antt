use Rattle.std.proofs.Common.{ℕ, ◌-◌, ◌≡◌, length, take, Some, arith, subst}
use Rattle.std.specs.List.{slice_get}
use Rattle.fair_search.proofs.Lists.{last_apart}
use Rattle.fair_search.proofs.pass.last.Goals as goal

pub returns : goal.returns
returns c =
    let xs = c.args.numbers.now in
    let P : ℕ → Type 0 = λ n. slice_get xs (n - 1) ≡ Some c.at.result.now in (
      take (length xs - 1) xs,
      last_apart xs c.at.result.now (omega arith)
          (subst P c.len-len.ensures c.at.ensures),
    )
