use Rattle.std.proofs.Common.{◌≡◌, List, Option, map, sym, ap, ◌∙◌, subst, ℕ}
use Rattle.std.proofs.lemmas.List.{take_all}
use Rattle.rank_check.specs.Ranking.{IsRanked}
use Rattle.fair_search.specs.Passing.{rank_at}
use Rattle.fair_search.proofs.Finishing.{given_ranked}
use Rattle.fair_search.proofs.pass.Pass.into_ranks.Goals as goal

pub returns : goal.returns
returns c g over =
    let items = c.as_slice-place-items.result.now in
    let all : c.loop-place.ranks ≡ map rank_at c.args.self.places =
    c.loop-place.invariant ∙ ap (map rank_at) (take_all c.loop-place.place-index items
    c.loop-place-test.false ∙ c.as_slice-place-items.ensures)
    in
    let P : List (Option ℕ) → Type 0 = λ xs. IsRanked g
    (record { ranks = xs; reasons = c.args.self.reasons }) in
    subst P (sym all) (given_ranked g c.args.self over)
