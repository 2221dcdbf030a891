use Rattle.std.proofs.Common.{◌≡◌, ◌+◌, ◌∙◌, ap, length, arith}
use Rattle.hy_base.specs.Rows.{listed}
use Rattle.hy_base.proofs.Listed.{length-listed, listed_next}
use Rattle.chain_check.specs.FewClauses.{further}
use Rattle.bound_search.proofs.Making.{letters-listed}
use Rattle.bound_search.proofs.asked.Asked.letters_row.Goals as goal

pub loop-i-preserved : goal.loop-i-preserved
loop-i-preserved c = listed_next _ c.loop-i.i _ _ _ c.loop-i.invariant c.in_ok-push.ensures.added
    c.further.ensures

-- all places are drawn
whole : (c : goal.After-loop-i) → c.loop-i.row
    ≡ listed 0 c.places-i-end.result (λ k. further (c.in_ok-start.start + k))
whole c =
    let e : c.loop-i.i ≡ c.places-i-end.result = omega arith in
    c.loop-i.invariant ∙ ap (λ n. listed 0 n (λ k. further (c.in_ok-start.start + k))) e

pub returns-clause-values : goal.returns-clause-values
returns-clause-values c =
    letters-listed c.args.self.now.names.now c.args.self.now.bound c.args.name c.args.t _ _ _ _
    c.place_of.ensures.place c.in_ok-start.ensures.start c.places-i-end.ensures.count (whole c)

pub returns-clause-long : goal.returns-clause-long
returns-clause-long c =
    ap length (whole c) ∙ length-listed 0 c.places-i-end.result _ ∙ c.places-i-end.ensures.count
