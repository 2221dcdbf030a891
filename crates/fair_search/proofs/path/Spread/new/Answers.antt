use Rattle.std.proofs.Common.{◌≡◌, true, false, [], ◌∷◌, ◌++◌, length, set, replicate, refl, sym, ap, ◌∙◌, subst}
use Rattle.fair_search.specs.declared.path.Reached.{Reached}
use Rattle.fair_search.specs.declared.path.Spread.{Spread}
use Rattle.fair_search.specs.Paths.{IsSpread, reached_at}
use Rattle.fair_search.proofs.Spreading.{spread_first}
use Rattle.fair_search.proofs.path.Spread.new.Goals as goal

pub returns : goal.returns
returns c =
    let n = length c.args.g.now.nodes in
    let one : Reached = record { node = c.args.node; from = 0 } in
    let P : Spread → Type 0 = λ s. IsSpread c.args.g.now s.seen s.reached ×
    ((reached_at s.reached 0).node ≡ c.args.node) in
    let first : Spread = record {
      seen = set (replicate n false) c.args.node true;
      reached = one ∷
          [];
    } in
    let made : Spread = record { seen = c.set.new.self; reached = c.push.new.self } in
    let same : made ≡ first = λ t. record {
      seen = (c.set.ensures ∙ ap (λ xs. set xs c.args.node true)
          (c.in_ok-seen.ensures ∙ ap (λ k. replicate k false) c.nodes.ensures)) t;
      reached = (c.in_ok-push.ensures.added ∙ ap (λ xs. xs ++ one ∷ []) c.new-reached.ensures) t;
    } in
    subst P (sym same) (spread_first c.args.g.now c.args.node c.requires, refl)
