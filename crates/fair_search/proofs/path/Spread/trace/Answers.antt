use Rattle.std.proofs.Common.{◌≡◌, ◌++◌, ◌∷◌, [], ℕ, List, reverse, sym, ap, ◌∙◌, subst, arith}
use Rattle.std.proofs.Common.{length-append}
use Rattle.std.proofs.lemmas.List.{length-reverse}
use Rattle.std.proofs.lemmas.Option.{get_or_from_slice_get}
use Rattle.rank_check.specs.Graphs.{IsEdge}
use Rattle.fair_search.specs.Paths.{no_reached, reached_at, IsPath, IsPathFrom, first_or}
use Rattle.fair_search.proofs.Spreading.{path_longer}
use Rattle.fair_search.proofs.path.Spread.trace.Goals as goal

pub loop-place-smaller : goal.loop-place-smaller
loop-place-smaller c =
    let p = c.args.self.now in
    let place = c.loop-place.place in
    let here = ap (λ r. r.from) (get_or_from_slice_get p.reached place c.at-step.result.now
    no_reached c.at-step.ensures) in
    omega (arith, here, c.requires.falls place c.loop-place-test.true c.loop-place.invariant.there)

pub loop-place-preserved : goal.loop-place-preserved
loop-place-preserved c =
    let p = c.args.self.now in
    let place = c.loop-place.place in
    let step = c.at-step.result.now in
    let nodes = c.loop-place.nodes in
    let here = get_or_from_slice_get p.reached place step no_reached c.at-step.ensures in
    let node = ap (λ r. r.node) here in
    let from = ap (λ r. r.from) here in
    record {
      there = omega (
        arith,
        from,
        c.requires.falls place c.loop-place-test.true
            c.loop-place.invariant.there,
        c.loop-place.invariant.there,
      );
      path = λ g to spread edge.
          let (goes, link) = c.loop-place.invariant.path g to spread edge in
          let E : ℕ → Type 0 = λ v. IsEdge g v (first_or (reverse nodes) to) in
          let (longer, first) = path_longer g nodes step.node to goes (subst E node link) in
          let P : List ℕ → Type 0 = λ xs. IsPath g (reverse xs) to × IsEdge g
          (reached_at p.reached step.from).node (first_or (reverse xs) to) in
          let back : IsEdge g (reached_at p.reached step.from).node
          (first_or (reverse (nodes ++ step.node ∷ [])) to) =
          let F : ℕ → Type 0 = λ j. IsEdge g (reached_at p.reached j).node
          (reached_at p.reached place).node in
          let G : ℕ → Type 0 = IsEdge g (reached_at p.reached step.from).node in
          subst G (node ∙ sym first) (subst F from
          (spread.tree place c.loop-place-test.true c.loop-place.invariant.there).1)
          in
          subst P (sym c.in_ok-push.ensures.added) (longer, back);
    }

pub returns : goal.returns
returns c g to spread edge =
    let p = c.args.self.now in
    let nodes = c.loop-place.nodes in
    let first = c.at-first.result.now in
    let here = ap (λ r. r.node) (get_or_from_slice_get p.reached 0 first no_reached
    c.at-first.ensures) in
    let start : c.loop-place.place ≡ 0 = omega (arith, c.loop-place-test.false) in
    let (goes, link) = c.loop-place.invariant.path g to spread edge in
    let E : ℕ → Type 0 = λ v. IsEdge g v (first_or (reverse nodes) to) in
    let (longer, begins) = path_longer g nodes first.node to goes
    (subst E (ap (λ j. (reached_at p.reached j).node) start ∙ here) link) in
    let same : c.reverse.new.self ≡ reverse (nodes ++ first.node ∷ []) = c.reverse.ensures
    ∙ ap reverse c.in_ok-push-2.ensures.added in
    let P : List ℕ → Type 0 = IsPathFrom g (reached_at p.reached 0).node to in
    subst P (sym same) (record {
      some = omega (
        arith,
        length-reverse (nodes ++ first.node ∷ []),
        length-append nodes (first.node ∷ []),
      );
      starts = begins ∙ sym here;
      goes = longer;
    })
