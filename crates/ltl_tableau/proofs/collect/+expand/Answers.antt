use Rattle.std.proofs.Common.{List, inl, inr, sym, ap, ◌∙◌, subst, arith}
use Rattle.std.proofs.lemmas.Bool.{OnTrue_at}
use Rattle.ltl_tableau.specs.Branches.{Branch}
use Rattle.ltl_tableau.specs.Collected.{Collects}
use Rattle.ltl_tableau.specs.Drafts.{some_ways}
use Rattle.ltl_tableau.proofs.Forcing.{both-same}
use Rattle.ltl_tableau.proofs.Collecting.{collects-as, collects-both, collects-enough, collects-one, collects-known, contained, done-longer, done-push, inserted-cases, at-end}
use Rattle.ltl_tableau.proofs.collect.+expand.Goals as goal
use Rattle.ltl_tableau.proofs.collect.+expand.Goals.{split-then-not-is_same+in_ok-expand, split-else-not-is_same}

pub expand-returns-in_ok-insert-in-Goes-clause-collects : goal.expand-returns-in_ok-insert-in-Goes-clause-collects
expand-returns-in_ok-insert-in-Goes-clause-collects g t c =
    collects-as c.args.most c.args.found.now.branches.keys _ _ c.insert.new.self.keys
    (ap (some_ways c.args.c.now.nodes) c.in-Some.is ∙ c.in-Goes.ensures.same
    ∙ at-end c.args.c.now.nodes _ _ _ (omega (arith, c.in-Goes.ensures.below)))
    (collects-one c.args.most _ _ _ c.in_ok-insert-in-Goes.ensures.keys)

pub expand-returns-in_ok-insert-in-Goes-clause-done : goal.expand-returns-in_ok-insert-in-Goes-clause-done
expand-returns-in_ok-insert-in-Goes-clause-done g t c =
    done-longer c.args.c.now.nodes c.args.most c.args.found.now.branches.keys _ c.insert.new.self.keys c.args.found.now.done.keys
    (collects-one c.args.most _ _ _ c.in_ok-insert-in-Goes.ensures.keys) c.requires.done

pub split-returns-then-contains-clause-collects : goal.split-returns-then-contains-clause-collects
split-returns-then-contains-clause-collects g t c =
    collects-known c.args.c.now.nodes c.args.most c.args.found.now.branches.keys c.args.found.now.done.keys c.args.draft.now.work
    c.requires.done (contained c.args.found.now.done.keys c.args.draft.now.work (sym c.contains.ensures ∙ c.if-contains.true))

pub split-returns-then-len-most-clause-collects : goal.split-returns-then-len-most-clause-collects
split-returns-then-len-most-clause-collects g t c =
    let first : List Branch = some_ways c.args.c.now.nodes c.in_ok-one.one in
    let second : List Branch = some_ways c.args.c.now.nodes c.in_ok-other.other in
    let Q : List Branch → Type 0 = λ mid. Collects c.args.most c.args.found.now.branches.keys first mid in
    collects-as c.args.most c.args.found.now.branches.keys _ _ c.if-not-is_same.found.branches.keys
    (c.requires.both ∙ both-same _ _ _ _ (sym c.in_ok-one.ensures.same) (sym c.in_ok-other.ensures.same))
    (collects-both c.args.most c.args.found.now.branches.keys c.if-not-is_same.found.branches.keys c.if-not-is_same.found.branches.keys first second
    (elim c.if-not-is_same.branch [
      | split-then-not-is_same+in_ok-expand w ↦ inl (subst Q (λ i. (sym w.found-is i).branches.keys) w.in_ok-expand.ensures.collects)
      | split-else-not-is_same w ↦ inr (
        (λ i. (w.found-is i).branches.keys),
        OnTrue_at w.if-not-is_same.false c.is_same.ensures c.args.c.now.nodes,
      )
    ])
    (collects-enough c.args.most _ _ (omega (arith, c.len.ensures.len, c.if-len-most.true))))

pub split-returns-clause-collects : goal.split-returns-clause-collects
split-returns-clause-collects g t c =
    let first : List Branch = some_ways c.args.c.now.nodes c.in_ok-one.one in
    let second : List Branch = some_ways c.args.c.now.nodes c.in_ok-other.other in
    let Q : List Branch → Type 0 = λ mid. Collects c.args.most c.args.found.now.branches.keys first mid in
    collects-as c.args.most c.args.found.now.branches.keys _ _ c.expand-2.new.found.branches.keys
    (c.requires.both ∙ both-same _ _ _ _ (sym c.in_ok-one.ensures.same) (sym c.in_ok-other.ensures.same))
    (collects-both c.args.most c.args.found.now.branches.keys c.if-not-is_same.found.branches.keys c.expand-2.new.found.branches.keys first second
    (elim c.if-not-is_same.branch [
      | split-then-not-is_same+in_ok-expand w ↦ inl (subst Q (λ i. (sym w.found-is i).branches.keys) w.in_ok-expand.ensures.collects)
      | split-else-not-is_same w ↦ inr (
        (λ i. (w.found-is i).branches.keys),
        OnTrue_at w.if-not-is_same.false c.is_same.ensures c.args.c.now.nodes,
      )
    ])
    c.in_ok-expand-2.ensures.collects)

pub split-returns-clause-done : goal.split-returns-clause-done
split-returns-clause-done g t c =
    done-push c.args.c.now.nodes c.args.most c.args.found.now.branches.keys c.expand-2.new.found.branches.keys c.expand-2.new.found.done.keys
    c.insert.new.self.keys c.args.draft.now.work (split-returns-clause-collects g t c) c.in_ok-expand-2.ensures.done
    (λ x h. inserted-cases _ c.expand-2.new.found.done.keys c.insert.new.self.keys c.args.draft.now.work x c.in_ok-insert.ensures.keys h)
