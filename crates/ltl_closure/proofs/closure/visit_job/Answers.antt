use Rattle.std.proofs.Common.{◌≡◌, ◌<◌, List, [], ◌∷◌, ◌++◌, ℕ, length, get_or, ap, ◌∙◌, arith}
use Rattle.hy_formula.specs.Trees.{tree_of}
use Rattle.ltl_closure.proofs.Tasks.{more-visited, too-many}
use Rattle.ltl_closure.proofs.closure.visit_job.Goals as goal

-- the map that is gone over
at : (maps items : List (List ℕ)) (i : ℕ) (m item : List ℕ) → items ≡ maps → m ≡ item → item ≡ get_or items i item → m ≡ get_or maps i m
at maps items i m item e f g = cc

inside : (maps items : List (List ℕ)) (i : ℕ) → items ≡ maps → i < length items → i < length maps
inside maps items i e lt = omega (arith, ap length e)

pub returns-then-numbering-clause-limit : goal.returns-then-numbering-clause-limit
returns-then-numbering-clause-limit c is tasks done =
    too-many tasks (tree_of c.args.job.now.body) c.args.job.now.positive c.args.job.now.maps c.loop-map.map-index c.as_slice.result.now
    (inside _ _ _ c.as_slice-map-items.ensures c.loop-map-test.true)
    (at _ _ _ _ _ c.as_slice-map-items.ensures c.as_slice.ensures c.map-item.is)
    c.loop-map.numbering c.visit.new.self c.loop-map.roots c.in_ok-root.root (c.loop-map.invariant.visited tasks done) c.in_ok-root.ensures.visited c.if-numbering.true

pub loop-map-preserved : goal.loop-map-preserved
loop-map-preserved c =
    record {
      few = c.visit.ensures.few;
      visited = λ tasks done.
          more-visited tasks (tree_of c.args.job.now.body) c.args.job.now.positive c.args.job.now.maps c.loop-map.map-index c.as_slice.result.now
          (inside _ _ _ c.as_slice-map-items.ensures c.loop-map-test.true)
          (at _ _ _ _ _ c.as_slice-map-items.ensures c.as_slice.ensures c.map-item.is)
          c.loop-map.numbering c.visit.new.self c.loop-map.roots c.in_ok-root.root (c.loop-map.invariant.visited tasks done) c.in_ok-root.ensures.visited c.if-numbering.false
          c.push.new.self (c.in_ok-push.ensures.added ∙ ap (λ x. c.loop-map.roots ++ x ∷ []) c.from.ensures);
    }
