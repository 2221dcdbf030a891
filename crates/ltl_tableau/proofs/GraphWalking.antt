-- Fair walks of the graph of a tableau are accepting walks of its branches, and ranks of its nodes are ranks of these.
use Rattle.std.proofs.Common.{◌≡◌, ℕ, zero, suc, ◌+◌, ◌-◌, ◌%◌, ◌<◌, ◌≤◌, Bool, true, false, List, [], ◌∷◌, length, map, get_or, Option, Some, None, IsSome, inl, inr, refl, sym, ap, ◌∙◌, subst, arith, add-one}
use Rattle.std.specs.List.{Contains}
use Rattle.std.proofs.Math.Nat.{mod-eq_of_lt, mod-lt}
use Rattle.std.proofs.lemmas.Bool.{cases_lt, false≢true}
use Rattle.std.proofs.lemmas.List.{get_or-map, get_or_default, get_or_past, length-map}
use Rattle.std.proofs.lemmas.List.Elements.{Contains-append_right, All-contains, All-contains_itself, All-weaker}
use Rattle.hy_base.proofs.Truths.{cond-below, cond-above}
use Rattle.hy_base.proofs.Members.{map-of, map-from}
use Rattle.hy_formula.specs.Lassos.{Lasso}
use Rattle.hy_lasso.proofs.LassoWords.{in-stem, in-cycle}
use Rattle.rank_check.specs.declared.ranks.Ranks.{Ranks}
use Rattle.rank_check.specs.Graphs as graphs
use Rattle.rank_check.specs.Graphs.{Shape, members_of, successors_of, IsEdge, Postpones, IsWhole, place_of}
use Rattle.rank_check.specs.Ranking as ranking
use Rattle.rank_check.specs.Ranking.{rank_of, reason_of, IsRanked}
use Rattle.ltl_closure.specs.Nodes.{Node, always, never, literal, and, or, next, weak_next, until, release, node_at, PartsBelow}
use Rattle.ltl_tableau.specs.Branches.{Members, Branch, IsBranch, postponed_by, postpones}
use Rattle.ltl_tableau.specs.GraphWalks.{walk_of, if_until, until_reason, no_entry, entry_at, HasRanks}
use Rattle.ltl_tableau.specs.Ranks.{Ranked, RankProof, reason_at, IsOfMembers, IsUntilNode, HasAll, Explains, IsRankProof}
use Rattle.ltl_tableau.specs.Reached.{IsReachable, first, after, branch_at, IsTableau}
use Rattle.ltl_tableau.specs.Walks.{no_branch, gone, IsWalk, IsAccepting}
use Rattle.ltl_tableau.proofs.Exploring.{contains-at, place-of}
use Rattle.ltl_tableau.proofs.OfMembers.{reachable-members}

-- ---- places of a stem and a cycle

place-in_stem : (stem cycle : List ℕ) (i : ℕ) → i < length stem
    → place_of stem cycle i ≡ get_or stem i 0
place-in_stem stem cycle i lt = cond-below i (length stem) _ _ lt

place-in_cycle : (stem cycle : List ℕ) (i : ℕ) → length stem ≤ i
    → place_of stem cycle i ≡ get_or cycle ((i - length stem) % length cycle) 0
place-in_cycle stem cycle i le = cond-above i (length stem) _ _ le

-- once round, from the end of the stem on
round : (stem : List ℕ) (q n : ℕ) → q < n → (length stem + q - length stem) % n ≡ q
round stem q n lt = let e : length stem + q - length stem ≡ q = omega arith in ap (λ x. x % n) e
    ∙ mod-eq_of_lt lt

-- the branches of the places of a stem and a cycle
branch-at_place : (list : List Branch) (stem cycle : List ℕ) → 0 < length cycle → (i : ℕ)
    → gone (walk_of list stem cycle) i ≡ branch_at list (place_of stem cycle i)
branch-at_place list stem cycle some i =
    elim (cases_lt i (length stem)) [
      | inl lt ↦
          in-stem no_branch (walk_of list stem cycle) i (omega (
            arith,
            length-map stem (branch_at list),
          ))
          ∙ get_or-map (branch_at list) stem i 0 no_branch lt
          ∙ sym (ap (branch_at list) (place-in_stem stem cycle i lt))
      | inr le ↦
          in-cycle no_branch (walk_of list stem cycle) i (omega (
            arith,
            length-map stem (branch_at list),
          ))
          ∙ ap (λ x. get_or (map (branch_at list) cycle) ((i - x) % length (map
          (branch_at list) cycle)) no_branch) (length-map stem (branch_at list))
          ∙ ap (λ x. get_or (map (branch_at list) cycle) ((i - length stem) % x) no_branch)
          (length-map cycle (branch_at list))
          ∙ get_or-map (branch_at list) cycle ((i - length stem) % length cycle) 0 no_branch (mod-lt
          (i - length stem) some)
          ∙ sym (ap (branch_at list) (place-in_cycle stem cycle i le))
    ]

-- ---- reasons

-- a reason that is kept is an until
until-kept : (nodes : List Node) (reason : Option ℕ) (k : ℕ) → until_reason nodes reason ≡ Some k
    → IsUntilNode nodes k
until-kept nodes None k e = absurd (cc)
until-kept nodes (Some j) k e = by (node_at nodes j) refl e
  where
    by : (n : Node) → node_at nodes j ≡ n → if_until j n ≡ Some k → IsUntilNode nodes k
    by always is e' = absurd (cc)
    by never is e' = absurd (cc)
    by (literal b a v) is e' = absurd (cc)
    by (and g h) is e' = absurd (cc)
    by (or g h) is e' = absurd (cc)
    by (next g) is e' = absurd (cc)
    by (weak_next g) is e' = absurd (cc)
    by (release g h) is e' = absurd (cc)
    by (until g h) is e' =
        let same : j ≡ k = cc in (g, h, ap (node_at nodes) (sym same) ∙ is)

-- ---- the graph of a tableau

module _ (nodes : List Node) (roots : Members) (list : List Branch) (graph : Shape)
    (tableau : IsTableau nodes roots list graph) where
  start-branch : (v : ℕ) → Contains (members_of graph 0) v → IsBranch nodes roots (branch_at list v)
  start-branch v h =
      let P : List Branch → Type 0 = λ l. Contains l (branch_at list v) in
      subst P tableau.starts (map-of (branch_at list) (members_of graph 0) v h)

  edge-branch : (v w : ℕ) → IsEdge graph v w
      → IsBranch nodes (branch_at list v).later (branch_at list w)
  edge-branch v w (lt, h) =
      let P : List Branch → Type 0 = λ l. Contains l (branch_at list w) in
      subst P (tableau.leads v (omega (
        arith,
        tableau.count,
      ))) (map-of (branch_at list) (successors_of graph v) w h)

  free-branch : (v k : ℕ) → v < length list → ¬ Postpones graph v k
      → postpones nodes (branch_at list v) k ≡ false
  free-branch v k lt free = step (postpones nodes (branch_at list v) k) refl
    where
      step : (b : Bool) → postpones nodes (branch_at list v) k ≡ b
          → postpones nodes (branch_at list v) k ≡ false
      step true e = absurd (free ((tableau.postponed v k lt).1 e))
      step false e = e

  -- ---- a fair walk of the graph

  module _ (stem cycle : List ℕ) (walk : graphs.IsWalk graph stem cycle)
      (fair : graphs.IsFair graph cycle) where
    abbrev along : Lasso Branch
    along = walk_of list stem cycle

    same-place : (i : ℕ) → gone along i ≡ branch_at list (place_of stem cycle i)
    same-place i = branch-at_place list stem cycle walk.some i

    goes-on : (i : ℕ) → IsBranch nodes ((gone along i).later) (gone along (suc i))
    goes-on i =
        let P : Branch → Type 0 =
        λ b. IsBranch nodes b.later (branch_at list (place_of stem cycle (i + 1))) in
        let Q : Branch → Type 0 = IsBranch nodes ((gone along i).later) in
        let next : gone along (suc i) ≡ branch_at list (place_of stem cycle (i + 1)) =
        same-place (suc i) ∙ ap (λ n. branch_at list (place_of stem cycle n)) (sym (add-one i)) in
        subst Q (sym next) (subst P (sym (same-place i)) (edge-branch _ _ (walk.goes i)))

    walk-branches : IsWalk nodes roots along
    walk-branches =
        record {
          some = omega (arith, length-map cycle (branch_at list), walk.some);
          goes =
              record {
                starts = let P : Branch → Type 0 =
                    IsBranch nodes roots in
                    subst P (sym (same-place 0)) (start-branch _ walk.starts);
                goes = goes-on;
              };
        }

    made : (v : ℕ) → Contains cycle v → v < length list
    made v (q, lt, is) =
        let here : place_of stem cycle (length stem + q) ≡ v =
        place-in_cycle stem cycle (length stem + q) (omega arith)
        ∙ ap (λ n. get_or cycle n 0) (round stem q (length cycle) lt)
        ∙ get_or_default cycle q 0 v lt ∙ is in
        let P : ℕ → Type 0 = λ n. n < length graph.nodes in
        let lt' : v < length graph.nodes = subst P here (walk.goes (length stem + q)).0 in
        omega (arith, tableau.count)

    accepts : IsAccepting nodes along
    accepts k =
        let (v, there, free) = fair k in (
          branch_at list v,
          map-of (branch_at list) cycle v there,
          free-branch v k (made v there) free,
        )

    pub accepting : IsWalk nodes roots along × IsAccepting nodes along
    accepting = (walk-branches, accepts)

  -- ---- in a graph that is whole

  module _ (whole : IsWhole graph) where
    inside : (group v : ℕ) → Contains (members_of graph group) v → v < length list
    inside group v h = let lt = whole.made group v h in omega (arith, tableau.count)

    start-node : (v : ℕ) → v < length list → IsBranch nodes roots (branch_at list v)
        → Contains (members_of graph 0) v
    start-node v lt h =
        let P : List Branch → Type 0 = λ l. Contains l (branch_at list v) in
        let (w, there, same) =
        map-from (branch_at list) (members_of graph 0) (branch_at list v) (subst P
        (sym tableau.starts) h) in
        let Q : ℕ → Type 0 = Contains (members_of graph 0) in
        subst Q (tableau.distinct w v (inside 0 w there) lt same) there

    edge-node : (v w : ℕ) → v < length list → w < length list
        → IsBranch nodes (branch_at list v).later (branch_at list w) → IsEdge graph v w
    edge-node v w lt lt' h =
        let P : List Branch → Type 0 = λ l. Contains l (branch_at list w) in
        let (u, there, same) =
        map-from (branch_at list) (successors_of graph v) (branch_at list w) (subst P (sym
        (tableau.leads v lt)) h) in
        let Q : ℕ → Type 0 = Contains (successors_of graph v) in (
          omega (arith, tableau.count),
          subst Q (tableau.distinct u w (inside _ u there) lt' same) there,
        )

    -- the places of branches of the list
    Places : List Branch → Type 0
    Places xs = (vs : List ℕ) × (map (branch_at list) vs ≡ xs) ×
        ((v : ℕ) → Contains vs v → v < length list)

    one-more : (v : ℕ) (vs : List ℕ) → v < length list → ((w : ℕ) → Contains vs w → w < length list)
        → (w : ℕ) → Contains (v ∷ vs) w → w < length list
    one-more v vs lt made w (zero, lt', e) = omega (arith, e)
    one-more v vs lt made w (suc k, lt', e) = made w (k, omega arith, e)

    places : (xs : List Branch) → ((b : Branch) → Contains xs b → Contains list b) → Places xs
    unfolding Places
    places [] there = ([], refl, λ v h. let lt = h.1 in absurd (omega arith))
    places (x ∷ xs) there =
        let (v, lt, is) = place-of no_branch list x (there x (0, omega arith, refl)) in
        let (vs, same, made) = places xs (λ b h. there b (Contains-append_right (x ∷ []) xs b h)) in (
          v ∷ vs,
          ap (λ y. y ∷ map (branch_at list) vs) is
              ∙ ap (λ ys. x ∷ ys) same,
          one-more v vs lt made,
        )

    -- ---- an accepting walk

    module _ (walk : Lasso Branch) (right : IsWalk nodes roots walk)
        (accepted : IsAccepting nodes walk) where
      listed : (i : ℕ) → Contains list (gone walk i)
      listed i = (tableau.reachable (gone walk i)).1 (reached i)
        where
          reached : (i : ℕ) → IsReachable nodes roots (gone walk i)
          reached zero = first right.goes.starts
          reached (suc i) = after (gone walk i) (reached i) (right.goes.goes i)

      stem-listed : (b : Branch) → Contains walk.stem b → Contains list b
      stem-listed b (q, lt, e) =
          let here : gone walk q ≡ b = in-stem no_branch walk q lt
          ∙ get_or_default walk.stem q no_branch b lt ∙ e in
          let P : Branch → Type 0 = Contains list in
          subst P here (listed q)

      cycle-listed : (b : Branch) → Contains walk.cycle b → Contains list b
      cycle-listed b (q, lt, e) =
          let far : length walk.stem + q - length walk.stem ≡ q = omega arith in
          let here : gone walk (length walk.stem + q) ≡ b =
          in-cycle no_branch walk (length walk.stem + q) (omega arith)
          ∙ ap (λ x. get_or walk.cycle x no_branch) (ap (λ x. x % length walk.cycle) far
          ∙ mod-eq_of_lt lt)
          ∙ get_or_default walk.cycle q no_branch b lt ∙ e in
          let P : Branch → Type 0 = Contains list in
          subst P here (listed (length walk.stem + q))

      module _ (stem cycle : List ℕ) (same_stem : map (branch_at list) stem ≡ walk.stem)
          (same_cycle : map (branch_at list) cycle ≡ walk.cycle)
          (stem_made : (v : ℕ) → Contains stem v → v < length list) (cycle_made :
          (v : ℕ) → Contains cycle v → v < length list) where
        whole-walk : walk_of list stem cycle ≡ walk
        whole-walk =
            ap (λ s. let l : Lasso Branch = record {
              stem = s;
              cycle =
                  map (branch_at list) cycle;
            } in l) same_stem
            ∙ ap (λ c. let l : Lasso Branch = record {
              stem = walk.stem;
              cycle =
                  c;
            } in l) same_cycle

        some : 0 < length cycle
        some = omega (arith, length-map cycle (branch_at list), ap length same_cycle, right.some)

        branch-at : (i : ℕ) → gone walk i ≡ branch_at list (place_of stem cycle i)
        branch-at i = ap (λ l. gone l i) (sym whole-walk) ∙ branch-at_place list stem cycle some i

        place-made : (i : ℕ) → place_of stem cycle i < length list
        place-made i =
            let P : ℕ → Type 0 = λ v. v < length list in
            elim (cases_lt i (length stem)) [
              | inl lt ↦ subst P (sym (place-in_stem stem cycle i lt)) (stem_made _
                  (contains-at 0 stem i _ lt refl))
              | inr le ↦
                  subst P (sym (place-in_cycle stem cycle i le))
                  (cycle_made _ (contains-at 0 cycle ((i - length stem) % length cycle) _ (mod-lt
                  (i - length stem) some) refl))
            ]

        edge : (i : ℕ) → IsEdge graph (place_of stem cycle i) (place_of stem cycle (i + 1))
        edge i =
            let P : Branch → Type 0 = λ b. IsBranch nodes b.later (gone walk (suc i)) in
            let Q : Branch → Type 0 =
            IsBranch nodes (branch_at list (place_of stem cycle i)).later in
            let next : gone walk (suc i) ≡ branch_at list (place_of stem cycle (i + 1)) =
            branch-at (suc i) ∙ ap (λ n. branch_at list (place_of stem cycle n)) (sym
            (add-one i)) in
            edge-node _ _ (place-made i) (place-made (i + 1)) (subst Q next (subst P (branch-at i)
            (right.goes.goes i)))

        node-walk : graphs.IsWalk graph stem cycle
        node-walk =
            record {
              some = some;
              starts = let P : Branch → Type 0 =
                  IsBranch nodes roots in
                  start-node _ (place-made 0) (subst P (branch-at 0) right.goes.starts);
              goes = edge;
            }

        node-fair : graphs.IsFair graph cycle
        node-fair k =
            let (b, there, kept) = accepted k in
            let P : List Branch → Type 0 = λ l. Contains l b in
            let (v, here, same) =
            map-from (branch_at list) cycle b (subst P (sym same_cycle) there) in (
              v,
              here,
              λ p.
                  let late : postpones nodes (branch_at list v) k ≡ true =
                  (tableau.postponed v k (cycle_made v here)).0 p in
                  let free : postpones nodes (branch_at list v) k ≡ false =
                  ap (λ x. postpones nodes x k) same ∙ kept in
                  cc,
            )

      pub fair-nodes : (stem : List ℕ) × (cycle : List ℕ) × (walk_of list stem cycle ≡ walk)
          × graphs.IsWalk graph stem cycle × graphs.IsFair graph cycle
      unfolding Places
      fair-nodes =
          let (stem, same_stem, stem_made) = places walk.stem stem-listed in
          let (cycle, same_cycle, cycle_made) = places walk.cycle cycle-listed in (
            stem,
            cycle,
            whole-walk stem cycle same_stem same_cycle stem_made cycle_made,
            node-walk stem cycle same_stem same_cycle stem_made cycle_made,
            node-fair stem cycle same_stem same_cycle stem_made cycle_made,
          )

    -- ---- ranks that pass

    module _ (ranks : Ranks) (ranked : IsRanked graph ranks) where
      -- the node of a branch has a rank
      HasRank : Branch → Type 0
      HasRank b = (v : ℕ) × (v < length list) × (branch_at list v ≡ b) × IsSome (rank_of ranks v)

      some-rank : (o : Option ℕ) (k : ℕ) → o ≡ Some k → IsSome o
      some-rank o k e = let P : Option ℕ → Type 0 = λ o. IsSome o in subst P (sym e) refl

      rank-there : (o : Option ℕ) → IsSome o → (k : ℕ) × (o ≡ Some k)
      rank-there (Some k) is = (k, refl)
      rank-there None is = absurd (cc)

      reached-ranked : (b : Branch) → IsReachable nodes roots b → HasRank b
      unfolding HasRank
      reached-ranked b (first is) =
          let P : List Branch → Type 0 = λ l. Contains l b in
          let (v, there, same) =
          map-from (branch_at list) (members_of graph 0) b (subst P (sym tableau.starts) is) in
          (v, inside 0 v there, same, ranked.starts v there)
      reached-ranked b (after a reach is) =
          let (v, lt, same, rank) = reached-ranked a reach in
          let P : List Branch → Type 0 = λ l. Contains l b in
          let Q : Branch → Type 0 = λ x. IsBranch nodes x.later b in
          let (w, there, same') =
          map-from (branch_at list) (successors_of graph v) b (subst P (sym (tableau.leads v lt))
          (subst Q (sym same) is)) in
          let (k, at) = rank-there (rank_of ranks v) rank in
          let (j, at', le) = ranked.falls v w k (omega (arith, tableau.count), there) at in
          (w, inside _ w there, same', some-rank (rank_of ranks w) j at')

      pub each-ranked : (v : ℕ) → v < length list → IsSome (rank_of ranks v)
      unfolding HasRank
      each-ranked v lt =
          let (w, lt', same, rank) =
          reached-ranked (branch_at list v) ((tableau.reachable (branch_at list v)).0
          (contains-at no_branch list v _ lt refl)) in
          let P : ℕ → Type 0 = λ x. IsSome (rank_of ranks x) in
          subst P (tableau.distinct w v lt' lt same) rank

      module _ (proof : RankProof) (has : HasRanks nodes list ranks proof) where
        -- an entry by its place
        at-place : (e : Ranked) → Contains proof.entries e
            → (v : ℕ) × (v < length list) × (e.branch ≡ branch_at list v) ×
            (rank_of ranks v ≡ Some e.rank)
        at-place e there =
            let (v, lt, is) = place-of no_entry proof.entries e there in
            let lt' : v < length list = omega (arith, has.count) in (
              v,
              lt',
              ap (λ x. x.branch) (sym is) ∙ has.branches v lt',
              has.ranked v lt'
                  ∙ ap (λ x. Some x.rank) is,
            )

        has-all : (set : Members) → ((b : Branch) → IsBranch nodes set b
            → IsReachable nodes roots b) → HasAll nodes proof.entries set
        has-all set reach b is =
            let (v, lt, same) = place-of no_branch list b ((tableau.reachable b).1 (reach b is)) in (
              entry_at proof.entries v,
              contains-at no_entry proof.entries v _ (omega (
                arith,
                has.count,
              )) refl,
              has.branches v lt ∙ same,
            )

        -- what an entry leads to
        leads : (d e : Ranked) (v w : ℕ) → v < length list → w < length list
            → d.branch ≡ branch_at list v → e.branch ≡ branch_at list w
            → IsBranch nodes d.branch.later e.branch → IsEdge graph v w
        leads d e v w lt lt' is is' h =
            let P : Branch → Type 0 = λ b. IsBranch nodes b.later e.branch in
            let Q : Branch → Type 0 = IsBranch nodes (branch_at list v).later in
            edge-node v w lt lt' (subst Q is' (subst P is h))

        falls-on : (d e : Ranked) → Contains proof.entries d → Contains proof.entries e
            → IsBranch nodes d.branch.later e.branch → e.rank ≤ d.rank
        falls-on d e in_it in_it' h =
            let (v, lt, is, rank) = at-place d in_it in
            let (w, lt', is', rank') = at-place e in_it' in
            let (j, at, le) = ranked.falls v w d.rank (leads d e v w lt lt' is is' h) rank in
            let same : Some j ≡ Some e.rank = sym at ∙ rank' in
            let same' : j ≡ e.rank = cc in
            omega arith

        late-branch : (r k : ℕ) → ranking.Explains graph ranks r (Some k) → (e : Ranked)
            → Contains proof.entries e → e.rank ≡ r → postpones nodes e.branch k ≡ true
        late-branch r k why e in_it is_r =
            let (v, lt, is, rank) = at-place e in_it in
            ap (λ b. postpones nodes b k) is
            ∙ (tableau.postponed v k lt).0 (why v (omega (arith, tableau.count)) (rank
            ∙ ap (λ x. Some x) is_r))

        no-edge : (r : ℕ) → ranking.Explains graph ranks r None
            → Explains nodes proof.entries r None
        no-edge r why d e in_it in_it' is_r is_r' h =
            let (v, lt, is, rank) = at-place d in_it in
            let (w, lt', is', rank') = at-place e in_it' in
            why v w (leads d e v w lt lt' is is' h) (rank ∙ ap (λ x. Some x) is_r) (rank'
            ∙ ap (λ x. Some x) is_r')

        -- no branch of the rank postpones a member that is no until
        unpostponed : (r k : ℕ) (n : Node) → node_at nodes k ≡ n
            → ((now : Members) → postponed_by now k n ≡ false)
            → ranking.Explains graph ranks r (Some k) → Explains nodes proof.entries r None
        unpostponed r k n is quiet why d e in_it in_it' is_r is_r' h =
            absurd (false≢true (sym (quiet d.branch.now)
            ∙ ap (postponed_by d.branch.now k) (sym is) ∙ late-branch r k why d in_it is_r))

        explains : (r : ℕ) (reason : Option ℕ) → ranking.Explains graph ranks r reason
            → Explains nodes proof.entries r (until_reason nodes reason)
        explains r None why = no-edge r why
        explains r (Some k) why = by (node_at nodes k) refl
          where
            by : (n : Node) → node_at nodes k ≡ n → Explains nodes proof.entries r (if_until k n)
            by always is = unpostponed r k always is (λ now. refl) why
            by never is = unpostponed r k never is (λ now. refl) why
            by (literal b a v) is = unpostponed r k (literal b a v) is (λ now. refl) why
            by (and g h) is = unpostponed r k (and g h) is (λ now. refl) why
            by (or g h) is = unpostponed r k (or g h) is (λ now. refl) why
            by (next g) is = unpostponed r k (next g) is (λ now. refl) why
            by (weak_next g) is = unpostponed r k (weak_next g) is (λ now. refl) why
            by (release g h) is = unpostponed r k (release g h) is (λ now. refl) why
            by (until g h) is = late-branch r k why

        -- a rank that has no reason has no entry
        unranked : (r : ℕ) → length proof.reasons ≤ r → Explains nodes proof.entries r None
        unranked r past d e in_it in_it' is_r is_r' h =
            let lt =
            All-contains (λ (x : Ranked). x.rank < length proof.reasons) proof.entries d has.below
            in_it in
            absurd (omega arith)

        explained-at : (r : ℕ) → Explains nodes proof.entries r (reason_at proof r)
        explained-at r =
            let P : Option ℕ → Type 0 = Explains nodes proof.entries r in
            elim (cases_lt r (length proof.reasons)) [
              | inl lt ↦ subst P (sym (has.reasons r lt)) (explains r (reason_of ranks r)
                  (ranked.explained r))
              | inr past ↦
                  subst P (sym (get_or_past proof.reasons r None past)) (unranked r past)
            ]

        reached : (e : Ranked) → Contains proof.entries e → IsReachable nodes roots e.branch
        reached e in_it =
            let (v, lt, is, rank) = at-place e in_it in
            let P : Branch → Type 0 = Contains list in
            (tableau.reachable e.branch).0 (subst P (sym is) (contains-at no_branch list v _ lt refl))

        module _ (parts : (k : ℕ) → k < length nodes → PartsBelow k (node_at nodes k)) where
          pub rank-proof : IsRankProof nodes roots proof
          rank-proof =
              record {
                members =
                    All-weaker (Contains proof.entries) (λ e. IsOfMembers nodes e.branch)
                    (λ e in_it. reachable-members nodes parts roots e.branch (reached e in_it))
                    proof.entries (All-contains_itself proof.entries);
                ranked = has.below;
                untils = λ r o lt k is.
                    until-kept nodes (reason_of ranks r) k (sym (has.reasons r lt)
                    ∙ get_or_default proof.reasons r None o lt ∙ is);
                begins = has-all roots (λ b is. first is);
                closed = λ e in_it.
                    has-all e.branch.later (λ b next. after e.branch (reached e in_it) next);
                falls = falls-on;
                explained = explained-at;
              }
