-- How many members were looked at, and how much is left.
use Rattle.std.proofs.Common.{◌≡◌, ℕ, zero, suc, ◌+◌, ◌-◌, ◌*◌, ◌<◌, ◌≤◌, List, [], ◌∷◌, length, get_or, set, sum, arith}
use Rattle.std.specs.List.{sum_by}
use Rattle.std.proofs.lemmas.List.Sums.{sum_by-set, sum_by-cons}
use Rattle.rank_check.specs.declared.graph.Node.{Node}
use Rattle.rank_check.specs.Graphs.{Shape, members_of, no_node}
use Rattle.fair_search.specs.declared.pass.Pass.{Pass}
use Rattle.fair_search.specs.Passing.{degree_of, looks_of, looks, edges, IsPass}

-- a sum of smaller numbers is smaller
sum_below : (f : Node → ℕ) (xs : List ℕ) (ns : List Node) → length xs ≡ length ns
    → ((v : ℕ) → get_or xs v 0 ≤ f (get_or ns v no_node)) → sum xs ≤ sum_by f ns
sum_below f [] [] long below = omega arith
sum_below f [] (n ∷ ns) long below = absurd (omega (arith, long))
sum_below f (x ∷ xs) [] long below = absurd (omega (arith, long))
sum_below f (x ∷ xs) (n ∷ ns) long below =
    omega (
      arith,
      sum_by-cons (λ x. x) x xs,
      sum_by-cons f n ns,
      below 0,
      sum_below f xs ns (omega (arith, long)) (λ v. below (suc v)),
    )

-- the same, where one of them is smaller yet
sum_less : (f : Node → ℕ) (xs : List ℕ) (ns : List Node) (w : ℕ) → length xs ≡ length ns
    → w < length ns → ((v : ℕ) → get_or xs v 0 ≤ f (get_or ns v no_node))
    → get_or xs w 0 < f (get_or ns w no_node) → sum xs < sum_by f ns
sum_less f [] ns w long there below less = absurd (omega (arith, long, there))
sum_less f (x ∷ xs) [] w long there below less = absurd (omega (arith, long))
sum_less f (x ∷ xs) (n ∷ ns) zero long there below less =
    omega (
      arith,
      sum_by-cons (λ x. x) x xs,
      sum_by-cons f n ns,
      less,
      sum_below f xs ns (omega (arith, long)) (λ v. below (suc v)),
    )
sum_less f (x ∷ xs) (n ∷ ns) (suc w) long there below less =
    omega (
      arith,
      sum_by-cons (λ x. x) x xs,
      sum_by-cons f n ns,
      below 0,
      sum_less f xs ns w (omega (arith, long)) (omega (arith, there)) (λ v. below (suc v)) less,
    )

module _ (g : Shape) (p : Pass) (is : IsPass g p) where
  -- each look was at another member
  pub looks_within : looks p ≤ edges g
  looks_within =
      omega (
        arith,
        is.begun_within,
        sum_below (λ n. length (members_of g n.next_group)) p.explored
            g.nodes is.explored_long is.within,
      )

  pub looks_start : p.begun < length (members_of g 0) → looks p < edges g
  looks_start more =
      omega (
        arith,
        more,
        sum_below (λ n. length (members_of g n.next_group)) p.explored g.nodes
            is.explored_long is.within,
      )

  pub looks_left : (v : ℕ) → v < length g.nodes → looks_of p v < degree_of g v → looks p < edges g
  looks_left v there more =
      omega (
        arith,
        is.begun_within,
        sum_less (λ n. length (members_of g n.next_group)) p.explored
            g.nodes v is.explored_long there is.within more,
      )

-- one more look at a node
pub one_more : (xs : List ℕ) (v k : ℕ) → v < length xs → get_or xs v 0 ≡ k
    → sum (set xs v (k + 1)) ≡ sum xs + 1
one_more xs v k there is = omega (arith, sum_by-set (λ x. x) xs v (k + 1) 0 there, is)

-- a look leaves less, though two places are taken up with it
pub falls-look : (e k l s t : ℕ) → k < e → l ≡ k + 1 → t ≤ s + 2 → 3 * (e - l) + t < 3 * (e - k) + s
falls-look e k l s t lt is le = omega (arith, lt, is, le)
