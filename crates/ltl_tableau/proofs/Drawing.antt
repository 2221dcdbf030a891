-- The graph of the branches that were explored.
use Rattle.std.proofs.Common.{◌≡◌, ◌≢◌, ℕ, zero, suc, ◌+◌, ◌<◌, ◌≤◌, ◌↔◌, Bool, true, false, not, nat_lt, cond, List, [], ◌∷◌, ◌++◌, length, map, get_or, position, slice_get, Some, inl, inr, refl, sym, ap, ◌∙◌, subst, arith}
use Rattle.std.specs.List.{Contains, position_or_len}
use Rattle.std.specs.FinSet.{empty}
use Rattle.std.proofs.lemmas.Bool.{cases_lt, cases_eq}
use Rattle.std.proofs.lemmas.List.{get_or_append_left, get_or_past, get_or_default}
use Rattle.std.proofs.lemmas.List.Elements.{Contains-append_left, Contains-append_right, Contains-push, Contains-push_cases}
use Rattle.std.proofs.lemmas.Option.{cond_some}
use Rattle.hy_base.proofs.Places.{last-of}
use Rattle.rank_check.specs.declared.graph.Node.{Node as Vertex}
use Rattle.rank_check.specs.Graphs.{Shape, members_of, no_node}
use Rattle.ltl_closure.specs.Nodes.{Node}
use Rattle.ltl_tableau.specs.Branches.{Members, Branch, branches, IsBranch, postpones}
use Rattle.ltl_tableau.specs.Reached.{IsReachable, first, after, branch_at, set_at, group_at, IsTableau, Explores, AreGroups, IsNodeOf, AreNodes}
use Rattle.ltl_tableau.proofs.Collecting.{number-same}
use Rattle.ltl_tableau.proofs.Exploring.{contains-at, place-of, equal_sets}

-- ---- groups

pub member-made : (members items : List ℕ) (i n : ℕ) → items ≡ members → i < length items → ((v : ℕ) → Contains members v → v < n) → get_or items i 0 < n
member-made members items i n is lt made = let P : List ℕ → Type 0 = λ l. Contains l (get_or items i 0) in made _ (subst P is (contains-at 0 items i _ lt refl))

get-group : (groups : List (List ℕ)) (j : ℕ) (g : List ℕ) → slice_get groups j ≡ Some g → group_at groups j ≡ g
get-group [] j g e = absurd (cc)
get-group (x ∷ xs) zero g e = cc
get-group (x ∷ xs) (suc j) g e = get-group xs j g e

pub group-made : (groups : List (List ℕ)) (j n : ℕ) (g : List ℕ) → slice_get groups j ≡ Some g → ((j v : ℕ) → Contains (group_at groups j) v → v < n) → (v : ℕ) → Contains g v → v < n
group-made groups j n g e made v h = let P : List ℕ → Type 0 = λ l. Contains l v in made j v (subst P (sym (get-group groups j g e)) h)

pub group-few : (groups : List (List ℕ)) (j n : ℕ) (g : List ℕ) → slice_get groups j ≡ Some g → ((j : ℕ) → length (group_at groups j) < n) → length g < n
group-few groups j n g e few = let lt = few j in omega (arith, ap length (get-group groups j g e))

pub groups-filled : (groups : List (List ℕ)) (old new : Shape) (i : ℕ) (g : List ℕ) → slice_get groups i ≡ Some g → members_of new i ≡ g → ((j : ℕ) → j ≢ i → members_of new j ≡ members_of old j)
    → ((j : ℕ) → j < i → members_of old j ≡ group_at groups j) → (j : ℕ) → j < i + 1 → members_of new j ≡ group_at groups j
groups-filled groups old new i g e at others filled j lt =
    elim (cases_eq j i) [
      | inl same ↦ let P : ℕ → Type 0 = λ q. members_of new q ≡ group_at groups q in subst P (sym same) (at ∙ sym (get-group groups i g e))
      | inr apart ↦ others j apart ∙ filled j (omega arith)
    ]

pub groups-empty : (old new : Shape) (i : ℕ) → ((j : ℕ) → j ≢ i → members_of new j ≡ members_of old j) → ((j : ℕ) → i ≤ j → members_of old j ≡ []) → (j : ℕ) → i + 1 ≤ j → members_of new j ≡ []
groups-empty old new i others empty j le = others j (λ e. omega arith) ∙ empty j (omega arith)

pub groups-all : (groups : List (List ℕ)) (g : Shape) (i : ℕ) → length groups ≤ i → ((j : ℕ) → j < i → members_of g j ≡ group_at groups j) → ((j : ℕ) → i ≤ j → members_of g j ≡ []) → (j : ℕ) → members_of g j ≡ group_at groups j
groups-all groups g i end filled empty j = elim (cases_lt j i) [ inl lt ↦ filled j lt | inr past ↦ empty j past ∙ sym (get_or_past groups j [] (omega arith)) ]

-- ---- untils

module _ (nodes : List Node) (b : Branch) (k : ℕ) (list list' : List ℕ) (so_far : (q : ℕ) → Contains list q ↔ ((q < k) × (postpones nodes b q ≡ true))) where
  pub postponed-more : list' ≡ list ++ k ∷ [] → postpones nodes b k ≡ true → (q : ℕ) → Contains list' q ↔ ((q < k + 1) × (postpones nodes b q ≡ true))
  postponed-more is e q = (there, back)
    where
      P : List ℕ → Type 0
      P l = Contains l q

      there : Contains list' q → (q < k + 1) × (postpones nodes b q ≡ true)
      there h =
          elim (Contains-push_cases list k q (let Q : List ℕ → Type 0 = λ l. Contains l q in subst Q is h)) [
            | inl old ↦ let (lt, p) = (so_far q).0 old in (omega arith, p)
            | inr same ↦ (omega arith, let Q : ℕ → Type 0 = λ x. postpones nodes b x ≡ true in subst Q same e)
          ]

      back : (q < k + 1) × (postpones nodes b q ≡ true) → Contains list' q
      back (lt, p) =
          let Q : List ℕ → Type 0 = λ l. Contains l q in
          elim (cases_eq q k) [
            | inl same ↦ let R : ℕ → Type 0 = λ x. Contains (list ++ k ∷ []) x in subst Q (sym is) (subst R (sym same) (Contains-push list k))
            | inr apart ↦ subst Q (sym is) (Contains-append_left list (k ∷ []) q ((so_far q).1 (omega arith, p)))
          ]

  pub postponed-same : list' ≡ list → postpones nodes b k ≡ false → (q : ℕ) → Contains list' q ↔ ((q < k + 1) × (postpones nodes b q ≡ true))
  postponed-same is e q = (there, back)
    where
      there : Contains list' q → (q < k + 1) × (postpones nodes b q ≡ true)
      there h = let Q : List ℕ → Type 0 = λ l. Contains l q in let (lt, p) = (so_far q).0 (subst Q is h) in (omega arith, p)

      back : (q < k + 1) × (postpones nodes b q ≡ true) → Contains list' q
      back (lt, p) =
          let Q : List ℕ → Type 0 = λ l. Contains l q in
          elim (cases_eq q k) [
            | inl same ↦ absurd (let R : ℕ → Type 0 = λ x. postpones nodes b x ≡ true in let clash = subst R same p in cc)
            | inr apart ↦ subst Q (sym is) ((so_far q).1 (omega arith, p))
          ]

-- ---- the place of a set

module _ (p : Members → Bool) where
  found-at : (xs : List Members) (d : Members) → position_or_len p xs < length xs → p (get_or xs (position_or_len p xs) d) ≡ true
  found-at [] d lt = absurd (omega arith)
  found-at (x ∷ xs) d lt = step (p x) refl lt (found-at xs d)
    where
      step : (b : Bool) → p x ≡ b → cond (not b) (1 + position_or_len p xs) 0 < length (x ∷ xs) → (position_or_len p xs < length xs → p (get_or xs (position_or_len p xs) d) ≡ true) → p (get_or (x ∷ xs) (cond (not b) (1 + position_or_len p xs) 0) d) ≡ true
      step true is lt rest = is
      step false is lt rest =
          let one : suc (position_or_len p xs) ≡ 1 + position_or_len p xs = omega arith in
          let P : ℕ → Type 0 = λ q. p (get_or (x ∷ xs) q d) ≡ true in
          subst P one (rest (omega arith))

pub set-at_place : (sets : List Members) (s : Members) (i : ℕ) → Some i ≡ position (λ t. equal_sets s t) sets → i < length sets → set_at sets i ≡ s
set-at_place sets s i e lt =
    let (_, same) = cond_some (nat_lt (position_or_len (λ t. equal_sets s t) sets) (length sets)) (position_or_len (λ t. equal_sets s t) sets) i (sym e) in
    let inside : position_or_len (λ t. equal_sets s t) sets < length sets = omega arith in
    let there : equal_sets s (set_at sets (position_or_len (λ t. equal_sets s t) sets)) ≡ true = found-at (λ t. equal_sets s t) sets empty inside in
    let P : ℕ → Type 0 = λ q. set_at sets q ≡ s in
    subst P same (sym (number-same s _ there))

-- ---- the tableau

module _ (nodes : List Node) (n : ℕ) (roots : Members) (sets : List Members) (list : List Branch) (groups : List (List ℕ)) (graph : Shape)
    (root : set_at sets 0 ≡ roots) (explores : Explores nodes sets list) (are : AreGroups nodes n sets list groups) (all : length sets ≤ length groups)
    (drawn : AreNodes nodes sets list graph.nodes) (filled : (j : ℕ) → members_of graph j ≡ group_at groups j) where
  named : (vs : List ℕ) (b : Branch) → ((v : ℕ) → Contains vs v → v < length list) → Contains (map (branch_at list) vs) b → Contains list b
  named [] b inside (k, lt, e) = absurd (omega arith)
  named (v ∷ vs) b inside (zero, lt, e) = contains-at _ list v b (inside v (0, omega arith, refl)) e
  named (v ∷ vs) b inside (suc k, lt, e) = named vs b (λ w h. inside w (Contains-append_right (v ∷ []) vs w h)) (k, omega arith, e)

  in-set : (j : ℕ) → j < length groups → (b : Branch) → IsBranch nodes (set_at sets j) b → Contains list b
  in-set j lt b is = let P : List Branch → Type 0 = λ l. Contains l b in named (group_at groups j) b (λ v h. are.inside j v h) (subst P (sym (are.right j lt)) is)

  whole : (b : Branch) → IsReachable nodes (set_at sets 0) b → Contains list b
  whole b (first is) = in-set 0 (omega (arith, explores.some)) b is
  whole b (after a reach is) =
      let (j, lt, at) = place-of empty sets a.later (explores.leaves a (whole a reach)) in
      let P : Members → Type 0 = λ s. IsBranch nodes s b in
      in-set j (omega arith) b (subst P (sym at) is)

  pub is-tableau : IsTableau nodes roots list graph
  is-tableau =
      record {
        distinct = explores.distinct;
        reachable = λ b. let P : Members → Type 0 = λ r. IsReachable nodes r b in (λ h. subst P root (explores.reached b h), λ h. whole b (subst P (sym root) h));
        count = drawn.count;
        starts = ap (map (branch_at list)) (filled 0) ∙ are.right 0 (omega (arith, explores.some)) ∙ ap (branches nodes) root;
        leads = λ v lt.
            let node = drawn.each v lt in
            ap (map (branch_at list)) (filled _) ∙ are.right _ (omega (arith, node.named)) ∙ ap (branches nodes) node.leads;
        postponed = λ v k lt. (drawn.each v lt).postponed k;
      }

-- ---- nodes, one after another

pub nodes-push : (nodes : List Node) (sets : List Members) (items : List Branch) (old new : List Vertex) (x : Vertex) (b : Branch) (i : ℕ) → length old ≡ i → new ≡ old ++ x ∷ [] → i < length items → b ≡ get_or items i b → IsNodeOf nodes sets b x
    → ((v : ℕ) → v < i → IsNodeOf nodes sets (branch_at items v) (get_or old v no_node)) → (v : ℕ) → v < i + 1 → IsNodeOf nodes sets (branch_at items v) (get_or new v no_node)
nodes-push nodes sets items old new x b i count is lt at here each v below =
    let Q : List Vertex → Type 0 = λ l. IsNodeOf nodes sets (branch_at items v) (get_or l v no_node) in
    elim (cases_eq v i) [
      | inl same ↦
          let P : ℕ → Type 0 = λ q. IsNodeOf nodes sets (branch_at items q) (get_or (old ++ x ∷ []) q no_node) in
          let e : length old ≡ v = omega arith in
          let N : Vertex → Type 0 = IsNodeOf nodes sets (branch_at items (length old)) in
          let B : Branch → Type 0 = λ c. IsNodeOf nodes sets c x in
          let inside : length old < length items = omega arith in
          let item : branch_at items (length old) ≡ b = get_or_default items (length old) _ b inside ∙ ap (λ q. get_or items q b) count ∙ sym at in
          subst Q (sym is) (subst P e (subst N (sym (last-of old x no_node)) (subst B (sym item) here)))
      | inr apart ↦
          let inside : v < length old = omega arith in
          let N : Vertex → Type 0 = IsNodeOf nodes sets (branch_at items v) in
          subst Q (sym is) (subst N (sym (get_or_append_left old (x ∷ []) no_node v inside)) (each v (omega arith)))
    ]

-- ---- the beginning

pub explores-start : (nodes : List Node) (r : Members) (sets : List Members) (list : List Branch) → sets ≡ r ∷ [] → list ≡ [] → Explores nodes sets list
explores-start nodes r sets list is none =
    let P : List Members → Type 0 = λ s. Explores nodes s list in
    let Q : List Branch → Type 0 = Explores nodes (r ∷ []) in
    subst P (sym is) (subst Q (sym none)
    (record {
      some = omega arith;
      few = omega arith;
      distinct = λ v w lt. absurd (omega arith);
      asked = asked;
      reached = λ b (k, lt, _). absurd (omega arith);
      leaves = λ b (k, lt, _). absurd (omega arith);
    }))
  where
    asked : (s : Members) → Contains (r ∷ []) s → (b : Branch) → IsBranch nodes s b → IsReachable nodes r b
    asked s (zero, lt, e) b is' = let P : Members → Type 0 = λ x. IsBranch nodes x b in first (subst P (sym e) is')
    asked s (suc k, lt, e) b is' = absurd (omega arith)

pub groups-start : (nodes : List Node) (n : ℕ) (sets : List Members) (list : List Branch) (groups : List (List ℕ)) → groups ≡ [] → AreGroups nodes n sets list groups
groups-start nodes n sets list groups none =
    let P : List (List ℕ) → Type 0 = AreGroups nodes n sets list in
    subst P (sym none) (record { inside = λ j v (k, lt, _). absurd (omega arith); few = λ j. omega arith; right = λ j lt. absurd (omega arith) })

pub root-is : (sets : List Members) (r roots : Members) → sets ≡ r ∷ [] → r ≡ roots → set_at sets 0 ≡ roots
root-is sets r roots is same = ap (λ s. set_at s 0) is ∙ same
