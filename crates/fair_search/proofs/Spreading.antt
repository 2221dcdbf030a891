-- What was reached from a node grows, and leads to each node to which the first one does.
use Rattle.std.proofs.Common.{◌≡◌, ◌≢◌, ℕ, zero, suc, ◌+◌, ◌<◌, ◌≤◌, Bool, true, false, cond, List, [], ◌∷◌, ◌++◌, length, get_or, set, replicate, take, reverse, count_by, inl, inr, refl, sym, ap, ◌∙◌, subst, arith, append_assoc, append-nil}
use Rattle.std.specs.List.{Contains, sum_by}
use Rattle.std.proofs.Math.ListN.{length-set, length-append, get_or-append}
use Rattle.std.proofs.Math.Seq.{get_or-append_seam}
use Rattle.std.proofs.lemmas.Bool.{cases_eq, cases_lt, cases_Bool, true≢false}
use Rattle.std.proofs.lemmas.List.{get_or-set_same, get_or-set_other, get_or_past, get_or_default, length-replicate, take_more, take-append-le, reverse-append}
use Rattle.std.proofs.lemmas.List.Sums.{sum_by-set, sum_by-cons, sum_by_push, sum_by-take-le, count_by-le-length}
use Rattle.rank_check.specs.declared.graph.Node.{Node}
use Rattle.rank_check.specs.Graphs.{Shape, members_of, node_of, no_node, successors_of, IsEdge}
use Rattle.fair_search.specs.declared.path.Reached.{Reached}
use Rattle.fair_search.specs.declared.path.Spread.{Spread}
use Rattle.fair_search.specs.Passing.{edges}
use Rattle.fair_search.proofs.Beginning.{all_alike}
use Rattle.fair_search.specs.Paths.{Leads, one, more, no_reached, reached_at, outgoing, leaving, IsSpread, IsSpent, Grows, IsAdded, IsPath, first_or}

-- ---- how many edges leave the nodes that were seen

pub leaving-set : (g : Shape) (bs : List Bool) (ns : List Node) (v : ℕ) → v < length bs
    → length bs ≡ length ns → get_or bs v false ≡ false
    → leaving g (set bs v true) ns ≡ leaving g bs ns + length
    (members_of g (get_or ns v no_node).next_group)
leaving-set g [] ns v lt long unseen = absurd (omega (arith, lt))
leaving-set g (b ∷ bs) [] v lt long unseen = absurd (omega (arith, long))
leaving-set g (b ∷ bs) (n ∷ ns) zero lt long unseen =
    let count : Bool → ℕ = λ b. cond b (length (members_of g n.next_group)) 0 in
    let none : count b ≡ 0 = ap count unseen in
    omega (arith, none)
leaving-set g (b ∷ bs) (n ∷ ns) (suc v) lt long unseen = omega
    (arith, leaving-set g bs ns v (omega (arith, lt)) (omega (arith, long)) unseen)

part_below : (b : Bool) (n : ℕ) → cond b n 0 ≤ n
part_below true n = omega arith
part_below false n = omega arith

pub leaving-below : (g : Shape) (bs : List Bool) (ns : List Node)
    → leaving g bs ns ≤ sum_by (λ n. length (members_of g n.next_group)) ns
leaving-below g [] ns = omega arith
leaving-below g (b ∷ bs) [] = omega arith
leaving-below g (b ∷ bs) (n ∷ ns) =
    omega (
      arith,
      part_below b (length (members_of g n.next_group)),
      sum_by-cons (λ n. length (members_of g n.next_group)) n ns,
      leaving-below g bs ns,
    )

leaving-none : (g : Shape) (n : ℕ) (ns : List Node) → leaving g (replicate n false) ns ≡ 0
leaving-none g zero ns = refl
leaving-none g (suc n) [] = refl
leaving-none g (suc n) (x ∷ ns) = omega (arith, leaving-none g n ns)

count-none : (n : ℕ) → count_by (λ b. b) (replicate n false) ≡ 0
count-none zero = refl
count-none (suc n) = let unit : Bool → ℕ = λ b. cond b 1 0 in omega
    (arith, sum_by-cons unit false (replicate n false), count-none n)

-- ---- one more node

module _ (g : Shape) (seen : List Bool) (reached : List Reached) (is : IsSpread g seen reached)
  where
    pub few : length reached ≤ length g.nodes
    few = omega (arith, is.counted, is.long, count_by-le-length (λ b. b) seen)

    -- each node that was reached is one of the graph
    pub node_made : (j : ℕ) → j < length reached → (reached_at reached j).node < length g.nodes
    node_made j lt =
        elim (cases_lt (reached_at reached j).node (length seen)) [
          | inl made ↦ omega (arith, made, is.long)
          | inr le ↦ absurd (true≢false (sym (is.marked j lt) ∙ get_or_past seen _ false le))
        ]

    pub total : sum_by (outgoing g) reached ≤ edges g
    total = omega (arith, is.weighed, leaving-below g seen g.nodes)

    module _ (w head : ℕ) (made : w < length g.nodes) (unseen : get_or seen w false ≡ false)
        (lt : head < length reached) (edge : IsEdge g (reached_at reached head).node w) where
      abbrev next : Reached
      next = record { node = w; from = head }

      abbrev reached' : List Reached
      reached' = reached ++ next ∷ []

      abbrev seen' : List Bool
      seen' = set seen w true

      there : w < length seen
      there = omega (arith, is.long, made)

      old : (j : ℕ) → j < length reached → reached_at reached' j ≡ reached_at reached j
      old j below = get_or-append reached (next ∷ []) no_reached j below

      last : reached_at reached' (length reached) ≡ next
      last = get_or-append_seam reached next [] no_reached

      longer : length reached' ≡ length reached + 1
      longer = length-append reached (next ∷ [])

      same_seen : (v : ℕ) → v ≢ w → get_or seen' v false ≡ get_or seen v false
      same_seen v apart = get_or-set_other seen w v true false apart

      pub now_seen : get_or seen' w false ≡ true
      now_seen = get_or-set_same seen w true false there

      still_seen : (v : ℕ) → get_or seen v false ≡ true → get_or seen' v false ≡ true
      still_seen v was = same_seen v (λ e. true≢false
          (sym was ∙ ap (λ v. get_or seen v false) e ∙ unseen)) ∙ was

      added_tree : (j : ℕ) → 0 < j → j < length reached'
          → ((reached_at reached' j).from < j) × IsEdge g
          (reached_at reached' (reached_at reached' j).from).node (reached_at reached' j).node
      added_tree j some below =
          elim (cases_eq j (length reached)) [
            | inl e ↦
                let at : reached_at reached' j ≡ next = (λ t. reached_at reached' (e t)) ∙ last in
                let P : Reached → Type 0 = λ r. (r.from < j) × IsEdge g
                (reached_at reached' r.from).node r.node in
                let Q : Reached → Type 0 = λ r. IsEdge g r.node w in
                subst P (sym at) (omega (arith, e, lt), subst Q (sym (old head lt)) edge)
            | inr apart ↦
                let low : j < length reached = omega (arith, longer, below, apart) in
                let (earlier, link) = is.tree j some low in
                let P : Reached → Type 0 = λ r. (r.from < j) × IsEdge g
                (reached_at reached' r.from).node r.node in
                let Q : Reached → Type 0 = λ r. IsEdge g r.node (reached_at reached j).node in
                subst P (sym (old j low)) (
                  earlier,
                  subst Q (sym (old (reached_at reached j).from (omega (arith, earlier, low))))
                      link,
                )
          ]

      added_marked : (j : ℕ) → j < length reached'
          → get_or seen' (reached_at reached' j).node false ≡ true
      added_marked j below =
          elim (cases_eq j (length reached)) [
            | inl e ↦ ap (λ r. get_or seen' r.node false) ((λ t. reached_at reached' (e t)) ∙ last)
                ∙ now_seen
            | inr apart ↦
                let low : j < length reached = omega (arith, longer, below, apart) in
                ap (λ r. get_or seen' r.node false) (old j low) ∙ still_seen _ (is.marked j low)
          ]

      added_listed : (v : ℕ) → get_or seen' v false ≡ true
          → (j : ℕ) × (j < length reached') × ((reached_at reached' j).node ≡ v)
      added_listed v was =
          elim (cases_eq v w) [
            | inl e ↦ (length reached, omega (arith, longer), ap (λ r. r.node) last ∙ sym e)
            | inr apart ↦
                let (j, low, at) = is.listed v (sym (same_seen v apart) ∙ was) in
                (j, omega (arith, longer, low), ap (λ r. r.node) (old j low) ∙ at)
          ]

      pub added : IsSpread g seen' reached'
      added = record {
        long = length-set seen w true ∙ is.long;
        some = omega (arith, longer);
        tree = added_tree;
        marked = added_marked;
        listed = added_listed;
        counted =
            (let unit : Bool → ℕ = λ b. cond b 1 0 in
            let none : unit (get_or seen w false) ≡ 0 = ap unit unseen in
            omega (arith, longer, is.counted, sum_by-set unit seen w true false there, none));
        weighed = omega (
          arith,
          sum_by_push (outgoing g) reached next,
          leaving-set g seen g.nodes w there is.long unseen,
          is.weighed,
        );
      }

      pub added_grows : Grows seen reached seen' reached'
      added_grows = record { longer = (next ∷ [], refl); still = still_seen }

-- the first node
pub spread_first : (g : Shape) (from : ℕ) → from < length g.nodes
    → IsSpread g (set (replicate (length g.nodes) false) from true)
    (record { node = from; from = 0 } ∷ [])
spread_first g from made = record {
  long = omega (arith, length-set none from true, length-replicate (length g.nodes) false);
  some = omega arith;
  tree = λ j some below. absurd (omega (arith, some, below));
  marked = λ j below. ap (λ r. get_or (set none from true) r.node false) (at j below) ∙ now;
  listed = λ v was.
      elim (cases_eq v from) [
        | inl e ↦ (0, omega arith, sym e)
        | inr apart ↦ absurd (true≢false (sym was ∙ get_or-set_other none from v true false apart
            ∙ unseen v))
      ];
  counted =
      (let unit : Bool → ℕ = λ b. cond b 1 0 in
      let zero_here : unit (get_or none from false) ≡ 0 = ap unit (unseen from) in
      omega (
        arith,
        sum_by-set unit none from true false there,
        count-none (length g.nodes),
        zero_here,
      ));
  weighed = omega (
    arith,
    sum_by-cons (outgoing g) (record { node = from; from = 0 }) [],
    leaving-set g none g.nodes from there (length-replicate (length g.nodes) false) (unseen from),
    leaving-none g (length g.nodes) g.nodes,
  );
}
  where
    none : List Bool
    none = replicate (length g.nodes) false

    there : from < length (replicate (length g.nodes) false)
    there = omega (arith, made, length-replicate (length g.nodes) false)

    unseen : (v : ℕ) → get_or (replicate (length g.nodes) false) v false ≡ false
    unseen v = all_alike (length g.nodes) false v

    now : get_or (set (replicate (length g.nodes) false) from true) from false ≡ true
    now = get_or-set_same (replicate (length g.nodes) false) from true false
        (omega (arith, made, length-replicate (length g.nodes) false))

    at : (j : ℕ) → j < 1 → reached_at (record { node = from; from = 0 } ∷ []) j ≡ record
        { node = from; from = 0 }
    at zero below = refl
    at (suc j) below = absurd (omega (arith, below))

-- ---- where all nodes are spent

-- Where each node that was seen is spent, it does not lead to the one that is sought.
pub spent_all : (g : Shape) (to : ℕ) (seen : List Bool)
    → ((v : ℕ) → get_or seen v false ≡ true → IsSpent g to seen v) → {v z : ℕ} → Leads g v z
    → z ≡ to → get_or seen v false ≡ true → ⊥
spent_all g to seen each (one {v} {w} edge) e was = (each v was w edge).0 e
spent_all g to seen each (more {v} {w} {z} edge path) e was = spent_all g to seen each path e
    (each v was w edge).1

-- what is spent stays spent
pub spent_still : (g : Shape) (to v : ℕ) (seen later : List Bool)
    → ((w : ℕ) → get_or seen w false ≡ true → get_or later w false ≡ true) → IsSpent g to seen v
    → IsSpent g to later v
spent_still g to v seen later still spent w edge = let (apart, was) = spent w edge in
    (apart, still w was)

pub grows_none : (seen : List Bool) (reached : List Reached) → Grows seen reached seen reached
grows_none seen reached = record { longer = ([], sym (append-nil reached)); still = λ v was. was }

pub grows_on : (s s' s'' : List Bool) (r r' r'' : List Reached) → Grows s r s' r'
    → Grows s' r' s'' r'' → Grows s r s'' r''
grows_on s s' s'' r r' r'' a b =
    let (xs, e) = a.longer in
    let (ys, f) = b.longer in
    record {
      longer = (xs ++ ys, f ∙ ap (λ l. l ++ ys) e ∙ append_assoc r xs ys);
      still = λ v was.
          b.still v (a.still v was);
    }

-- what comes of reaching one node
pub added_step : (g : Shape) (p q : Spread) (w head : ℕ) → IsSpread g p.seen p.reached
    → w < length g.nodes → head < length p.reached → IsEdge g (reached_at p.reached head).node w
    → IsAdded p q w head → IsSpread g q.seen q.reached × Grows p.seen p.reached q.seen q.reached ×
    (get_or q.seen w false ≡ true)
added_step g p q w head is made lt edge so =
    let P : Spread → Type 0 = λ q. IsSpread g q.seen q.reached × Grows p.seen p.reached q.seen
    q.reached × (get_or q.seen w false ≡ true) in
    elim (cases_Bool (get_or p.seen w false)) [
      | inl was ↦ subst P (sym (so.was_seen was)) (is, grows_none p.seen p.reached, was)
      | inr unseen ↦
          subst P (sym (so.was_new unseen)) (
            added g p.seen p.reached is w head made unseen lt edge,
            added_grows g p.seen p.reached is w head made unseen lt edge,
            now_seen g p.seen p.reached is w head made unseen lt edge,
          )
    ]

-- an earlier node stands where it stood
pub grown_at : (s s' : List Bool) (r r' : List Reached) → Grows s r s' r' → (j : ℕ) → j < length r
    → reached_at r' j ≡ reached_at r j
grown_at s s' r r' a j lt = let (xs, e) = a.longer in ap (λ l. reached_at l j) e
    ∙ get_or-append r xs no_reached j lt

pub grown_long : (s s' : List Bool) (r r' : List Reached) → Grows s r s' r' → length r ≤ length r'
grown_long s s' r r' a = let (xs, e) = a.longer in omega (arith, ap length e, length-append r xs)

-- ---- the search as it goes on

-- a node is spent where each of its members was seen and is not the one that is sought
pub spent_from : (g : Shape) (to u v group : ℕ) (seen : List Bool) → u ≡ v
    → group ≡ (node_of g v).next_group → ((k : ℕ) → k < length (members_of g group)
    → (get_or (members_of g group) k 0 ≢ to) ×
    (get_or seen (get_or (members_of g group) k 0) false ≡ true)) → IsSpent g to seen u
spent_from g to u v group seen e f each w edge =
    let same : group ≡ (node_of g u).next_group = f ∙ ap (λ v. (node_of g v).next_group) (sym e) in
    let C : ℕ → Type 0 = λ k. Contains (members_of g k) w in
    let (k, lt, at) = subst C (sym same) edge.1 in
    let P : ℕ → Type 0 = λ w. (w ≢ to) × (get_or seen w false ≡ true) in
    subst P (get_or_default (members_of g group) k 0 w lt ∙ at) (each k lt)

-- the edges that leave the nodes up to a place
paid-next : (g : Shape) (reached : List Reached) (head : ℕ) → head < length reached
    → sum_by (outgoing g) (take (head + 1) reached) ≡ sum_by (outgoing g) (take head reached) +
    outgoing g (reached_at reached head)
paid-next g reached head lt =
    ap (sum_by (outgoing g)) (take_more reached head no_reached lt)
    ∙ sum_by_push (outgoing g) (take head reached) (reached_at reached head)

-- How far a search has come that has spent the nodes before a place.
pub record IsSearched (g : Shape) (from to before : ℕ) (now : Spread) (head after : ℕ) : Type 0
  where
    pub spread : IsSpread g now.seen now.reached
    pub first : (reached_at now.reached 0).node ≡ from
    pub within : head ≤ length now.reached
    pub done : (j : ℕ) → j < head → IsSpent g to now.seen (reached_at now.reached j).node
    pub counted : after ≤ before + sum_by (outgoing g) (take head now.reached)

module _ (g : Shape) (from to before : ℕ) (p : Spread) (head after : ℕ)
    (is : IsSearched g from to before p head after) where
  module _ (lt : head < length p.reached) (last : ℕ)
      (most : last ≤ after + length (successors_of g (reached_at p.reached head).node)) where
    pub search_within : last ≤ before + edges g
    search_within =
        omega (
          arith,
          is.counted,
          most,
          paid-next g p.reached head lt,
          sum_by-take-le (outgoing g) p.reached (head + 1),
          total g p.seen p.reached is.spread,
        )

    module _ (q : Spread) (spread : IsSpread g q.seen q.reached)
        (grows : Grows p.seen p.reached q.seen q.reached) where
      same_at : (j : ℕ) → j < length p.reached → reached_at q.reached j ≡ reached_at p.reached j
      same_at = grown_at p.seen q.seen p.reached q.reached grows

      -- what was reached before stands in front still
      front : take (head + 1) q.reached ≡ take (head + 1) p.reached
      front =
          let (rest, e) = grows.longer in
          ap (take (head + 1)) e ∙ take-append-le (head + 1) p.reached rest (omega (arith, lt))

      searched_done : IsSpent g to q.seen (reached_at p.reached head).node → (j : ℕ) → j < head + 1
          → IsSpent g to q.seen (reached_at q.reached j).node
      searched_done spent j below =
          let P : Reached → Type 0 = λ r. IsSpent g to q.seen r.node in
          elim (cases_eq j head) [
            | inl e ↦
                let Q : ℕ → Type 0 = λ j. IsSpent g to q.seen (reached_at q.reached j).node in
                subst Q (sym e) (subst P (sym (same_at head lt)) spent)
            | inr apart ↦
                let low : j < head = omega (arith, below, apart) in
                subst P (sym (same_at j (omega (arith, low, lt))))
                (spent_still g to (reached_at p.reached j).node p.seen q.seen grows.still
                (is.done j low))
          ]

      pub searched_step : IsSpent g to q.seen (reached_at p.reached head).node
          → IsSearched g from to before q (head + 1) last
      searched_step spent = record {
        spread = spread;
        first = ap (λ r. r.node) (same_at 0 (omega (arith, lt))) ∙ is.first;
        within = omega (arith, lt, grown_long p.seen q.seen p.reached q.reached grows);
        done = searched_done spent;
        counted = omega (
          arith,
          is.counted,
          most,
          paid-next g p.reached head lt,
          ap (sum_by (outgoing g)) front,
        );
      }

  -- a node to which the first one leads is found before all are spent
  pub searched_out : length p.reached ≤ head → Leads g from to → ⊥
  searched_out all leads =
      let S : ℕ → Type 0 = λ v. get_or p.seen v false ≡ true in
      let spent : (v : ℕ) → get_or p.seen v false ≡ true → IsSpent g to p.seen v = λ v was.
      let (j, below, at) = is.spread.listed v was in
      let P : ℕ → Type 0 = IsSpent g to p.seen in
      subst P at (is.done j (omega (arith, below, all)))
      in
      spent_all g to p.seen spent leads refl (subst S is.first (is.spread.marked 0 is.spread.some))

-- ---- the way back

-- one more node in front of a path
pub path_longer : (g : Shape) (nodes : List ℕ) (x to : ℕ) → IsPath g (reverse nodes) to
    → IsEdge g x (first_or (reverse nodes) to)
    → IsPath g (reverse (nodes ++ x ∷ [])) to × (first_or (reverse (nodes ++ x ∷ [])) to ≡ x)
path_longer g nodes x to goes edge =
    let P : List ℕ → Type 0 = λ xs. IsPath g xs to × (first_or xs to ≡ x) in
    subst P (sym (reverse-append nodes (x ∷ []))) ((edge, goes), refl)
