-- Steps of the pass: a member of the starting group, or of what a node leads to, is looked at.
use Rattle.std.proofs.Common.{◌≡◌, ◌≢◌, ℕ, ◌+◌, ◌<◌, ◌≤◌, true, false, List, [], ◌∷◌, ◌++◌, length, get_or, set, sum, inl, inr, refl, sym, ap, ◌∙◌, subst, arith}
use Rattle.std.specs.List.{Contains}
use Rattle.std.proofs.Math.ListN.{length-append}
use Rattle.std.proofs.lemmas.Bool.{cases_eq, cases_lt}
use Rattle.std.proofs.lemmas.List.{get_or_past}
use Rattle.std.proofs.lemmas.List.Elements.{Contains-get_or}
use Rattle.rank_check.specs.Graphs.{Shape, members_of, node_of, successors_of, IsEdge}
use Rattle.fair_search.specs.declared.pass.Place.TheVariants.{New}
use Rattle.fair_search.specs.declared.pass.Pass.{Pass}
use Rattle.fair_search.specs.Passing.{place_of, degree_of, looks_of, looks, edges, left, IsSettled, IsPass, HasReached, Goes}
use Rattle.fair_search.proofs.Opening.{MayOpen, Opened, opened_pass, open_here}
use Rattle.fair_search.proofs.Merging.{open≢new, Looked, looked_pass, Looped, looped_pass, loop_here, spent_pass}
use Rattle.fair_search.proofs.Counting.{looks_start, looks_left, one_more, falls-look}

-- how many members there are of what a node leads to, and an edge to one of them
pub degree_is : (g : Shape) (v group count : ℕ) → group ≡ (node_of g v).next_group
    → count ≡ length (members_of g group) → degree_of g v ≡ count
degree_is g v group count e f = sym (f ∙ ap (λ k. length (members_of g k)) e)

pub member_is : (g : Shape) (v group i w : ℕ) → group ≡ (node_of g v).next_group
    → w ≡ get_or (members_of g group) i 0 → w ≡ get_or (successors_of g v) i 0
member_is g v group i w e f = f ∙ ap (λ k. get_or (members_of g k) i 0) e

pub edge_is : (g : Shape) (u v i w : ℕ) → u ≡ v → v < length g.nodes → i < degree_of g v
    → w ≡ get_or (successors_of g v) i 0 → IsEdge g u w
edge_is g u v i w e made lt is =
    let P : ℕ → Type 0 = λ u. IsEdge g u w in
    let C : ℕ → Type 0 = Contains (successors_of g v) in
    subst P (sym e) (made, subst C (sym is) (Contains-get_or (successors_of g v) i 0 lt))

-- one more member of the starting group, which was seen
begun_more : (g : Shape) (p : Pass) → IsPass g p → p.begun < length (members_of g 0)
    → place_of p (get_or (members_of g 0) p.begun 0) ≢ New
    → IsPass g (record p { begun = p.begun + 1 })
begun_more g p is more seen = record {
  places_long = is.places_long;
  explored_long = is.explored_long;
  loops_long = is.loops_long;
  stacked = is.stacked;
  opened = is.opened;
  few = is.few;
  rooted = is.rooted;
  starts_up = is.starts_up;
  starts_open = is.starts_open;
  first_start = is.first_start;
  up = is.up;
  down = is.down;
  fresh = is.fresh;
  within = is.within;
  looked = is.looked;
  loop_seen = is.loop_seen;
  loop_there = is.loop_there;
  waiting = is.waiting;
  pending_up = is.pending_up;
  pending_open = is.pending_open;
  begun_within = omega (arith, more);
  begun_seen = λ k lt.
      elim (cases_eq k p.begun) [
        | inl e ↦ let P : ℕ → Type 0 = λ k. place_of p (get_or (members_of g 0) k 0) ≢ New in subst
            P (sym e) seen
        | inr apart ↦ is.begun_seen k (omega (arith, lt, apart))
      ];
  closed = is.closed;
  ranked = is.ranked;
  explained = is.explained;
}

module _ (g : Shape) (p : Pass) (is : IsPass g p) (s : ℕ) where
  -- where no component is open the stack is empty
  pub no_stack : p.starts ≡ [] → length p.stack ≡ 0
  no_stack idle =
      elim (cases_eq (length p.stack) 0) [
        | inl e ↦ e
        | inr apart ↦
            let P : List ℕ → Type 0 = λ xs. Contains xs 0 in
            let there = subst P idle (is.first_start (omega (arith, apart))) in
            absurd (omega (arith, there.1))
      ]

  module _ (idle : p.starts ≡ []) (more : p.begun < length (members_of g 0)) where
    first : ℕ
    first = get_or (members_of g 0) p.begun 0

    pub may_begin : (v : ℕ) → v ≡ get_or (members_of g 0) p.begun 0 → place_of p v ≡ New
        → v < length g.nodes → MayOpen g p v
    may_begin v e unseen made = record {
      unseen = unseen;
      made = made;
      reached = λ i lt. absurd (omega (arith, lt, no_stack idle));
      starting = λ _. let P : ℕ → Type 0 = Contains (members_of g 0) in subst P (sym e)
          (Contains-get_or (members_of g 0) p.begun 0 more);
    }

    pub begin_new : (v : ℕ) (e : v ≡ get_or (members_of g 0) p.begun 0)
        (unseen : place_of p v ≡ New) (made : v < length g.nodes)
        → Goes g p (record (Opened g p is v (may_begin v e unseen made)) { begun = p.begun + 1 }) s
        (s + 1)
    begin_new v e unseen made =
        let may = may_begin v e unseen made in
        let here = open_here g p is v may in
        let seen : place_of (Opened g p is v may) (get_or (members_of g 0) p.begun 0) ≢ New = λ f.
        open≢new _ (sym here ∙ ap (place_of (Opened g p is v may)) e ∙ f) in
        record {
          pass = begun_more g (Opened g p is v may) (opened_pass g p is v may) more seen;
          falls =
              falls-look (edges g) (looks p) (p.begun + 1 + sum p.explored)
              (length p.pending + length p.stack) _ (looks_start g p is more) (omega arith)
              (omega (
                arith,
                length-append p.pending (length p.stack ∷ []),
                length-append p.stack (v ∷ []),
              ));
          counted = omega arith;
        }

    pub begin_seen : (v : ℕ) → v ≡ get_or (members_of g 0) p.begun 0 → place_of p v ≢ New
        → Goes g p (record p { begun = p.begun + 1 }) s (s + 1)
    begin_seen v e seen = record {
      pass = begun_more g p is more (λ f. seen (ap (place_of p) e ∙ f));
      falls =
          falls-look (edges g) (looks p) (p.begun + 1 + sum p.explored)
          (length p.pending + length p.stack) _ (looks_start g p is more) (omega arith)
          (omega arith);
      counted = omega arith;
    }

  -- a node with no member left
  pub look_spent : (front : List ℕ) (i v : ℕ) → p.pending ≡ front ++ i ∷ [] → get_or p.stack i 0 ≡ v
      → degree_of g v ≤ looks_of p v → Goes g p (record p { pending = front }) s s
  look_spent front i v ends at spent = record {
    pass = spent_pass g p is front i ends (omega
        (arith, spent, ap (degree_of g) at, ap (looks_of p) at));
    falls = omega (arith, ap length ends, length-append front (i ∷ []));
    counted = refl;
  }

  -- a node of the stack is one of the graph
  pub stack_made : (i : ℕ) → i < length p.stack → get_or p.stack i 0 < length g.nodes
  stack_made i lt =
      elim (cases_lt (get_or p.stack i 0) (length g.nodes)) [
        | inl made ↦ made
        | inr le ↦ absurd (open≢new i (sym (is.stacked i lt)
            ∙ get_or_past p.places _ New (omega (arith, is.places_long, le))))
      ]

  module _ (i w : ℕ) (q : Pass) (so : HasReached g p q i w) (v k : ℕ) (lt : i < length p.stack)
      (at : get_or p.stack i 0 ≡ v) (is_k : looks_of p v ≡ k) (more : k < degree_of g v)
      (is_w : w ≡ get_or (successors_of g v) k 0) where
    -- the node stands where it stood, and was looked at as often
    node : get_or q.stack i 0 ≡ v
    node = so.node ∙ at

    times : looks_of q (get_or q.stack i 0) ≡ k
    times = ap (looks_of q) node ∙ ap (λ xs. get_or xs v 0) so.explored ∙ is_k

    next : get_or (successors_of g (get_or q.stack i 0)) (looks_of q (get_or q.stack i 0)) 0 ≡ w
    next = (λ t. get_or (successors_of g (node t)) (times t) 0) ∙ sym is_w

    remains : looks_of q (get_or q.stack i 0) < degree_of g (get_or q.stack i 0)
    remains = omega (arith, times, ap (degree_of g) node, more)

    made : v < length q.explored
    made = omega (arith, so.pass.explored_long, stack_made i lt, at)

    settled : IsSettled q i (get_or (successors_of g (get_or q.stack i 0))
        (looks_of q (get_or q.stack i 0)) 0)
    settled = let P : ℕ → Type 0 = IsSettled q i in subst P (sym next) so.settled

    counts : q.begun + sum (set q.explored v (k + 1)) ≡ looks p + 1
    counts =
        let was : get_or q.explored v 0 ≡ k = ap (λ xs. get_or xs v 0) so.explored ∙ is_k in
        omega (arith, one_more q.explored v k made was, so.begun, ap sum so.explored)

    looked_falls : (new : Pass) → looks new ≡ looks p + 1
        → length new.pending + length new.stack ≡ length q.pending + length q.stack
        → left g new < left g p
    looked_falls new one same =
        let has_left : looks_of p v < degree_of g v = omega (arith, is_k, more) in
        let there : v < length g.nodes = omega (arith, stack_made i lt, at) in
        falls-look (edges g) (looks p) (looks new) (length p.pending + length p.stack)
        (length new.pending + length new.stack) (looks_left g p is v there has_left) one
        (omega (arith, same, so.size))

    pub look_other : w ≢ v → Goes g p (record q { explored = set q.explored v (k + 1) }) s (s + 1)
    look_other apart =
        let P : Pass → Type 0 = IsPass g in
        let same : Looked g q so.pass i so.standing remains ≡ record q
        { explored = set q.explored v (k + 1) } = λ t. record q
        { explored = set q.explored (node t) (times t + 1) } in
        record {
          pass = subst P same (looked_pass g q so.pass i so.standing remains settled
              (λ e. absurd (apart (sym next ∙ e ∙ node))));
          falls = looked_falls (record q { explored = set q.explored v (k + 1) }) counts refl;
          counted = omega (arith, counts);
        }

    pub look_loop : w ≡ v → Goes g p (record q
        { explored = set q.explored v (k + 1); loops = set q.loops v true }) s (s + 1)
    look_loop e =
        let there : v < length g.nodes = omega (arith, stack_made i lt, at) in
        let E : ℕ → Type 0 = Contains (successors_of g v) in
        let edge : IsEdge g v v = (
          there,
          subst E (sym is_w ∙ e)
              (Contains-get_or (successors_of g v) k 0 more),
        ) in
        let r = Looped g q so.pass v there edge in
        let is_r = looped_pass g q so.pass v there edge in
        let P : Pass → Type 0 = IsPass g in
        let same : Looked g r is_r i so.standing remains ≡ record r
        { explored = set q.explored v (k + 1) } = λ t. record r
        { explored = set q.explored (node t) (times t + 1) } in
        let seen : get_or r.loops (get_or q.stack i 0) false ≡ true = ap
        (λ u. get_or r.loops u false) node ∙ loop_here g q so.pass v there edge in
        record {
          pass = subst P same (looked_pass g r is_r i so.standing remains settled (λ _. seen));
          falls = looked_falls (record r { explored = set q.explored v (k + 1) }) counts refl;
          counted = omega (arith, counts);
        }
