-- Nodes that are added last, and the choices that lead to a node.
use Rattle.std.proofs.Common.{◌≡◌, ℕ, zero, suc, ◌+◌, ◌<◌, ◌≤◌, Bool, true, false, not, ◌&&◌, nat_eq, if◌then◌else◌, List, [], ◌∷◌, ◌++◌, length, inl, inr, refl, sym, ap, ◌∙◌, subst, arith, length-append, append_assoc}
use Rattle.std.specs.Prelude.{reverse}
use Rattle.std.specs.List.{Contains}
use Rattle.std.proofs.lemmas.Bool.{cases_lt, eqb-true, and_parts}
use Rattle.std.proofs.lemmas.List.{get_or_append_left, reverse-append}
use Rattle.std.proofs.lemmas.List.Elements.{Contains-append_left}
use Rattle.std.proofs.Math.Seq.{get_or-append_seam}
use Rattle.hy_formula.specs.Quantifiers.{Each}
use Rattle.hy_formula.proofs.Each.{each-append}
use Rattle.dominance.specs.declared.reached.Node.{Node}
use Rattle.dominance.specs.contracts.reached.NodePartialEq.TheImpl.{ghosts}
use Rattle.dominance.specs.declared.reached.Link.{Link}
use Rattle.dominance.specs.Runs.{Pairing, IsInside, start_node, next_node}
use Rattle.dominance.specs.Trails.{node_at, link_at, AreLinked, FollowsBy, AreReached, Grows, led, IsPath, LeadsOn}

-- nodes that are compared as equal are equal
pub equal-nodes : (x y : Node) → ghosts.eq x y ≡ true → x ≡ y
equal-nodes x y e =
    let (at, rest) = and_parts (nat_eq x.at y.at) (nat_eq x.upper y.upper && nat_eq x.lower y.lower) e in
    let (upper, lower) = and_parts (nat_eq x.upper y.upper) (nat_eq x.lower y.lower) rest in
    ap (λ k. record { at = k; upper = x.upper; lower = x.lower }) (eqb-true _ _ at)
    ∙ ap (λ k. record { at = y.at; upper = k; lower = x.lower }) (eqb-true _ _ upper)
    ∙ ap (λ k. record { at = y.at; upper = y.upper; lower = k }) (eqb-true _ _ lower)

pub grows-through : (a b c : List Node) → Grows a b → Grows b c → Grows a c
grows-through a b c (m, e) (n, f) = (m ++ n, f ∙ ap (λ l. l ++ n) e ∙ append_assoc a m n)

pub grows-length : (a b : List Node) → Grows a b → length a ≤ length b
grows-length a b (m, e) = let l = length-append a m in let k = ap (λ (q : List Node). length q) e in
    omega arith

pub grows-at : (a b : List Node) → Grows a b → (k : ℕ) → k < length a → node_at b k ≡ node_at a k
grows-at a b (m, e) k lt = ap (λ l. node_at l k) e ∙ get_or_append_left a m start_node k lt

pub grows-contains : (a b : List Node) → Grows a b → (x : Node) → Contains a x → Contains b x
grows-contains a b (m, e) x c = let P : List Node → Type 0 = λ l. Contains l x in
    subst P (sym e) (Contains-append_left a m x c)

-- what leads on does so in more nodes
pub leads-on : (s : Pairing) (a b : List Node) → Grows a b → (k : ℕ) → k < length a → (choices : ℕ)
    → LeadsOn s a k choices → LeadsOn s b k choices
leads-on s a b g k lt choices h choice below =
    let P : Node → Type 0 = λ x. Contains b (next_node s x choice) in
    subst P (sym (grows-at a b g k lt)) (grows-contains a b g _ (h choice below))

pub leads-more : (s : Pairing) (nodes : List Node) (k choices : ℕ) → LeadsOn s nodes k choices
    → Contains nodes (next_node s (node_at nodes k) choices) → LeadsOn s nodes k (choices + 1)
leads-more s nodes k choices h c choice below =
    elim (cases_lt choice choices) [
      | inl lt ↦ h choice lt
      | inr ge ↦ let same : choices ≡ choice = omega arith in let P : ℕ → Type 0 =
          λ q. Contains nodes (next_node s (node_at nodes k) q) in subst P same c
    ]

-- a node that follows one of them is added
pub reached-more : (s : Pairing) (nodes : List Node) (links : List Link) (x : Node) (link : Link)
    → AreLinked nodes links → AreReached s nodes links → IsInside s x → link.from < length nodes
    → link.choice < length s.upper_codes
    → x ≡ next_node s (node_at nodes link.from) link.choice
    → AreReached s (nodes ++ x ∷ []) (links ++ link ∷ [])
reached-more s nodes links x link linked are inside from choice is = record {
  first = get_or_append_left nodes (x ∷ []) start_node 0 linked.some ∙ are.first;
  inside = λ k lt. elim (cases_lt k (length nodes)) [
    | inl old ↦ let P : Node → Type 0 = IsInside s in
        subst P (sym (get_or_append_left nodes (x ∷ []) start_node k old)) (are.inside k old)
    | inr ge ↦ let P : Node → Type 0 = IsInside s in subst P (sym (new-node k lt ge)) inside
  ];
  follow = λ k some lt. elim (cases_lt k (length nodes)) [
    | inl old ↦
        let l = linked.long in
        let P : Link → Type 0 = FollowsBy s (nodes ++ x ∷ []) k in
        let e = get_or_append_left links (link ∷ []) (record { from = 0; choice = 0 }) k
        (omega arith) in
        let f = are.follow k some old in
        let back = linked.back k some old in
        subst P (sym e) (record {
          choice = f.choice;
          next = get_or_append_left nodes (x ∷ []) start_node k old ∙ f.next
              ∙ ap (λ y. next_node s y (link_at links k).choice)
              (sym (get_or_append_left nodes (x ∷ []) start_node (link_at links k).from
              (omega arith)));
        })
    | inr ge ↦
        let P : Link → Type 0 = FollowsBy s (nodes ++ x ∷ []) k in
        subst P (sym (new-link k lt ge)) (record {
          choice = choice;
          next = new-node k lt ge ∙ is ∙ ap (λ y. next_node s y link.choice)
              (sym (get_or_append_left nodes (x ∷ []) start_node link.from from));
        })
  ];
}
  where
    new-node : (k : ℕ) → k < length (nodes ++ x ∷ []) → length nodes ≤ k
        → node_at (nodes ++ x ∷ []) k ≡ x
    new-node k lt ge =
        let l = length-append nodes (x ∷ []) in
        let same : k ≡ length nodes = omega arith in
        ap (λ q. node_at (nodes ++ x ∷ []) q) same ∙ get_or-append_seam nodes x [] start_node

    new-link : (k : ℕ) → k < length (nodes ++ x ∷ []) → length nodes ≤ k
        → link_at (links ++ link ∷ []) k ≡ link
    new-link k lt ge =
        let l = length-append nodes (x ∷ []) in
        let long = linked.long in
        let same : k ≡ length links = omega arith in
        ap (λ q. link_at (links ++ link ∷ []) q) same
        ∙ get_or-append_seam links link [] (record { from = 0; choice = 0 })

-- The choices lead from a node to another.
abbrev pub Leads : Pairing → List Node → ℕ → ℕ → List ℕ → Type 0
Leads s nodes from to path = Each (λ (c : ℕ). c < length s.upper_codes) path
    × (led s (node_at nodes from) path ≡ node_at nodes to)

-- one step back
pub path-back : (s : Pairing) (nodes : List Node) (links : List Link) (at to : ℕ) (path : List ℕ)
    (link : Link)
    → AreReached s nodes links → 0 < at → at < length nodes → link_at links at ≡ link
    → Leads s nodes at to (reverse path)
    → Leads s nodes link.from to (reverse (path ++ link.choice ∷ []))
path-back s nodes links at to path link are some lt is (each, leads) =
    let P : Link → Type 0 = FollowsBy s nodes at in
    let f = subst P is (are.follow at some lt) in
    let Q : List ℕ → Type 0 = Leads s nodes link.from to in
    let e : link.choice ∷ reverse path ≡ reverse (path ++ link.choice ∷ []) =
    sym (reverse-append path (link.choice ∷ [])) in
    subst Q e ((f.choice, each), ap (λ y. led s y (reverse path)) (sym f.next) ∙ leads)

led-more : (s : Pairing) (x : Node) (path : List ℕ) (choice : ℕ)
    → led s x (path ++ choice ∷ []) ≡ next_node s (led s x path) choice
led-more s x [] choice = refl
led-more s x (c ∷ cs) choice = led-more s (next_node s x c) cs choice

-- choices lead to each node
pub path-to : (s : Pairing) (nodes : List Node) (links : List Link) → AreLinked nodes links
    → AreReached s nodes links → (k : ℕ) → k < length nodes → (path : List ℕ)
    × IsPath s nodes k path
path-to s nodes links linked are k lt = within (suc k) k (omega arith) lt
  where
    within : (most k : ℕ) → k < most → k < length nodes → (path : List ℕ) × IsPath s nodes k path
    within zero k small lt = absurd (omega arith)
    within (suc most) zero small lt = ([], (tt, sym are.first))
    within (suc most) (suc k) small lt =
        let some : 0 < suc k = omega arith in
        let link : Link = link_at links (suc k) in
        let back = linked.back (suc k) some lt in
        let follow = are.follow (suc k) some lt in
        let (path, (each, leads)) = within most link.from (omega arith) (omega arith) in (
          path ++ link.choice ∷ [],
          (
            each-append (λ (c : ℕ). c < length s.upper_codes) path (link.choice ∷ []) each
                (follow.choice, tt),
            led-more s start_node path link.choice
                ∙ ap (λ x. next_node s x link.choice) leads
                ∙ sym follow.next,
          ),
        )

-- what a set of nodes holds after a new one
pub inserted-new : (old new : List Node) (x : Node) (b is_new : Bool) → is_new ≡ not b
    → is_new ≡ true → new ≡ (if b then old else old ++ x ∷ []) → new ≡ old ++ x ∷ []
inserted-new old new x true is_new e t k = absurd (cc)
inserted-new old new x false is_new e t k = k
