-- A tour through a component that is fair, and the walk that it closes.
use Rattle.std.proofs.Common.{◌≡◌, ◌≢◌, ℕ, zero, suc, ◌+◌, ◌-◌, ◌*◌, ◌/◌, ◌%◌, ◌<◌, ◌≤◌, ◌⊎◌, ◌||◌, Bool, true, false, cond, List, [], ◌∷◌, ◌++◌, length, get_or, take, drop, nat_eq, inl, inr, refl, sym, ap, ◌∙◌, subst, arith, below_more}
use Rattle.std.specs.List.{Contains, IsDistinct, flat_map}
use Rattle.std.specs.Set.{is_member, unique_keys}
use Rattle.std.specs.Cmp.{nat_eq_equiv}
use Rattle.std.proofs.Math.ListN.{length-append}
use Rattle.std.proofs.Math.Nat.{mul-le-mul_right, zero-mod}
use Rattle.std.proofs.lemmas.Nat.{mod-mul-add, div-add-mod'}
use Rattle.std.proofs.lemmas.Bool.{cases_eq, cases_lt, cases_Bool, eqb-true, eq-eqb, true≢false, lt-ltb, le-ltb, cond-true, cond-false, false_from_ne_true}
use Rattle.std.proofs.lemmas.List.{get_or_default, get_or_past, length-drop, get_or-drop, get_or-take, take_more, length-take}
use Rattle.std.proofs.lemmas.List.Elements.{Contains-get_or, Contains-push, Contains-append_left, Contains-append_right, Contains-push_cases}
use Rattle.std.proofs.lemmas.Map.Keys.{IsDistinct-push}
use Rattle.std.proofs.lemmas.Map.Made.{length-le_from_is_member}
use Rattle.hy_base.proofs.Members.{from-take}
use Rattle.rank_check.specs.declared.graph.Node.{Node}
use Rattle.rank_check.specs.Graphs.{Shape, members_of, node_of, no_node, IsEdge, Postpones, place_of, IsWalk, IsFair}
use Rattle.fair_search.specs.declared.pass.Pass.{Pass}
use Rattle.fair_search.specs.Answers.{untils, most_steps}
use Rattle.fair_search.specs.Passing.{edges, IsFairAt}
use Rattle.fair_search.specs.Paths.{Leads, one, first_or, IsPath, IsPathFrom}
use Rattle.fair_search.specs.Tours.{IsJoined, IsTour}
use Rattle.fair_search.proofs.Lists.{up-last}
use Rattle.fair_search.proofs.Merging.{leads-on}
use Rattle.fair_search.proofs.Looking.{stack_made}

-- ---- paths one after another

pub first_on : (xs ys : List ℕ) (z : ℕ) → first_or (xs ++ ys) z ≡ first_or xs (first_or ys z)
first_on [] ys z = refl
first_on (x ∷ xs) ys z = refl

pub path_on : (g : Shape) (xs ys : List ℕ) (z : ℕ) → IsPath g xs (first_or ys z) → IsPath g ys z
    → IsPath g (xs ++ ys) z
path_on g [] ys z goes on = on
path_on g (x ∷ xs) ys z (edge, goes) on =
    let P : ℕ → Type 0 = IsEdge g x in
    (subst P (sym (first_on xs ys z)) edge, path_on g xs ys z goes on)

first_in : (xs : List ℕ) (z : ℕ) → 0 < length xs → Contains xs (first_or xs z)
first_in [] z some = absurd (omega (arith, some))
first_in (x ∷ xs) z some = (0, omega arith, refl)

first_is : (xs : List ℕ) (z : ℕ) → first_or xs z ≡ get_or xs 0 z
first_is [] z = refl
first_is (x ∷ xs) z = refl

-- ---- from a path to the walk that goes round

path_at : (g : Shape) (xs : List ℕ) (z k : ℕ) → IsPath g xs z → k < length xs
    → IsEdge g (get_or xs k 0) (get_or xs (suc k) z)
path_at g [] z k goes lt = absurd (omega (arith, lt))
path_at g (x ∷ xs) z zero (edge, goes) lt = let P : ℕ
    → Type 0 = IsEdge g x in subst P (first_is xs z) edge
path_at g (x ∷ xs) z (suc k) (edge, goes) lt = path_at g xs z k goes (omega (arith, lt))

suc_mod-below : (n c : ℕ) → n % c + 1 < c → (n + 1) % c ≡ n % c + 1
suc_mod-below n c lt =
    let same : n + 1 ≡ n / c * c + (n % c + 1) = omega (arith, div-add-mod' n c) in
    ap (λ k. k % c) same ∙ mod-mul-add (n / c) c (n % c + 1) lt

suc_mod-turn : (n c : ℕ) → 0 < c → n % c + 1 ≡ c → (n + 1) % c ≡ 0
suc_mod-turn n c some e =
    let same : n + 1 ≡ (n / c + 1) * c + 0 = omega (arith, div-add-mod' n c, e) in
    ap (λ k. k % c) same ∙ mod-mul-add (n / c + 1) c 0 some

module _ (g : Shape) (stem cycle : List ℕ) (root : ℕ) (to_root : IsPath g stem root)
    (round : IsPathFrom g root root cycle) (from_start : Contains (members_of g 0)
    (first_or stem root)) where
  place : ℕ → ℕ
  place = place_of stem cycle

  in_stem : (i : ℕ) → i < length stem → place_of stem cycle i ≡ get_or stem i 0
  in_stem i lt = cond-true _ _ _ (lt-ltb i (length stem) lt)

  in_cycle : (i : ℕ) → length stem ≤ i → place_of stem cycle i ≡ get_or cycle
      ((i - length stem) % length cycle) 0
  in_cycle i le = cond-false _ _ _ (le-ltb i (length stem) le)

  cycle_first : get_or cycle 0 0 ≡ root
  cycle_first = get_or_default cycle 0 0 root round.some ∙ sym (first_is cycle root) ∙ round.starts

  zero_place : (i : ℕ) → i - length stem ≡ 0 → get_or cycle ((i - length stem) % length cycle) 0 ≡
      root
  zero_place i e =
      let same : (i - length stem) % length cycle ≡ 0 = ap (λ k. k % length cycle) e
      ∙ zero-mod (length cycle) in
      ap (λ k. get_or cycle k 0) same ∙ cycle_first

  goes_stem : (i : ℕ) → i < length stem → IsEdge g (place_of stem cycle i)
      (place_of stem cycle (i + 1))
  goes_stem i lt =
      let P : ℕ → Type 0 = λ v. IsEdge g v (place_of stem cycle (i + 1)) in
      let Q : ℕ → Type 0 = IsEdge g (get_or stem i 0) in
      let step = path_at g stem root i to_root lt in
      let next : i + 1 ≡ suc i = omega arith in
      subst P (sym (in_stem i lt))
      (elim (cases_lt (i + 1) (length stem)) [
        | inl low ↦
            let at : place_of stem cycle (i + 1) ≡ get_or stem (suc i) root =
            in_stem (i + 1) low ∙ (λ t. get_or stem (next t) 0)
            ∙ get_or_default stem (suc i) 0 root (omega (arith, low))
            in
            subst Q (sym at) step
        | inr past ↦
            let at : place_of stem cycle (i + 1) ≡ get_or stem (suc i) root =
            in_cycle (i + 1) past ∙ zero_place (i + 1) (omega (arith, lt, past))
            ∙ sym (get_or_past stem (suc i) root (omega (arith, past)))
            in
            subst Q (sym at) step
      ])

  goes_cycle : (i : ℕ) → length stem ≤ i → IsEdge g (place_of stem cycle i)
      (place_of stem cycle (i + 1))
  goes_cycle i le =
      let c = length cycle in
      let q = (i - length stem) % c in
      let some : 0 < c = round.some in
      let lt : q < c = omega (arith, some) in
      let P : ℕ → Type 0 = λ v. IsEdge g v (place_of stem cycle (i + 1)) in
      let Q : ℕ → Type 0 = IsEdge g (get_or cycle q 0) in
      let step = path_at g cycle root q round.goes lt in
      let ahead : i + 1 - length stem ≡ i - length stem + 1 = omega (arith, le) in
      let there = in_cycle (i + 1) (omega (arith, le)) ∙ ap (λ n. get_or cycle (n % c) 0) ahead in
      let next : q + 1 ≡ suc q = omega arith in
      subst P (sym (in_cycle i le))
      (elim (cases_lt (q + 1) c) [
        | inl low ↦
            let at : place_of stem cycle (i + 1) ≡ get_or cycle (suc q) root =
            there ∙ ap (λ k. get_or cycle k 0) (suc_mod-below (i - length stem) c low ∙ next)
            ∙ get_or_default cycle (suc q) 0 root (omega (arith, low))
            in
            subst Q (sym at) step
        | inr past ↦
            let turn : q + 1 ≡ c = omega (arith, past, lt) in
            let at : place_of stem cycle (i + 1) ≡ get_or cycle (suc q) root =
            there ∙ ap (λ k. get_or cycle k 0) (suc_mod-turn (i - length stem) c some turn)
            ∙ cycle_first ∙ sym (get_or_past cycle (suc q) root (omega (arith, past)))
            in
            subst Q (sym at) step
      ])

  walk_starts : Contains (members_of g 0) (place_of stem cycle 0)
  walk_starts =
      let P : ℕ → Type 0 = Contains (members_of g 0) in
      elim (cases_lt 0 (length stem)) [
        | inl some ↦ subst P (first_is stem root ∙ get_or_default stem 0 root 0 some
            ∙ sym (in_stem 0 some)) from_start
        | inr none ↦
            subst P (first_is stem root ∙ get_or_past stem 0 root none
            ∙ sym (in_cycle 0 none ∙ zero_place 0 (omega (arith, none)))) from_start
      ]

  pub walk_round : IsWalk g stem cycle
  walk_round = record {
    some = round.some;
    starts = walk_starts;
    goes = λ i. elim (cases_lt i (length stem))
        [ inl lt ↦ goes_stem i lt | inr le ↦ goes_cycle i le ];
  }

-- ---- the component

module _ (g : Shape) (p : Pass) (start : ℕ) (fair : IsFairAt g p start) where
  abbrev pub part : List ℕ
  part = drop start p.stack

  part_at : (v : ℕ) → Contains (drop start p.stack) v
      → (i : ℕ) × (start ≤ i) × (i < length p.stack) × (get_or p.stack i 0 ≡ v)
  part_at v (k, lt, at) =
      let there : start + k < length p.stack = omega (arith, length-drop start p.stack, lt) in (
        start + k,
        omega arith,
        there,
        get_or_default p.stack (start + k) 0 v there
            ∙ sym (get_or-drop start p.stack k v) ∙ at,
      )

  begins : Contains p.starts start
  begins =
      let (front, ends) = fair.ends in
      let P : List ℕ → Type 0 = λ xs. Contains xs start in
      subst P (sym ends) (Contains-push front start)

  pub start_there : start < length p.stack
  start_there = fair.pass.starts_open start begins

  none_after : (b : ℕ) → Contains p.starts b → b ≤ start
  none_after b there = let (front, ends) = fair.ends in up-last p.starts front start b
      fair.pass.starts_up ends there

  apart : (i j : ℕ) → start ≤ i → start ≤ j → i < length p.stack → j < length p.stack → i ≢ j
      → Leads g (get_or p.stack i 0) (get_or p.stack j 0)
  apart i j from_i from_j lt_i lt_j ne =
      elim (cases_lt i j) [
        | inl before ↦ fair.pass.up i j before lt_j
        | inr after ↦ fair.pass.down j i (omega (arith, after, ne)) lt_i
            (λ b there lt le. omega (arith, none_after b there, lt, from_j))
      ]

  size : length (drop start p.stack) + start ≡ length p.stack
  size = omega (arith, length-drop start p.stack, start_there)

  pub root_at : get_or (drop start p.stack) 0 0 ≡ get_or p.stack start 0
  root_at = let same : start + 0 ≡ start = omega arith in get_or-drop start p.stack 0 0
      ∙ (λ t. get_or p.stack (same t) 0)

  itself : (i : ℕ) → start ≤ i → i < length p.stack
      → Leads g (get_or p.stack i 0) (get_or p.stack i 0)
  itself i from lt =
      elim (cases_eq (length (drop start p.stack)) 1) [
        | inl one_node ↦
            let here : i ≡ start = omega (arith, one_node, size, from, lt) in
            let P : ℕ → Type 0 = λ v. Leads g v v in
            subst P (root_at ∙ (λ t. get_or p.stack (sym here t) 0))
            (one (fair.part.inner one_node))
        | inr several ↦
            elim (cases_eq i start) [
              | inl e ↦
                  let other : start + 1 < length p.stack = omega (arith, several, size, start_there)
                  in
                  leads-on g (apart i (start + 1) from (omega arith) lt other
                  (λ f. omega (arith, e, f)))
                  (apart (start + 1) i (omega arith) from other lt (λ f. omega (arith, e, f)))
              | inr ne ↦
                  leads-on g (apart i start from (omega arith) lt start_there ne)
                  (apart start i (omega arith) from start_there lt (λ f. ne (sym f)))
            ]
      ]

  pub part_joined : IsJoined g (drop start p.stack)
  part_joined = record {
    some = omega (arith, size, start_there);
    made = λ v there.
        let (i, from, lt, at) = part_at v there in
        omega (arith, at, stack_made g p fair.pass 0 i lt);
    leads = λ v w there here.
        let (i, from_i, lt_i, at_i) = part_at v there in
        let (j, from_j, lt_j, at_j) = part_at w here in
        let P : ℕ → Type 0 = λ x. Leads g x w in
        let Q : ℕ → Type 0 = Leads g (get_or p.stack i 0) in
        subst P at_i (subst Q at_j
        (elim (cases_eq i j) [
          | inl e ↦ let R : ℕ → Type 0 = λ k. Leads g (get_or p.stack i 0) (get_or p.stack k 0) in
              subst R e (itself i from_i lt_i)
          | inr ne ↦ apart i j from_i from_j lt_i lt_j ne
        ]));
    free = fair.part.free;
  }

-- ---- different untils

member_unique : (xs : List ℕ) (q : ℕ) → is_member nat_eq xs q ≡ true
    → is_member nat_eq (unique_keys nat_eq xs) q ≡ true
member_unique [] q is = is
member_unique (x ∷ xs) q is =
    elim (is_member nat_eq xs x) as (λ b. is_member nat_eq xs x ≡ b
    → is_member nat_eq (cond b (unique_keys nat_eq xs) (x ∷ unique_keys nat_eq xs)) q ≡ true) [
      | true ↦ λ dup. member_unique xs q (either (nat_eq q x) refl dup)
      | false ↦ λ new. or_more (nat_eq q x) (is_member nat_eq xs q)
          (is_member nat_eq (unique_keys nat_eq xs) q) (member_unique xs q) is
    ] refl
  where
    either : (b : Bool) → nat_eq q x ≡ b → is_member nat_eq xs x ≡ true
        → is_member nat_eq xs q ≡ true
    either true e dup = ap (is_member nat_eq xs) (eqb-true q x e) ∙ dup
    either false e dup = sym (ap (λ b. b || is_member nat_eq xs q) e) ∙ is

    or_more : (a b c : Bool) → (b ≡ true → c ≡ true) → (a || b) ≡ true → (a || c) ≡ true
    or_more true b c f e = refl
    or_more false b c f e = f e

member_of : (xs : List ℕ) (q : ℕ) → Contains xs q → is_member nat_eq xs q ≡ true
member_of [] q (k, lt, at) = absurd (omega (arith, lt))
member_of (x ∷ xs) q (zero, lt, at) = ap (λ b. b || is_member nat_eq xs q) (eq-eqb q x (sym at))
member_of (x ∷ xs) q (suc k, lt, at) = or_true (nat_eq q x)
    (member_of xs q (k, omega (arith, lt), at))
  where
    or_true : (a : Bool) → is_member nat_eq xs q ≡ true → (a || is_member nat_eq xs q) ≡ true
    or_true true e = refl
    or_true false e = e

contains_of : (xs : List ℕ) (q : ℕ) → is_member nat_eq xs q ≡ true → Contains xs q
contains_of [] q is = absurd (true≢false (sym is))
contains_of (x ∷ xs) q is =
    elim (cases_Bool (nat_eq q x)) [
      | inl e ↦ (0, omega arith, sym (eqb-true q x e))
      | inr ne ↦
          let (k, lt, at) = contains_of xs q (sym (ap (λ b. b || is_member nat_eq xs q) ne) ∙ is) in
          (suc k, omega (arith, lt), at)
    ]

contains_or : (xs : List ℕ) (q : ℕ) → Contains xs q ⊎ ¬ Contains xs q
contains_or xs q =
    elim (cases_Bool (is_member nat_eq xs q)) [
      | inl is ↦ inl (contains_of xs q is)
      | inr none ↦ inr (λ there. true≢false (sym (member_of xs q there) ∙ none))
    ]

all_untils : Shape → List ℕ
all_untils g = flat_map (λ n. n.postponed) g.nodes

listed : (ns : List Node) (v u : ℕ) → Contains (get_or ns v no_node).postponed u
    → Contains (flat_map (λ n. n.postponed) ns) u
listed [] v u there = absurd (omega (arith, there.1))
listed (n ∷ ns) zero u there = Contains-append_left n.postponed (flat_map (λ n. n.postponed) ns) u
    there
listed (n ∷ ns) (suc v) u there = Contains-append_right n.postponed (flat_map (λ n. n.postponed) ns)
    u (listed ns v u there)

-- different untils of one node are at most as many as those of the graph
pub few_untils : (g : Shape) (v : ℕ) (met : List ℕ) → IsDistinct nat_eq met
    → ((x : ℕ) → Contains met x → Contains (node_of g v).postponed x) → length met ≤ untils g
few_untils g v met distinct all =
    length-le_from_is_member nat_eq_equiv met (unique_keys nat_eq
    (flat_map (λ n. n.postponed) g.nodes)) distinct
    (λ x is. member_unique _ x (member_of _ x (listed g.nodes v x (all x (contains_of met x is)))))

-- ---- a tour

cost_within : (e m u before after last : ℕ) → after ≤ before + m * e → last ≤ after + e → m + 1 ≤ u
    → last ≤ before + u * e
cost_within e m u before after last paid cost few = omega
    (arith, paid, cost, mul-le-mul_right e few)

-- the first untils: none
pub tour_begins : (g : Shape) (nodes untils' : List ℕ) (s : ℕ) → 0 < length nodes
    → IsTour g nodes untils' 0 [] (get_or nodes 0 0) s s
unfolding IsDistinct
tour_begins g nodes untils' s some = record {
  goes = tt;
  starts = refl;
  here = Contains-get_or nodes 0 0 some;
  free = λ k lt. absurd (omega (arith, lt));
  paid = ([], tt, (λ x there. absurd (omega (arith, there.1))), omega arith);
}

module _ (g : Shape) (nodes untils' : List ℕ) (i : ℕ) (cycle : List ℕ) (at before after : ℕ)
    (is : IsTour g nodes untils' i cycle at before after) where
  module _ (lt : i < length untils') (u : ℕ) (at_u : get_or untils' i 0 ≡ u) where
    -- one more until
    more_untils : take (i + 1) untils' ≡ take i untils' ++ u ∷ []
    more_untils = take_more untils' i 0 lt ∙ ap (λ x. take i untils' ++ x ∷ []) at_u

    taken_more : (x : ℕ) → Contains (take i untils') x → Contains (take (i + 1) untils') x
    taken_more x there =
        let P : List ℕ → Type 0 = λ xs. Contains xs x in
        subst P (sym more_untils) (Contains-append_left (take i untils') (u ∷ []) x there)

    pub tour_skip : Contains (take i untils') u
        → IsTour g nodes untils' (i + 1) cycle at before after
    tour_skip met_before = record {
      goes = is.goes;
      starts = is.starts;
      here = is.here;
      free = below_more F i is.free (let U : ℕ
          → Type 0 = λ x. (v : ℕ) × (Contains cycle v ⊎ (v ≡ at)) × ¬ Postpones g v x in subst U
          (same ∙ sym at_u) (is.free k below));
      paid =
          (let (met, distinct, all, cost) = is.paid in
          (met, distinct, (λ x there. taken_more x (all x there)), cost));
    }
      where
        F : ℕ → Type 0
        F k = (v : ℕ) × (Contains cycle v ⊎ (v ≡ at)) × ¬ Postpones g v (get_or untils' k 0)

        k : ℕ
        k = met_before.0

        below : met_before.0 < i
        below = omega (arith, met_before.1, length-take i untils')

        same : get_or untils' met_before.0 0 ≡ u
        same = sym (get_or-take i untils' met_before.0 0 below)
            ∙ get_or_default (take i untils') met_before.0 0 u met_before.1 ∙ met_before.2

    module _ (new : ¬ Contains (take i untils') u) where
      met_more : (met : List ℕ) → IsDistinct nat_eq met
          → ((x : ℕ) → Contains met x → Contains (take i untils') x)
          → IsDistinct nat_eq (met ++ u ∷ []) ×
          ((x : ℕ) → Contains (met ++ u ∷ []) x → Contains (take (i + 1) untils') x)
      met_more met distinct all = (
        IsDistinct-push nat_eq_equiv met u distinct
            (false_from_ne_true _ (λ there. new (all u (contains_of met u there)))),
        λ x there.
            elim (Contains-push_cases met u x there) [
              | inl old ↦ taken_more x (all x old)
              | inr e ↦
                  let P : List ℕ → Type 0 = λ xs. Contains xs x in
                  let Q : ℕ → Type 0 = Contains (take i untils' ++ u ∷ []) in
                  subst P (sym more_untils) (subst Q e (Contains-push (take i untils') u))
            ],
      )

      module _ (free : ℕ) (in_nodes : Contains nodes free) (apart : ¬ Postpones g free u)
          (part : List ℕ) (path : IsPathFrom g at free part) (last : ℕ)
          (cost : last ≤ after + edges g) where
        free_more : (k : ℕ) → (v : ℕ) × (Contains cycle v ⊎ (v ≡ at)) × ¬ Postpones g v
            (get_or untils' k 0) → (v : ℕ) × (Contains (cycle ++ part) v ⊎ (v ≡ free)) × ¬ Postpones
            g v (get_or untils' k 0)
        free_more k (v, where_at, ne) = (
          v,
          inl (elim where_at [
            | inl there ↦ Contains-append_left cycle part v there
            | inr e ↦
                let P : ℕ → Type 0 = Contains part in
                Contains-append_right cycle part v
                (subst P (path.starts ∙ sym e) (first_in part free path.some))
          ]),
          ne,
        )

        pub tour_go : IsTour g nodes untils' (i + 1) (cycle ++ part) free before last
        tour_go = record {
          goes = path_on g cycle part free (let P : ℕ
              → Type 0 = IsPath g cycle in subst P (sym path.starts) is.goes) path.goes;
          starts = first_on cycle part free ∙ ap (first_or cycle) path.starts ∙ is.starts;
          here = in_nodes;
          free = below_more (λ k. (v : ℕ) × (Contains (cycle ++ part) v ⊎ (v ≡ free)) × ¬ Postpones
              g v (get_or untils' k 0)) i (λ k lt. free_more k (is.free k lt))
              (let N : ℕ → Type 0 = λ x. ¬ Postpones g free x in
              (free, inr refl, subst N (sym at_u) apart));
          paid =
              (let (met, distinct, all, paid) = is.paid in
              let (distinct', all') = met_more met distinct all in
              (met ++ u ∷ [], distinct', all', cost_more met paid));
        }
          where
            cost_more : (met : List ℕ) → after ≤ before + length met * edges g
                → last ≤ before + length (met ++ u ∷ []) * edges g
            cost_more met paid = let P : ℕ → Type 0 = λ n. last ≤ before + n * edges g in subst P
                (sym (length-append met (u ∷ []))) (omega (arith, cost, paid))

      -- what the next part may cost is within what all untils may
      pub tour_within : (root : ℕ) → untils' ≡ (node_of g root).postponed → (last : ℕ)
          → last ≤ after + edges g → last ≤ before + untils g * edges g
      tour_within root same last cost =
          let (met, distinct, all, paid) = is.paid in
          let (distinct', all') = met_more met distinct all in
          let P : List ℕ → ℕ → Type 0 = λ xs x. Contains xs x in
          let few = few_untils g root (met ++ u ∷ []) distinct'
          (λ x there. let Q : List ℕ → Type 0 = λ xs. Contains xs x in subst Q same
          (from-take untils' (i + 1) x (all' x there))) in
          cost_within (edges g) (length met) (untils g) before after last paid cost
          (omega (arith, few, length-append met (u ∷ [])))

  -- what a tour cost
  pub tour_cost : (root : ℕ) → untils' ≡ (node_of g root).postponed
      → after ≤ before + untils g * edges g
  tour_cost root same =
      let (met, distinct, all, paid) = is.paid in
      let few = few_untils g root met distinct
      (λ x there. let Q : List ℕ → Type 0 = λ xs. Contains xs x in subst Q same
      (from-take untils' i x (all x there))) in
      omega (arith, paid, mul-le-mul_right (edges g) few)

  module _ (all : length untils' ≤ i) (same : untils' ≡ (node_of g (get_or nodes 0 0)).postponed)
      (part : List ℕ) (path : IsPathFrom g at (get_or nodes 0 0) part) where
    root : ℕ
    root = get_or nodes 0 0

    pub tour_closed : IsPathFrom g (get_or nodes 0 0) (get_or nodes 0 0) (cycle ++ part)
    tour_closed = record {
      some = omega (arith, length-append cycle part, path.some);
      starts = first_on cycle part (get_or nodes 0 0) ∙ ap (first_or cycle) path.starts ∙ is.starts;
      goes = path_on g cycle part (get_or nodes 0 0)
          (let P : ℕ → Type 0 = IsPath g cycle in subst P (sym path.starts) is.goes) path.goes;
    }

    tour_at : (u : ℕ) → Postpones g (get_or nodes 0 0) u
        → (v : ℕ) × Contains (cycle ++ part) v × ¬ Postpones g v u
    tour_at u there =
        let Q : List ℕ → Type 0 = λ xs. Contains xs u in
        let (k, lt, is_u) = subst Q (sym same) there in
        let (v, where_at, ne) = is.free k (omega (arith, lt, all)) in
        let N : ℕ → Type 0 = λ x. ¬ Postpones g v x in (
          v,
          elim where_at [
            | inl in_cycle ↦ Contains-append_left cycle part v in_cycle
            | inr e ↦
                let P : ℕ → Type 0 = Contains part in
                Contains-append_right cycle part v
                (subst P (path.starts ∙ sym e) (first_in part (get_or nodes 0 0) path.some))
          ],
          subst N (get_or_default untils' k 0 u lt ∙ is_u) ne,
        )

    pub tour_fair : IsFair g (cycle ++ part)
    tour_fair u =
        elim (contains_or (node_of g (get_or nodes 0 0)).postponed u) [
          | inl there ↦ tour_at u there
          | inr free ↦
              let P : ℕ → Type 0 = Contains (cycle ++ part) in (
                get_or nodes 0 0,
                subst P tour_closed.starts
                    (first_in (cycle ++ part) (get_or nodes 0 0) tour_closed.some),
                free,
              )
        ]

-- ---- the steps of a search

pub steps_within : (g : Shape) → edges g + (untils g + 2) * edges g ≤ most_steps g
steps_within g = all_within (untils g) (length g.nodes) (edges g)
  where
    all_within : (u n e : ℕ) → e + (u + 2) * e ≤ (u + 4) * (n + e)
    all_within u n e = omega arith

pub edges_within : (g : Shape) → edges g ≤ most_steps g
edges_within g = omega (arith, steps_within g)
