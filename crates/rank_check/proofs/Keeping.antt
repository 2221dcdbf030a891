-- A graph stays whole as it grows.
use Rattle.std.proofs.Common.{◌≡◌, ℕ, ◌-◌, ◌^◌, ◌<◌, length, get_or, set, List, [], ◌∷◌, ◌++◌, inl, inr, sym, ap, ◌∙◌, subst, arith}
use Rattle.std.specs.List.{Contains}
use Rattle.std.proofs.Math.ListN.{length-set, length-append, get_or-append}
use Rattle.std.proofs.Math.Seq.{get_or-append_seam}
use Rattle.std.proofs.lemmas.Bool.{cases_eq, cases_lt}
use Rattle.std.proofs.lemmas.List.{get_or-set_same, get_or-set_other, get_or_past}
use Rattle.std.proofs.lemmas.List.Elements.{Contains-push_cases}
use Rattle.rank_check.specs.declared.graph.Node.{Node}
use Rattle.rank_check.specs.Graphs.{Shape, no_node, members_of, IsWhole}

module _ (g : Shape) (whole : IsWhole g) where
  -- the graph with one more member of a group
  abbrev Grown : ℕ → ℕ → Shape
  Grown group v = record {
    groups = set g.groups group (members_of g group ++ v ∷ []);
    nodes =
        g.nodes;
  }

  same-group : (group v : ℕ) → group < length g.groups
      → members_of (Grown group v) group ≡ members_of g group ++ v ∷ []
  same-group group v there = get_or-set_same g.groups group _ [] there

  other-group : (group v k : ℕ) → (k ≡ group → ⊥) → members_of (Grown group v) k ≡ members_of g k
  other-group group v k apart = get_or-set_other g.groups group k _ [] apart

  few-grown : (group v : ℕ) → group < length g.groups → length (members_of g group) < 2 ^ 32 - 1
      → (k : ℕ) → length (members_of (Grown group v) k) < 2 ^ 32
  few-grown group v there few k =
      elim (cases_eq k group) [
        | inl e ↦
            let P : ℕ → Type 0 = λ k. length (members_of (Grown group v) k) < 2 ^ 32 in
            subst P (sym e) (omega (
              arith,
              ap length (same-group group v there),
              length-append (members_of g group) (v ∷ []),
            ))
        | inr apart ↦ omega (arith, ap length (other-group group v k apart), whole.few_members k)
      ]

  made-grown : (group v : ℕ) → group < length g.groups → v < length g.nodes → (k w : ℕ)
      → Contains (members_of (Grown group v) k) w → w < length g.nodes
  made-grown group v there made k w in_it =
      let Q : List ℕ → Type 0 = λ xs. Contains xs w in
      elim (cases_eq k group) [
        | inl e ↦
            let P : ℕ → Type 0 = λ k. Contains (members_of (Grown group v) k) w in
            elim (Contains-push_cases (members_of g group) v w
            (subst Q (same-group group v there) (subst P e in_it))) [
              | inl old ↦ whole.made group w old
              | inr new ↦ let R : ℕ → Type 0 = λ w. w < length g.nodes in subst R new made
            ]
        | inr apart ↦ whole.made k w (subst Q (other-group group v k apart) in_it)
      ]

  pub whole-member : (group v : ℕ) → group < length g.groups → v < length g.nodes
      → length (members_of g group) < 2 ^ 32 - 1 → IsWhole (Grown group v)
  whole-member group v there made few = record {
    start = omega (arith, length-set g.groups group (members_of g group ++ v ∷ []), whole.start);
    few_groups = omega (
      arith,
      length-set g.groups group (members_of g group ++ v ∷ []),
      whole.few_groups,
    );
    few_nodes = whole.few_nodes;
    few_members = few-grown group v there few;
    made = made-grown group v there made;
    named = λ w. omega (
      arith,
      length-set g.groups group (members_of g group ++ v ∷ []),
      whole.named w,
    );
  }

  -- the node at a place once one more is added
  named-added : (n : Node) → n.next_group < length g.groups → (v : ℕ)
      → (get_or (g.nodes ++ n ∷ []) v no_node).next_group < length g.groups
  named-added n named v =
      let P : Node → Type 0 = λ n. n.next_group < length g.groups in
      elim (cases_lt v (length g.nodes)) [
        | inl lt ↦ subst P (sym (get_or-append g.nodes (n ∷ []) no_node v lt)) (whole.named v)
        | inr le ↦
            elim (cases_eq v (length g.nodes)) [
              | inl e ↦ subst P (sym ((λ i. get_or (g.nodes ++ n ∷ []) (e i) no_node)
                  ∙ get_or-append_seam g.nodes n [] no_node)) named
              | inr apart ↦ subst P (sym (get_or_past (g.nodes ++ n ∷ []) v no_node
                  (omega (arith, length-append g.nodes (n ∷ []))))) whole.start
            ]
      ]

  pub whole-node : (n : Node) → n.next_group < length g.groups → length g.nodes < 2 ^ 32 - 1
      → IsWhole (record { groups = g.groups; nodes = g.nodes ++ n ∷ [] })
  whole-node n named few = record {
    start = whole.start;
    few_groups = whole.few_groups;
    few_nodes = omega (arith, length-append g.nodes (n ∷ []));
    few_members = whole.few_members;
    made = λ group v in_it. omega (arith, length-append g.nodes (n ∷ []), whole.made group v in_it);
    named = named-added n named;
  }
