-- The net of a circuit is a net.
use Rattle.std.proofs.Common.{◌≡◌, ℕ, zero, suc, ◌+◌, ◌*◌, ◌/◌, ◌%◌, ◌<◌, ◌≤◌, ◌⊎◌, Bool, true, false, cond, not, nat_eq, max, min, inl, inr, sym, ◌∙◌, ap, subst, arith, List, [], ◌∷◌, ◌++◌, map, length, get_or, length-append}
use Rattle.std.specs.Prelude.{IsTrue}
use Rattle.std.specs.List.{position_or_len}
use Rattle.std.proofs.lemmas.Bool.{cases_lt, eq-eqb, or_left, or_right, or_cases, cases_Bool}
use Rattle.std.proofs.lemmas.List.{length-map, get_or-map, get_or_append_left, get_or-append-add}
use Rattle.aig_net.specs.declared.parts.And.{And}
use Rattle.aig_net.specs.declared.parts.NetParts.{NetParts}
use Rattle.aig_net.specs.Nets.{Below, AllBelow, AreOrdered, AreTurned, AreNames, IsNet, first_and, variables, no_and}
use Rattle.aig_order.specs.declared.gate.Gate.{Gate}
use Rattle.aig_order.specs.Firsts.{holds}
use Rattle.aig_order.specs.Gates.{gate_at, no_gate, uses, order}
use Rattle.aig_order.proofs.Firsts.{holds-place, holds-append}
use Rattle.aig_order.proofs.Orders.{taken-order, before-used}
use Rattle.aig_order.proofs.LawLemmas.{complete}
use Rattle.aiger_body.specs.declared.content.Content.{Content}
use Rattle.aiger_body.specs.declared.content.Latch.{Latch}
use Rattle.aiger_body.specs.Files.{own_literal, own_variables}
use Rattle.aiger_body.specs.Circuits.{is_defined, AllDefined, no_latch, IsCircuit, in_order, renumbered, and_of, Names, net_of}

-- ---- the first place of a number

place-low : (v : ℕ) (list : List ℕ) (p : ℕ) → p < length list → get_or list p 0 ≡ v → position_or_len (nat_eq v) list ≤ p
place-low v [] p lt e = absurd (omega arith)
place-low v (x ∷ xs) p lt e = step p lt e (cases_Bool (nat_eq v x)) (λ q less is. place-low v xs q less is)
  where
    step : (p : ℕ) → p < length (x ∷ xs) → get_or (x ∷ xs) p 0 ≡ v → (nat_eq v x ≡ true) ⊎ (nat_eq v x ≡ false) → ((q : ℕ) → q < length xs → get_or xs q 0 ≡ v → position_or_len (nat_eq v) xs ≤ q) → position_or_len (nat_eq v) (x ∷ xs) ≤ p
    step p lt e (inl here) more = let P : Bool → Type 0 = λ b. cond (not b) (1 + position_or_len (nat_eq v) xs) 0 ≤ p in subst P (sym here) (omega arith)
    step zero lt e (inr other) more = let same : nat_eq v x ≡ true = eq-eqb v x (sym e) in absurd (cc)
    step (suc q) lt e (inr other) more = let P : Bool → Type 0 = λ b. cond (not b) (1 + position_or_len (nat_eq v) xs) 0 ≤ suc q in subst P (sym other) (omega (arith, more q (omega arith) e))

place-front : (v : ℕ) (front back : List ℕ) → holds v front ≡ true → position_or_len (nat_eq v) (front ++ back) < length front
place-front v front back found =
    let (p, lt, is) = holds-place v front found in
    let low : position_or_len (nat_eq v) (front ++ back) ≤ p = place-low v (front ++ back) p (omega (arith, length-append front back)) (get_or_append_left front back 0 p lt ∙ is) in
    omega arith

place-back : (v : ℕ) (front back : List ℕ) (q : ℕ) → q < length back → get_or back q 0 ≡ v → position_or_len (nat_eq v) (front ++ back) ≤ length front + q
place-back v front back q lt is = place-low v (front ++ back) (length front + q) (omega (arith, length-append front back)) (get_or-append-add front back q 0 ∙ is)

gate-place : (v : ℕ) (gates : List Gate) → holds v (map (λ g. g.lhs / 2) gates) ≡ true → (k : ℕ) × (k < length gates) × ((gate_at gates k).lhs / 2 ≡ v)
gate-place v gates found =
    let (k, lt, is) = holds-place v (map (λ g. g.lhs / 2) gates) found in
    let inside : k < length gates = omega (arith, lt, length-map gates (λ (g : Gate). g.lhs / 2)) in
    (k, inside, sym (get_or-map (λ g. g.lhs / 2) gates k no_gate 0 inside) ∙ is)

half : (p l : ℕ) → (2 * p + l % 2) / 2 ≡ p
half p l = omega arith

module _ (c : Content) (right : IsCircuit c) (names : Names) where
  abbrev net : NetParts
  net = net_of c names

  abbrev front : List ℕ
  front = 0 ∷ own_variables c

  abbrev back : List ℕ
  back = map (λ k. (gate_at c.gates k).lhs / 2) (order c.gates)

  front-or-gate : (l : ℕ) → is_defined c l ≡ true → (holds (l / 2) front ≡ true) ⊎ ((k : ℕ) × (k < length c.gates) × ((gate_at c.gates k).lhs / 2 ≡ l / 2))
  front-or-gate l e =
      elim (or_cases (nat_eq (l / 2) 0) _ e) [
        | inl constant ↦ inl (or_left _ _ constant)
        | inr more ↦
            elim (holds-append (l / 2) (own_variables c) (map (λ g. g.lhs / 2) c.gates) more) [
              | inl own ↦ inl (or_right (nat_eq (l / 2) 0) _ own)
              | inr gate ↦ inr (gate-place (l / 2) c.gates gate)
            ]
      ]

  in-back : (q k : ℕ) → q < length (order c.gates) → get_or (order c.gates) q 0 ≡ k → (q < length back) × (get_or back q 0 ≡ (gate_at c.gates k).lhs / 2)
  in-back q k lt is = (
    omega (arith, lt, length-map (order c.gates) (λ (k : ℕ). (gate_at c.gates k).lhs / 2)),
    get_or-map (λ k. (gate_at c.gates k).lhs / 2) (order c.gates) q 0 0 lt ∙ ap (λ k. (gate_at c.gates k).lhs / 2) is,
  )

  placed : (l : ℕ) → is_defined c l ≡ true → position_or_len (nat_eq (l / 2)) (in_order c) < length front + length back
  placed l e =
      elim (front-or-gate l e) [
        | inl own ↦ omega (arith, place-front (l / 2) front back own)
        | inr (k, lt, is) ↦
            let (q, less, there) = holds-place k (order c.gates) (complete c.gates right.acyclic k lt) in
            let (inside, at) = in-back q k less there in
            omega (arith, inside, place-back (l / 2) front back q inside (at ∙ is))
      ]

  -- where the literal is a right side of the and that is taken as the j-th
  placed-before : (j l : ℕ) → j < length (order c.gates) → is_defined c l ≡ true → ((i : ℕ) → (gate_at c.gates i).lhs / 2 ≡ l / 2 → IsTrue (uses c.gates (get_or (order c.gates) j 0) i)) → position_or_len (nat_eq (l / 2)) (in_order c) < length front + j
  placed-before j l less e used =
      elim (front-or-gate l e) [
        | inl own ↦ omega (arith, place-front (l / 2) front back own)
        | inr (i, lt, is) ↦
            let (q, small, there) = before-used c.gates (order c.gates) (taken-order c.gates (length c.gates)) j i less lt (used i is) in
            let (inside, at) = in-back q i (omega arith) there in
            omega (arith, small, place-back (l / 2) front back q inside (at ∙ is))
      ]

  fronts : length front ≡ first_and net
  fronts =
      let a = length-map (c.inputs ++ map own_literal c.latches) (λ (l : ℕ). l / 2) in
      let b = length-append c.inputs (map own_literal c.latches) in
      let d = length-map c.latches own_literal in
      let e = length-map c.latches (λ (l : Latch). renumbered c l.next) in
      omega (arith, a, b, d, e)

  backs : length back ≡ length net.ands
  backs =
      let a = length-map (order c.gates) (λ (k : ℕ). (gate_at c.gates k).lhs / 2) in
      let b = length-map (order c.gates) (λ (k : ℕ). and_of c (gate_at c.gates k)) in
      omega (arith, a, b)

  below-all : (l : ℕ) → is_defined c l ≡ true → Below (variables net) (renumbered c l)
  below-all l e = omega (arith, half (position_or_len (nat_eq (l / 2)) (in_order c)) l, placed l e, fronts, backs)

  all-below : (literals : List ℕ) → AllDefined c literals → AllBelow (variables net) (map (renumbered c) literals)
  all-below literals all j lt =
      let inside : j < length literals = omega (arith, lt, length-map literals (renumbered c)) in
      let P : ℕ → Type 0 = λ l. Below (variables net) l in
      subst P (sym (get_or-map (renumbered c) literals j 0 0 inside)) (below-all _ (all j inside))

  nexts-below : AllBelow (variables net) net.latches
  nexts-below j lt =
      let inside : j < length c.latches = omega (arith, lt, length-map c.latches (λ (l : Latch). renumbered c l.next)) in
      let P : ℕ → Type 0 = λ l. Below (variables net) l in
      subst P (sym (get_or-map (λ (l : Latch). renumbered c l.next) c.latches j no_latch 0 inside)) (below-all _ (right.nexts j inside))

  sides : (n a b : ℕ) → a / 2 < n → b / 2 < n → (max a b / 2 < n) × (min a b / 2 < n)
  sides n a b x y = elim (cases_lt a b) [ inl lt ↦ (omega arith, omega arith) | inr le ↦ (omega arith, omega arith) ]

  ands-below : AreOrdered (first_and net) net.ands
  ands-below j lt =
      let inside : j < length (order c.gates) = omega (arith, lt, length-map (order c.gates) (λ (k : ℕ). and_of c (gate_at c.gates k))) in
      let k = get_or (order c.gates) j 0 in
      let small : k < length c.gates = (taken-order c.gates (length c.gates) j inside).0 in
      let (l, r) = right.gates k small in
      let left_low : position_or_len (nat_eq ((gate_at c.gates k).left / 2)) (in_order c) < length front + j = placed-before j (gate_at c.gates k).left inside l (λ i is. or_left _ _ (eq-eqb _ _ (sym is))) in
      let right_low : position_or_len (nat_eq ((gate_at c.gates k).right / 2)) (in_order c) < length front + j = placed-before j (gate_at c.gates k).right inside r (λ i is. or_right (nat_eq ((gate_at c.gates k).left / 2) _) _ (eq-eqb _ _ (sym is))) in
      let P : And → Type 0 = λ a. Below (first_and net + j) a.left × Below (first_and net + j) a.right in
      let at = get_or-map (λ k. and_of c (gate_at c.gates k)) (order c.gates) j 0 no_and inside in
      subst P (sym at) (sides _ (renumbered c (gate_at c.gates k).left) (renumbered c (gate_at c.gates k).right)
      (omega (arith, left_low, fronts, half (position_or_len (nat_eq ((gate_at c.gates k).left / 2)) (in_order c)) (gate_at c.gates k).left))
      (omega (arith, right_low, fronts, half (position_or_len (nat_eq ((gate_at c.gates k).right / 2)) (in_order c)) (gate_at c.gates k).right)))

  ands-turned : AreTurned net.ands
  ands-turned j lt =
      let inside : j < length (order c.gates) = omega (arith, lt, length-map (order c.gates) (λ (k : ℕ). and_of c (gate_at c.gates k))) in
      let P : And → Type 0 = λ a. a.right ≤ a.left in
      subst P (sym (get_or-map (λ k. and_of c (gate_at c.gates k)) (order c.gates) j 0 no_and inside)) (omega arith)

  pub net_right : AreNames (length c.inputs) names.inputs → AreNames (length c.latches) names.latches → AreNames (length c.outputs) names.outputs → IsNet net
  net_right inputs latches outputs = record {
    latches = nexts-below;
    resets = length-map c.latches (λ (l : Latch). l.reset) ∙ sym (length-map c.latches (λ (l : Latch). renumbered c l.next));
    ordered = ands-below;
    turned = ands-turned;
    outputs = all-below c.outputs right.outputs;
    constraints = all-below c.constraints right.constraints;
    fairs = all-below c.fairs right.fairs;
    input_names = inputs;
    latch_names = record { many = latches.many ∙ sym (length-map c.latches (λ (l : Latch). renumbered c l.next)); good = latches.good };
    output_names = record { many = outputs.many ∙ sym (length-map c.outputs (renumbered c)); good = outputs.good };
  }
