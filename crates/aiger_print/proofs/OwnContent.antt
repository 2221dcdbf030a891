-- The content that a printed net has, and its net.
use Rattle.std.proofs.Common.{◌≡◌, ℕ, zero, suc, ◌+◌, ◌-◌, ◌*◌, ◌/◌, ◌<◌, true, nat_eq, max, min, inl, inr, refl, sym, ◌∙◌, ap, subst, arith, List, [], ◌∷◌, ◌++◌, map, length}
use Rattle.std.specs.List.{range_with_len, position_or_len}
use Rattle.std.proofs.lemmas.Bool.{cases_eq, eq-eqb, or_left, or_right, ne_eqb}
use Rattle.std.proofs.lemmas.List.FromFn.{length-range_with_len, get_or-range_with_len, length-map-range_with_len, get_or-map-range_with_len, fill_by_all}
use Rattle.std.proofs.lemmas.List.Sums.{position_or_len_is}
use Rattle.std.proofs.lemmas.List.{map-append}
use Rattle.aig_net.specs.declared.parts.And.{And}
use Rattle.aig_net.specs.declared.parts.Reset.TheVariants.{Zero}
use Rattle.aig_net.specs.declared.parts.NetParts.{NetParts}
use Rattle.aig_net.specs.Nets.{IsNet, Below, AllBelow, variables, first_and, latch_variable, literal_at, reset_at, and_at, no_and}
use Rattle.aig_order.specs.declared.gate.Gate.{Gate}
use Rattle.aig_order.specs.Firsts.{holds}
use Rattle.aig_order.specs.Gates.{gate_at, no_gate, order, AreSorted, Depends}
use Rattle.aig_order.proofs.Firsts.{place-holds}
use Rattle.aig_order.proofs.Sorted.{sorted-order}
use Rattle.aig_order.proofs.Orders.{taken-order, cyclic-absent}
use Rattle.aiger_body.specs.declared.content.Content.{Content}
use Rattle.aiger_body.specs.declared.content.Latch.{Latch}
use Rattle.aiger_body.specs.Files.{own_literal, own_variables, variables_of}
use Rattle.aiger_body.specs.Circuits.{is_defined, in_order, renumbered, and_of, Names, net_of}
use Rattle.aiger_body.proofs.Known.{map-twice}
use Rattle.aiger_read.proofs.Parts.{same_parts}

abbrev pub own_latch : NetParts → ℕ → Latch
own_latch net j = record { own = 2 * latch_variable net j; next = literal_at net.latches j; reset = reset_at net.resets j }

abbrev pub own_gate : NetParts → ℕ → Gate
own_gate net j = record { lhs = 2 * (first_and net + j); left = (and_at net.ands j).left; right = (and_at net.ands j).right }

abbrev pub content_of : NetParts → Content
content_of net = record {
  inputs = map (λ j. 2 * suc j) (range_with_len 0 net.inputs);
  latches = map (own_latch net) (range_with_len 0 (length net.latches));
  outputs = net.outputs;
  constraints = net.constraints;
  justice = 0;
  fairs = net.fairs;
  gates = map (own_gate net) (range_with_len 0 (length net.ands));
}

-- ---- the variables in order

shifted : (f : ℕ → ℕ) (b c n : ℕ) → ((j : ℕ) → j < n → f (b + j) ≡ c + j) → map f (range_with_len b n) ≡ range_with_len c n
shifted f b c zero each = refl
shifted f b c (suc n) each =
    let p : b ≡ b + 0 = omega arith in
    let q : c + 0 ≡ c = omega arith in
    let next : (j : ℕ) → j < n → f (b + 1 + j) ≡ c + 1 + j = λ j lt. (let r : b + 1 + j ≡ b + suc j = omega arith in let s : c + suc j ≡ c + 1 + j = omega arith in ap f r ∙ each (suc j) (omega arith) ∙ s) in
    ap (λ y. y ∷ map f (range_with_len (b + 1) n)) (ap f p ∙ each 0 (omega arith) ∙ q) ∙ ap (λ l. c ∷ l) (shifted f (b + 1) (c + 1) n next)

range-append : (a m n : ℕ) → range_with_len a m ++ range_with_len (a + m) n ≡ range_with_len a (m + n)
range-append a zero n =
    let q : a + 0 ≡ a = omega arith in
    let r : n ≡ 0 + n = omega arith in
    ap (λ b. range_with_len b n) q ∙ ap (range_with_len a) r
range-append a (suc m) n =
    let q : a + suc m ≡ a + 1 + m = omega arith in
    let r : suc (m + n) ≡ suc m + n = omega arith in
    ap (λ b. a ∷ range_with_len (a + 1) m ++ range_with_len b n) q ∙ ap (λ l. a ∷ l) (range-append (a + 1) m n) ∙ ap (range_with_len a) r

place-range : (n v : ℕ) → v < n → position_or_len (nat_eq v) (range_with_len 0 n) ≡ v
place-range n v lt =
    position_or_len_is (nat_eq v) (range_with_len 0 n) v 0 (omega (arith, length-range_with_len 0 n))
    (λ k less. ne_eqb v _ (λ e. omega (arith, get_or-range_with_len 0 n k 0 (omega arith))))
    (λ inside. eq-eqb v _ (omega (arith, get_or-range_with_len 0 n v 0 lt)))

module _ (net : NetParts) (is : IsNet net) where
  abbrev c : Content
  c = content_of net

  gates-long : length c.gates ≡ length net.ands
  gates-long = length-map-range_with_len (own_gate net) 0 (length net.ands)

  gate-is : (k : ℕ) → k < length net.ands → gate_at c.gates k ≡ own_gate net k
  gate-is k lt = get_or-map-range_with_len (own_gate net) 0 (length net.ands) k k no_gate lt (omega arith)

  sorted : AreSorted (first_and net) c.gates
  sorted k lt =
      let inside : k < length net.ands = omega (arith, lt, gates-long) in
      let (l, r) = is.ordered k inside in
      let P : Gate → Type 0 = λ g. (g.lhs / 2 ≡ first_and net + k) × (g.left / 2 < first_and net + k) × (g.right / 2 < first_and net + k) in
      subst P (sym (gate-is k inside)) (omega arith, l, r)

  order-is : order c.gates ≡ range_with_len 0 (length net.ands)
  order-is = sorted-order (first_and net) c.gates sorted ∙ ap (range_with_len 0) gates-long

  -- none depends on itself
  pub acyclic : (k : ℕ) → k < length c.gates → ¬ Depends c.gates k k
  acyclic k lt round =
      let inside : k < length net.ands = omega (arith, lt, gates-long) in
      let there : holds k (order c.gates) ≡ true = ap (holds k) order-is ∙ place-holds k (range_with_len 0 (length net.ands)) k (omega (arith, inside, length-range_with_len 0 (length net.ands))) (get_or-range_with_len 0 (length net.ands) k 0 inside ∙ (omega arith)) in
      cyclic-absent c.gates (order c.gates) (taken-order c.gates (length c.gates)) k round there

  own-is : own_variables c ≡ range_with_len 1 (net.inputs + length net.latches)
  own-is =
      map-append (λ l. l / 2) c.inputs (map own_literal c.latches)
      ∙ ap (λ l. l ++ map (λ l. l / 2) (map own_literal c.latches)) (map-twice (λ j. 2 * suc j) (λ l. l / 2) (range_with_len 0 net.inputs) ∙ shifted (λ j. 2 * suc j / 2) 0 1 net.inputs (λ j lt. omega arith))
      ∙ ap (λ l. range_with_len 1 net.inputs ++ l) (ap (map (λ l. l / 2)) (map-twice (own_latch net) own_literal (range_with_len 0 (length net.latches))) ∙ map-twice (λ j. 2 * latch_variable net j) (λ l. l / 2) (range_with_len 0 (length net.latches)) ∙ shifted (λ j. 2 * latch_variable net j / 2) 0 (1 + net.inputs) (length net.latches) (λ j lt. omega arith))
      ∙ range-append 1 net.inputs (length net.latches)

  lhs-are : map (λ k. (gate_at c.gates k).lhs / 2) (range_with_len 0 (length net.ands)) ≡ range_with_len (first_and net) (length net.ands)
  lhs-are = shifted (λ k. (gate_at c.gates k).lhs / 2) 0 (first_and net) (length net.ands) (λ j lt.
      let q : 0 + j ≡ j = omega arith in
      let r : 2 * (first_and net + j) / 2 ≡ first_and net + j = omega arith in
      ap (λ k. (gate_at c.gates k).lhs / 2) q ∙ ap (λ (g : Gate). g.lhs / 2) (gate-is j lt) ∙ r)

  in-order : in_order c ≡ range_with_len 0 (variables net)
  in-order =
      let next : first_and net ≡ 1 + (net.inputs + length net.latches) = omega arith in
      let all : suc (net.inputs + length net.latches + length net.ands) ≡ variables net = omega arith in
      let zero_one : 0 + 1 ≡ 1 = omega arith in
      ap (λ l. (0 ∷ l) ++ map (λ k. (gate_at c.gates k).lhs / 2) (order c.gates)) own-is
      ∙ ap (λ o. (0 ∷ range_with_len 1 (net.inputs + length net.latches)) ++ map (λ k. (gate_at c.gates k).lhs / 2) o) order-is
      ∙ ap (λ l. (0 ∷ range_with_len 1 (net.inputs + length net.latches)) ++ l) (lhs-are ∙ ap (λ a. range_with_len a (length net.ands)) next)
      ∙ ap (λ l. 0 ∷ l) (range-append 1 (net.inputs + length net.latches) (length net.ands))
      ∙ ap (λ a. 0 ∷ range_with_len a (net.inputs + length net.latches + length net.ands)) (sym zero_one)
      ∙ ap (range_with_len 0) all

  same-literal : (l : ℕ) → Below (variables net) l → renumbered c l ≡ l
  same-literal l lt = omega (arith, ap (position_or_len (nat_eq (l / 2))) in-order ∙ place-range (variables net) (l / 2) lt)

  same-literals : (literals : List ℕ) → AllBelow (variables net) literals → map (renumbered c) literals ≡ literals
  same-literals [] all = refl
  same-literals (l ∷ literals) all = ap (λ a. a ∷ map (renumbered c) literals) (same-literal l (all 0 (omega arith))) ∙ ap (λ r. l ∷ r) (same-literals literals (λ j lt. all (suc j) (omega arith)))

  -- what is used is defined
  pub defined : (l : ℕ) → Below (variables net) l → is_defined c l ≡ true
  defined l lt = elim (cases_eq (l / 2) 0) [
    | inl constant ↦ or_left _ _ (eq-eqb (l / 2) 0 constant)
    | inr other ↦ or_right (nat_eq (l / 2) 0) _ (ap (holds (l / 2)) all-are ∙ place-holds (l / 2) (range_with_len 1 (net.inputs + length net.latches + length net.ands)) (l / 2 - 1) (omega (arith, lt, length-range_with_len 1 (net.inputs + length net.latches + length net.ands))) (get_or-range_with_len 1 (net.inputs + length net.latches + length net.ands) (l / 2 - 1) 0 (omega arith) ∙ (omega arith)))
  ]
    where
      gates-are : map (λ (g : Gate). g.lhs / 2) c.gates ≡ range_with_len (1 + (net.inputs + length net.latches)) (length net.ands)
      gates-are = map-twice (own_gate net) (λ (g : Gate). g.lhs / 2) (range_with_len 0 (length net.ands)) ∙ shifted (λ j. 2 * (first_and net + j) / 2) 0 (1 + (net.inputs + length net.latches)) (length net.ands) (λ j less. omega arith)

      all-are : variables_of c ≡ range_with_len 1 (net.inputs + length net.latches + length net.ands)
      all-are = ap (λ l. l ++ map (λ (g : Gate). g.lhs / 2) c.gates) own-is ∙ ap (λ l. range_with_len 1 (net.inputs + length net.latches) ++ l) gates-are ∙ range-append 1 (net.inputs + length net.latches) (length net.ands)

  -- ---- the net

  and-back : (k : ℕ) → k < length net.ands → and_of c (gate_at c.gates k) ≡ and_at net.ands k
  and-back k lt =
      let (l, r) = is.ordered k lt in
      let a = and_at net.ands k in
      let mk : ℕ → ℕ → And = λ x y. record { left = x; right = y } in
      let left_same : renumbered c a.left ≡ a.left = same-literal a.left (omega (arith, l, lt)) in
      let right_same : renumbered c a.right ≡ a.right = same-literal a.right (omega (arith, r, lt)) in
      let most : max a.left a.right ≡ a.left = omega (arith, is.turned k lt) in
      let less : min a.left a.right ≡ a.right = omega (arith, is.turned k lt) in
      ap (and_of c) (gate-is k lt)
      ∙ ap (λ x. mk (max x (renumbered c a.right)) (min x (renumbered c a.right))) left_same
      ∙ ap (λ y. mk (max a.left y) (min a.left y)) right_same
      ∙ ap (λ x. mk x (min a.left a.right)) most
      ∙ ap (mk a.left) less

  ands-back : map (λ k. and_of c (gate_at c.gates k)) (order c.gates) ≡ net.ands
  ands-back =
      ap (map (λ k. and_of c (gate_at c.gates k))) order-is ∙ sym (fill_by_all (λ k. and_of c (gate_at c.gates k)) net.ands (length net.ands) no_and refl (λ k lt. sym (and-back k lt)))

  nexts-back : map (λ (l : Latch). renumbered c l.next) c.latches ≡ net.latches
  nexts-back =
      map-twice (own_latch net) (λ (l : Latch). renumbered c l.next) (range_with_len 0 (length net.latches))
      ∙ sym (fill_by_all (λ j. renumbered c (literal_at net.latches j)) net.latches (length net.latches) 0 refl (λ j lt. sym (same-literal (literal_at net.latches j) (is.latches j lt))))

  resets-back : map (λ (l : Latch). l.reset) c.latches ≡ net.resets
  resets-back =
      map-twice (own_latch net) (λ (l : Latch). l.reset) (range_with_len 0 (length net.latches))
      ∙ sym (fill_by_all (reset_at net.resets) net.resets (length net.latches) Zero is.resets (λ j lt. refl))

  pub net_back : (names : Names) → names.inputs ≡ net.input_names → names.latches ≡ net.latch_names → names.outputs ≡ net.output_names → net_of c names ≡ net
  net_back names i l o =
      same_parts (net_of c names) net
      (length-map-range_with_len (λ j. 2 * suc j) 0 net.inputs)
      nexts-back resets-back ands-back
      (same-literals net.outputs is.outputs) (same-literals net.constraints is.constraints) (same-literals net.fairs is.fairs)
      i l o
