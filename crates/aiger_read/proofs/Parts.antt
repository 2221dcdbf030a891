-- The parts that are made are those of the text's circuit.
use Rattle.std.proofs.Common.{◌≡◌, ℕ, zero, suc, ◌+◌, ◌*◌, ◌/◌, ◌%◌, ◌≤◌, ◌^◌, ◌∙◌, sym, ap, subst, arith, refl, max, min, nat_eq, List, [], ◌∷◌, ◌++◌, map, length, length-append}
use Rattle.std.specs.Prelude.{option_to_list, Option, Some, None}
use Rattle.std.specs.List.{position_or_len}
use Rattle.std.proofs.lemmas.List.{length-map}
use Rattle.aig_net.specs.declared.parts.And.{And}
use Rattle.aig_net.specs.declared.parts.Reset.{Reset}
use Rattle.aig_net.specs.declared.parts.NetParts.{NetParts}
use Rattle.aig_order.specs.declared.gate.Gate.{Gate}
use Rattle.aig_order.specs.Gates.{gate_at, order, taken, next_gate}
use Rattle.aig_order.proofs.Orders.{taken-order}
use Rattle.aiger_body.specs.declared.body.Body.{Body}
use Rattle.aiger_body.specs.declared.header.Header.{Header}
use Rattle.aiger_body.specs.declared.content.Content.{Content}
use Rattle.aiger_body.specs.declared.content.Latch.{Latch}
use Rattle.aiger_body.specs.Files.{content, own_literal, own_variables}
use Rattle.aiger_body.specs.Circuits.{in_order, renumbered, and_of}
use Rattle.aiger_body.specs.Outcomes.{circuit}
use Rattle.aiger_body.specs.Bodies.{IsBody}
use Rattle.aiger_read.specs.declared.names.Names.{Names}
use Rattle.aiger_read.specs.Naming.{AreNamed}
use Rattle.aiger_read.specs.Readings.{AreOf, renumbered_by, and_by}
use Rattle.aiger_read.proofs.Clear.{inputs_many, latches_many, gates_many}

-- ---- the order

taken-few : (gates : List Gate) (n : ℕ) → length (taken gates n) ≤ n
taken-few gates zero = omega arith
taken-few gates (suc n) = omega (arith, taken-few gates n, length-append (taken gates n) (option_to_list (next_gate gates (taken gates n))), one (next_gate gates (taken gates n)))
  where
    one : (o : Option ℕ) → length (option_to_list o) ≤ 1
    one None = omega arith
    one (Some k) = omega arith

pub ands_few : (h : Header) (bytes : List ℕ) → length (circuit h bytes).ands ≤ length (content h bytes).gates
ands_few h bytes = omega (arith, length-map (order (content h bytes).gates) (λ (k : ℕ). and_of (content h bytes) (gate_at (content h bytes).gates k)), taken-few (content h bytes).gates (length (content h bytes).gates))

module _ (bytes : List ℕ) (b : Body) (is : IsBody bytes b) where
  order-is : b.order ≡ order b.content.gates
  order-is = is.order.same ∙ ap (λ (c : Content). order c.gates) (sym is.content.same)

  pub order_of : AreOf b.order b.content.gates
  order_of =
      let P : List ℕ → Type 0 = λ o. AreOf o b.content.gates in
      subst P (sym order-is) (λ i lt. (taken-order b.content.gates (length b.content.gates) i lt).0)

  pub inputs_long : length b.content.inputs ≡ b.header.inputs
  inputs_long = ap (λ (c : Content). length c.inputs) is.content.same ∙ inputs_many b.header bytes

  latches-long : length b.content.latches ≡ b.header.latches
  latches-long = ap (λ (c : Content). length c.latches) is.content.same ∙ latches_many b.header bytes

  gates-long : length b.content.gates ≡ b.header.ands
  gates-long = ap (λ (c : Content). length c.gates) is.content.same ∙ gates_many b.header bytes

  pub variables_few : (variables : List ℕ) → variables ≡ (0 ∷ own_variables b.content) ++ map (λ k. (gate_at b.content.gates k).lhs / 2) b.order → length variables ≤ 2 ^ 30
  variables_few variables e =
      omega (
        arith,
        ap length e,
        length-append (own_variables b.content) (map (λ k. (gate_at b.content.gates k).lhs / 2) b.order),
        length-map (b.content.inputs ++ map own_literal b.content.latches) (λ (l : ℕ). l / 2),
        length-append b.content.inputs (map own_literal b.content.latches),
        length-map b.content.latches own_literal,
        length-map b.order (λ (k : ℕ). (gate_at b.content.gates k).lhs / 2),
        ap length order-is,
        taken-few b.content.gates (length b.content.gates),
        inputs_long,
        latches-long,
        gates-long,
        is.fits.sum,
        is.fits.top,
      )

-- ---- the parts

map-same : {A B : Type 0} (f g : A → B) (xs : List A) → ((x : A) → f x ≡ g x) → map f xs ≡ map g xs
map-same f g [] same = refl
map-same f g (x ∷ xs) same = ap (λ y. y ∷ map f xs) (same x) ∙ ap (λ l. g x ∷ l) (map-same f g xs same)

pub same_parts : (p q : NetParts) → p.inputs ≡ q.inputs → p.latches ≡ q.latches → p.resets ≡ q.resets → p.ands ≡ q.ands → p.outputs ≡ q.outputs → p.constraints ≡ q.constraints → p.fairs ≡ q.fairs → p.input_names ≡ q.input_names → p.latch_names ≡ q.latch_names → p.output_names ≡ q.output_names → p ≡ q
same_parts p q a b c d e f g x y z =
    ap (λ (v : ℕ). record p { inputs = v }) a
    ∙ ap (λ (v : List ℕ). record p { inputs = q.inputs; latches = v }) b
    ∙ ap (λ (v : List Reset). record p { inputs = q.inputs; latches = q.latches; resets = v }) c
    ∙ ap (λ (v : List And). record p { inputs = q.inputs; latches = q.latches; resets = q.resets; ands = v }) d
    ∙ ap (λ (v : List ℕ). record p { inputs = q.inputs; latches = q.latches; resets = q.resets; ands = q.ands; outputs = v }) e
    ∙ ap (λ (v : List ℕ). record p { inputs = q.inputs; latches = q.latches; resets = q.resets; ands = q.ands; outputs = q.outputs; constraints = v }) f
    ∙ ap (λ (v : List ℕ). record p { inputs = q.inputs; latches = q.latches; resets = q.resets; ands = q.ands; outputs = q.outputs; constraints = q.constraints; fairs = v }) g
    ∙ ap (λ (v : List (List ℕ)). record q { input_names = v; latch_names = p.latch_names; output_names = p.output_names }) x
    ∙ ap (λ (v : List (List ℕ)). record q { latch_names = v; output_names = p.output_names }) y
    ∙ ap (λ (v : List (List ℕ)). record q { output_names = v }) z

module _ (bytes : List ℕ) (b : Body) (is : IsBody bytes b) (found : Names) (named : AreNamed b.header bytes found) (variables : List ℕ) (are : variables ≡ (0 ∷ own_variables b.content) ++ map (λ k. (gate_at b.content.gates k).lhs / 2) b.order) (place : ℕ → ℕ) (placed : (v : ℕ) → place v ≡ position_or_len (nat_eq v) variables) where
  abbrev c : Content
  c = content b.header bytes

  in-order : variables ≡ in_order c
  in-order =
      are ∙ ap (λ o. (0 ∷ own_variables b.content) ++ map (λ k. (gate_at b.content.gates k).lhs / 2) o) (order-is bytes b is)
      ∙ ap in_order is.content.same

  literal-is : (l : ℕ) → renumbered_by place l ≡ renumbered c l
  literal-is l = ap (λ p. 2 * p + l % 2) (placed (l / 2) ∙ ap (position_or_len (nat_eq (l / 2))) in-order)

  and-is : (g : Gate) → and_by place g ≡ and_of c g
  and-is g =
      let make : ℕ → ℕ → And = λ x y. record { left = max x y; right = min x y } in
      ap (λ x. make x (renumbered_by place g.right)) (literal-is g.left) ∙ ap (make (renumbered c g.left)) (literal-is g.right)

  pub latches_are : map (λ (l : Latch). renumbered_by place l.next) b.content.latches ≡ (circuit b.header bytes).latches
  latches_are =
      map-same (λ (l : Latch). renumbered_by place l.next) (λ (l : Latch). renumbered c l.next) b.content.latches (λ l. literal-is l.next)
      ∙ ap (λ (x : Content). map (λ (l : Latch). renumbered c l.next) x.latches) is.content.same

  pub ands_are : map (λ k. and_by place (gate_at b.content.gates k)) b.order ≡ (circuit b.header bytes).ands
  ands_are =
      map-same (λ k. and_by place (gate_at b.content.gates k)) (λ k. and_of c (gate_at b.content.gates k)) b.order (λ k. and-is (gate_at b.content.gates k))
      ∙ ap (map (λ k. and_of c (gate_at b.content.gates k))) (order-is bytes b is)
      ∙ ap (λ (x : Content). map (λ k. and_of c (gate_at x.gates k)) (order x.gates)) is.content.same

  pub literals_are : (literals : List ℕ) → map (renumbered_by place) literals ≡ map (renumbered c) literals
  literals_are literals = map-same (renumbered_by place) (renumbered c) literals literal-is
