-- The number of a node among nodes that differ.
use Rattle.std.proofs.Common.{◌≡◌, ℕ, zero, suc, ◌<◌, Bool, true, false, ◌&&◌, nat_eq, List, [], ◌∷◌, length, map, get_or, position, Some, None, inl, inr, refl, sym, ap, ◌∙◌, subst, arith}
use Rattle.std.specs.Bool.{beq}
use Rattle.std.specs.List.{list_any, IsDistinct}
use Rattle.std.proofs.Math.ListN.{get_or-map}
use Rattle.std.proofs.lemmas.Bool.{cases_eq, cases_lt, eqb-true, eq-eqb, and_parts, and_from, or_parts}
use Rattle.std.proofs.lemmas.List.{length-map}
use Rattle.std.proofs.lemmas.List.Quantifiers.{position-Some}
use Rattle.std.proofs.lemmas.Map.Keys.{apart_from_distinct}
use Rattle.ltl_closure.specs.declared.node.Node.{Node as Kept}
use Rattle.ltl_closure.specs.declared.node.Node.TheVariants.{True}
use Rattle.ltl_closure.specs.contracts.node.NodePartialEq.TheImpl.{ghosts}
use Rattle.ltl_closure.specs.Nodes.{Node, always, never, literal, and, or, next, weak_next, until, release, node_at}
use Rattle.ltl_closure.specs.Numbered.{IsNumberOf}
use Rattle.ltl_closure.specs.Plain.{plain_node, same_node}
use Rattle.ltl_closure.proofs.Closing.{same-bool}
use Rattle.ltl_closure.proofs.Inserting.{same-kept}

two-equal : (g h k l : ℕ) → (nat_eq g k && nat_eq h l) ≡ true → (g ≡ k) × (h ≡ l)
two-equal g h k l e =
    let (p, q) = and_parts (nat_eq g k) (nat_eq h l) e in
    (eqb-true g k p, eqb-true h l q)

equal-node : (a b : Node) → same_node a b ≡ true → a ≡ b
equal-node always always e = refl
equal-node never never e = refl
equal-node (literal b n v) (literal c m u) e =
    let (p, q) = and_parts (nat_eq n m && nat_eq v u) (beq b c) e in
    let (r, s) = two-equal n v m u p in
    let t : b ≡ c = same-bool b c q in
    cc
equal-node (and g h) (and k l) e = let (p, q) = two-equal g h k l e in cc
equal-node (or g h) (or k l) e = let (p, q) = two-equal g h k l e in cc
equal-node (next g) (next k) e = let p : g ≡ k = eqb-true g k e in cc
equal-node (weak_next g) (weak_next k) e = let p : g ≡ k = eqb-true g k e in cc
equal-node (until g h) (until k l) e = let (p, q) = two-equal g h k l e in cc
equal-node (release g h) (release k l) e = let (p, q) = two-equal g h k l e in cc
equal-node _ _ e = absurd (cc)

itself : (g : ℕ) → nat_eq g g ≡ true
itself g = eq-eqb g g refl

bool-itself : (b : Bool) → beq b b ≡ true
bool-itself true = refl
bool-itself false = refl

node-itself : (a : Node) → same_node a a ≡ true
node-itself always = refl
node-itself never = refl
node-itself (literal b n v) =
    and_from _ _ (and_from _ _ (itself n) (itself v)) (bool-itself b)
node-itself (and g h) = and_from _ _ (itself g) (itself h)
node-itself (or g h) = and_from _ _ (itself g) (itself h)
node-itself (next g) = itself g
node-itself (weak_next g) = itself g
node-itself (until g h) = and_from _ _ (itself g) (itself h)
node-itself (release g h) = and_from _ _ (itself g) (itself h)

module _ (keys : List Kept) (distinct : IsDistinct ghosts.eq keys) (node : Kept) where
  abbrev nodes : List Node
  nodes = map plain_node keys

  abbrev key : ℕ → Kept
  key k = get_or keys k True

  at-key : (k : ℕ) → node_at nodes k ≡ plain_node (key k)
  at-key k = get_or-map plain_node keys k True

  -- equal keys are one
  one-key : (i k : ℕ) → i < k → k < length keys → plain_node (key i) ≡ plain_node (key k) → ⊥
  one-key i k before lt same =
      let apart : ghosts.eq (key i) (key k) ≡ false =
      apart_from_distinct ghosts.eq keys i k True distinct before lt in
      let P : Node → Type 0 = λ n. same_node (plain_node (key i)) n ≡ true in
      let is : same_node (plain_node (key i)) (plain_node (key k)) ≡ true =
      subst P same (node-itself (plain_node (key i))) in
      let clash : true ≡ false = sym is ∙ sym (same-kept (key i) (key k)) ∙ apart in
      cc

  pub number-some : (i : ℕ) → position (λ k. ghosts.eq node k) keys ≡ Some i
      → IsNumberOf nodes (plain_node node) (Some i)
  number-some i e =
      let (lt, is, before) = position-Some (λ k. ghosts.eq node k) keys i True e in
      let l = length-map keys plain_node in
      let same : plain_node node ≡ plain_node (key i) = equal-node _ _ (sym (same-kept node (key i))
      ∙ is) in (
        omega arith,
        λ k lt'. (
          λ at.
              let there : plain_node (key k) ≡ plain_node (key i) = sym (at-key k) ∙ at ∙ same in
              elim (cases_eq k i) [
                | inl one ↦ one
                | inr apart ↦
                    elim (cases_lt k i) [
                      | inl low ↦ absurd (one-key k i low lt there)
                      | inr high ↦ absurd (one-key i k (omega arith) (omega arith) (sym there))
                    ]
              ],
          λ one. ap (node_at nodes) one ∙ at-key i ∙ sym same,
        ),
      )

  none-passes : (test : Kept → Bool) (xs : List Kept) (k : ℕ) → list_any test xs ≡ false
      → k < length xs → test (get_or xs k True) ≡ true → ⊥
  none-passes test [] k e lt is = absurd (omega arith)
  none-passes test (x ∷ xs) zero e lt is = let first = or_parts (test x) _ e in cc
  none-passes test (x ∷ xs) (suc k) e lt is =
      let first = or_parts (test x) _ e in
      none-passes test xs k first.1 (omega arith) is

  pub number-none : list_any (λ k. ghosts.eq node k) keys ≡ false
      → IsNumberOf nodes (plain_node node) None
  number-none e k lt at =
      let l = length-map keys plain_node in
      let P : Node → Type 0 = λ n. same_node (plain_node node) n ≡ true in
      let is : same_node (plain_node node) (plain_node (key k)) ≡ true = subst P (sym at
      ∙ at-key k) (node-itself (plain_node node)) in
      none-passes (λ k. ghosts.eq node k) keys k e (omega arith) (same-kept node (key k) ∙ is)
