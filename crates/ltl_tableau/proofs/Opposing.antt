-- The numbers of the opposites of the first members.
use Rattle.std.proofs.Common.{◌≡◌, ℕ, ◌+◌, ◌<◌, ◌≤◌, List, [], ◌∷◌, ◌++◌, length, Option, None, inl, inr, sym, ◌∙◌, subst, arith, length-append}
use Rattle.std.proofs.lemmas.Bool.{cases_eq, cases_lt}
use Rattle.std.proofs.lemmas.List.{get_or_push, get_or_append_left, get_or_past}
use Rattle.ltl_closure.specs.Nodes.{Node, node_at}
use Rattle.ltl_tableau.specs.Ways.{IsOpposite, IsSomeBelow, opposite_at, AreOpposites}

pub record OppositesBelow (nodes : List Node) (n : ℕ) (list : List (Option ℕ)) : Type 0 where
  pub count : length list ≡ n
  pub each : (k : ℕ) → k < n → IsOpposite nodes (node_at nodes k) (opposite_at list k) × IsSomeBelow (length nodes) (opposite_at list k)

pub opposites-push : (nodes : List Node) (n m : ℕ) (list new : List (Option ℕ)) (o : Option ℕ) → OppositesBelow nodes n list
    → IsOpposite nodes (node_at nodes n) o → IsSomeBelow (length nodes) o → new ≡ list ++ o ∷ [] → m ≡ n + 1
    → OppositesBelow nodes m new
opposites-push nodes n m list new o s is low e next =
    let P : List (Option ℕ) → Type 0 = λ l. OppositesBelow nodes m l in
    subst P (sym e)
    (record {
      count = omega (arith, length-append list (o ∷ []), s.count);
      each = λ k lt. elim (cases_eq k n) [
        | inl at ↦
            let Q : ℕ → Type 0 = λ q. IsOpposite nodes (node_at nodes q) (opposite_at (list ++ o ∷ []) q) × IsSomeBelow (length nodes) (opposite_at (list ++ o ∷ []) q) in
            let R : Option ℕ → Type 0 = λ x. IsOpposite nodes (node_at nodes n) x × IsSomeBelow (length nodes) x in
            subst Q (sym at) (subst R (sym (get_or_push list o None n s.count)) (is, low))
        | inr apart ↦
            let lower : k < length list = omega (arith, s.count) in
            let R : Option ℕ → Type 0 = λ x. IsOpposite nodes (node_at nodes k) x × IsSomeBelow (length nodes) x in
            subst R (sym (get_or_append_left list (o ∷ []) None k lower)) (s.each k (omega arith))
      ];
    })

pub opposites-all : (nodes : List Node) (n : ℕ) (list : List (Option ℕ)) → n ≡ length nodes → OppositesBelow nodes n list → AreOpposites nodes list
opposites-all nodes n list e s =
    record {
      count = s.count ∙ e;
      each = λ k lt. (s.each k (omega arith)).0;
      within = λ k. elim (cases_lt k n) [
        | inl lt ↦ (s.each k lt).1
        | inr le ↦
            let R : Option ℕ → Type 0 = IsSomeBelow (length nodes) in
            let over : length list ≤ k = omega (arith, s.count) in
            subst R (sym (get_or_past list k None over)) tt
      ];
    }
