-- A safe net is a net: its literals are in range.
use Rattle.std.proofs.Common.{◌≡◌, ℕ, zero, suc, ◌+◌, ◌-◌, ◌<◌, ◌≤◌, Bool, true, false, cond, List, [], ◌∷◌, ◌++◌, map, length, get_or, codes, IsTrue, inl, inr, refl, sym, ap, ◌∙◌, subst, arith, length-append}
use Rattle.std.proofs.lemmas.Bool.{cases_lt}
use Rattle.std.proofs.lemmas.List.{length-map}
use Rattle.aig_net.specs.declared.parts.Reset.{Reset}
use Rattle.aig_net.specs.declared.parts.Reset.TheVariants.{Zero, One, Free}
use Rattle.aig_net.specs.Nets.{Net, no_and, reset_at, and_at, literal_at, latch_variable, first_and, variables, Below, AreOrdered, AreTurned, AreNames, is_name, IsNet}
use Rattle.aig_net.specs.Wires.{all_of, Wire, literal, both, equal, wire_at, WireBelow}
use Rattle.hy_base.specs.Rows.{listed}
use Rattle.live_safe.specs.Safe.{effective_at, begun_nexts, count_below, is_free, is_set, free_at, has_begun, safe_inputs, saved, seen, raw, copied_latch, safe_first, effective, effectives, safe_variable, safe_literal, safe_and, safe_ands, saving_wires, saving, next_saved, seen_wire, copy_wire, bad_wires, bad_wire, bad, closing_wires, closing, safe_latches, to_safe}
use Rattle.aig_net.proofs.Literals.{below-even, below-under}
use Rattle.aig_net.proofs.Wiring.{below-more, below-max, below-min, wire-more, all-grow, all-ordered, all-turned}
use Rattle.hy_base.proofs.Listed.{each-append, each-map, each-listed, append-listed, length-listed}
use Rattle.live_safe.proofs.Shapes.{count-below, facts-shape}
use Rattle.live_safe.proofs.SafeGates.{first-safe, variable-early, variable-latch, variable-and, many-wires}
use Rattle.live_safe.proofs.Unfolding.{is-set-begun}

all-of-below : (n : ℕ) (w : Wire) (ws : List Wire) → WireBelow n w →
    ((j : ℕ) → j < length ws → WireBelow n (wire_at ws j)) → WireBelow n (all_of w ws)
all-of-below n w [] below all = below
all-of-below n w (x ∷ ws) below all =
    all-of-below n (both w x) ws (below, all 0 (omega arith)) (λ j lt. all (suc j) (omega arith))

abbrev extra : Bool → ℕ
extra b = cond b 1 0

module _ (net : Net) where
  abbrev first : ℕ
  first = safe_first net

  begun-below : has_begun net ≡ true →
      suc (safe_inputs net + suc (length net.fairs +
      (length net.latches + length net.latches))) < first
  begun-below e = let one : extra (has_begun net) ≡ 1 = at (has_begun net) e in omega (arith, one)
    where
      at : (b : Bool) → b ≡ true → extra b ≡ 1
      at true e = refl
      at false e = absurd (cc)

  effective-below : (j : ℕ) → j < length net.latches → (r : Reset) → (reset_at net.resets j) ≡ r →
      WireBelow first (effective net j r)
  effective-below j lt Zero e = below-even first
      (suc (safe_inputs net + suc (length net.fairs + j))) (omega arith)
  effective-below j lt One e =
      let b = begun-below (is-set-begun net j lt (let P : Reset → Type 0 = λ r. is_set r ≡ true in
      subst P (sym e) refl)) in (
        below-even first (suc (safe_inputs net + suc (length net.fairs + j)))
            (omega arith),
        below-even first _ b,
      )
  effective-below j lt Free e =
      let b = begun-below (is-set-begun net j lt (let P : Reset → Type 0 = λ r. is_set r ≡ true in
      subst P (sym e) refl)) in
      let r = below-even first (suc (safe_inputs net + suc (length net.fairs + j))) (omega arith) in
      let f = count-below (free_at net) (length net.latches) j lt (let P : Reset → Type 0 =
      λ r. is_free r ≡ true in subst P (sym e) refl) in (
        (below-even first _ b, r),
        (
          below-even first _ b,
          below-even first
              (suc (net.inputs + suc (count_below (free_at net) j))) (omega (arith, f)),
        ),
      )

  abbrev effs : ℕ
  effs = length (effectives net).ands

  eff-ordered : AreOrdered first (effectives net).ands
      × ((j : ℕ) → j < length net.latches →
      Below (first + effs) (literal_at (effectives net).literals j))
  eff-ordered =
      let wires : List Wire = listed 0 (length net.latches)
      (effective_at net) in
      let m : length wires ≡ length net.latches =
      length-listed 0 (length net.latches) (effective_at net) in
      let (ordered, below) = all-ordered first [] wires (λ j lt. absurd (omega arith))
      (each-listed (literal 0) (length net.latches)
      (effective_at net) (λ _ w. WireBelow (first + 0) w)
      (λ j lt. wire-more first (first + 0) (effective net j (reset_at net.resets j)) (omega arith)
      (effective-below j lt (reset_at net.resets j) refl))) in
      (ordered, λ j lt. below j (omega (arith, m, lt)))

  variable-below : (n x : ℕ) → x < first_and net + n →
      Below (first + (effs + n)) (safe_variable net x)
  variable-below n x lt =
      let P : ℕ → Type 0 = Below (first + (effs + n)) in
      elim (cases_lt net.inputs x) [
        | inr early ↦ subst P (sym (variable-early net x early))
            (below-even (first + (effs + n)) x (omega arith))
        | inl late ↦
            elim (cases_lt (net.inputs + length net.latches) x) [
              | inl and ↦
                  let j : ℕ = x - first_and net in
                  let e : first_and net + j ≡ x = omega arith in
                  subst P (sym (ap (safe_variable net) (sym e) ∙ variable-and net j))
                  (below-even (first + (effs + n)) (first + (effs + j)) (omega arith))
              | inr latch ↦
                  let j : ℕ = x - suc net.inputs in
                  let e : latch_variable net j ≡ x = omega arith in
                  let few : j < length net.latches = omega arith in
                  subst P (sym (ap (safe_variable net) (sym e) ∙ variable-latch net j few))
                  (below-more (first + effs) (first + (effs + n))
                  (literal_at (effectives net).literals j) (omega arith) (eff-ordered.1 j few))
            ]
      ]

  literal-below : (n l : ℕ) → Below (first_and net + n) l →
      Below (first + (effs + n)) (safe_literal net l)
  literal-below n l below = below-under (first + (effs + n)) (first_and net + n)
      (safe_variable net) l (λ x lt. variable-below n x lt) below

  many-base : length (safe_ands net) ≡ effs + length net.ands
  many-base =
      let a = length-append (effectives net).ands (map (safe_and net) net.ands) in
      let b = length-map net.ands (safe_and net) in
      omega (arith, a, b)

  old-below : (l n : ℕ) → Below (variables net) l → effs + length net.ands ≤ n →
      Below (first + n) (safe_literal net l)
  old-below l n below le = below-more (first + (effs + length net.ands)) (first + n)
      (safe_literal net l) (omega arith) (literal-below (length net.ands) l below)

  module _ (good : IsNet net) where
    base-ordered : AreOrdered first (safe_ands net)
    base-ordered =
        each-append no_and (effectives net).ands (map (safe_and net) net.ands)
        (λ j a. Below (first + j) a.left × Below (first + j) a.right) eff-ordered.0
        (each-map (safe_and net) no_and no_and net.ands (λ j a. Below (first + (effs + j)) a.left
        × Below (first + (effs + j)) a.right)
        (λ j lt.
        let (l, r) = good.ordered j lt in
        let bl = literal-below j (and_at net.ands j).left l in
        let br = literal-below j (and_at net.ands j).right r in
        let m : ℕ = first + (effs + j) in (
          below-max m (safe_literal net (and_at net.ands j).left)
              (safe_literal net (and_at net.ands j).right) bl br,
          below-min m
              (safe_literal net (and_at net.ands j).left)
              (safe_literal net (and_at net.ands j).right) bl br,
        )))

    saving-below : (j : ℕ) → j < length (saving_wires net) →
        WireBelow (first + length (safe_ands net)) (wire_at (saving_wires net) j)
    saving-below zero lt = (
      below-even _ (suc net.inputs) (omega arith),
      below-even _
          (suc (safe_inputs net + 0)) (omega arith),
    )
    saving-below (suc zero) lt = (
      below-even _ (suc (safe_inputs net + 0))
          (omega arith),
      below-even _ (suc net.inputs) (omega arith),
    )
    saving-below (suc (suc j)) lt = absurd (omega arith)

    saving-ordered : AreOrdered first (saving net).ands
        × ((j : ℕ) → j < 2 → Below (first + length (saving net).ands)
        (literal_at (saving net).literals j))
    saving-ordered = all-ordered first (safe_ands net) (saving_wires net) base-ordered saving-below

    saving-more : length (safe_ands net) ≤ length (saving net).ands
    saving-more = all-grow first (safe_ands net) (saving_wires net)

    abbrev n' : ℕ
    n' = first + length (saving net).ands

    seen-below : (j : ℕ) → j < length net.fairs → WireBelow n' (seen_wire net j)
    seen-below j lt =
        let a = many-base in
        let b = saving-more in (
          saving-ordered.1 1 (omega arith),
          (
            old-below (literal_at net.fairs j) (length (saving net).ands) (good.fairs j lt)
                (omega (arith, a, b)),
            (
              below-even n' (suc (safe_inputs net + 0))
                  (omega arith),
              below-even n' (suc (safe_inputs net + suc j)) (omega arith),
            ),
          ),
        )

    copy-below : (j : ℕ) → j < length net.latches → WireBelow n' (copy_wire net j)
    copy-below j lt =
        let a = many-base in
        let b = saving-more in
        let g = saving-ordered.1 0 (omega arith) in (
          (
            g,
            below-more (first + effs) n' (literal_at (effectives net).literals j)
                (omega (arith, a, b)) (eff-ordered.1 j lt),
          ),
          (
            g,
            below-even n' (suc (safe_inputs net + suc
                (length net.fairs + (length net.latches + j)))) (omega arith),
          ),
        )

    bad-below : WireBelow n' (bad_wire net)
    bad-below =
        all-of-below n' (literal (saved net)) (bad_wires net)
        (below-even n' (suc (safe_inputs net + 0)) (omega arith))
        (append-listed (literal 0) (length net.fairs) (λ j. literal (seen net j))
        (listed 0 (length net.latches)
        (λ j. equal (literal (raw net j)) (literal (copied_latch net j))))
        (λ _ w. WireBelow n' w)
        (λ j lt. below-even n' (suc (safe_inputs net + suc j)) (omega arith))
        (each-listed (literal 0) (length net.latches)
        (λ j. equal (literal (raw net j)) (literal (copied_latch net j)))
        (λ _ w. WireBelow n' w)
        (λ j lt.
        let r = below-even n' (suc (safe_inputs net + suc (length net.fairs + j))) (omega arith) in
        let c = below-even n' (suc (safe_inputs net + suc
        (length net.fairs + (length net.latches + j)))) (omega arith) in
        ((r, c), (r, c)))))

    closing-ordered : AreOrdered first (closing net).ands
        × ((j : ℕ) → j < length (closing_wires net) →
        Below (first + length (closing net).ands) (literal_at (closing net).literals j))
    closing-ordered =
        all-ordered first (saving net).ands (closing_wires net) saving-ordered.0
        (append-listed (literal 0) (length net.fairs) (seen_wire net)
        (listed 0 (length net.latches) (copy_wire net) ++ bad_wire net ∷ [])
        (λ _ w. WireBelow n' w) seen-below
        (append-listed (literal 0) (length net.latches) (copy_wire net) (bad_wire net ∷ [])
        (λ _ w. WireBelow n' w) copy-below last))
      where
        last : (j : ℕ) → j < 1 → WireBelow n' (wire_at (bad_wire net ∷ []) j)
        last zero lt = bad-below
        last (suc j) lt = absurd (omega arith)

    closing-more : length (saving net).ands ≤ length (closing net).ands
    closing-more = all-grow first (saving net).ands (closing_wires net)

    pub safe-ordered : AreOrdered (first_and (to_safe net).net) (closing net).ands
    safe-ordered = let P : ℕ → Type 0 = λ f. AreOrdered f (closing net).ands in
        subst P (sym (first-safe net)) closing-ordered.0

    abbrev N : ℕ
    N = variables (to_safe net).net

    all-variables : N ≡ first + length (closing net).ands
    all-variables = ap (λ f. f + length (closing net).ands) (first-safe net)

    in-all : (l : ℕ) → Below (first + length (closing net).ands) l → Below N l
    in-all l below = let e = all-variables in omega (arith, e, below)

    pub bad-in-range : Below N (to_safe net).bad
    bad-in-range = let m = many-wires net in
        in-all (to_safe net).bad (closing-ordered.1 (length net.fairs + length net.latches)
        (omega (arith, m)))

    old-in-all : (l : ℕ) → Below (variables net) l → Below N (safe_literal net l)
    old-in-all l below =
        let a = many-base in
        let b = saving-more in
        let c = closing-more in
        in-all (safe_literal net l) (old-below l (length (closing net).ands) below
        (omega (arith, a, b, c)))

    begun-next : (b : Bool) (j : ℕ) → j < length (begun_nexts b) →
        Below N (literal_at (begun_nexts b) j)
    begun-next true zero lt = omega arith
    begun-next true (suc j) lt = absurd (omega arith)
    begun-next false j lt = absurd (omega arith)

    base-turned : AreTurned (safe_ands net)
    base-turned =
        each-append no_and (effectives net).ands (map (safe_and net) net.ands)
        (λ _ a. a.right ≤ a.left)
        (all-turned first [] (listed 0 (length net.latches)
        (effective_at net)) (λ j lt. absurd (omega arith)))
        (each-map (safe_and net) no_and no_and net.ands (λ _ a. a.right ≤ a.left)
        (λ j lt. omega arith))

    safe-turned : AreTurned (closing net).ands
    safe-turned = all-turned first (saving net).ands (closing_wires net)
        (all-turned first (safe_ands net) (saving_wires net) base-turned)

    no-names : (n : ℕ) → AreNames n (listed 0 n (λ _. []))
    no-names n = record {
      many = length-listed 0 n (λ _. []);
      good = each-listed [] n (λ _. []) (λ _ name. IsTrue (is_name name)) (λ j lt. refl);
    }

    pub safe-net : IsNet (to_safe net).net
    safe-net =
        let m = many-wires net in
        let s = saving-ordered.1 1 (omega arith) in
        let c = closing-more in
        record {
          latches =
              facts-shape 0 net (next_saved net) (literal_at (closing net).literals)
              (λ j. safe_literal net (literal_at net.latches j))
              (λ j. literal_at (closing net).literals (length net.fairs + j))
              (begun_nexts (has_begun net)) (λ _ l. Below N l)
              (record {
                on_saved = in-all (next_saved net)
                    (below-more n' _ (next_saved net) (omega (arith, c)) s);
                on_seen = λ j lt. in-all (literal_at (closing net).literals j)
                    (closing-ordered.1 j (omega (arith, m, lt)));
                on_latch = λ j lt. old-in-all (literal_at net.latches j) (good.latches j lt);
                on_copy = λ j lt. in-all (literal_at (closing net).literals (length net.fairs + j))
                    (closing-ordered.1 (length net.fairs + j) (omega (arith, m, lt)));
                on_begun = begun-next (has_begun net);
              });
          resets = length-map (safe_latches net) (λ _. Zero);
          ordered = safe-ordered;
          turned = safe-turned;
          outputs = λ j lt. one j lt bad-in-range;
          constraints = each-map (safe_literal net) 0 0 net.constraints (λ _ l. Below N l)
              (λ j lt. old-in-all (literal_at net.constraints j) (good.constraints j lt));
          fairs = λ j lt. absurd (omega arith);
          input_names = no-names (safe_inputs net);
          latch_names = no-names (length (safe_latches net));
          output_names = record { many = refl; good = named };
        }
      where
        one : (j : ℕ) → j < 1 → Below N (bad net) → Below N (literal_at (bad net ∷ []) j)
        one zero lt below = below
        one (suc j) lt below = absurd (omega arith)

        named : (k : ℕ) → k < 1 → IsTrue (is_name (get_or (codes "bad" ∷ []) k []))
        named zero lt = refl
        named (suc k) lt = absurd (omega arith)
