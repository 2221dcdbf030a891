-- There is room for all that a net with oracles needs.
use Rattle.std.proofs.Common.{◌≡◌, ℕ, zero, suc, ◌+◌, ◌<◌, ◌≤◌, ◌^◌, Bool, true, false, cond, Some, unwrap_or, List, [], ◌∷◌, ◌++◌, map, length, get_or, refl, sym, ap, ◌∙◌, subst, arith}
use Rattle.std.proofs.lemmas.List.{get_or_default, length-map, same_lists}
use Rattle.aig_net.specs.declared.parts.And.{And}
use Rattle.aig_net.specs.declared.signals.Signal.{Signal}
use Rattle.aig_net.specs.Nets.{Net, no_and, and_at, literal_at, variables, Below, AllBelow, IsNet}
use Rattle.aig_net.specs.Signals.{is_for, literal_of}
use Rattle.aig_net.specs.Wires.{Wire, FitsAll}
use Rattle.hy_base.specs.Rows.{listed}
use Rattle.aig_net.proofs.Wiring.{all-grow, each-grow}
use Rattle.hy_base.proofs.Listed.{at-listed, at-map, length-listed, listed-last}
use Rattle.ltl_closure.specs.Nodes.{Node, node_at}
use Rattle.sym_tableau.specs.declared.places.Places.{Places}
use Rattle.sym_tableau.specs.Oracles.{attached_first, beginning, ends, gathered, kept_wires, member_wire, members, moved_and, moved_literal, oracle, oracles, promise, promises, signal_in}
use Rattle.sym_tableau.specs.Places.{AreWithin, AttachFits, HasRoom, Reaches, ReachesAnd, beginning_at, constraints_of, places_of}
use Rattle.sym_tableau.proofs.Parts.{many-latches}

-- ---- signals are in range

pub signal-below : (n name var : ℕ) (signals : List Signal) → 0 < n → AreWithin n signals →
    Below n (signal_in signals name var)
signal-below n name var [] some all = omega arith
signal-below n name var (s ∷ signals) some all =
    at (is_for name var s) (all 0 s (omega arith))
    (signal-below n name var signals some (λ k d lt. all (suc k) d (omega arith)))
  where
    at : (b : Bool) → Below n s.literal → Below n (signal_in signals name var) →
        Below n (unwrap_or (cond b (Some s.literal) (literal_of signals name var)) 0)
    at true here rest = here
    at false here rest = rest

-- ---- the constraints of the roots, as the code makes them

map-gathered : (f : ℕ → Wire) (roots : List ℕ) →
    gathered (λ r. f (literal_at roots r) ∷ []) (length roots) ≡ map f roots
map-gathered f roots = from (length roots) ∙ same_lists _ (map f roots)
    (length-listed 0 (length roots) g ∙ sym (length-map roots f))
    (λ k d lt.
    let few : k < length roots = let l = length-listed 0 (length roots) g in omega (arith, l, lt) in
    let plain : 0 + k ≡ k = omega arith in
    at-listed 0 (length roots) g d k few ∙ ap g plain ∙ sym (at-map f 0 d roots k few))
  where
    g : ℕ → Wire
    g r = f (literal_at roots r)

    from : (n : ℕ) → gathered (λ r. g r ∷ []) n ≡ listed 0 n g
    from zero = refl
    from (suc n) =
        let plain : 0 + n ≡ n = omega arith in
        ap (λ l. l ++ g n ∷ []) (from n) ∙ ap (λ k. listed 0 n g ++ g k ∷ []) (sym plain)
        ∙ sym (listed-last 0 n g)

beginnings-are : (net : Net) (nodes : List Node) (lit : ℕ → ℕ) (roots : List ℕ) →
    gathered (beginning_at (places_of net nodes) lit roots) (length roots) ≡ map
    (beginning net nodes lit) roots
beginnings-are net nodes lit roots = map-gathered (beginning net nodes lit) roots

pub constraints-are : (net : Net) (nodes : List Node) (lit : ℕ → ℕ) (roots : List ℕ) →
    constraints_of (places_of net nodes) nodes lit roots ≡ promises net nodes lit roots
constraints-are net nodes lit roots =
    ap (λ l. gathered (promise net nodes lit) (length nodes) ++ l)
    (beginnings-are net nodes lit roots)

module _ (net : Net) (nodes : List Node) (signals : ℕ → ℕ → ℕ) (roots : List ℕ)
    (room : AttachFits net nodes signals roots) where
  abbrev first : ℕ
  first = attached_first net nodes

  abbrev lit : ℕ → ℕ
  lit = literal_at (members net nodes signals).literals

  pub fair-fits : FitsAll first (kept_wires net nodes signals roots).ands (ends nodes lit)
  fair-fits = omega (arith, room)

  pub kept-fits : FitsAll first (members net nodes signals).ands (promises net nodes lit roots)
  kept-fits = omega (
    arith,
    fair-fits,
    all-grow first (kept_wires net nodes signals roots).ands (ends nodes lit),
  )

  pub members-fit : first + length (members net nodes signals).ands ≤ 2 ^ 31
  members-fit = omega (
    arith,
    kept-fits,
    all-grow first (members net nodes signals).ands (promises net nodes lit roots),
  )

  ands-fit : first + length net.ands ≤ 2 ^ 31
  ands-fit =
      let grow = each-grow first (map (moved_and net nodes) net.ands)
      (λ lit k. member_wire (λ n v. moved_literal net nodes (signals n v)) lit
      (oracle net nodes k) (node_at nodes k)) (length nodes) in
      let many = length-map net.ands (moved_and net nodes) in
      omega (arith, members-fit, grow, many)

  pub first-is : first ≡ suc (net.inputs + oracles nodes + (oracles nodes + suc
      (length net.latches)))
  first-is = ap (λ n. suc (net.inputs + oracles nodes + n)) (many-latches net nodes)

  pub has-room : HasRoom (places_of net nodes)
  has-room = omega (arith, ands-fit, first-is)

  pub reach : (l : ℕ) → Below (variables net) l → Reaches (places_of net nodes) l
  reach l below = omega (arith, ands-fit, first-is, below)

  pub reaches : (p : Places) (list literals : List ℕ) → p ≡ places_of net nodes →
      list ≡ literals → AllBelow (variables net) literals → (k d : ℕ) → k < length list →
      Reaches p (get_or list k d)
  reaches p list literals ep e all k d lt =
      let long = ap length e in
      let at : get_or list k d ≡ literal_at literals k =
      get_or_default list k d 0 lt ∙ ap (λ l. literal_at l k) e in
      let P : Places → Type 0 = λ p. Reaches p (get_or list k d) in
      let Q : ℕ → Type 0 = Reaches (places_of net nodes) in
      subst P (sym ep) (subst Q (sym at)
      (reach (literal_at literals k) (all k (omega (arith, lt, long)))))

  pub reaches-ands : (p : Places) (list : List And) → p ≡ places_of net nodes →
      list ≡ net.ands → IsNet net → (k : ℕ) (d : And) → k < length list →
      ReachesAnd p (get_or list k d)
  reaches-ands p list ep e good k d lt =
      let long = ap length e in
      let at : get_or list k d ≡ and_at net.ands k =
      get_or_default list k d no_and lt ∙ ap (λ l. and_at l k) e in
      let P : Places → Type 0 = λ p. ReachesAnd p (get_or list k d) in
      let Q : And → Type 0 = ReachesAnd (places_of net nodes) in
      let (l, r) = good.ordered k (omega (arith, lt, long)) in
      subst P (sym ep) (subst Q (sym at) (
        reach (and_at net.ands k).left (omega (arith, l, lt, long)),
        reach (and_at net.ands k).right (omega (arith, r, lt, long)),
      ))
