-- The gates of a net with oracles stage by stage: there is room, and they are what is to be made.
use Rattle.std.proofs.Common.{◌≡◌, ℕ, ◌≤◌, ◌^◌, List, ◌++◌, map, length, sym, ap, ◌∙◌, subst, arith}
use Rattle.aig_net.specs.declared.parts.And.{And}
use Rattle.aig_net.specs.declared.signals.Signal.{Signal}
use Rattle.aig_net.specs.Nets.{Net, literal_at}
use Rattle.aig_net.specs.Wires.{Wire, FitsAll}
use Rattle.aig_net.proofs.Wiring.{each-length}
use Rattle.ltl_closure.specs.Nodes.{Node}
use Rattle.sym_tableau.specs.declared.places.Places.{Places}
use Rattle.sym_tableau.specs.Oracles.{attached_first, fair_wires, gathered, kept_wires, members, moved_and, promises, signal_in}
use Rattle.sym_tableau.specs.Places.{Adds, AttachFits, FitsEach, MakesEach, constraints_of, end_at, first_of, moved_and_of, places_of, value_of}
use Rattle.sym_tableau.proofs.Rooms.{constraints-are, fair-fits, first-is, kept-fits, members-fit}

-- ---- gates that are those of the net

fits-same : (first other : ℕ) (old ands : List And) (ws wires : List Wire) → other ≡ first →
    ands ≡ old → ws ≡ wires → FitsAll first old wires → FitsAll other ands ws
fits-same first other old ands ws wires e h same room =
    let P : ℕ → Type 0 = λ first. FitsAll first ands ws in
    let Q : List And → Type 0 = λ old. FitsAll first old ws in
    let R : List Wire → Type 0 = FitsAll first old in
    subst P (sym e) (subst Q (sym h) (subst R (sym same) room))

adds-same : (first other : ℕ) (old ands new : List And) (ws wires : List Wire)
    (before after : List ℕ) → other ≡ first → ands ≡ old → ws ≡ wires →
    Adds other ands ws new before after → Adds first old wires new before after
adds-same first other old ands new ws wires before after e h same adds =
    let P : ℕ → Type 0 = λ first. Adds first ands ws new before after in
    let Q : List And → Type 0 = λ old. Adds first old ws new before after in
    let R : List Wire → Type 0 = λ ws. Adds first old ws new before after in
    subst R same (subst Q h (subst P e adds))

module _ (net : Net) (nodes : List Node) (signals : List Signal) (roots : List ℕ)
    (room : AttachFits net nodes (signal_in signals) roots) (p : Places)
    (ep : p ≡ places_of net nodes) where
  abbrev first : ℕ
  first = attached_first net nodes

  abbrev base : List And
  base = map (moved_and net nodes) net.ands

  abbrev wire : (ℕ → ℕ) → ℕ → Wire
  wire = value_of (places_of net nodes) nodes signals

  pub first-at : (n : ℕ) → n ≡ length net.latches → first_of p n ≡ first
  first-at n e =
      ap (λ p. first_of p n) ep ∙ ap (first_of (places_of net nodes)) e
      ∙ sym (first-is net nodes (signal_in signals) roots room)

  pub first-room : (n : ℕ) → n ≡ length net.latches → first_of p n ≤ 2 ^ 31
  first-room n e =
      let at = first-at n e in
      omega (arith, at, members-fit net nodes (signal_in signals) roots room)

  pub base-at : (made ands : List And) → made ≡ map (moved_and_of p) ands → ands ≡ net.ands →
      made ≡ base
  base-at made ands e ea =
      e ∙ ap (λ p. map (moved_and_of p) ands) ep
      ∙ ap (map (moved_and_of (places_of net nodes))) ea

  -- ---- the values of the members

  pub values-room : (other : ℕ) (ands : List And) → other ≡ first → ands ≡ base →
      FitsEach other ands (value_of p nodes signals) (length nodes)
  values-room other ands e h =
      let P : ℕ → Type 0 = λ first. FitsEach first ands (value_of p nodes signals)
      (length nodes) in
      let Q : List And → Type 0 = λ ands. FitsEach first ands (value_of p nodes signals)
      (length nodes) in
      let R : Places → Type 0 = λ p. FitsEach first base (value_of p nodes signals)
      (length nodes) in
      subst P (sym e) (subst Q (sym h) (subst R (sym ep)
      (members-fit net nodes (signal_in signals) roots room)))

  pub values-at : (other : ℕ) (ands new : List And) (ls : List ℕ) → other ≡ first →
      ands ≡ base → MakesEach other ands (value_of p nodes signals) (length nodes) new ls →
      (new ≡ (members net nodes (signal_in signals)).ands)
      × (ls ≡ (members net nodes (signal_in signals)).literals)
  values-at other ands new ls e h makes =
      let P : ℕ → Type 0 = λ first. MakesEach first ands (value_of p nodes signals)
      (length nodes) new ls in
      let Q : List And → Type 0 = λ ands. MakesEach first ands (value_of p nodes signals)
      (length nodes) new ls in
      let R : Places → Type 0 = λ p. MakesEach first base (value_of p nodes signals)
      (length nodes) new ls in
      let all = subst R ep (subst Q h (subst P e makes)) in
      (all.ands, all.literals)

  pub values-many : (ls : List ℕ) → ls ≡ (members net nodes (signal_in signals)).literals →
      length ls ≡ length nodes
  values-many ls e = ap length e ∙ each-length first base wire (length nodes)

  -- ---- constraints and fairness literals

  abbrev lit : ℕ → ℕ
  lit = literal_at (members net nodes (signal_in signals)).literals

  constraint-wires : (values : List ℕ) →
      values ≡ (members net nodes (signal_in signals)).literals →
      constraints_of p nodes (literal_at values) roots ≡ promises net nodes lit roots
  constraint-wires values e =
      ap (λ p. constraints_of p nodes (literal_at values) roots) ep
      ∙ ap (λ v. constraints_of (places_of net nodes) nodes (literal_at v) roots) e
      ∙ constraints-are net nodes lit roots

  pub constraints-room : (other : ℕ) (ands : List And) (values : List ℕ) → other ≡ first →
      ands ≡ (members net nodes (signal_in signals)).ands →
      values ≡ (members net nodes (signal_in signals)).literals →
      FitsAll other ands (constraints_of p nodes (literal_at values) roots)
  constraints-room other ands values e h ev =
      fits-same first other _ ands _ _ e h (constraint-wires values ev)
      (kept-fits net nodes (signal_in signals) roots room)

  pub constraints-at : (other : ℕ) (ands new : List And) (values before after : List ℕ) →
      other ≡ first → ands ≡ (members net nodes (signal_in signals)).ands →
      values ≡ (members net nodes (signal_in signals)).literals →
      Adds other ands (constraints_of p nodes (literal_at values) roots) new before after →
      (new ≡ (kept_wires net nodes (signal_in signals) roots).ands)
      × (after ≡ before ++ (kept_wires net nodes (signal_in signals) roots).literals)
  constraints-at other ands new values before after e h ev adds =
      let all = adds-same first other _ ands new _ _ before after e h
      (constraint-wires values ev) adds in
      (all.ands, all.literals)

  pub ends-room : (other : ℕ) (ands : List And) (values : List ℕ) → other ≡ first →
      ands ≡ (kept_wires net nodes (signal_in signals) roots).ands →
      values ≡ (members net nodes (signal_in signals)).literals →
      FitsAll other ands (gathered (end_at nodes (literal_at values)) (length nodes))
  ends-room other ands values e h ev =
      fits-same first other _ ands _ _ e h
      (ap (λ v. gathered (end_at nodes (literal_at v)) (length nodes)) ev)
      (fair-fits net nodes (signal_in signals) roots room)

  pub ends-at : (other : ℕ) (ands new : List And) (values before after : List ℕ) →
      other ≡ first → ands ≡ (kept_wires net nodes (signal_in signals) roots).ands →
      values ≡ (members net nodes (signal_in signals)).literals →
      Adds other ands (gathered (end_at nodes (literal_at values)) (length nodes)) new before
      after →
      (new ≡ (fair_wires net nodes (signal_in signals) roots).ands)
      × (after ≡ before ++ (fair_wires net nodes (signal_in signals) roots).literals)
  ends-at other ands new values before after e h ev adds =
      let all = adds-same first other _ ands new _ _ before after e h
      (ap (λ v. gathered (end_at nodes (literal_at v)) (length nodes)) ev) adds in
      (all.ands, all.literals)
