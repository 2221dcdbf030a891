-- The driven net is a net.
use Rattle.std.proofs.Common.{◌≡◌, ℕ, zero, suc, ◌+◌, ◌-◌, ◌*◌, ◌<◌, ◌≤◌, false, nat_eq, List, [], ◌∷◌, ◌++◌, map, length, length-append, IsTrue, inl, inr, refl, sym, ap, subst, arith}
use Rattle.std.proofs.lemmas.Bool.{cases_lt, cond-true, cond-false, lt-ltb, le-ltb, ne_eqb}
use Rattle.std.proofs.lemmas.List.{length-map}
use Rattle.aig_net.specs.declared.parts.And.{And}
use Rattle.aig_net.specs.Nets.{Net, AllBelow, AreNames, AreOrdered, AreTurned, Below, IsNet, first_and, is_name, literal_at, no_and, variables}
use Rattle.aig_net.specs.Wires.{Wire, WireBelow, all_of, literal}
use Rattle.hy_base.proofs.Listed.{each-append, each-listed, each-map, length-listed}
use Rattle.aig_net.proofs.Literals.{below-even}
use Rattle.aig_net.proofs.Wiring.{grows, made-ordered, made-turned}
use Rattle.aig_net.specs.Copies.{copied}
use Rattle.aig_net.proofs.Copying.{length-copied}
use Rattle.strat_compose.specs.declared.group.Group.{Group}
use Rattle.strat_compose.specs.declared.parts.Parts.{Parts}
use Rattle.hy_formula.specs.Atoms.{IndexedAtom}
use Rattle.strat_compose.specs.AtomNumbers.{atom_at, no_atom}
use Rattle.strat_compose.specs.Groups.{ands_in, literals_in}
use Rattle.strat_compose.specs.Driving.{atom_literal, conjunction, driven, driven_ands, driven_latches, driven_outputs, driven_resets, first_gate, fresh_name, fresh_names, kept, latch_count, name_count, no_names, own_inputs, owed_literals, parts_of, same_reset, settled}
use Rattle.strat_compose.proofs.Placing.{Stands, ands-ordered, ands-turned, literal-below, literals-below, many-ands, many-literals}

-- ---- conjunctions

all-of-below : (n : ℕ) (w : Wire) (literals : List ℕ) → WireBelow n w → AllBelow n literals →
    WireBelow n (all_of w (map literal literals))
all-of-below n w [] first rest = first
all-of-below n w (l ∷ literals) first rest =
    all-of-below n _ literals (first, rest 0 (omega arith)) (λ j lt. rest (suc j) (omega arith))

pub conjunction-below : (n : ℕ) (literals : List ℕ) → 0 < n → AllBelow n literals →
    WireBelow n (conjunction literals)
conjunction-below n [] some all = omega arith
conjunction-below n (l ∷ literals) some all =
    all-of-below n (literal l) literals (all 0 (omega arith))
    (λ j lt. all (suc j) (omega arith))

all-more : (n more : ℕ) (literals : List ℕ) → n ≤ more → AllBelow n literals →
    AllBelow more literals
all-more n more literals le all j lt = let here = all j lt in omega (arith, le, here)

-- ---- names

pub no-names : (n : ℕ) → AreNames n (no_names n)
no-names n = record {
  many = length-listed 0 n (λ _. []);
  good = each-listed [] n (λ _. []) (λ _ name. IsTrue (is_name name)) (λ j lt. refl);
}

fresh-good : (k : ℕ) → IsTrue (is_name (fresh_name k))
fresh-good k =
    let feed : nat_eq 10 (48 + k) ≡ false = ne_eqb 10 (48 + k) (λ same. omega arith) in
    let back : nat_eq (48 + k) 13 ≡ false = ne_eqb (48 + k) 13 (λ same. omega arith) in
    rw (feed, back) refl

pub fresh-names : (n : ℕ) → AreNames n (fresh_names n)
fresh-names n = record {
  many = length-listed 0 n fresh_name;
  good = each-listed [] n fresh_name (λ _ name. IsTrue (is_name name)) (λ j lt. fresh-good j);
}

-- ---- lengths, and where the groups stand

module _ (net strategy : Net) (m e : ℕ) where
  abbrev first : ℕ
  first = first_gate net strategy m e

  abbrev parts : Parts
  parts = parts_of net strategy m e

  abbrev above : Group
  above = parts.universal

  abbrev between : Group
  between = parts.player

  abbrev below : Group
  below = parts.existential

  pub many-driven_latches :
      length (driven_latches net strategy parts) ≡ latch_count net strategy m e
  many-driven_latches =
      let a = many-literals net above net.latches in
      let b = many-literals net below net.latches in
      let c = many-literals strategy between strategy.latches in
      let two = length-append (literals_in net above net.latches)
      (literals_in net below net.latches) in
      let all = length-append
      (literals_in net above net.latches ++ literals_in net below net.latches)
      (literals_in strategy between strategy.latches) in
      omega (arith, a, b, c, two, all)

  pub many-driven_resets :
      length (driven_resets net strategy parts) ≡ length net.resets * m + length net.resets * e
      + length strategy.resets
  many-driven_resets =
      let a = length-copied m same_reset net.resets in
      let b = length-copied e same_reset (map settled net.resets) in
      let c = length-copied 1 same_reset strategy.resets in
      let s = length-map net.resets settled in
      let s' : length (map settled net.resets) * e ≡ length net.resets * e =
      ap (λ k. k * e) s in
      let two = length-append (copied m same_reset net.resets)
      (copied e same_reset (map settled net.resets)) in
      let all = length-append (copied m same_reset net.resets
      ++ copied e same_reset (map settled net.resets)) (copied 1 same_reset strategy.resets) in
      omega (arith, a, b, c, s', two, all)

  pub many-driven_ands :
      length (driven_ands net strategy parts) ≡ length net.ands * m + length strategy.ands
      + length net.ands * e
  many-driven_ands =
      let a = many-ands net above in
      let b = many-ands strategy between in
      let c = many-ands net below in
      let two = length-append (ands_in net above) (ands_in strategy between) in
      let all = length-append (ands_in net above ++ ands_in strategy between)
      (ands_in net below) in
      omega (arith, a, b, c, two, all)

  pub many-outputs : (signal : ℕ → ℕ) (atoms : List IndexedAtom) →
      length (driven_outputs net strategy parts signal atoms) ≡ name_count net e atoms
  many-outputs signal atoms =
      let a = length-map atoms (atom_literal net parts signal) in
      let f = many-literals net below net.fairs in
      let two = length-append (map (atom_literal net parts signal) atoms)
      ((kept net strategy parts).literal ∷ []) in
      let whole = length-append (map (atom_literal net parts signal) atoms
      ++ (kept net strategy parts).literal ∷ []) (literals_in net below net.fairs) in
      omega (arith, a, f, two, whole)

  own-below : AllBelow first (own_inputs net m)
  own-below =
      each-listed 0 (net.inputs * m) (λ i. 2 * suc i) (λ _ l. Below first l)
      (λ j lt. below-even first (suc j) (omega (arith, lt)))

  stands-above : Stands net above
  stands-above = record {
    some = omega arith;
    inputs = own-below;
    latches = omega arith;
  }

  stands-between : Stands strategy between
  stands-between = record {
    some = omega arith;
    inputs = all-more first between.gate (own_inputs net m) (omega arith) own-below;
    latches = omega arith;
  }

  module _ (good : IsNet net) (fine : IsNet strategy) where
    stands-below : Stands net below
    stands-below = record {
      some = omega arith;
      inputs = all-more (between.gate + length strategy.ands * 1) below.gate
          (literals_in strategy between strategy.outputs) (omega arith)
          (literals-below strategy between stands-between strategy.outputs fine.outputs);
      latches = omega arith;
    }

    driven-ordered : AreOrdered first (driven_ands net strategy parts)
    driven-ordered =
        let P : ℕ → And → Type 0 = λ j a. Below (first + j) a.left × Below (first + j) a.right in
        let a = many-ands net above in
        let b = many-ands strategy between in
        let two = length-append (ands_in net above) (ands_in strategy between) in
        each-append no_and (ands_in net above ++ ands_in strategy between) (ands_in net below) P
        (each-append no_and (ands_in net above) (ands_in strategy between) P
        (ands-ordered net above stands-above good.ordered)
        (λ j lt. let (l, r) = ands-ordered strategy between stands-between fine.ordered j lt in
        (omega (arith, l, a), omega (arith, r, a))))
        (λ j lt. let (l, r) = ands-ordered net below stands-below good.ordered j lt in
        (omega (arith, l, a, b, two), omega (arith, r, a, b, two)))

    driven-turned : AreTurned (driven_ands net strategy parts)
    driven-turned =
        each-append no_and (ands_in net above ++ ands_in strategy between) (ands_in net below)
        (λ _ a. a.right ≤ a.left)
        (each-append no_and (ands_in net above) (ands_in strategy between)
        (λ _ a. a.right ≤ a.left) (ands-turned net above) (ands-turned strategy between))
        (ands-turned net below)

    abbrev count : ℕ
    count = first + length (driven_ands net strategy parts)

    above-below : (literals : List ℕ) → AllBelow (variables net) literals →
        AllBelow count (literals_in net above literals)
    above-below literals all =
        all-more _ count (literals_in net above literals) (omega (arith, many-driven_ands))
        (literals-below net above stands-above literals all)

    between-below : (literals : List ℕ) → AllBelow (variables strategy) literals →
        AllBelow count (literals_in strategy between literals)
    between-below literals all =
        all-more _ count (literals_in strategy between literals) (omega (arith, many-driven_ands))
        (literals-below strategy between stands-between literals all)

    below-below : (literals : List ℕ) → AllBelow (variables net) literals →
        AllBelow count (literals_in net below literals)
    below-below literals all =
        all-more _ count (literals_in net below literals) (omega (arith, many-driven_ands))
        (literals-below net below stands-below literals all)

    made-good : AreOrdered first (kept net strategy parts).ands
        × Below (first + length (kept net strategy parts).ands) (kept net strategy parts).literal
    made-good =
        made-ordered first (driven_ands net strategy parts)
        (conjunction (owed_literals net parts)) driven-ordered
        (conjunction-below count (owed_literals net parts) (omega arith)
        (below-below net.constraints good.constraints))

    module _ (signal : ℕ → ℕ) (atoms : List IndexedAtom)
        (named : (n : ℕ) → Below (variables net) (signal n))
        (bound : (k : ℕ) → k < length atoms → (atom_at atoms k).variable < m + e) where
      abbrev all : Net
      all = driven net strategy parts signal atoms

      pub first-is : first_and all ≡ first
      first-is = ap (λ k. suc (net.inputs * m + k)) many-driven_latches

      enough : count ≤ variables all
      enough =
          let more = grows first (driven_ands net strategy parts)
          (conjunction (owed_literals net parts)) in
          omega (arith, more, first-is)

      atom-below : (a : IndexedAtom) → a.variable < m + e →
          Below count (atom_literal net parts signal a)
      atom-below a lt =
          let P : ℕ → Type 0 = Below count in
          elim (cases_lt a.variable m) [
            | inl small ↦
                let here = literal-below net above stands-above a.variable (length net.ands)
                (signal a.name) small (named a.name) in
                subst P (sym (cond-true _ _ _ (lt-ltb a.variable m small)))
                (omega (arith, here, many-driven_ands))
            | inr large ↦
                let here = literal-below net below stands-below (a.variable - m)
                (length net.ands) (signal a.name) (omega arith) (named a.name) in
                subst P (sym (cond-false _ _ _ (le-ltb a.variable m large)))
                (omega (arith, here, many-driven_ands))
          ]

      outputs-below : AllBelow (variables all) (driven_outputs net strategy parts signal atoms)
      outputs-below =
          let P : ℕ → ℕ → Type 0 = λ _ l. Below (variables all) l in
          let (_, ok) = made-good in
          each-append 0 (map (atom_literal net parts signal) atoms
          ++ (kept net strategy parts).literal ∷ []) (literals_in net below net.fairs) P
          (each-append 0 (map (atom_literal net parts signal) atoms)
          ((kept net strategy parts).literal ∷ []) P
          (each-map (atom_literal net parts signal) no_atom 0 atoms P
          (λ j lt. let here = atom-below (atom_at atoms j) (bound j lt) in
          omega (arith, here, enough)))
          (one ok))
          (all-more count (variables all) (literals_in net below net.fairs) enough
          (below-below net.fairs good.fairs))
        where
          one : Below (first + length (kept net strategy parts).ands)
              (kept net strategy parts).literal → (j : ℕ) → j < 1 →
              Below (variables all) (literal_at ((kept net strategy parts).literal ∷ []) j)
          one ok zero lt = omega (arith, ok, first-is)
          one ok (suc j) lt = absurd (omega arith)

      pub driven-net : IsNet all
      driven-net = record {
        latches =
            let P : ℕ → ℕ → Type 0 = λ _ l. Below (variables all) l in
            each-append 0 (literals_in net above net.latches ++ literals_in net below net.latches)
            (literals_in strategy between strategy.latches) P
            (each-append 0 (literals_in net above net.latches)
            (literals_in net below net.latches) P
            (all-more count (variables all) (literals_in net above net.latches) enough
            (above-below net.latches good.latches))
            (all-more count (variables all) (literals_in net below net.latches) enough
            (below-below net.latches good.latches)))
            (all-more count (variables all) (literals_in strategy between strategy.latches)
            enough (between-below strategy.latches fine.latches));
        resets =
            let n : length net.resets * m ≡ length net.latches * m =
            ap (λ k. k * m) good.resets in
            let x : length net.resets * e ≡ length net.latches * e =
            ap (λ k. k * e) good.resets in
            omega (arith, many-driven_resets, many-driven_latches, n, x, fine.resets);
        ordered =
            let P : ℕ → Type 0 = λ k. AreOrdered k (kept net strategy parts).ands in
            subst P (sym first-is) made-good.0;
        turned = made-turned first (driven_ands net strategy parts)
            (conjunction (owed_literals net parts)) driven-turned;
        outputs = outputs-below;
        constraints = all-more count (variables all) (literals_in net above net.constraints)
            enough (above-below net.constraints good.constraints);
        fairs = all-more count (variables all) (literals_in net above net.fairs) enough
            (above-below net.fairs good.fairs);
        input_names = no-names (net.inputs * m);
        latch_names = no-names (length all.latches);
        output_names =
            fresh-names (length all.outputs);
      }
